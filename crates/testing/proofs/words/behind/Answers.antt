-- `testing::words::behind` cuts the line at the first of the byte.
use Prim.Native.Nat.{◌+◌}
use mathlib.Core.Path.{◌∙◌}
use native.Mathlib.Omega.{arith}
use Rattle.testing.proofs.Cutting.{cut_from, cut_end, to_end}
use Rattle.testing.proofs.words.behind.Goals as goal

pub returns-then-i-s : goal.returns-then-i-s
returns-then-i-s c = to_end c.args.s.now (c.find-i.result + 1) ∙ (cut_from c.find-i.ensures).1

pub returns-else-i-s : goal.returns-else-i-s
returns-else-i-s c = to_end c.args.s.now c.find-i.result ∙ cut_end c.find-i.ensures (omega arith)
