-- `digits::put_hex` puts one digit more in each turn, from the last to the first.
use native.Mathlib.Omega.{arith}
use borrow.Author.Rules.{rules}
use Rattle.digits.proofs.Writers.{put_none, put_digit, put_all}
use Rattle.digits.proofs.put_hex.Goals as goal

pub loop-i-init : goal.loop-i-init
loop-i-init c = (search rules, search rules, put_none _ 16)

pub loop-i-preserved : goal.loop-i-preserved
loop-i-preserved c = (search rules, search rules, put_digit _ 16 (omega arith) (omega arith) c.glyph.ensures (omega arith) c.loop-i.invariant.2)

pub returns : goal.returns
returns c = record { wrote = put_all _ 16 (omega arith) c.loop-i.invariant.2; value = search rules }
