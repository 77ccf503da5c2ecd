-- `bushingowl::paged` meets its contract: what it requires is never too short.
use Rattle.std.specs.Prelude.{Option}
use Rattle.std.specs.Option.{unwrap_or}
use Prim.Native.Nat.{ℕ}
use mathlib.Core.Path.{◌≡◌, ap, ◌∙◌}
use native.Mathlib.Omega.{arith}
use Rattle.convert.proofs.Answers.{prints}
use Rattle.bushingowl.proofs.paged.Goals as goal

pub returns : goal.returns
returns c =
    let p = prints c.requires.0 c.requires.1 c.convert.ensures in
    let n : c.unwrap_or.result ≡ p.0 = c.unwrap_or.ensures ∙ ap (λ (o : Option ℕ). unwrap_or o 0) p.1 in
    record { within = omega (arith, p.2); prints = rw n p.3 }
