-- `testing::words::value` reads a word by its first byte.
use mathlib.Core.Path.{◌≡◌, ◌∙◌}
use mathlib.Core.List.{◌∷◌}
use native.Mathlib.Omega.{arith}
use lib.ListN.{get_or, drop}
use lib.Seq.{drop-cons}
use Rattle.testing.specs.Words.{hexadecimal}
use Rattle.testing.proofs.Cutting.{to_end, or_0}
use Rattle.testing.proofs.words.value.Goals as goal

pub returns-in-120 : goal.returns-in-120
returns-in-120 c =
    let s = c.args.s.now in
    let x : get_or s 0 0 ≡ 120 = omega arith in
    let e : s ≡ 120 ∷ drop 1 s = drop-cons s 0 0 (omega arith) ∙ rw x in
    rw c.unwrap_or.ensures (hexadecimal e (or_0 c.read_hex.result (rw (to_end s 1) at c.read_hex.ensures)))
