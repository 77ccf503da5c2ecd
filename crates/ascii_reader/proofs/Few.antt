-- A text has room for few lines: each takes at least 43 bytes.
use Prim.Native.Nat.{ℕ, ◌+◌, ◌*◌, ◌≤◌}
use mathlib.Core.Path.{ap, ◌∙◌}
use mathlib.Core.Logic.{⊎_elim}
use mathlib.Core.List.{List, ◌∷◌}
use native.Mathlib.Omega.{arith}
use lib.ListN.{length, length-append}
use Rattle.record.specs.declared.Record.{Record}
use Rattle.ascii_line_reader.proofs.Least.{line_least}
use Rattle.ascii_reader.specs.Text.{EndedLine, Lines, over, line, SpellsAscii}

-- A line, its end and what stands behind it.
line_size : {l rest text : List ℕ} → EndedLine l rest text → length l + 1 + length rest ≤ length text
line_size {l} {rest} e =
    ⊎_elim (λ q. omega (arith, ap length q ∙ length-append l (13 ∷ 10 ∷ rest))) (λ q. omega (arith, ap length q ∙ length-append l (10 ∷ rest))) e.ended

few : {start : ℕ} {rs : List Record} {text : List ℕ} → Lines start rs text → 43 * length rs ≤ length text
few over = omega arith
few (line e a q h ls) = omega (arith, line_size e, line_least a, few ls)

-- Each line takes at least 43 bytes of its text.
pub lines_few : {start : ℕ} {rs : List Record} {text : List ℕ} → SpellsAscii start rs text → 43 * length rs ≤ length text
lines_few s = few s.lines
