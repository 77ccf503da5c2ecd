-- `ascii_line_reader::stamp::two` reads one digit, and one digit behind it.
use Prim.Native.Nat.{ℕ, ◌+◌, ◌-◌, ◌≤◌, ◌<◌}
use mathlib.Core.Path.{◌≡◌}
use mathlib.Core.Logic.{◌⊎◌, inl, inr}
use mathlib.Core.List.{List, []}
use native.Mathlib.Omega.{arith}
use lib.ListN.{get_or, drop}
use Rattle.std.specs.Prelude.{None}
use Rattle.fields.specs.inner.Window.{Lined}
use Rattle.fields.proofs.Digits.{below_zero, above_nine}
use Rattle.ascii_line_reader.specs.inner.Answer.{DigitsHere, DigitsThen}
use Rattle.ascii_line_reader.proofs.Digits.{one_digit, no_digit, both, first_none, second_none, line_behind}
use Rattle.ascii_line_reader.proofs.stamp.two.Goals as goal

-- A digit that is read, the line behind it, and a byte that is none.
digit : {s : List ℕ} {at a : ℕ} → Lined (drop at s) → a ≡ get_or s at 0 → 48 ≤ a → a ≤ 57 → DigitsHere 1 [] s at (a - 48)
digit l e h k = one_digit l (record { value = omega arith; byte = omega arith })

onward : (s : List ℕ) (at : ℕ) {a : ℕ} → Lined (drop at s) → a ≡ get_or s at 0 → 48 ≤ a → a ≤ 57 → Lined (drop (at + 1) s)
onward s at l e h k = line_behind (at + 1) (digit l e h k) (omega arith)

none : (s : List ℕ) (at a : ℕ) → a ≡ get_or s at 0 → (a < 48) ⊎ ((48 ≤ a) × (57 < a)) → DigitsThen 1 [] s at None
none s at a e (inl h) = no_digit s at (below_zero (omega arith))
none s at a e (inr h) = no_digit s at (above_nine (omega arith))

pub returns-then-a-lt48 : goal.returns-then-a-lt48
returns-then-a-lt48 c = first_none 1 1 [] c.args.w.now c.args.at (none c.args.w.now c.args.at c.wide-a.result c.wide-a.ensures.0 c.then-a-lt48.either)

pub returns-then-b-lt48 : goal.returns-then-b-lt48
returns-then-b-lt48 c =
    second_none {s = c.args.w.now} {at = c.args.at} 1 1 (digit c.requires c.wide-a.ensures.0 c.if-a-lt48.false c.if-a-gt57.false) []
    (none c.args.w.now (c.args.at + 1) c.wide-b.result c.wide-b.ensures.0 c.then-b-lt48.either)

pub returns : goal.returns
returns c =
    let l = onward c.args.w.now c.args.at c.requires c.wide-a.ensures.0 c.if-a-lt48.false c.if-a-gt57.false in
    both 1 1 (digit c.requires c.wide-a.ensures.0 c.if-a-lt48.false c.if-a-gt57.false) (digit l c.wide-b.ensures.0 c.if-b-lt48.false c.if-b-gt57.false)
