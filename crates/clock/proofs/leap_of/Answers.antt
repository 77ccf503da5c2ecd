-- `leap_of` meets its contract: the ways to the answer are the cases of the rule.
use Prim.Native.Nat.{ℕ, ◌%◌}
use mathlib.Core.Path.{◌≡◌, sym, ◌∙◌}
use native.Mathlib.Decide.{ℕ_discrete}
use native.Mathlib.Omega.{arith}
use borrow.Author.Tests.{eq-eqb, ne_eqb}
use lib.Dec.{eqb}
use mir.Val.{bool_byte}
use Rattle.clock.specs.Date.{leap}
use Rattle.clock.proofs.Calendar.{not_by_4, not_by_100, not_by_400, by_400}
use Rattle.clock.proofs.leap_of.Goals as goal
use Rattle.clock.proofs.leap_of.Goals.{then-year-eq0+then-year-ne0, then-year-eq0+else-year-ne0, else-year-eq0}

by_100 : (y : ℕ) → y % 100 ≡ 0 → bool_byte (eqb (y % 400) 0) ≡ leap y
by_100 y h = elim (ℕ_discrete (y % 400) 0) [
  | yes e ↦ rw (eq-eqb (y % 400) 0 e) (sym (by_400 y e))
  | no n ↦ rw (ne_eqb (y % 400) 0 n) (sym (not_by_400 y h n))
]

pub returns : goal.returns
returns c =
    let y = c.args.year in
    elim c.if-year-eq0.branch [
      | then-year-eq0+then-year-ne0 w ↦
          c.from.ensures ∙ rw (w.from-is, ne_eqb _ 0 w.if-year-ne0.true) (sym (not_by_100 y (omega arith) (λ e. w.if-year-ne0.true (omega arith))))
      | then-year-eq0+else-year-ne0 w ↦ c.from.ensures ∙ rw w.from-is (by_100 y (omega arith))
      | else-year-eq0 w ↦
          c.from.ensures ∙ rw (w.from-is, ne_eqb _ 0 w.if-year-eq0.false) (sym (not_by_4 y (λ e. w.if-year-eq0.false (omega arith))))
    ]
