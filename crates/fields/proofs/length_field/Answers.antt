-- `fields::length_field` reads one digit, and what ends the field.
use Prim.Native.Nat.{ℕ, ◌+◌}
use mathlib.Core.Path.{◌≡◌, refl, ap}
use mathlib.Core.Logic.{⊎_elim}
use mathlib.Core.List.{[], ◌∷◌}
use native.Mathlib.Omega.{arith}
use lib.ListN.{length, get_or}
use Rattle.fields.proofs.FixedFields.{first, ended, unended, length_byte}
use Rattle.fields.proofs.length_field.Goals as goal

pub returns-then-b-lt48 : goal.returns-then-b-lt48
returns-then-b-lt48 c =
    λ f rest a v p. let h = length_byte c.requires a p in ⊎_elim (λ e. omega arith) (λ e. omega arith) c.then-b-lt48.either

pub returns-then-not-ends : goal.returns-then-not-ends
returns-then-not-ends c =
    let e = c.ends in
    λ f rest a v p. unended (first c.requires refl) e.result e.ensures c.if-not-ends.true a (ap length p.spelled)

pub returns : goal.returns
returns c =
    let x = c.ends in
    let e : get_or c.args.w.now c.args.at 0 ≡ 48 + c.wide.result = omega arith in
    record {
      field = _;
      there = ended (first c.requires refl) (omega arith) x.result x.ensures c.if-not-ends.false;
      place = refl;
      has = record { small = omega arith; spelled = ap (λ (x : ℕ). x ∷ []) e };
    }
