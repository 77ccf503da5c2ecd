-- The bytes of a stamp up to its point, which are kept while the second is the same.
use Prim.Native.Nat.{ℕ, suc, ◌+◌, ◌*◌, ◌/◌, ◌%◌, ◌≤◌, ◌<◌}
use mathlib.Core.Path.{◌≡◌, ap, sym, ◌∙◌}
use mathlib.Core.List.{List}
use native.Mathlib.Omega.{arith}
use lib.Arith.{digits_div, digits_mod}
use Rattle.base.proofs.Numbers.{parts}
use Rattle.clock.specs.declared.DateTime.{DateTime}
use Rattle.clock.specs.Stamp.{Stamp, ticks}
use Rattle.clock.proofs.Dates.{one_date}
use Rattle.ascii_line.specs.inner.Parts.{second_text, StampParts}
use Rattle.ascii_line.proofs.Texts.{same_second}
use Rattle.ascii.specs.inner.Passes.{ticks_of, Shows}

-- The ticks of a stamp are those of its start and offset.
stamp_ticks : {start offset : ℕ} {s : DateTime} → Stamp start offset s → ticks_of start offset ≡ ticks s.time
unfolding ticks_of
stamp_ticks {start} {offset} {s} y = cut (start * 1000 + offset) (ticks s.time) y.time.low y.time.high
  where
    cut : (x n : ℕ) → 100 * n ≤ x → x < 100 * suc n → x / 100 ≡ n
    cut x n l h = omega arith

-- The whole seconds of a stamp, and the rest.
abbrev seconds : DateTime → ℕ
seconds s = ((s.time.days * 24 + s.time.hour) * 60 + s.time.minute) * 60 + s.time.second

whole : {start offset : ℕ} {s : DateTime} → Stamp start offset s → (ticks s.time / 10000 ≡ seconds s) × (ticks s.time % 10000 ≡ s.time.part)
whole {s = s} y = (digits_div (seconds s) y.time.part, digits_mod (seconds s) y.time.part)

-- The second of the start itself.
pub first_second : (start : ℕ) → start / 1000 ≡ ticks_of start 0 / 10000
unfolding ticks_of
first_second start = let e : (start * 1000 + 0) / 100 ≡ start * 10 = omega arith in rw e (omega arith)

-- Two stamps of one second have the same bytes up to their points.
one_second : {start offset from later : ℕ} {s u : DateTime} → Stamp start offset s → Stamp from later u → ticks s.time / 10000 ≡ ticks u.time / 10000
    → second_text s ≡ second_text u
one_second {s = s} {u = u} y z e =
    let d : seconds s ≡ seconds u = omega (arith, (whole y).0, (whole z).0) in
    let c = parts 60 y.time.second z.time.second d in
    let m = parts 60 y.time.minute z.time.minute c.0 in
    let h = parts 24 y.time.hour z.time.hour m.0 in
    same_second s u (one_date (rw h.0 at y.date) z.date) h.1 m.1 c.1

module _ {start offset : ℕ} {s : DateTime} (y : Stamp start offset s) where
  -- What was put for a stamp shows its second.
  pub shows : {head : List ℕ} {second : ℕ} → head ≡ second_text s → second ≡ ticks_of start offset / 10000 → Shows head second
  shows e n = record {
    stamps = λ z m. e ∙ one_second y z (sym (ap (λ (t : ℕ). t / 10000) (stamp_ticks y)) ∙ sym n ∙ m);
  }

  -- What shows the second of a stamp is its bytes, and what is left of its ticks its part.
  pub begins : {head : List ℕ} {n : ℕ} → n ≡ ticks_of start offset → Shows head (n / 10000) → StampParts head (n % 10000) s
  begins e h = record {
    bytes = h.stamps y (ap (λ (t : ℕ). t / 10000) (e ∙ stamp_ticks y));
    rest = ap (λ (t : ℕ). t % 10000) (e ∙ stamp_ticks y) ∙ (whole y).1;
  }
