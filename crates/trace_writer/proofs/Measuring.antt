-- What the first pass keeps: the records up to `at` are well formed, with true marks, and either all carried, and measured, or the first misfit is known.
use Rattle.std.specs.Prelude.{Option, Some, None, Ok}
use Rattle.std.specs.Option.{option_or}
use Prim.Native.Nat.{ℕ, ◌+◌, ◌*◌, ◌≤◌}
use mathlib.Core.Path.{◌≡◌, refl, ap, ◌∙◌}
use mathlib.Core.List.{List, [], ◌∷◌, ◌++◌, append_assoc}
use native.Mathlib.Omega.{arith}
use lib.ListN.{length, length-append}
use Rattle.fields.specs.Columns.{last_number}
use Rattle.record.specs.declared.Record.{Record}
use Rattle.records.specs.Records.{none}
use Rattle.records.proofs.Lists.{each_snoc}
use Rattle.records.proofs.Through.{Through, NextIs, through, through_more, all_through}
use Rattle.row.specs.Versions.{Carries}
use Rattle.row.specs.House.{row_text}
use Rattle.row.specs.inner.Sizes.{longest_ended}
use Rattle.trace.specs.House.{rows_text, Carried}
use Rattle.trace.proofs.HouseTexts.{rows_none}
use Rattle.trace.proofs.Numbers.{next_number, from_one}
use Rattle.trace_writer.specs.Promise.{FirstMisfit, NumberFits}
use Rattle.trace_writer.specs.inner.Passes.{with_end, RowBytes, Unfit, MeasuresRows}
use Rattle.trace_writer.specs.inner.Passes
use Rattle.trace_writer.proofs.Rows.{rows_snoc}

-- The next row has one of the numbers.
pub row_numbered : {first at k last : ℕ} {s : List ℕ} → Through s at k last → NumberFits first s → at + 20 ≤ length s → (1 ≤ first + k) × (first + k ≤ last_number)
row_numbered m n h = let p = m.place in (omega (arith, from_one n (omega arith)), omega (arith, next_number n))

-- All records are carried, and their rows from number `first` on have so many bytes; or the first misfit stands at this place.
abbrev pub Sized : ℕ → ℕ → List Record → ℕ → Option ℕ → Type 0
Sized version first rs bytes None = Carried version rs × (bytes ≡ length (rows_text version first rs))
Sized version first rs bytes (Some place) = FirstMisfit version rs place

-- The first misfit is that of one record more too.
misfit_more : {version place : ℕ} {rs : List Record} (r : Record) → FirstMisfit version rs place → FirstMisfit version (rs ++ (r ∷ [])) place
misfit_more r u = record {
  before = u.before;
  this = u.this;
  after = u.after ++ (r ∷ []);
  whole = ap (λ (x : List Record). x ++ (r ∷ [])) u.whole ∙ append_assoc u.before (u.this ∷ u.after) (r ∷ []);
  carried = u.carried;
  misfit = u.misfit;
  at = u.at;
}

-- One record more that is carried,
sized_row : {version n : ℕ} (first bytes : ℕ) (rs : List Record) (r : Record) (wrong : Option ℕ) → Carries r version
    → n ≡ length (with_end (row_text version (first + length rs) r)) → Sized version first rs bytes wrong
    → Sized version first (rs ++ (r ∷ [])) (bytes + n) wrong
sized_row {version} first bytes rs r None c e f =
    let l = ap length (rows_snoc version first rs r) in
    (each_snoc f.0 c, omega (arith, f.1, e, l, length-append (rows_text version first rs) (with_end (row_text version (first + length rs) r))))
sized_row first bytes rs r (Some place) c e u = misfit_more r u

-- and one that is not.
sized_misfit : {version : ℕ} (first bytes : ℕ) (rs : List Record) (r : Record) (wrong : Option ℕ) → (Carries r version → ⊥)
    → Sized version first rs bytes wrong → Sized version first (rs ++ (r ∷ [])) bytes (option_or wrong (Some (length rs + 1)))
sized_misfit first bytes rs r None f s = record { before = rs; this = r; after = []; whole = refl; carried = s.0; misfit = f; at = refl }
sized_misfit first bytes rs r (Some place) f u = misfit_more r u

-- The first row has number `first`, and `wrong` is the first misfit.
pub record Measuring (version first : ℕ) (s : List ℕ) (at k bytes : ℕ) (wrong : Option ℕ) (last : ℕ) : Type 0 where
  pub judged : Through s at k last
  pub bounded : bytes ≤ longest_ended * k
  pub sized : Sized version first judged.records bytes wrong

pub measuring : (version first : ℕ) (s : List ℕ) → Measuring version first s 0 0 0 None 0
measuring version first s = record { judged = through s; bounded = omega arith; sized = (none, rw rows_none) }

module _ {version first : ℕ} {s : List ℕ} {at k bytes : ℕ} {wrong : Option ℕ} {last : ℕ} (m : Measuring version first s at k bytes wrong last) where
  module _ {r : Record} (h : at + 20 ≤ length s) (p : NextIs s at last r) where
    -- One record more: carried,
    pub measured_row : {n : ℕ} → RowBytes version (first + k) r (Some n) → Measuring version first s (at + 20) (k + 1) (bytes + n) wrong r.offset
    measured_row b = record {
      judged = through_more m.judged h p;
      bounded = omega (arith, m.bounded, b.2);
      sized = sized_row first bytes m.judged.records r wrong b.0 (rw m.judged.counted at b.1) m.sized;
    }

    -- or not.
    pub measured_misfit : {new : Option ℕ} → new ≡ option_or wrong (Some (k + 1)) → RowBytes version (first + k) r None
        → Measuring version first s (at + 20) (k + 1) bytes new r.offset
    measured_misfit e b = record {
      judged = through_more m.judged h p;
      bounded = omega (arith, m.bounded);
      sized = rw (e, m.judged.counted) (sized_misfit first bytes m.judged.records r wrong b m.sized);
    }

  pub measured : length s ≤ at → wrong ≡ None → MeasuresRows version first s (Ok bytes)
  measured h z = let f = rw z at m.sized in (m.judged.records, all_through m.judged h, f.0, f.1)

  pub misfit_found : {place : ℕ} → length s ≤ at → wrong ≡ Some place → Unfit version s 24 place
  misfit_found h z = Passes.misfit (all_through m.judged h) (rw z at m.sized)
