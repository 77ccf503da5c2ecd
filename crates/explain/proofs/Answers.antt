-- What the loop over the fields keeps, and the answers that it ends in.
use Prim.Native.Nat.{ℕ, zero, suc, ◌+◌, ◌≤◌}
use Rattle.std.specs.Prelude.{Result, Ok, Err}
use mathlib.Core.Path.{◌≡◌, refl, ap, sym}
use mathlib.Core.Logic.{◌≢◌}
use mathlib.Core.Bool.{Bool, true, false, true≢false}
use mathlib.Core.List.{List, [], ◌∷◌}
use native.Mathlib.Omega.{arith}
use lib.ListN.{length}
use lib.Seq.{slice}
use Rattle.base.specs.declared.refusal.Refusal.{Refusal}
use Rattle.base.specs.declared.refusal.Refusal.TheVariants as refusal
use Rattle.record.specs.declared.Record.{Record}
use Rattle.fields.specs.Parted.{NoBlank}
use Rattle.lines.specs.Lines.{Inside, Comment}
use Rattle.fields.specs.Runs.{All}
use Rattle.lines.specs.inner.Parts.{Between, Ran}
use Rattle.lines.proofs.Scans.{blanks_ran}
use Rattle.row.specs.Row.{RowFields, Expected, this, any}
use Rattle.row.specs.Versions.{Version}
use Rattle.row.specs.declared.Part.{Part}
use Rattle.row.specs.inner.Sizes.{word_bytes}
use Rattle.row.specs.inner.Stages.{Continues, Good, EndsRow, whole, early}
use Rattle.row.proofs.Columns.{after_number}
use Rattle.row.proofs.Long.{number_short}
use Rattle.row.proofs.CanEnd.{CanEnd, can_end, row_can_end}
use Rattle.fields.specs.Columns.{last_number}
use Rattle.explain.specs.declared.Explained.{Explained}
use Rattle.explain.specs.declared.Explained.TheVariants as explained
use Rattle.explain.specs.Explain.{ExpectedFields, row}
use Rattle.explain.specs.Promise.{ExplainPromise, explain_refused, explain_numbers, unexplained}
use Rattle.explain.specs.Promise.{wrong as promise-wrong, early as promise-early}
use Rattle.explain.specs.inner.Steps.{Moved, FieldsBefore, FoundIn}
use Rattle.explain.proofs.Fields.{fields_next, found_wrong, found_early, found_row}
use Rattle.explain.proofs.Theorems.{wrong_no_row, early_no_row, to_explain}

-- i fields stand before the place `at`: those of every row that begins with the first field go on from the state p.
pub record Going (line : List ℕ) (from : ℕ) (first p : Part) (at i : ℕ) : Type 0 where
  pub within : at ≤ length line
  pub few : i ≤ at
  pub good : Good p
  pub fields : (v k : ℕ) → FieldsBefore v k line (Continues first) from 1 → FieldsBefore v k line (Continues p) at i

-- The answers at the line's end and at a field.
module _ {line : List ℕ} {from at a i : ℕ} {first p : Part} (x : Going line from first p at i) (g : Ran (Between 32 32) line at a) where
  pub end_row : (b : Bool) → b ≡ true → EndsRow p.stage p b → a ≡ length line
      → (v k : ℕ) → FieldsBefore v k line (Continues first) from 1 → FoundIn v k line (Err refusal.NothingToExplain)
  end_row true e (whole c u) n v k y = found_row (x.fields v k y) (blanks_ran g) n c
  end_row false e d n v k y = absurd (true≢false (sym e))

  pub end_early : (b : Bool) → b ≡ false → EndsRow p.stage p b → a ≡ length line
      → (v k : ℕ) → FieldsBefore v k line (Continues first) from 1 → FoundIn v k line (Ok (explained.Early i))
  end_early true e d n v k y = absurd (true≢false e)
  end_early false e (early u) n v k y = found_early (x.fields v k y) (blanks_ran g) n (can_end p x.good) u

  module _ {e : ℕ} (n : a ≢ length line) (h : Ran NoBlank line a e) where
    pub at_wrong : ((fs : List (List ℕ)) (r : Record) → Continues p (slice a e line ∷ fs) r → ⊥)
        → (v k : ℕ) → FieldsBefore v k line (Continues first) from 1 → FoundIn v k line (Ok (explained.Wrong (i + 1)))
    at_wrong m v k y = found_wrong (blanks_ran g) n h (x.fields v k y) (can_end p x.good) m

    pub one_more_field : {q : Part} → Moved (Continues p) (slice a e line) q → i + 1 ≤ e → Going line from first q e (i + 1)
    one_more_field m l = record { within = h.within; few = l; good = m.good; fields = λ v k y. fields_next (blanks_ran g) n h (x.fields v k y) m }

-- The whole answer.
module _ {line : List ℕ} {v k : ℕ} (is : Version v) (i : All Inside line) (n : Comment line → ⊥) (h : k ≤ last_number) where
  pub promised : (x : Result Explained Refusal) → FoundIn v k line x → ExplainPromise line v k (explain_numbers x)
  promised (Ok (explained.Wrong m)) w = promise-wrong is (to_explain h i n (λ j r. wrong_no_row w)) w refl
  promised (Ok (explained.Early m)) w = promise-early is (to_explain h i n (λ j r. early_no_row w)) w refl
  promised (Err reason) (e, (j, r, x, q)) = unexplained is (row x q) (ap explain_refused e)

-- Where k is expected, some row can be ended: the one with that number, or, where any may stand there, that with number 1.

ended_as : {v k j : ℕ} → Expected k j → CanEnd (λ fs r. RowFields v j r fs) → CanEnd (λ fs r. ExpectedFields v k r fs)
ended_as {j = j} x o = record { fields = o.fields; r = o.r; ends = record { k = j; expected = x; row = o.ends } }

pub expected_can_end : {v : ℕ} (k : ℕ) → Version v → k ≤ last_number → CanEnd (λ fs r. ExpectedFields v k r fs)
expected_can_end zero is h = ended_as {j = 1} (any refl) (row_can_end is (omega arith) (omega arith))
expected_can_end (suc n) is h = ended_as (this refl) (row_can_end is (omega arith) h)

-- No row is without a field, and no row number is long.
pub no_row_empty : {v k : ℕ} (r : Record) → ExpectedFields v k r [] → ⊥
no_row_empty r c = elim c.row [ ]

pub no_long_number : {v k : ℕ} {f : List ℕ} → word_bytes ≤ length f → (fs : List (List ℕ)) (r : Record) → ExpectedFields v k r (f ∷ fs) → ⊥
no_long_number l fs r c = let h = number_short (after_number c.row).0 in omega arith
