-- The promise leaves one answer only, and one of the two reasons is given where nothing is refused.
use Prim.Native.Nat.{ℕ, ◌-◌, ◌≤◌, ◌<◌}
use Rattle.std.specs.Prelude.{Result, Ok, Err}
use mathlib.Core.Path.{◌≡◌, ap, sym, ◌∙◌}
use mathlib.Core.Logic.{◌⊎◌, inl, inr}
use mathlib.Core.List.{List, [], ◌++◌, append_assoc, append-nil}
use native.Mathlib.Omega.{arith}
use native.Mathlib.Decide.{dec_lt}
use lib.ListN.{length, take, drop, take-append-drop}
use lib.Seq.{take-take}
use Rattle.base.specs.declared.refusal.Refusal.{Refusal}
use Rattle.record.proofs.Refusals.{same_reason}
use Rattle.record.specs.declared.Record.{Record}
use Rattle.fields.specs.Columns.{last_number}
use Rattle.fields.specs.Parted.{Parted}
use Rattle.fields.specs.Runs.{All}
use Rattle.fields.proofs.Parts.{parted_one}
use Rattle.lines.specs.Lines.{Inside, Comment}
use Rattle.row.specs.Row.{Expected, Row}
use Rattle.row.specs.Versions.{Version}
use Rattle.explain.specs.declared.Explained.{Explained}
use Rattle.explain.specs.declared.Explained.TheVariants as explained
use Rattle.explain.specs.Explain.{ExpectedFields, BeginsRow, WrongField, EndedEarly, Unexplained, no_number, no_line, row, comment}
use Rattle.explain.specs.Promise.{ExplainPromise, explain_wrong, explain_early, explain_numbers, no_version, unexplained, wrong, early}

-- e is the number that is expected, and k that of a row.

module _ {v e : ℕ} where
  -- What begins a row begins it with fewer fields, too.
  pub begins_with_fewer : (n : ℕ) {fs : List (List ℕ)} → BeginsRow v e fs → BeginsRow v e (take n fs)
  begins_with_fewer n {fs} b = record {
    further = drop n fs ++ b.further;
    r = b.r;
    row = let q : take n fs ++ (drop n fs ++ b.further) ≡ fs ++ b.further = sym (append_assoc (take n fs) (drop n fs) b.further) ∙ ap (λ (l : List (List ℕ)). l ++ b.further) (take-append-drop n fs) in
        rw q b.row;
  }

  -- Where a line is a row that is expected, so are its fields.
  expected_fields : {k : ℕ} {line : List ℕ} {fs : List (List ℕ)} {r : Record} → Parted fs line → Expected e k → Row v k r line → ExpectedFields v e r fs
  expected_fields {k = k} p x q = record { k = k; expected = x; row = rw (parted_one q.parted p) at q.row }

  -- A line that has a wrong field is no row that is expected, and one that ended early is none.
  pub wrong_no_row : {line : List ℕ} {i k : ℕ} {r : Record} → WrongField v e line i → Expected e k → Row v k r line → ⊥
  wrong_no_row {i = i} {r = r} w x q = w.none (begins_with_fewer i (record { further = []; r = r; row = rw append-nil (expected_fields w.parted x q) }))

  pub early_no_row : {line : List ℕ} {i k : ℕ} {r : Record} → EndedEarly v e line i → Expected e k → Row v k r line → ⊥
  early_no_row {r = r} w x q = w.none r (expected_fields w.parted x q)

  -- Of two wrong fields none is the earlier.
  not_earlier : {line : List ℕ} {i j : ℕ} → WrongField v e line i → WrongField v e line j → i < j → ⊥
  not_earlier {i = i} {j = j} p q l =
      let m : i ≤ j - 1 = omega arith in
      p.none (rw (parted_one p.parted q.parted, ← take-take i (j - 1) q.fields m) (begins_with_fewer i q.before))

  pub one_wrong : {line : List ℕ} {i j : ℕ} → WrongField v e line i → WrongField v e line j → i ≡ j
  one_wrong {i = i} {j = j} p q = go (dec_lt i j) (dec_lt j i)
    where
      go : Dec (i < j) → Dec (j < i) → i ≡ j
      go (yes l) d = absurd (not_earlier p q l)
      go (no n) (yes l) = absurd (not_earlier q p l)
      go (no n) (no m) = omega arith

  -- A line that ended early has no wrong field.
  pub not_wrong_early : {line : List ℕ} {i j : ℕ} → WrongField v e line i → EndedEarly v e line j → ⊥
  not_wrong_early {i = i} p q = p.none (rw (parted_one p.parted q.parted) (begins_with_fewer i q.begins))

  pub one_early : {line : List ℕ} {i j : ℕ} → EndedEarly v e line i → EndedEarly v e line j → i ≡ j
  one_early p q = sym p.count ∙ ap length (parted_one p.parted q.parted) ∙ q.count

-- A line that is neither a row that is expected nor a comment is explained, where some row has the expected number.
pub to_explain : {line : List ℕ} {v e : ℕ} → e ≤ last_number → All Inside line → (Comment line → ⊥)
    → ((k : ℕ) (r : Record) → Expected e k → Row v k r line → ⊥) → Unexplained v e line → ⊥
to_explain h i c n (no_number l) = omega arith
to_explain h i c n (no_line f) = f i
to_explain h i c n (row x w) = n _ _ x w
to_explain h i c n (comment x) = c x

-- One of the two reasons applies, and is given, where nothing is refused.
pub one_applies : {line a : List ℕ} {v e : ℕ} → Version v → (Unexplained v e line → ⊥) → ExplainPromise line v e a
    → ((i : ℕ) × WrongField v e line i × (a ≡ explain_wrong i)) ⊎ ((i : ℕ) × EndedEarly v e line i × (a ≡ explain_early i))
one_applies is n (no_version u e) = absurd (u is)
one_applies is n (unexplained u x e) = absurd (n x)
one_applies is n (wrong {i = i} u x w e) = inl (i, w, e)
one_applies is n (early {i = i} u x w e) = inr (i, w, e)

-- One answer.
pub one_explain : {line : List ℕ} {v e : ℕ} {a b : List ℕ} → ExplainPromise line v e a → ExplainPromise line v e b → a ≡ b
one_explain (no_version n e) (no_version m d) = e ∙ sym d
one_explain (no_version n e) (unexplained v u d) = absurd (n v)
one_explain (no_version n e) (wrong v u w d) = absurd (n v)
one_explain (no_version n e) (early v u w d) = absurd (n v)
one_explain (unexplained v u e) (no_version n d) = absurd (n v)
one_explain (unexplained v u e) (unexplained w x d) = e ∙ sym d
one_explain (unexplained v u e) (wrong w n x d) = absurd (n u)
one_explain (unexplained v u e) (early w n x d) = absurd (n u)
one_explain (wrong v n w e) (no_version m d) = absurd (m v)
one_explain (wrong v n w e) (unexplained x u d) = absurd (n u)
one_explain (wrong v n w e) (wrong x m y d) = e ∙ ap explain_wrong (one_wrong w y) ∙ sym d
one_explain (wrong v n w e) (early x m y d) = absurd (not_wrong_early w y)
one_explain (early v n w e) (no_version m d) = absurd (m v)
one_explain (early v n w e) (unexplained x u d) = absurd (n u)
one_explain (early v n w e) (wrong x m y d) = absurd (not_wrong_early y w)
one_explain (early v n w e) (early x m y d) = e ∙ ap explain_early (one_early w y) ∙ sym d

-- Answers with the same numbers are the same.
same_numbers : (x y : Result Explained Refusal) → explain_numbers x ≡ explain_numbers y → x ≡ y
same_numbers (Ok (explained.Wrong i)) (Ok (explained.Wrong j)) e = let z : i ≡ j = cc in cc
same_numbers (Ok (explained.Wrong i)) (Ok (explained.Early j)) e = let z : ◌≡◌ {A = ℕ} 1 2 = cc in absurd (omega arith)
same_numbers (Ok (explained.Wrong i)) (Err r) e = let z : ◌≡◌ {A = ℕ} 1 0 = cc in absurd (omega arith)
same_numbers (Ok (explained.Early i)) (Ok (explained.Wrong j)) e = let z : ◌≡◌ {A = ℕ} 2 1 = cc in absurd (omega arith)
same_numbers (Ok (explained.Early i)) (Ok (explained.Early j)) e = let z : i ≡ j = cc in cc
same_numbers (Ok (explained.Early i)) (Err r) e = let z : ◌≡◌ {A = ℕ} 2 0 = cc in absurd (omega arith)
same_numbers (Err r) (Ok (explained.Wrong j)) e = let z : ◌≡◌ {A = ℕ} 0 1 = cc in absurd (omega arith)
same_numbers (Err r) (Ok (explained.Early j)) e = let z : ◌≡◌ {A = ℕ} 0 2 = cc in absurd (omega arith)
same_numbers (Err r) (Err q) e = ap Err (same_reason (cc))

pub same_explained : {line : List ℕ} {v e : ℕ} (x y : Result Explained Refusal) → ExplainPromise line v e (explain_numbers x)
    → ExplainPromise line v e (explain_numbers y) → x ≡ y
same_explained x y p q = same_numbers x y (one_explain p q)
