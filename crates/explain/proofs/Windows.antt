-- A field in a window of its own steps the state as it would anywhere: the first for every number that is expected, a long word as its first bytes do.
use Prim.Native.Nat.{ℕ, ◌≤◌}
use Rattle.std.specs.Prelude.{Option, Some, None}
use mathlib.Core.Path.{◌≡◌, refl, sym}
use mathlib.Core.Logic.{◌≢◌}
use mathlib.Core.List.{List, [], ◌∷◌, ◌++◌, append-nil}
use native.Mathlib.Omega.{arith}
use lib.ListN.{length, take, drop, take-append-drop, get_or-append}
use lib.Seq.{length-take-le}
use Rattle.record.specs.declared.Record.{Record}
use Rattle.fields.specs.Columns.{Capital}
use Rattle.fields.specs.Parted.{Parted, none}
use Rattle.fields.specs.Runs.{All, over, halt}
use Rattle.fields.specs.inner.Window.{FieldAt, LineBeforeCr, Starts}
use Rattle.fields.proofs.Parts.{first}
use Rattle.fields.proofs.Runs.{all_at, all_map, all_left}
use Rattle.fields.proofs.Window.{field_one}
use Rattle.lines.specs.inner.Parts.{Between, Ran}
use Rattle.lines.proofs.Scans.{to_end, not_end}
use Rattle.row.specs.declared.Part.{Part}
use Rattle.row.specs.declared.Step.{Step}
use Rattle.row.specs.Row.{RowFields}
use Rattle.row.specs.inner.Sizes.{word_bytes}
use Rattle.row.specs.inner.Stages.{Steps, Continues}
use Rattle.row.proofs.Columns.{after_number}
use Rattle.row.proofs.Long.{long_field}
use Rattle.row_reader.specs.inner.Answer.{NumberOf}
use Rattle.explain.specs.Explain.{ExpectedFields}
use Rattle.explain.specs.inner.Steps.{Field, Moves}

-- A field, and CR after it.
module _ {f w : List ℕ} (rest : List ℕ) (h : Field f) (e : w ≡ f ++ (13 ∷ rest)) where
  here : FieldAt f (13 ∷ rest) w
  here = record { bytes = e; some = h.some; solid = h.solid; stops = halt (λ s. s.end refl) }

  pub line_here : LineBeforeCr f w
  line_here = record { rest = rest; plain = all_map (λ b s. s.end) h.solid; ended = e }

  pub starts : Starts w 0
  starts = record {
    lined = record { line = f; is = line_here };
    solid = rw (e, get_or-append f (13 ∷ rest) 0 0 h.some) (all_at 0 h.solid h.some);
  }

  pub moves : (C : List (List ℕ) → Record → Type 0) (t : Option Step) → Steps w 0 C t → Moves C f t
  moves C None x = λ fs r c. x.none f (13 ∷ rest) here fs r c
  moves C (Some t) x =
      let q : x.field ≡ f = (field_one x.there here).0 in
      record { good = x.good; onto = λ fs r c. x.onto fs r (rw q c); back = λ fs r c. rw q at (x.back fs r c) }

-- The first field, taken as a line, tells the row number k: of the rows that are expected only that one begins with it.

alone : {f : List ℕ} → Field f → Parted (f ∷ []) f
alone {f} h = first h.some (all_map (λ b s. s.blank) h.solid) over none (sym (append-nil f))

module _ {e k : ℕ} {f : List ℕ} (h : Field f) (n : NumberOf e f k) where
  with_number : {v : ℕ} (fs : List (List ℕ)) (r : Record) → ExpectedFields v e r (f ∷ fs) → RowFields v k r (f ∷ fs)
  with_number fs r x = rw (n.only f [] x.k (alone h) (after_number x.row).0 x.expected) at x.row

  pub expected_moves : (v : ℕ) (t : Option Step) → Moves (λ fs r. RowFields v k r fs) f t → Moves (λ fs r. ExpectedFields v e r fs) f t
  expected_moves v None x = λ fs r c. x fs r (with_number fs r c)
  expected_moves v (Some t) x = record {
    good = x.good;
    onto = λ fs r c. x.onto fs r (with_number fs r c);
    back = λ fs r c. record { k = k; expected = n.expected; row = x.back fs r c };
  }

-- A field that is too long for any other is a word.

pub word : {f : List ℕ} {e : ℕ} → Ran (Between 65 90) f 0 e → e ≡ length f → All Capital f
word r z = all_map (λ b q. record { low = q.low; high = q.high }) (to_end r z)

pub no_word : {f : List ℕ} {e : ℕ} → Ran (Between 65 90) f 0 e → e ≢ length f → All Capital f → ⊥
no_word r n a = not_end r n (all_map (λ b q. record { low = q.low; high = q.high }) a)

pub long_stuck : {f : List ℕ} (p : Part) → word_bytes ≤ length f → (All Capital f → ⊥) → Moves (Continues p) f None
long_stuck p l n = λ fs r c. n (long_field p fs r l c).0

pub front_word : (f : List ℕ) → All Capital f → All Capital (take word_bytes f)
front_word f a = all_left (take word_bytes f) (drop word_bytes f) (rw take-append-drop a)

pub long_moves : {f : List ℕ} (p : Part) (t : Option Step) → word_bytes ≤ length f → All Capital f → Moves (Continues p) (take word_bytes f) t → Moves (Continues p) f t
long_moves {f} p t l a m = go t m
  where
    n : word_bytes ≤ length (take word_bytes f)
    n = rw (length-take-le word_bytes f l) (omega arith)

    onto : (fs : List (List ℕ)) (r : Record) → Continues p (f ∷ fs) r → Continues p (take word_bytes f ∷ fs) r
    onto fs r c = (long_field p fs r l c).1 (take word_bytes f) (front_word f a)

    back : (fs : List (List ℕ)) (r : Record) → Continues p (take word_bytes f ∷ fs) r → Continues p (f ∷ fs) r
    back fs r c = (long_field p fs r n c).1 f a

    go : (t : Option Step) → Moves (Continues p) (take word_bytes f) t → Moves (Continues p) f t
    go None x = λ fs r c. x fs r (onto fs r c)
    go (Some t) x = record { good = x.good; onto = λ fs r c. x.onto fs r (onto fs r c); back = λ fs r c. back fs r (x.back fs r c) }

pub front_field : {f : List ℕ} → word_bytes ≤ length f → Field f → Field (take word_bytes f)
front_field {f} l h = record {
  some = rw (length-take-le word_bytes f l) (omega arith);
  solid = all_left (take word_bytes f) (drop word_bytes f) (rw take-append-drop h.solid);
}
