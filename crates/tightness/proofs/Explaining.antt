-- Wrong answers of `explain`: each is refuted over its promise, for every line, version and number to which it applies.
use Prim.Native.Nat.{ℕ, ◌+◌, ◌-◌, ◌≤◌}
use mathlib.Core.Path.{◌≡◌, refl, ap, sym, ◌∙◌}
use mathlib.Core.Logic.{◌≢◌}
use mathlib.Core.Bool.{Bool}
use mathlib.Core.List.{List, [], ◌∷◌, ◌++◌, append_assoc, append-nil}
use native.Mathlib.Omega.{arith}
use lib.ListN.{length, get_or, take, length-append}
use lib.Seq.{take_at}
use Rattle.digits.specs.Digits.{DecimalDigit, Digits, more}
use Rattle.fields.specs.Columns.{Capital, type_rx}
use Rattle.fields.specs.Parted.{Parted}
use Rattle.fields.specs.Runs.{All}
use Rattle.fields.proofs.Parts.{parted_one}
use Rattle.record.specs.declared.Record.{Record}
use Rattle.row.specs.Row
use Rattle.row.specs.Versions.{Version}
use Rattle.lines.specs.Lines.{Comment}
use Rattle.explain.specs.Explain.{BeginsRow, WrongField, EndedEarly, Unexplained, row, comment}
use Rattle.explain.specs.Promise.{ExplainPromise, no_version, unexplained, wrong, early}
use Rattle.explain.proofs.Theorems.{one_wrong, not_wrong_early}
use Rattle.explain.proofs.Refused.{no_refusal, refused_30}

module _ {line : List ℕ} {v k : ℕ} where
  -- another field than the wrong one, as one too late or too early, or another reason
  pub another_field : {i j p q : ℕ} → WrongField v k line i → i ≢ j → ExplainPromise line v k (0 ∷ p ∷ q ∷ j ∷ []) → ⊥
  another_field w d (no_version u e) = let z : ◌≡◌ {A = ℕ} 0 21 = cc in omega arith
  another_field w d (unexplained u x e) = let z : ◌≡◌ {A = ℕ} 0 30 = cc in omega arith
  another_field {j = j} w d (wrong {i = m} u x y e) = let z : m ≡ j = cc in d (one_wrong w y ∙ z)
  another_field w d (early u x y e) = not_wrong_early w y

  pub wrong_called_early : {i j p : ℕ} → WrongField v k line i → ExplainPromise line v k (0 ∷ p ∷ 2 ∷ j ∷ []) → ⊥
  wrong_called_early w (no_version u e) = let z : ◌≡◌ {A = ℕ} 0 21 = cc in omega arith
  wrong_called_early w (unexplained u x e) = let z : ◌≡◌ {A = ℕ} 0 30 = cc in omega arith
  wrong_called_early w (wrong u x y e) = let z : ◌≡◌ {A = ℕ} 2 1 = cc in omega arith
  wrong_called_early w (early u x y e) = not_wrong_early w y

  -- a row that only lacks fields, called wrong
  pub early_called_wrong : {i j p : ℕ} → EndedEarly v k line i → ExplainPromise line v k (0 ∷ p ∷ 1 ∷ j ∷ []) → ⊥
  early_called_wrong w (no_version u e) = let z : ◌≡◌ {A = ℕ} 0 21 = cc in omega arith
  early_called_wrong w (unexplained u x e) = let z : ◌≡◌ {A = ℕ} 0 30 = cc in omega arith
  early_called_wrong w (wrong u x y e) = not_wrong_early y w
  early_called_wrong w (early u x y e) = let z : ◌≡◌ {A = ℕ} 1 2 = cc in omega arith

  module _ (is : Version v) where
    -- a comment, or a row, explained
    pub comment_explained : {s : List ℕ} → Comment line → ExplainPromise line v k (0 ∷ s) → ⊥
    comment_explained c p = omega (arith, refused_30 is (comment c) p)

    pub row_explained : {s : List ℕ} {j : ℕ} {r : Record} → Row.Expected k j → Row.Row v j r line → ExplainPromise line v k (0 ∷ s) → ⊥
    row_explained x w p = omega (arith, refused_30 is (row x w) p)

    -- a line refused for anything else, such as its length
    pub refused_for_its_length : {n : ℕ} {s : List ℕ} → (Unexplained v k line → ⊥) → n ≢ 0 → ExplainPromise line v k (n ∷ s) → ⊥
    refused_for_its_length u d p = d (no_refusal is u p)

-- 0 taken for 1: the number of a first row called wrong, where some row of any number begins with it
pub zero_as_one : {line f : List ℕ} {fs : List (List ℕ)} {v p : ℕ} → Parted (f ∷ fs) line → BeginsRow v 0 (f ∷ []) → ExplainPromise line v 0 (0 ∷ p ∷ 1 ∷ 1 ∷ [])
    → ⊥
zero_as_one h b (no_version u e) = let z : ◌≡◌ {A = ℕ} 0 21 = cc in omega arith
zero_as_one h b (unexplained u x e) = let z : ◌≡◌ {A = ℕ} 0 30 = cc in omega arith
zero_as_one {f = f} {fs = fs} {v = v} h b (wrong {i = i} u x w e) = let z : i ≡ 1 = cc in w.none (rw (parted_one w.parted h, z) b)
zero_as_one h b (early u x w e) = let z : ◌≡◌ {A = ℕ} 1 2 = cc in omega arith

-- After some fields of a line stands one with which no row goes on: that is the wrong one.
pub behind : {line : List ℕ} {v k : ℕ} (fs : List (List ℕ)) (f : List ℕ) (gs : List (List ℕ)) → Parted (fs ++ (f ∷ gs)) line → BeginsRow v k fs
    → ((j : ℕ) (r : Record) (hs : List (List ℕ)) → Row.RowFields v j r (fs ++ (f ∷ hs)) → ⊥) → WrongField v k line (length fs + 1)
behind {v = v} {k = k} fs f gs p b n =
    let z : length fs + 1 - 1 ≡ length fs = omega arith in
    let m : length (fs ++ (f ∷ [])) ≡ length fs + 1 = length-append fs (f ∷ []) in
    let q : take (length fs + 1) (fs ++ (f ∷ gs)) ≡ fs ++ (f ∷ []) = rw (← (append_assoc fs (f ∷ []) gs)) (take_at (fs ++ (f ∷ [])) gs (length fs + 1) m) in
    record {
      fields = fs ++ (f ∷ gs);
      parted = p;
      low = omega arith;
      high = omega (arith, length-append fs (f ∷ gs));
      before = rw (z, take_at fs (f ∷ gs) (length fs) refl) b;
      none = λ c.
          let d : BeginsRow v k (fs ++ (f ∷ [])) = rw q at c in
          n d.row.k d.r d.further (rw (append_assoc fs (f ∷ []) d.further) at d.row.row);
    }

-- the columns of 1.1 for a line of 1.2: a type where the bus must stand is wrong field 3
pub columns_of_11 : {line : List ℕ} {k i p q : ℕ} {a b : List ℕ} {fs : List (List ℕ)} → Parted (a ∷ b ∷ type_rx ∷ fs) line
    → BeginsRow 12 k (a ∷ b ∷ []) → i ≢ 3 → ExplainPromise line 12 k (0 ∷ p ∷ q ∷ i ∷ []) → ⊥
columns_of_11 {a = a} {b = b} {fs = fs} h g d = another_field (behind (a ∷ b ∷ []) type_rx fs h g (λ j r hs. no_type)) (λ e. d (sym e))
  where
    digit : {n : ℕ} → Digits DecimalDigit 10 type_rx n → ⊥
    digit (more x y e) = omega (arith, x.byte, x.value)

    no_type : {k : ℕ} {r : Record} {hs : List (List ℕ)} → Row.RowFields 12 k r (a ∷ b ∷ type_rx ∷ hs) → ⊥
    no_type (Row.number n (Row.offset is o (Row.bus x t))) = digit x.spelled.digits

-- a warning's word with a byte that is no capital letter, taken

words_behind : {fs : List (List ℕ)} (f : List ℕ) (hs : List (List ℕ)) → Row.Words fs → Row.Words (fs ++ (f ∷ hs)) → All Capital f
words_behind f hs Row.none (Row.word a h) = a
words_behind f hs (Row.word a h) (Row.word b g) = words_behind f hs h g

bytes_behind : {place n u w : ℕ} {fs : List (List ℕ)} (f : List ℕ) (hs : List (List ℕ)) → Row.ByteFields Row.Words place n u fs
    → Row.ByteFields Row.Words place n w (fs ++ (f ∷ hs)) → All Capital f
bytes_behind f hs (Row.done h) (Row.done g) = words_behind f hs h g
bytes_behind f hs (Row.byte h x e) (Row.byte g y d) = bytes_behind f hs x y

frame_kind : {sent : ℕ} {r : Record} {fs : List (List ℕ)} → sent ≤ 1 → Row.FrameId sent r fs → r.kind ≤ 3
frame_kind l (Row.frame_id i (Row.frame_length n (Row.data_bytes e b))) = omega arith
frame_kind l (Row.frame_id i (Row.frame_length n (Row.remote e d t))) = omega arith

module _ {r q : Record} (four : r.kind ≡ 4) (f : List ℕ) (hs : List (List ℕ)) where
  type_behind : {fs : List (List ℕ)} → Row.FromType r fs → Row.FromType q (fs ++ (f ∷ hs)) → All Capital f
  type_behind (Row.rx e h) g = absurd (omega (arith, frame_kind (omega arith) h))
  type_behind (Row.tx e h) g = absurd (omega (arith, frame_kind (omega arith) h))
  type_behind (Row.error e (Row.error_id k x h i l)) g = absurd (omega arith)
  type_behind (Row.warng e h) (Row.rx d g) = absurd (omega (arith, ap length (sym e ∙ d)))
  type_behind (Row.warng e h) (Row.tx d g) = absurd (omega (arith, ap length (sym e ∙ d)))
  type_behind (Row.warng e h) (Row.error d g) = absurd (omega (arith, ap (λ (l : List ℕ). get_or l 0 0) (sym e ∙ d)))
  type_behind (Row.warng e (Row.warning_id k x h (Row.warning_length l b))) (Row.warng d (Row.warning_id m y g (Row.warning_length n c))) =
      bytes_behind f hs b c

  bus_behind : {x : Bool} {fs : List (List ℕ)} → Row.FromBus r x fs → Row.FromBus q x (fs ++ (f ∷ hs)) → All Capital f
  bus_behind (Row.no_bus e t) (Row.no_bus d u) = type_behind t u
  bus_behind (Row.bus e t) (Row.bus d u) = type_behind t u

  row_behind : {v k j : ℕ} {fs : List (List ℕ)} → Row.RowFields v k r fs → Row.RowFields v j q (fs ++ (f ∷ hs)) → All Capital f
  row_behind (Row.number n (Row.offset is o b)) (Row.number m (Row.offset is' o' c)) = bus_behind b c

pub small_letter_taken : {line : List ℕ} {v k j i p q : ℕ} {r : Record} (fs : List (List ℕ)) (f : List ℕ) (gs : List (List ℕ))
    → Parted (fs ++ (f ∷ gs)) line → Row.Expected k j → Row.RowFields v j r fs → r.kind ≡ 4 → (All Capital f → ⊥) → i ≢ length fs + 1
    → ExplainPromise line v k (0 ∷ p ∷ q ∷ i ∷ []) → ⊥
small_letter_taken {v = v} {k = k} {j = j} {r = r} fs f gs h x w four n d =
    let b : BeginsRow v k fs = record { further = []; r = r; row = record { k = j; expected = x; row = rw append-nil w } } in
    another_field (behind fs f gs h b (λ m s hs c. n (row_behind four f hs w c))) (λ e. d (sym e))
