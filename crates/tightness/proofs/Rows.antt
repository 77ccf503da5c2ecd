-- Wrong answers of `row_in`, `read_row`, `expected_number` and `window`: each is refuted over what they promise, for every line to which it applies.
use Rattle.std.specs.Prelude.{Some, None}
use Prim.Native.Nat.{ℕ, ◌+◌, ◌*◌, ◌/◌, ◌%◌, ◌^◌, ◌≤◌, ◌<◌}
use mathlib.Core.Path.{◌≡◌, refl, ap, sym, ◌∙◌}
use mathlib.Core.Logic.{◌≢◌, ◌⊎◌, inl, inr}
use mathlib.Core.List.{List, ◌∷◌, ◌++◌}
use native.Mathlib.Omega.{arith}
use lib.ListN.{length, get_or, get_or-append}
use lib.Seq.{get_or-append_seam}
use Rattle.base.specs.inner.Answers.{Answers}
use Rattle.digits.specs.Digits.{Hex}
use Rattle.digits.proofs.Theorems.{one_hex}
use Rattle.fields.specs.Columns.{type_rx, type_tx}
use Rattle.fields.specs.Parted.{Parted}
use Rattle.fields.proofs.Parts.{parted_one}
use Rattle.record.specs.declared.Record.{Record}
use Rattle.row.specs.Versions.{is11, is12}
use Rattle.row.specs.Row
use Rattle.row.proofs.Formed.{bytes_sum, row_formed}
use Rattle.lines.specs.Lines.{line_limit}
use Rattle.row_reader.specs.inner.Answer.{ReadsRow, RowFound, NumberOf}
use Rattle.row_reader.proofs.Numbers.{number_of}
use Rattle.tightness.proofs.Lines.{eight_digits_standard}

-- a line of more than 250 bytes, read
pub long_line_read : {v k : ℕ} {r : Record} {line : List ℕ} → line_limit < length line → Answers (ReadsRow v k line) (Some r) → ⊥
long_line_read h p = omega (arith, p.few)

-- a row, refused
pub row_refused : {v k : ℕ} {r : Record} {line : List ℕ} (at : ℕ) (out : Record) → Row.Row v k r line → RowFound v k at line out None → ⊥
row_refused at out w f = f _ w

-- another number than the one that is expected, and, where any is, than that of the row which stands there, as 1 for 4117
pub another_expected : {e k : ℕ} {line : List ℕ} → e ≢ 0 → k ≢ e → NumberOf e line k → ⊥
another_expected n d p = go n d p.expected
  where
    go : {e k : ℕ} → e ≢ 0 → k ≢ e → Row.Expected e k → ⊥
    go n d (Row.this q) = d (sym q)
    go n d (Row.any z) = n z

pub another_first : {v j k : ℕ} {r : Record} {line : List ℕ} → Row.Row v j r line → k ≢ j → NumberOf 0 line k → ⊥
another_first w d p = d (sym (number_of p w (Row.any refl)))

-- a fifth byte of a warning: what stands after the four is a word
pub word_as_a_byte : {v k e : ℕ} {out : Record} {line : List ℕ} (at : ℕ) → RowFound v k at line out (Some e) → out.kind ≡ 4 → out.«data» % 256 ^ 4 ≢ 0 → ⊥
word_as_a_byte at p k d = let f = row_formed p.0 in d (rw (f.warning k).len at f.past)

-- The columns of a version: the type, what stands after it, and all of them.
pub data Columns : ℕ → List ℕ → List (List ℕ) → List (List ℕ) → Type 0 where
  in11 : {n o t : List ℕ} {fs : List (List ℕ)} → Columns 11 t fs (n ∷ o ∷ t ∷ fs)
  in12 : {n o b t : List ℕ} {fs : List (List ℕ)} → Columns 12 t fs (n ∷ o ∷ b ∷ t ∷ fs)

abbrev pub IsFrame : List ℕ → Type 0
IsFrame t = (t ≡ type_rx) ⊎ (t ≡ type_tx)

typed : {v k : ℕ} {r : Record} {t : List ℕ} {fs all : List (List ℕ)} → Columns v t fs all → Row.RowFields v k r all → Row.FromType r (t ∷ fs)
typed in11 (Row.number n (Row.offset is11 o (Row.no_bus b m))) = m
typed in12 (Row.number n (Row.offset is12 o (Row.bus b m))) = m

short : {t : List ℕ} → IsFrame t → length t ≡ 2
short (inl e) = ap length e
short (inr e) = ap length e

frame : {r : Record} {t : List ℕ} {fs : List (List ℕ)} → IsFrame t → Row.FromType r (t ∷ fs) → (sent : ℕ) × Row.FrameId sent r fs
frame h (Row.rx e i) = (0, i)
frame h (Row.tx e i) = (1, i)
frame h (Row.warng e i) = absurd (omega (arith, short h, ap length e))
frame h (Row.error e i) = absurd (omega (arith, short h, ap length e))

-- The record of a frame that was found.
record Frame (out : Record) (fs : List (List ℕ)) : Type 0 where
  sent : ℕ
  id : Row.FrameId sent out fs

framed : {v k : ℕ} {out : Record} {line t : List ℕ} {fs all : List (List ℕ)} → Columns v t fs all → Parted all line → IsFrame t → Row.Row v k out line
    → Frame out fs
framed c p h w =
    let (sent, i) = frame h (typed c (rw (parted_one w.parted p) at w.row)) in
    record { sent = sent; id = i }

-- an ID of eight digits, read as a standard one
pub eight_digits_as_standard : {v k e : ℕ} {out : Record} {line t i : List ℕ} {fs all : List (List ℕ)} (at : ℕ) → Columns v t (i ∷ fs) all → Parted all line
    → IsFrame t → length i ≡ 8 → RowFound v k at line out (Some e) → out.extended ≡ 0 → ⊥
eight_digits_as_standard {out = out} {i = i} {fs = fs} at c p h l q z = go (framed c p h q.0).id
  where
    go : {sent : ℕ} → Row.FrameId sent out (i ∷ fs) → ⊥
    go (Row.frame_id d m) = eight_digits_standard l (rw z at d)

-- other first two bytes of the data than those of the first two fields: the two swapped, the second at the place of the first
pub bytes_in_another_order : {v k e a b : ℕ} {out : Record} {line t i l f g : List ℕ} {fs all : List (List ℕ)} (at : ℕ)
    → Columns v t (i ∷ l ∷ f ∷ g ∷ fs) all → Parted all line → IsFrame t → Hex 2 a f → Hex 2 b g → RowFound v k at line out (Some e)
    → out.«data» / 256 ^ 6 ≢ a * 256 + b → ⊥
bytes_in_another_order {a = a} {b = b} {out = out} {i = i} {l = l} {f = f} {g = g} {fs = fs} at c p h x y q z = z (go (framed c p h q.0).id)
  where
    two : {n sum : ℕ} → n ≤ 8 → Row.ByteFields Row.Nothing (256 ^ 7) n sum (f ∷ g ∷ fs) → sum / 256 ^ 6 ≡ a * 256 + b
    two h (Row.done d) = elim d [ ]
    two {sum = sum} h (Row.byte r (Row.done d) e) = elim d [ ]
    two h (Row.byte r (Row.byte s t d) e) = omega (arith, one_hex r x, one_hex s y, (bytes_sum 5 t refl (omega arith)).0)

    go : {sent : ℕ} → Row.FrameId sent out (i ∷ l ∷ f ∷ g ∷ fs) → out.«data» / 256 ^ 6 ≡ a * 256 + b
    go (Row.frame_id d (Row.frame_length m (Row.data_bytes k o))) = two m.small o

-- LF after the bytes of a window, and the first of them again for another
pub feed_behind_the_bytes : {w : List ℕ} (s a b : List ℕ) → w ≡ s ++ (13 ∷ a) → w ≡ s ++ (10 ∷ b) → ⊥
feed_behind_the_bytes s a b e d =
    omega (arith, ap (λ (l : List ℕ). get_or l (length s) 0) (sym e ∙ d), get_or-append_seam s 13 a 0, get_or-append_seam s 10 b 0)

pub first_byte_in_the_window : {w : List ℕ} (s rest : List ℕ) (i : ℕ) → i < length s → get_or s i 0 ≢ get_or s 0 0 → w ≡ s ++ (13 ∷ rest) → get_or w i 0 ≡ get_or s 0 0 → ⊥
first_byte_in_the_window s rest i h n e d = n (sym (get_or-append s (13 ∷ rest) 0 i h) ∙ ap (λ (l : List ℕ). get_or l i 0) (sym e) ∙ d)
