-- The row as the writer puts it together: the fields before the type, then those from the type on, each behind one blank.
use Prim.Native.Nat.{ℕ, ◌+◌}
use mathlib.Core.Path.{◌≡◌, ap, ◌∙◌}
use mathlib.Core.List.{List, ◌∷◌, ◌++◌, append_assoc}
use native.Mathlib.Omega.{arith}
use lib.ListN.{length, length-append}
use Rattle.base.specs.Spaced.{spaced, joined}
use Rattle.base.proofs.Spaced.{spaced_more, spaced_append, joined_more}
use Rattle.record.specs.declared.Record.{Record}
use Rattle.row.specs.House.{number_text, offset_text, bus_texts, type_text, id_text, data_texts, frame_texts, row_texts, row_text}
use Rattle.row_writer.specs.inner.Parts.{head_texts}

-- The row is what is written.

pub row_cut : (v k : ℕ) (r : Record) → row_text v k r ≡ joined (head_texts v k r) ++ spaced (frame_texts r)
unfolding row_texts
row_cut v k r =
    joined_more _ _
    ∙ ap (λ (t : List ℕ). number_text k ++ t) (spaced_append (offset_text v r.offset ∷ bus_texts v r.bus) (frame_texts r))
    ∙ rw (joined_more, append_assoc)

pub head_cut : (v k : ℕ) (r : Record)
    → joined (head_texts v k r) ≡ number_text k ++ ((32 ∷ offset_text v r.offset) ++ spaced (bus_texts v r.bus))
head_cut v k r = rw (joined_more, spaced_more)

pub frame_cut : (r : Record)
    → spaced (frame_texts r) ≡ (32 ∷ type_text r.kind) ++ ((32 ∷ id_text r) ++ (32 ∷ (48 + r.len) ∷ spaced (data_texts r)))
frame_cut r = rw (spaced_more, spaced_more, spaced_more)

-- Its length is the sum of the parts'.

pub row_length_lem : (v k : ℕ) (r : Record) → length (row_text v k r) ≡ length (joined (head_texts v k r)) + length (spaced (frame_texts r))
row_length_lem v k r = ap length (row_cut v k r) ∙ length-append (joined (head_texts v k r)) (spaced (frame_texts r))

pub head_length_lem : (v k : ℕ) (r : Record)
    → length (joined (head_texts v k r)) ≡ length (number_text k) + (length (32 ∷ offset_text v r.offset) + length (spaced (bus_texts v r.bus)))
head_length_lem v k r =
    let e = length-append (32 ∷ offset_text v r.offset) (spaced (bus_texts v r.bus)) in
    rw (head_cut, length-append) (ap (λ (n : ℕ). length (number_text k) + n) e)

pub frame_length : (r : Record)
    → length (spaced (frame_texts r)) ≡ length (32 ∷ type_text r.kind) + length (32 ∷ id_text r) + 2 + length (spaced (data_texts r))
frame_length r = rw (frame_cut, length-append, length-append) (omega arith)
