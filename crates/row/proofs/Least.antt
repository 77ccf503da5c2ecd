-- How short a row can be: the least bytes of each column, and the blanks between them.
use Prim.Native.Nat.{ℕ, ◌+◌, ◌≤◌}
use mathlib.Core.Path.{ap, ◌∙◌}
use mathlib.Core.Bool.{Bool}
use mathlib.Core.List.{List, [], ◌∷◌}
use native.Mathlib.Omega.{arith}
use lib.ListN.{length, length-append}
use Rattle.fields.specs.Runs.{All, more, Stops, halt}
use Rattle.fields.specs.Parted.{NoBlank, Parted, none, blank_first, field}
use Rattle.fields.specs.Columns.{NumberField, OffsetField, IdField, standard, long, LengthField}
use Rattle.record.specs.declared.Record.{Record}
use Rattle.row.specs.Row
use Rattle.row.proofs.EachVersion.{digits_some}

-- The bytes of the fields, and a blank behind each.
abbrev pub size : List (List ℕ) → ℕ
size [] = 0
size (f ∷ fs) = length f + 1 + size fs

solid : {b : ℕ} {f s : List ℕ} → All NoBlank (b ∷ f) → Stops NoBlank (b ∷ s) → ⊥
solid (more n a) (halt h) = h n

-- A line has room for its fields with a blank behind each but the last. A blank in front makes up for that one, and an empty line has no
-- field.
pub parted_size : {fs : List (List ℕ)} {line : List ℕ} → Parted fs line
    → (size fs ≤ length line + 1) × (Stops NoBlank line → size fs ≤ length line)
parted_size none = (omega arith, λ z. omega arith)
parted_size (blank_first q) = let h = parted_size q in (omega (arith, h.0), λ z. omega (arith, h.0))
parted_size (field {b = b} {f = f} {s = s} a x e q) =
    let h = (parted_size q).1 x in
    (omega (arith, ap length e ∙ length-append (b ∷ f) s), λ z. absurd (solid a (rw e at z)))

-- How short a column can be.

number_size : {k : ℕ} {f : List ℕ} → NumberField k f → 2 ≤ length f
number_size p = omega (arith, ap length p.bytes ∙ length-append p.digits (41 ∷ []), p.spelled.some)

offset_size : {w offset : ℕ} {f : List ℕ} → 1 ≤ w → OffsetField w offset f → 3 ≤ length f
offset_size l p =
    omega (arith, ap length p.bytes ∙ length-append p.whole (46 ∷ p.part), p.first.some, p.second.width)

id_size : {extended id : ℕ} {f : List ℕ} → IdField extended id f → 4 ≤ length f
id_size (standard e h l) = omega (arith, h.width)
id_size (long e h l) = omega (arith, h.width)

pub length_size : {len : ℕ} {f : List ℕ} → LengthField len f → 1 ≤ length f
length_size p = omega (arith, ap length p.spelled)

-- From the ID on, from the type on, and from the bus on.

module _ {r : Record} where
  frame : {sent : ℕ} {fs : List (List ℕ)} → Row.FrameId sent r fs → 7 ≤ size fs
  frame (Row.frame_id i (Row.frame_length l d)) = omega (arith, id_size i, length_size l)

  type : {fs : List (List ℕ)} → Row.FromType r fs → 10 ≤ size fs
  type (Row.rx e h) = omega (arith, ap length e, frame h)
  type (Row.tx e h) = omega (arith, ap length e, frame h)
  type (Row.warng e (Row.warning_id k x h (Row.warning_length l b))) = omega (arith, ap length e, h.width, length_size l)
  type (Row.error e (Row.error_id k x h i (Row.error_length n l b))) = omega (arith, ap length e, h.width, length_size l)

  bus : {x : Bool} {fs : List (List ℕ)} → Row.FromBus r x fs → 10 ≤ size fs
  bus (Row.no_bus b h) = type h
  bus (Row.bus b h) = omega (arith, type h)

-- The fields of a row, with a blank behind each.
fields_size : {v k : ℕ} {r : Record} {fs : List (List ℕ)} → Row.RowFields v k r fs → 17 ≤ size fs
fields_size {v} (Row.number n (Row.offset x o b)) = omega (arith, number_size n, offset_size (digits_some v) o, bus b)

-- A row has at least 16 bytes: `1) 0.0 Rx 0000 0`.
pub row_least : {v k : ℕ} {r : Record} {line : List ℕ} → Row.Row v k r line → 16 ≤ length line
row_least a = omega (arith, fields_size a.row, (parted_size a.parted).0)
