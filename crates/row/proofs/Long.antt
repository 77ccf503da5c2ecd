-- A field that is longer than any other is a warning's word, and any other word would do in its place.
use Prim.Native.Nat.{ℕ, ◌≤◌}
use mathlib.Core.Path.{ap, ◌∙◌}
use mathlib.Core.List.{List, [], ◌∷◌}
use native.Mathlib.Omega.{arith}
use lib.ListN.{length, length-append}
use Rattle.digits.specs.Digits.{Hex}
use Rattle.digits.proofs.Theorems.{decimal_few}
use Rattle.fields.specs.Columns.{NumberField, OffsetField, BusField, IdField, standard, long, LengthField, Capital}
use Rattle.fields.specs.Runs.{All}
use Rattle.record.specs.declared.Record.{Record}
use Rattle.row.specs.declared.Part.{Part}
use Rattle.row.specs.declared.Stage.{Stage}
use Rattle.row.specs.declared.Stage.TheVariants as stage
use Rattle.row.specs.Row
use Rattle.row.specs.inner.Sizes.{longest_field, word_bytes}
use Rattle.row.specs.inner.Stages.{continues_at, Continues}
use Rattle.row.proofs.EachVersion.{digits_few}

-- The longest field of each column.

pub number_short : {k : ℕ} {f : List ℕ} → NumberField k f → length f ≤ 7
number_short n =
    let h = n.high in
    let d = decimal_few 5 n.spelled (omega arith) in
    omega (arith, ap length n.bytes ∙ length-append n.digits (41 ∷ []))

offset_short : {w offset : ℕ} {f : List ℕ} → w ≤ 3 → OffsetField w offset f → length f ≤ longest_field
offset_short l o = omega (arith, ap length o.bytes ∙ length-append o.whole (46 ∷ o.part), o.short, o.second.width)

bus_short : {bus : ℕ} {f : List ℕ} → BusField bus f → length f ≤ 2
bus_short b = let h = b.high in decimal_few 1 b.spelled (omega arith)

id_short : {x i : ℕ} {f : List ℕ} → IdField x i f → length f ≤ 8
id_short (standard e h l) = omega (arith, h.width)
id_short (long e h l) = omega (arith, h.width)

hex_short : {w n : ℕ} {f : List ℕ} → w ≤ 8 → Hex w n f → length f ≤ 8
hex_short l h = omega (arith, h.width)

length_short : {n : ℕ} {f : List ℕ} → LengthField n f → length f ≤ 1
length_short l = omega (arith, ap length l.spelled)

type_short : {r : Record} {f : List ℕ} {fs : List (List ℕ)} → Row.FromType r (f ∷ fs) → length f ≤ 5
type_short (Row.rx e h) = omega (arith, ap length e)
type_short (Row.tx e h) = omega (arith, ap length e)
type_short (Row.warng e h) = omega (arith, ap length e)
type_short (Row.error e h) = omega (arith, ap length e)

bytes_short : {place n sum : ℕ} {f : List ℕ} {fs : List (List ℕ)} → Row.ByteFields Row.Nothing place n sum (f ∷ fs) → length f ≤ 2
bytes_short (Row.done h) = elim h [ ]
bytes_short (Row.byte h b e) = omega (arith, h.width)

data_short : {sent : ℕ} {r : Record} {f : List ℕ} {fs : List (List ℕ)} → Row.FrameData sent r (f ∷ fs) → length f ≤ 3
data_short (Row.data_bytes k b) = let h = bytes_short b in omega arith
data_short (Row.remote k d e) = omega (arith, ap length e)

-- Behind the bytes of a warning a long field is a word.
word_for : {place n sum : ℕ} {f : List ℕ} {fs : List (List ℕ)} → word_bytes ≤ length f → Row.ByteFields Row.Words place n sum (f ∷ fs)
    → All Capital f × ((g : List ℕ) → All Capital g → Row.ByteFields Row.Words place n sum (g ∷ fs))
word_for l (Row.done (Row.word a h)) = (a, λ g b. Row.done (Row.word b h))
word_for l (Row.byte h b e) = absurd (omega (arith, h.width))

-- The field is a word, and any other word goes on in its place.
abbrev pub Word : (List (List ℕ) → Record → Type 0) → List ℕ → List (List ℕ) → Record → Type 0
Word C f fs r = All Capital f × ((g : List ℕ) → All Capital g → C (g ∷ fs) r)

module _ (p : Part) {f : List ℕ} (fs : List (List ℕ)) (r : Record) (l : word_bytes ≤ length f) where
  short : (x : Stage) {n : ℕ} → length f ≤ n → n ≤ longest_field → Word (continues_at x p) f fs r
  short x h k = absurd (omega arith)

  second_short : {sum : ℕ} → Row.ErrorSecond sum (f ∷ fs) → length f ≤ 8
  second_short (Row.second h b s q) = hex_short (omega arith) h

  long_at : (x : Stage) → continues_at x p (f ∷ fs) r → Word (continues_at x p) f fs r
  long_at (stage.Offset v) (Row.offset is o b) = short (stage.Offset v) (offset_short (digits_few v) o) (omega arith)
  long_at stage.Bus (e, Row.bus b h) = short stage.Bus (bus_short b) (omega arith)
  long_at stage.TypeColumn (e, h) = short stage.TypeColumn (type_short h) (omega arith)
  long_at stage.Id (e, Row.frame_id i h) = short stage.Id (id_short i) (omega arith)
  long_at stage.Length (e, Row.frame_length n h) = short stage.Length (length_short n) (omega arith)
  long_at stage.Data (e, h) = short stage.Data (data_short h) (omega arith)
  long_at stage.Bytes c = short stage.Bytes (bytes_short c.bytes) (omega arith)
  long_at stage.WarningId (e, Row.warning_id k x h w) = short stage.WarningId (hex_short (omega arith) h) (omega arith)
  long_at stage.WarningLength (e, Row.warning_length n h) = short stage.WarningLength (length_short n) (omega arith)
  long_at stage.WarningBytes c =
      let x = word_for l c.bytes in
      (x.0, λ g a. record { known = c.known; sum = c.sum; bytes = x.1 g a; total = c.total })
  long_at stage.ErrorId (e, Row.error_id k x h i w) = short stage.ErrorId (hex_short (omega arith) h) (omega arith)
  long_at stage.ErrorLength (e, k, Row.error_length m n h) = short stage.ErrorLength (length_short n) (omega arith)
  long_at stage.ErrorFirst (e, Row.first h b s q) = short stage.ErrorFirst (hex_short (omega arith) h) (omega arith)
  long_at stage.ErrorSecond c = short stage.ErrorSecond (second_short c.bytes) (omega arith)

  pub long_field : Continues p (f ∷ fs) r → Word (Continues p) f fs r
  long_field c = long_at p.stage c
