-- What a row of a trace is: a relation between a version, a row number, a record and the fields of a line. It is written column by column
-- from the last to the first, each over the whole record. In words: docs/FORMAT.md, section 6.
use Rattle.std.specs.Prelude.{ℕ, suc, ◌+◌, ◌*◌, ◌/◌, ◌^◌, ◌≤◌, ◌≡◌, Bool, true, false, List, [], ◌∷◌}
use Rattle.digits.specs.Digits.{Hex}
use Rattle.record.specs.declared.Record.{Record}
use Rattle.record.specs.Record.{Position, ErrorId, Warning}
use Rattle.fields.specs.Runs.{All}
use Rattle.fields.specs.Parted.{Parted}
use Rattle.fields.specs.Columns.{NumberField, OffsetField, BusField, IdField, LengthField, Capital, type_rx, type_tx, type_warng, type_error, remote_text}
use Rattle.row.specs.Versions.{Version, fraction_digits, has_bus}

-- Any number of words.
pub data Words : List (List ℕ) → Type 0 where
  none : Words []
  word : {f : List ℕ} {fs : List (List ℕ)} → All Capital f → Words fs → Words (f ∷ fs)

-- No field is left.
pub data Nothing : List (List ℕ) → Type 0 where
  nothing : Nothing []

-- n bytes of two hexadecimal digits, each a field, then what `Then` says. The data is their sum by place value, `place` being that of the
-- first: data bytes past the length are zero.
pub data ByteFields (Then : List (List ℕ) → Type 0) : ℕ → ℕ → ℕ → List (List ℕ) → Type 0 where
  done : {place : ℕ} {fs : List (List ℕ)} → Then fs → ByteFields Then place 0 0 fs
  byte : {place n b u sum : ℕ} {f : List ℕ} {fs : List (List ℕ)} → Hex 2 b f → ByteFields Then (place / 256) n u fs
      → sum ≡ b * place + u → ByteFields Then place (suc n) sum (f ∷ fs)

-- Rx (sent 0) or Tx (sent 1), from the data on: as many bytes as the length says, or the one field `RTR`.
pub data FrameData (sent : ℕ) (r : Record) : List (List ℕ) → Type 0 where
  data_bytes : {fs : List (List ℕ)} → r.kind ≡ sent → ByteFields Nothing (256 ^ 7) r.len r.«data» fs → FrameData sent r fs
  remote : {f : List ℕ} → r.kind ≡ 2 + sent → r.«data» ≡ 0 → f ≡ remote_text → FrameData sent r (f ∷ [])

-- From the length on.
pub data FrameLength (sent : ℕ) (r : Record) : List (List ℕ) → Type 0 where
  frame_length : {f : List ℕ} {fs : List (List ℕ)} → LengthField r.len f → FrameData sent r fs → FrameLength sent r (f ∷ fs)

-- From the ID on.
pub data FrameId (sent : ℕ) (r : Record) : List (List ℕ) → Type 0 where
  frame_id : {f : List ℕ} {fs : List (List ℕ)} → IdField r.extended r.id f → FrameLength sent r fs → FrameId sent r (f ∷ fs)

-- Warng, from the length on: exactly 4, then four bytes, then any number of words, ignored.
pub data WarningLength (r : Record) : List (List ℕ) → Type 0 where
  warning_length : {f : List ℕ} {fs : List (List ℕ)} → LengthField 4 f → ByteFields Words (256 ^ 7) 4 r.«data» fs
      → WarningLength r (f ∷ fs)

-- From the ID on: eight F, of either letter case.
pub data WarningId (r : Record) : List (List ℕ) → Type 0 where
  warning_id : {f : List ℕ} {fs : List (List ℕ)} → r.kind ≡ 4 → Warning r → Hex 8 0xFFFFFFFF f → WarningLength r fs
      → WarningId r (f ∷ fs)

-- Error, from the second byte on: a bit stream position, then two error counters. `sum` is what the bytes from here on add to the data.
pub data ErrorSecond (sum : ℕ) : List (List ℕ) → Type 0 where
  second : {b u : ℕ} {f : List ℕ} {fs : List (List ℕ)} → Hex 2 b f → Position b → ByteFields Nothing (256 ^ 5) 2 u fs
      → sum ≡ b * 256 ^ 6 + u → ErrorSecond sum (f ∷ fs)

-- From the first byte on: 0 or 1, sending or receiving.
pub data ErrorFirst (sum : ℕ) : List (List ℕ) → Type 0 where
  first : {b u : ℕ} {f : List ℕ} {fs : List (List ℕ)} → Hex 2 b f → b ≤ 1 → ErrorSecond u fs → sum ≡ b * 256 ^ 7 + u
      → ErrorFirst sum (f ∷ fs)

-- From the length on: exactly 4.
pub data ErrorLength (r : Record) : List (List ℕ) → Type 0 where
  error_length : {f : List ℕ} {fs : List (List ℕ)} → r.len ≡ 4 → LengthField 4 f → ErrorFirst r.«data» fs → ErrorLength r (f ∷ fs)

-- From the ID on: four digits, 1, 2, 4 or 8.
pub data ErrorIdField (r : Record) : List (List ℕ) → Type 0 where
  error_id : {f : List ℕ} {fs : List (List ℕ)} → r.kind ≡ 5 → r.extended ≡ 0 → Hex 4 r.id f → ErrorId r.id → ErrorLength r fs
      → ErrorIdField r (f ∷ fs)

-- From the type on: `Rx`, `Tx`, `Warng` or `Error`.
pub data FromType (r : Record) : List (List ℕ) → Type 0 where
  rx : {f : List ℕ} {fs : List (List ℕ)} → f ≡ type_rx → FrameId 0 r fs → FromType r (f ∷ fs)
  tx : {f : List ℕ} {fs : List (List ℕ)} → f ≡ type_tx → FrameId 1 r fs → FromType r (f ∷ fs)
  warng : {f : List ℕ} {fs : List (List ℕ)} → f ≡ type_warng → WarningId r fs → FromType r (f ∷ fs)
  error : {f : List ℕ} {fs : List (List ℕ)} → f ≡ type_error → ErrorIdField r fs → FromType r (f ∷ fs)

-- From the bus on, where the version has one; where it has none, the bus is 0.
pub data FromBus (r : Record) : Bool → List (List ℕ) → Type 0 where
  no_bus : {fs : List (List ℕ)} → r.bus ≡ 0 → FromType r fs → FromBus r false fs
  bus : {f : List ℕ} {fs : List (List ℕ)} → BusField r.bus f → FromType r fs → FromBus r true (f ∷ fs)

-- From the offset on: as many digits behind its point as the version says.
pub data FromOffset (r : Record) (v : ℕ) : List (List ℕ) → Type 0 where
  offset : {f : List ℕ} {fs : List (List ℕ)} → Version v → OffsetField (fraction_digits v) r.offset f → FromBus r (has_bus v) fs
      → FromOffset r v (f ∷ fs)

-- The fields are the row with number k and record r in version v.
pub data RowFields (v k : ℕ) (r : Record) : List (List ℕ) → Type 0 where
  number : {f : List ℕ} {fs : List (List ℕ)} → NumberField k f → FromOffset r v fs → RowFields v k r (f ∷ fs)

-- The numbers that a row may have where e is expected: e alone, or, where e is 0, any, as of the first row of a trace.
pub data Expected (e k : ℕ) : Type 0 where
  this : e ≡ k → Expected e k
  any : e ≡ 0 → Expected e k

-- The line is the row with number k and record r in version v.
pub record Row (v k : ℕ) (r : Record) (line : List ℕ) : Type 0 where
  pub fields : List (List ℕ)
  pub parted : Parted fields line
  pub row : RowFields v k r fields
