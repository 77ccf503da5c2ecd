-- What stands behind the stamp, part by part from the last to the first, each over the whole record; and what the readers of these parts promise each
-- other. No public promise cites this file.
use Rattle.std.specs.Prelude.{Option, Some, None, ℕ, ◌+◌, ◌^◌, ◌≡◌, List, [], ◌∷◌, ◌++◌, length, drop}
use Rattle.base.specs.Text.{text}
use Rattle.record.specs.declared.Record.{Record}
use Rattle.fields.specs.Parted.{Parted}
use Rattle.fields.specs.Columns.{LengthField}
use Rattle.fields.specs.inner.Window.{LineBeforeCr}
use Rattle.row.specs.Row.{Nothing, ByteFields}
use Rattle.ascii_line_reader.specs.declared.FrameRead.{FrameRead}
use Rattle.ascii_line_reader.specs.AsciiLine.{Tight}
use Rattle.ascii_line_reader.specs.inner.Columns.{TypePart, ChannelPart, DirectionPart, IdPart}

-- From the length on.
pub data FromLength (r : Record) : List (List ℕ) → Type 0 where
  from_length : {f : List ℕ} {fs : List (List ℕ)} → LengthField r.len f → ByteFields Nothing (256 ^ 7) r.len r.«data» fs → FromLength r (f ∷ fs)

-- From the ID on.
pub data FromId (r : Record) : List (List ℕ) → Type 0 where
  from_id : {f : List ℕ} {fs : List (List ℕ)} → IdPart r.extended r.id f → FromLength r fs → FromId r (f ∷ fs)

-- From the direction on.
pub data FromDirection (r : Record) : List (List ℕ) → Type 0 where
  from_direction : {f : List ℕ} {fs : List (List ℕ)} → DirectionPart r.kind f → FromId r fs → FromDirection r (f ∷ fs)

-- From `EXTENDED` on, which stands for an extended ID alone.
pub data FromExtended (r : Record) : List (List ℕ) → Type 0 where
  no_word : {fs : List (List ℕ)} → r.extended ≡ 0 → FromDirection r fs → FromExtended r fs
  word : {f : List ℕ} {fs : List (List ℕ)} → r.extended ≡ 1 → f ≡ text "EXTENDED" → FromDirection r fs → FromExtended r (f ∷ fs)

-- From the bar on.
pub data FromBar (r : Record) : List (List ℕ) → Type 0 where
  from_bar : {f : List ℕ} {fs : List (List ℕ)} → f ≡ text "|" → FromExtended r fs → FromBar r (f ∷ fs)

-- From the channel on.
pub data FromChannel (r : Record) : List (List ℕ) → Type 0 where
  from_channel : {f : List ℕ} {fs : List (List ℕ)} → ChannelPart r.bus f → FromBar r fs → FromChannel r (f ∷ fs)

-- From the type on.
pub data FromType (r : Record) : List (List ℕ) → Type 0 where
  from_type : {f : List ℕ} {fs : List (List ℕ)} → TypePart r.extended f → FromChannel r fs → FromType r (f ∷ fs)

-- The same of the records whose first values are known: extended, bus, kind, ID, length.

abbrev pub ChannelOf : ℕ → Record → List (List ℕ) → Type 0
ChannelOf extended r fs = (r.extended ∷ [] ≡ extended ∷ []) × FromChannel r fs

abbrev pub BarOf : ℕ → ℕ → Record → List (List ℕ) → Type 0
BarOf extended bus r fs = (r.extended ∷ r.bus ∷ [] ≡ extended ∷ bus ∷ []) × FromBar r fs

abbrev pub ExtendedOf : ℕ → ℕ → Record → List (List ℕ) → Type 0
ExtendedOf extended bus r fs = (r.extended ∷ r.bus ∷ [] ≡ extended ∷ bus ∷ []) × FromExtended r fs

abbrev pub DirectionOf : ℕ → ℕ → Record → List (List ℕ) → Type 0
DirectionOf extended bus r fs = (r.extended ∷ r.bus ∷ [] ≡ extended ∷ bus ∷ []) × FromDirection r fs

abbrev pub IdOf : ℕ → ℕ → ℕ → Record → List (List ℕ) → Type 0
IdOf extended bus kind r fs = (r.extended ∷ r.bus ∷ r.kind ∷ [] ≡ extended ∷ bus ∷ kind ∷ []) × FromId r fs

abbrev pub LengthOf : ℕ → ℕ → ℕ → ℕ → Record → List (List ℕ) → Type 0
LengthOf extended bus kind id r fs = (r.extended ∷ r.bus ∷ r.kind ∷ r.id ∷ [] ≡ extended ∷ bus ∷ kind ∷ id ∷ []) × FromLength r fs

-- `left` bytes more, the first with this place value: what they add to the sum is the data.
abbrev pub DataOf : ℕ → ℕ → ℕ → ℕ → ℕ → ℕ → ℕ → ℕ → Record → List (List ℕ) → Type 0
DataOf extended bus kind id len place left sum r fs =
    (r.extended ∷ r.bus ∷ r.kind ∷ r.id ∷ r.len ∷ [] ≡ extended ∷ bus ∷ kind ∷ id ∷ len ∷ [])
    × ((u : ℕ) × (r.«data» ≡ sum + u) × ByteFields Nothing place left u fs)

-- What is left of a line, behind its parts up to a place of a window: the line starts at `from`, and no blank stands before that place.
pub record Left (line w : List ℕ) (from at : ℕ) (fs : List (List ℕ)) : Type 0 where
  pub front : List ℕ
  pub rest : List ℕ
  pub whole : line ≡ front ++ rest
  pub tight : Tight front
  pub place : at ≡ from + length front
  pub here : LineBeforeCr rest (drop at w)
  pub parted : Parted fs rest

-- These parts of a line are this record, by C, and the line ends there.
pub record FrameHere (C : Record → List (List ℕ) → Type 0) (line : List ℕ) (from : ℕ) (fs : List (List ℕ)) (x : FrameRead) : Type 0 where
  pub is : C x.r fs
  pub tight : Tight line
  pub end : x.end ≡ from + length line

-- So they are, or they are no record.
abbrev pub Found : (Record → List (List ℕ) → Type 0) → List ℕ → ℕ → List (List ℕ) → Option FrameRead → Type 0
Found C line from fs (Some x) = FrameHere C line from fs x
Found C line from fs None = Tight line → (r : Record) → C r fs → ⊥

-- Reading on at a place of a window gives x.
abbrev pub Leads : (Record → List (List ℕ) → Type 0) → List ℕ → ℕ → Option FrameRead → Type 0
Leads C w at x = (line : List ℕ) (from : ℕ) (fs : List (List ℕ)) → Left line w from at fs → Found C line from fs x
