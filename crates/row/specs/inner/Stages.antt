-- The stages of the row reader: what a state knows of the record, and what a field, or the end of the line, makes of it.
use Rattle.std.specs.Prelude.{Option, Some, None, ℕ, ◌+◌, ◌*◌, ◌-◌, ◌/◌, ◌^◌, ◌≤◌, ◌≡◌, Bool, true, false, List, [], ◌∷◌, length, drop}
use Rattle.digits.specs.Digits.{Hex}
use Rattle.record.specs.declared.Record.{Record}
use Rattle.row.specs.declared.Stage.{Stage}
use Rattle.row.specs.declared.Stage.TheVariants as stage
use Rattle.row.specs.declared.Part.{Part}
use Rattle.row.specs.declared.Step.{Step}
use Rattle.fields.specs.inner.Window.{FieldAt}
use Rattle.row.specs.Versions.{Version}
use Rattle.row.specs.Row.{
  FromOffset,
  FromBus,
  FromType,
  FrameId,
  FrameLength,
  FrameData,
  WarningId,
  WarningLength,
  ErrorIdField,
  ErrorLength,
  ErrorFirst,
  ErrorSecond,
  ByteFields,
  Words,
  Nothing,
}

-- The state: what the fields read so far leave of a record to be told.

-- offset and bus are known
abbrev pub known2 : Record → List ℕ
known2 r = r.offset ∷ r.bus ∷ []

-- and the ID
abbrev pub known4 : Record → List ℕ
known4 r = r.offset ∷ r.bus ∷ r.extended ∷ r.id ∷ []

-- and the length
abbrev pub known5 : Record → List ℕ
known5 r = r.offset ∷ r.bus ∷ r.extended ∷ r.id ∷ r.len ∷ []

-- and the kind: all but the data
abbrev pub known6 : Record → List ℕ
known6 r = r.offset ∷ r.bus ∷ r.extended ∷ r.id ∷ r.len ∷ r.kind ∷ []

-- The record with so much more data.
abbrev pub plus : Record → ℕ → Record
plus r n =
    record { offset = r.offset; bus = r.bus; kind = r.kind; extended = r.extended; id = r.id; len = r.len; «data» = r.«data» + n }

-- Some bytes are read; those left add what is missing of the data.
pub record Gathers (Then : List (List ℕ) → Type 0) (p : Part) (fs : List (List ℕ)) (r : Record) : Type 0 where
  pub known : known6 r ≡ known6 p.r
  pub sum : ℕ
  pub bytes : ByteFields Then p.place p.left sum fs
  pub total : r.«data» ≡ p.r.«data» + sum

-- The same where the second byte of an error frame is next.
pub record GathersSecond (p : Part) (fs : List (List ℕ)) (r : Record) : Type 0 where
  pub known : known6 r ≡ known6 p.r
  pub sum : ℕ
  pub bytes : ErrorSecond sum fs
  pub total : r.«data» ≡ p.r.«data» + sum

abbrev pub continues_at : Stage → Part → List (List ℕ) → Record → Type 0
continues_at (stage.Offset v) p fs r = FromOffset r v fs
continues_at stage.Bus p fs r = (r.offset ≡ p.r.offset) × FromBus r true fs
continues_at stage.TypeColumn p fs r = (known2 r ≡ known2 p.r) × FromType r fs
continues_at stage.Id p fs r = (known2 r ≡ known2 p.r) × FrameId p.r.kind r fs
continues_at stage.Length p fs r = (known4 r ≡ known4 p.r) × FrameLength p.r.kind r fs
continues_at stage.Data p fs r = (known5 r ≡ known5 p.r) × FrameData p.r.kind r fs
continues_at stage.Bytes p fs r = Gathers Nothing p fs r
continues_at stage.WarningId p fs r = (known2 r ≡ known2 p.r) × WarningId r fs
continues_at stage.WarningLength p fs r = (known6 r ≡ known6 p.r) × WarningLength r fs
continues_at stage.WarningBytes p fs r = Gathers Words p fs r
continues_at stage.ErrorId p fs r = (known2 r ≡ known2 p.r) × ErrorIdField r fs
continues_at stage.ErrorLength p fs r = (known4 r ≡ known4 p.r) × (r.kind ≡ 5) × ErrorLength r fs
continues_at stage.ErrorFirst p fs r = (known6 r ≡ known6 p.r) × ErrorFirst r.«data» fs
continues_at stage.ErrorSecond p fs r = GathersSecond p fs r

-- The fields fs, read on from the state p, end in r.
abbrev pub Continues : Part → List (List ℕ) → Record → Type 0
Continues p fs r = continues_at p.stage p fs r

-- What holds of every state that is reached: the version is one, and the data so far leaves room for the bytes that are left.
abbrev pub good_at : Stage → Part → Type 0
good_at (stage.Offset v) p = Version v × (p.r.«data» ≡ 0)
good_at stage.Bus p = p.r.«data» ≡ 0
good_at stage.TypeColumn p = p.r.«data» ≡ 0
good_at stage.Id p = (p.r.kind ≤ 1) × (p.r.«data» ≡ 0)
good_at stage.Length p = (p.r.kind ≤ 1) × (p.r.«data» ≡ 0)
good_at stage.Data p = (p.r.kind ≤ 1) × (p.r.«data» ≡ 0) × (p.left ≡ p.r.len) × (p.place ≡ 256 ^ 7)
good_at stage.Bytes p = p.r.«data» + 256 * p.place ≤ 256 ^ 8
good_at stage.WarningId p = p.r.«data» ≡ 0
good_at stage.WarningLength p = p.r.«data» ≡ 0
good_at stage.WarningBytes p = p.r.«data» + 256 * p.place ≤ 256 ^ 8
good_at stage.ErrorId p = p.r.«data» ≡ 0
good_at stage.ErrorLength p = p.r.«data» ≡ 0
good_at stage.ErrorFirst p = p.r.«data» ≡ 0
good_at stage.ErrorSecond p = p.r.«data» ≤ 256 ^ 7

abbrev pub Good : Part → Type 0
Good p = good_at p.stage p

-- A field at `at`, where C says which fields end in which record: t is the place after it, and the rows that go on with it are those that go on from
-- the state there.
pub record Stepped (w : List ℕ) (at : ℕ) (C : List (List ℕ) → Record → Type 0) (t : Step) : Type 0 where
  pub field : List ℕ
  pub there : FieldAt field (drop t.at w) (drop at w)
  pub place : t.at ≡ at + length field
  pub good : Good t.part
  pub onto : (fs : List (List ℕ)) (r : Record) → C (field ∷ fs) r → Continues t.part fs r
  pub back : (fs : List (List ℕ)) (r : Record) → Continues t.part fs r → C (field ∷ fs) r

-- No row goes on with the field there.
pub record Stuck (w : List ℕ) (at : ℕ) (C : List (List ℕ) → Record → Type 0) : Type 0 where
  pub none : (f rest : List ℕ) → FieldAt f rest (drop at w) → (fs : List (List ℕ)) (r : Record) → C (f ∷ fs) r → ⊥

-- Reading one field at `at`: rows go on with it, as t says; or none does.
abbrev pub Steps : List ℕ → ℕ → (List (List ℕ) → Record → Type 0) → Option Step → Type 0
Steps w at C (Some t) = Stepped w at C t
Steps w at C None = Stuck w at C

-- A data byte at `at`: the next of p's bytes, and the stage after it is `next`.
pub record OneByte (w : List ℕ) (at : ℕ) (next : Stage) (p : Part) (t : Step) : Type 0 where
  pub field : List ℕ
  pub value : ℕ
  pub there : FieldAt field (drop t.at w) (drop at w)
  pub place : t.at ≡ at + length field
  pub has : Hex 2 value field
  pub part : t.part ≡ record { stage = next; left = p.left - 1; place = p.place / 256; r = plus p.r (value * p.place) }

-- Reading one data byte at `at`: it is the next of p's, or none stands there.
abbrev pub Byted : List ℕ → ℕ → Stage → Part → Option Step → Type 0
Byted w at next p (Some t) = OneByte w at next p t
Byted w at next p None = (f rest : List ℕ) → FieldAt f rest (drop at w) → (v : ℕ) → Hex 2 v f → ⊥

-- Where the line ends at stage x: the record is whole, or too little was read.
pub data EndsRow (x : Stage) (p : Part) : Bool → Type 0 where
  whole : continues_at x p [] p.r → ((r : Record) → continues_at x p [] r → r ≡ p.r) → EndsRow x p true
  early : ((r : Record) → continues_at x p [] r → ⊥) → EndsRow x p false
