-- A law for each column of the chain: `X_on`, the field is there and its value stands in the record; `X_off`, it is not; `X_none`, no row goes on
-- with its value.
use Prim.Native.Nat.{ℕ, ◌+◌, ◌*◌, ◌-◌, ◌/◌, ◌^◌, ◌≤◌, ◌<◌}
use Rattle.std.specs.Prelude.{Some, None}
use mathlib.Core.Path.{◌≡◌, refl}
use mathlib.Core.Logic.{◌≢◌}
use mathlib.Core.Bool.{true, false}
use mathlib.Core.List.{List}
use native.Mathlib.Nat.{zero-add}
use Rattle.base.specs.inner.Answers.{Answers}
use Rattle.digits.specs.Digits.{Hex}
use Rattle.fields.specs.declared.Scan.{Scan}
use Rattle.fields.specs.Columns.{NumberField, OffsetField, BusField, LengthField, Capital, remote_text}
use Rattle.fields.specs.Runs.{All}
use Rattle.fields.specs.inner.Window.{Takes, Taken, HexField, TypeField}
use Rattle.record.specs.declared.Record.{Record}
use Rattle.record.specs.Record.{ErrorId, Position}
use Rattle.row.specs.declared.Stage.TheVariants as stage
use Rattle.row.specs.Versions.{Version, fraction_digits, has_bus}
use Rattle.row.specs.Row
use Rattle.row.specs.inner.Ids.{FormOf}
use Rattle.row.specs.inner.Stages.{Stepped, Stuck, Continues}
use Rattle.row.proofs.Columns.{
  behind,
  after_number,
  after_offset,
  after_bus,
  after_length,
  after_id,
  some_type,
  some_id,
  number_barred,
  number_went,
  offset_went,
  offset_bus_went,
  bus_went,
  type_frame,
  type_warning,
  type_error,
  id_barred,
  id_went,
  length_went,
}
use Rattle.row.proofs.Data.{
  one_byte,
  bytes_went,
  bytes_barred,
  warning_bytes_went,
  word_refused,
  word_went,
  remote_went,
  data_barred,
  data_went,
}
use Rattle.row.proofs.Moves.{refused}
use Rattle.row.proofs.Warnings.{
  some_warning_id,
  some_error_id,
  after_warning_length,
  after_error_length,
  after_first,
  after_second,
  warning_id_barred,
  warning_id_went,
  warning_length_barred,
  warning_length_went,
  error_id_barred,
  error_id_went,
  error_length_barred,
  error_length_went,
  error_first_barred,
  error_first_went,
  error_second_barred,
  error_second_went,
}
use Rattle.row_reader.specs.inner.Chain.{seen, known, Ready, GoesRow}
use Rattle.row_reader.specs.inner.Chain.{none as None-found}

-- The row number.
module _ {w : List ℕ} {at k version : ℕ} (out : Record) where
  pub number_off : Takes NumberField w at None → Stuck w at (λ fs r. Row.RowFields version k r fs)
  number_off t = refused t (λ f fs r h. (k, (after_number h).0))

  module _ {s : Scan} (t : Taken NumberField w at s) where
    pub number_none : s.value ≢ k → Stuck w at (λ fs r. Row.RowFields version k r fs)
    number_none f = number_barred t f

    pub number_on : s.value ≡ k → Version version
        → Stepped w at (λ fs r. Row.RowFields version k r fs) (behind s.end (stage.Offset version) 0 0 (seen out 0))
    number_on e v = number_went t _ refl e (v, refl) (λ fs r. refl)

-- A row is of some version.
pub no_version : {v k : ℕ} (w : List ℕ) (at : ℕ) {out : Record} → (Version v → ⊥) → GoesRow v k w at out 0
no_version w at f line l = None-found refl (λ fs r ps c. f (version_of c))
  where
    version_of : {v k : ℕ} {r : Record} {fs : List (List ℕ)} → Row.RowFields v k r fs → Version v
    version_of (Row.number n (Row.offset v o b)) = v

module _ {w : List ℕ} {at : ℕ} {out : Record} where
  -- The offset, with a bus behind it or none.
  module _ {v n : ℕ} (g : Ready (stage.Offset v) 0 0 0 out) (d : n ≡ fraction_digits v) where
    pub offset_off : Takes (OffsetField n) w at None → Stuck w at (Continues (known (stage.Offset v) 0 0 0 out))
    offset_off t = refused (rw d at t) (λ f fs r h. (r.offset, (after_offset h).0))

    module _ {s : Scan} (t : Taken (OffsetField n) w at s) where
      pub offset_on : has_bus v ≡ false
          → Stepped w at (Continues (known (stage.Offset v) 0 0 0 out))
          (behind s.end stage.TypeColumn 0 0 (seen (record out { offset = s.value; bus = 0 }) 0))
      offset_on b = offset_went (known (stage.Offset v) 0 0 0 out) g.good.0 (rw d at t) b _ refl refl refl

      pub offset_bus_on : has_bus v ≡ true
          → Stepped w at (Continues (known (stage.Offset v) 0 0 0 out)) (behind s.end stage.Bus 0 0 (seen (record out { offset = s.value }) 0))
      offset_bus_on b = offset_bus_went (known (stage.Offset v) 0 0 0 out) g.good.0 (rw d at t) b _ refl refl

  -- The bus.
  module _ (g : Ready stage.Bus 0 0 0 out) where
    pub bus_off : Takes BusField w at None → Stuck w at (Continues (known stage.Bus 0 0 0 out))
    bus_off t = refused t (λ f fs r h. (r.bus, (after_bus h.1).0))

    pub bus_on : {s : Scan} → Taken BusField w at s
        → Stepped w at (Continues (known stage.Bus 0 0 0 out)) (behind s.end stage.TypeColumn 0 0 (seen (record out { bus = s.value }) 0))
    bus_on t = bus_went (known stage.Bus 0 0 0 out) _ refl refl refl t

  -- `Rx`, `Tx`, `Warng` or `Error`.
  module _ (g : Ready stage.TypeColumn 0 0 0 out) where
    pub type_off : Takes TypeField w at None → Stuck w at (Continues (known stage.TypeColumn 0 0 0 out))
    type_off t = refused t (λ f fs r h. some_type h.1)

    module _ {s : Scan} (t : Taken TypeField w at s) where
      pub frame_on : s.value ≤ 1
          → Stepped w at (Continues (known stage.TypeColumn 0 0 0 out)) (behind s.end stage.Id 0 0 (seen (record out { kind = s.value }) 0))
      frame_on l = type_frame (known stage.TypeColumn 0 0 0 out) t _ l refl refl refl

      pub warning_on : s.value ≡ 2
          → Stepped w at (Continues (known stage.TypeColumn 0 0 0 out)) (behind s.end stage.WarningId 0 0 (seen out 0))
      warning_on e = type_warning (known stage.TypeColumn 0 0 0 out) t e refl

      pub error_on : 2 < s.value
          → Stepped w at (Continues (known stage.TypeColumn 0 0 0 out)) (behind s.end stage.ErrorId 0 0 (seen out 0))
      error_on l = type_error (known stage.TypeColumn 0 0 0 out) t l refl

  -- The ID of a frame.
  module _ (g : Ready stage.Id 0 0 0 out) where
    pub id_off : Takes HexField w at None → Stuck w at (Continues (known stage.Id 0 0 0 out))
    id_off t = refused t (λ f fs r h. some_id (after_id h.1).0)

    module _ {s : Scan} (t : Taken HexField w at s) where
      pub id_none : Answers (FormOf s.value (s.end - at)) None → Stuck w at (Continues (known stage.Id 0 0 0 out))
      id_none f = id_barred (known stage.Id 0 0 0 out) t f

      pub id_on : {x : ℕ} → FormOf s.value (s.end - at) x
          → Stepped w at (Continues (known stage.Id 0 0 0 out))
          (behind s.end stage.Length 0 0 (seen (record out { extended = x; id = s.value }) 0))
      id_on f = id_went (known stage.Id 0 0 0 out) t _ g.good.0 refl refl refl refl f

  -- The length of a frame.
  module _ (g : Ready stage.Length 0 0 0 out) where
    pub length_off : Takes LengthField w at None → Stuck w at (Continues (known stage.Length 0 0 0 out))
    length_off t = refused t (λ f fs r h. (r.len, (after_length h.1).0))

    pub length_on : {s : Scan} → Taken LengthField w at s
        → Stepped w at (Continues (known stage.Length 0 0 0 out))
        (behind s.end stage.Data s.value (256 ^ 7) (seen (record out { len = s.value }) 0))
    length_on t = length_went (known stage.Length 0 0 0 out) _ g.good.0 refl refl refl refl t

  -- The data of a frame: `RTR`, or the first byte.
  module _ {left : ℕ} (g : Ready stage.Data left (256 ^ 7) 0 out) where
    pub remote_on : {s : Scan} → Taken (λ v f. f ≡ remote_text) w at s
        → Stepped w at (Continues (known stage.Data left (256 ^ 7) 0 out)) (behind s.end stage.Bytes 0 0 (seen (record out { kind = out.kind + 2 }) 0))
    remote_on t = remote_went (known stage.Data left (256 ^ 7) 0 out) g.good _ refl refl refl t

    module _ (t : Takes (λ v f. f ≡ remote_text) w at None) where
      pub data_none : left ≡ 0 → Stuck w at (Continues (known stage.Data left (256 ^ 7) 0 out))
      data_none n = data_barred (known stage.Data left (256 ^ 7) 0 out) g.good t n

      pub data_off : left ≢ 0 → Takes (Hex 2) w at None → Stuck w at (Continues (known stage.Data left (256 ^ 7) 0 out))
      data_off n f = data_went w at (known stage.Data left (256 ^ 7) 0 out) None n g.good t f

      pub data_on : {b : Scan} → left ≢ 0 → Taken (Hex 2) w at b
          → Stepped w at (Continues (known stage.Data left (256 ^ 7) 0 out))
          (behind b.end stage.Bytes (left - 1) (256 ^ 6) (seen out (b.value * 256 ^ 7)))
      data_on n b = data_went w at (known stage.Data left (256 ^ 7) 0 out) (Some _) n g.good t (one_byte b refl (rw zero-add refl))

  -- A data byte, if one is left.
  module _ {left place word : ℕ} (g : Ready stage.Bytes left place word out) where
    pub byte_none : left ≡ 0 → Stuck w at (Continues (known stage.Bytes left place word out))
    byte_none n = bytes_barred (known stage.Bytes left place word out) n

    pub byte_off : left ≢ 0 → Takes (Hex 2) w at None → Stuck w at (Continues (known stage.Bytes left place word out))
    byte_off n f = bytes_went w at (known stage.Bytes left place word out) None n g.good f

    pub byte_on : {s : Scan} → left ≢ 0 → Taken (Hex 2) w at s
        → Stepped w at (Continues (known stage.Bytes left place word out))
        (behind s.end stage.Bytes (left - 1) (place / 256) (seen out (word + s.value * place)))
    byte_on n t = bytes_went w at (known stage.Bytes left place word out) (Some _) n g.good (one_byte t refl refl)

  -- The eight F of a warning.
  module _ (g : Ready stage.WarningId 0 0 0 out) where
    pub warning_id_off : Takes HexField w at None → Stuck w at (Continues (known stage.WarningId 0 0 0 out))
    warning_id_off t = refused t (some_warning_id (known stage.WarningId 0 0 0 out))

    module _ {s : Scan} (t : Taken HexField w at s) where
      pub warning_id_none : (s.end - at ≡ 8 → s.value ≡ 0xFFFFFFFF → ⊥) → Stuck w at (Continues (known stage.WarningId 0 0 0 out))
      warning_id_none f = warning_id_barred (known stage.WarningId 0 0 0 out) f t

      pub warning_id_on : s.end - at ≡ 8 → s.value ≡ 0xFFFFFFFF
          → Stepped w at (Continues (known stage.WarningId 0 0 0 out))
          (behind s.end stage.WarningLength 0 0 (seen (record out { kind = 4; extended = 0; id = 0; len = 4 }) 0))
      warning_id_on e v =
          warning_id_went (known stage.WarningId 0 0 0 out) _ refl refl (record { extended = refl; id = refl; len = refl }) refl e v t

  -- The length of a warning.
  module _ (g : Ready stage.WarningLength 0 0 0 out) where
    pub warning_length_off : Takes LengthField w at None → Stuck w at (Continues (known stage.WarningLength 0 0 0 out))
    warning_length_off t = refused t (λ f fs r h. (4, (after_warning_length h.1).0))

    module _ {s : Scan} (t : Taken LengthField w at s) where
      pub warning_length_none : s.value ≢ 4 → Stuck w at (Continues (known stage.WarningLength 0 0 0 out))
      warning_length_none f = warning_length_barred (known stage.WarningLength 0 0 0 out) f t

      pub warning_length_on : s.value ≡ 4
          → Stepped w at (Continues (known stage.WarningLength 0 0 0 out)) (behind s.end stage.WarningBytes 4 (256 ^ 7) (seen out 0))
      warning_length_on e = warning_length_went (known stage.WarningLength 0 0 0 out) refl e t

  -- A data byte of a warning, and behind the last any word.
  module _ {left place word : ℕ} (g : Ready stage.WarningBytes left place word out) where
    pub word_off : left ≡ 0 → Takes (λ v f. All Capital f) w at None → Stuck w at (Continues (known stage.WarningBytes left place word out))
    word_off n t = word_refused (known stage.WarningBytes left place word out) n t

    pub word_on : {s : Scan} → left ≡ 0 → Taken (λ v f. All Capital f) w at s
        → Stepped w at (Continues (known stage.WarningBytes left place word out)) (behind s.end stage.WarningBytes 0 place (seen out word))
    word_on n t = word_went (known stage.WarningBytes left place word out) n g.good t

    pub warning_byte_off : left ≢ 0 → Takes (Hex 2) w at None → Stuck w at (Continues (known stage.WarningBytes left place word out))
    warning_byte_off n f = warning_bytes_went w at (known stage.WarningBytes left place word out) None n g.good f

    pub warning_byte_on : {s : Scan} → left ≢ 0 → Taken (Hex 2) w at s
        → Stepped w at (Continues (known stage.WarningBytes left place word out))
        (behind s.end stage.WarningBytes (left - 1) (place / 256) (seen out (word + s.value * place)))
    warning_byte_on n t = warning_bytes_went w at (known stage.WarningBytes left place word out) (Some _) n g.good (one_byte t refl refl)

  -- The ID of an error frame.
  module _ (g : Ready stage.ErrorId 0 0 0 out) where
    pub error_id_off : Takes HexField w at None → Stuck w at (Continues (known stage.ErrorId 0 0 0 out))
    error_id_off t = refused t (some_error_id (known stage.ErrorId 0 0 0 out))

    module _ {s : Scan} (t : Taken HexField w at s) where
      pub error_id_none : (s.end - at ≡ 4 → ErrorId s.value → ⊥) → Stuck w at (Continues (known stage.ErrorId 0 0 0 out))
      error_id_none f = error_id_barred (known stage.ErrorId 0 0 0 out) f t

      pub error_id_on : s.end - at ≡ 4 → ErrorId s.value
          → Stepped w at (Continues (known stage.ErrorId 0 0 0 out))
          (behind s.end stage.ErrorLength 0 0 (seen (record out { extended = 0; id = s.value }) 0))
      error_id_on e v = error_id_went (known stage.ErrorId 0 0 0 out) _ refl refl refl refl e v t

  -- The length of an error frame.
  module _ (g : Ready stage.ErrorLength 0 0 0 out) where
    pub error_length_off : Takes LengthField w at None → Stuck w at (Continues (known stage.ErrorLength 0 0 0 out))
    error_length_off t = refused t (λ f fs r h. (4, (after_error_length h.2).1))

    module _ {s : Scan} (t : Taken LengthField w at s) where
      pub error_length_none : s.value ≢ 4 → Stuck w at (Continues (known stage.ErrorLength 0 0 0 out))
      error_length_none f = error_length_barred (known stage.ErrorLength 0 0 0 out) f t

      pub error_length_on : s.value ≡ 4
          → Stepped w at (Continues (known stage.ErrorLength 0 0 0 out))
          (behind s.end stage.ErrorFirst 0 0 (seen (record out { kind = 5; len = 4 }) 0))
      error_length_on e = error_length_went (known stage.ErrorLength 0 0 0 out) _ refl refl refl refl e t

  -- The first byte of an error frame.
  module _ (g : Ready stage.ErrorFirst 0 0 0 out) where
    pub first_off : Takes (Hex 2) w at None → Stuck w at (Continues (known stage.ErrorFirst 0 0 0 out))
    first_off t = refused t (λ f fs r h. let a = after_first h.1 in (a.0, a.2))

    module _ {s : Scan} (t : Taken (Hex 2) w at s) where
      pub first_none : 1 < s.value → Stuck w at (Continues (known stage.ErrorFirst 0 0 0 out))
      first_none l = error_first_barred (known stage.ErrorFirst 0 0 0 out) l t

      pub first_on : s.value ≤ 1
          → Stepped w at (Continues (known stage.ErrorFirst 0 0 0 out)) (behind s.end stage.ErrorSecond 0 0 (seen out (s.value * 256 ^ 7)))
      first_on l = error_first_went (known stage.ErrorFirst 0 0 0 out) _ refl refl l t

  -- The second byte of an error frame: a position.
  module _ {word : ℕ} (g : Ready stage.ErrorSecond 0 0 word out) where
    pub second_off : Takes (Hex 2) w at None → Stuck w at (Continues (known stage.ErrorSecond 0 0 word out))
    second_off t = refused t (λ f fs r h. let a = after_second h.bytes in (a.0, a.2))

    module _ {s : Scan} (t : Taken (Hex 2) w at s) where
      pub second_none : (Position s.value → ⊥) → Stuck w at (Continues (known stage.ErrorSecond 0 0 word out))
      second_none f = error_second_barred (known stage.ErrorSecond 0 0 word out) f t

      pub second_on : Position s.value
          → Stepped w at (Continues (known stage.ErrorSecond 0 0 word out))
          (behind s.end stage.Bytes 2 (256 ^ 5) (seen out (word + s.value * 256 ^ 6)))
      second_on p = error_second_went (known stage.ErrorSecond 0 0 word out) _ refl refl g.good p t
