-- What a record is: when its fields are well formed, and the twenty bytes that they and a mark are packed as. In words: docs/FORMAT.md, section 8.
use Rattle.std.specs.Prelude.{ℕ, ◌+◌, ◌*◌, ◌-◌, ◌/◌, ◌%◌, ◌^◌, ◌≤◌, ◌<◌, ◌≡◌, ◌⊎◌, List, get_or}
use Rattle.base.specs.Limits.{offset_limit, last_bus}
use Rattle.record.specs.declared.Record.{Record}
use Rattle.record.specs.Bytes.{bytes}

-- The record with these fields: offset, bus, kind, extended, ID, length, data.
abbrev pub record_of : List ℕ → Record
record_of fields =
    record {
      offset = get_or fields 0 0;
      bus = get_or fields 1 0;
      kind = get_or fields 2 0;
      extended = get_or fields 3 0;
      id = get_or fields 4 0;
      len = get_or fields 5 0;
      «data» = get_or fields 6 0;
    }

-- The mark, which stands after these fields.
abbrev pub mark_in : List ℕ → ℕ
mark_in fields = get_or fields 7 0

-- Data byte i of eight, the first being 0.
abbrev pub data_byte : Record → ℕ → ℕ
data_byte r i = r.«data» / 256 ^ (7 - i) % 256

-- A bit stream position of an error frame: 2 to 15, 17, 18, 19, 23 to 28.
pub data Position (p : ℕ) : Type 0 where
  low : 2 ≤ p → p ≤ 15 → Position p
  middle : 17 ≤ p → p ≤ 19 → Position p
  high : 23 ≤ p → p ≤ 28 → Position p

-- The ID of an error frame: 1, 2, 4 or 8.
pub data ErrorId (n : ℕ) : Type 0 where
  one : n ≡ 1 → ErrorId n
  two : n ≡ 2 → ErrorId n
  four : n ≡ 4 → ErrorId n
  eight : n ≡ 8 → ErrorId n

-- A warning has extended 0, ID 0 and length 4.
pub record Warning (r : Record) : Type 0 where
  pub extended : r.extended ≡ 0
  pub id : r.id ≡ 0
  pub len : r.len ≡ 4

-- An error frame has extended 0, ID 1, 2, 4 or 8, length 4, first byte 0 or 1, and a position as its second.
pub record ErrorFrame (r : Record) : Type 0 where
  pub extended : r.extended ≡ 0
  pub id : ErrorId r.id
  pub len : r.len ≡ 4
  pub first : data_byte r 0 ≤ 1
  pub second : Position (data_byte r 1)

-- Every field within the row rules. Kinds: 0 data received, 1 data sent, 2 remote received, 3 remote sent, 4 warning,
-- 5 error frame.
pub record WellFormed (r : Record) : Type 0 where
  pub offset : r.offset ≤ offset_limit
  pub bus : r.bus ≤ last_bus
  pub kind : r.kind ≤ 5
  pub extended : r.extended ≤ 1
  -- at most 7FF unless extended, 29 bits then
  pub standard : r.extended ≡ 0 → r.id ≤ 0x7FF
  pub id : r.id < 2 ^ 29
  pub len : r.len ≤ 8
  pub eight : r.«data» < 256 ^ 8
  -- data bytes past the length are zero
  pub past : r.«data» % 256 ^ (8 - r.len) ≡ 0
  pub remote : (r.kind ≡ 2) ⊎ (r.kind ≡ 3) → r.«data» ≡ 0
  pub warning : r.kind ≡ 4 → Warning r
  pub error : r.kind ≡ 5 → ErrorFrame r

-- The 160 bits as one number: offset 48 bits, bus 5, kind 3, extended 1, ID 29, length 4, data 64, the mark 1, five zero bits.
abbrev pub number : Record → ℕ → ℕ
number r mark =
    (((((((r.offset * 2 ^ 5 + r.bus) * 2 ^ 3 + r.kind) * 2 + r.extended) * 2 ^ 29 + r.id) * 2 ^ 4 + r.len) * 2 ^ 64 + r.«data») * 2 + mark) * 2 ^ 5

-- The bytes s are the packed record r with this mark. A single record may have either.
pub record Packs (r : Record) (mark : ℕ) (s : List ℕ) : Type 0 where
  pub formed : WellFormed r
  pub bit : mark ≤ 1
  pub packed : s ≡ bytes 20 (number r mark)
