-- What `read_ascii` promises for every text and every output. In words: docs/FORMAT.md, section 15.
use Rattle.std.specs.Prelude.{Result, Ok, Err, ℕ, ◌+◌, ◌*◌, ◌≤◌, ◌<◌, ◌≡◌, ◌≢◌, List, [], ◌∷◌, ◌++◌, length, drop}
use Rattle.base.specs.Limits.{offset_limit}
use Rattle.clock.specs.declared.DateTime.{DateTime}
use Rattle.record.specs.declared.Record.{Record}
use Rattle.records.specs.Records.{packed}
use Rattle.fields.specs.Columns.{last_number}
use Rattle.trace.specs.Trace.{size_limit}
use Rattle.ascii_line_reader.specs.AsciiLine.{instant, AsciiLine}
use Rattle.ascii_reader.specs.declared.AsciiRead.{AsciiRead}
use Rattle.base.specs.declared.refusal.Refused.{Refused}
use Rattle.base.specs.Refusal.{number_of}
use Rattle.ascii_reader.specs.Text.{EndedLine, SpellsAscii}

-- Number, place, start and records for each answer.
abbrev pub ascii_done : ℕ → ℕ → List ℕ
ascii_done start records = 0 ∷ 0 ∷ start ∷ records ∷ []

abbrev pub ascii_refused : ℕ → ℕ → List ℕ
ascii_refused number place = number ∷ place ∷ 0 ∷ 0 ∷ []

abbrev pub read_ascii_numbers : Result AsciiRead Refused → List ℕ
read_ascii_numbers (Ok a) = ascii_done a.start a.records
read_ascii_numbers (Err e) = ascii_refused (number_of e.reason) e.place

-- An answer that is a refusal has a number other than 0: the empty text, which has start 0 and no records, is not refused.
pub data Numbered : Result AsciiRead Refused → Type 0 where
  is_done : {a : AsciiRead} → Numbered (Ok a)
  is_refused : {e : Refused} → 0 < number_of e.reason → Numbered (Err e)

-- The text is lines that spell this start and these records, and then rest.
pub record ReadUpTo (start : ℕ) (rs : List Record) (rest text : List ℕ) : Type 0 where
  pub front : List ℕ
  pub whole : text ≡ front ++ rest
  pub spelled : SpellsAscii start rs front

-- The next line is that of this stamp.
pub record NextStamp (s : DateTime) (rest : List ℕ) : Type 0 where
  pub line : List ℕ
  pub after : List ℕ
  pub there : EndedLine line after rest
  pub r : Record
  pub is : AsciiLine s r line

-- The text is refused with this number at this line, the first behind lines that spell something: 31, what is left is no such line, too long or not
-- ended; 32, its stamp lies before their start; 33, its offset is past the limit.
pub data AsciiRefusedAt (text : List ℕ) : ℕ → ℕ → Type 0 where
  no_line : {start : ℕ} {rs : List Record} {rest : List ℕ} → ReadUpTo start rs rest text → rest ≢ [] → ((s : DateTime) → NextStamp s rest → ⊥)
      → AsciiRefusedAt text 31 (length rs + 1)
  early : {start : ℕ} {r : Record} {rs : List Record} {rest : List ℕ} {s : DateTime} → ReadUpTo start (r ∷ rs) rest text → NextStamp s rest
      → instant s < start * 1000 → AsciiRefusedAt text 32 (length (r ∷ rs) + 1)
  late : {start : ℕ} {r : Record} {rs : List Record} {rest : List ℕ} {s : DateTime} → ReadUpTo start (r ∷ rs) rest text → NextStamp s rest
      → start * 1000 + offset_limit < instant s → AsciiRefusedAt text 33 (length (r ∷ rs) + 1)

-- `read_ascii` of a text, into an output that held `before` and then holds `after`, gives the numbers a.
pub data ReadAsciiPromise (text before a after : List ℕ) : Type 0 where
  -- the text is too long
  large : size_limit < length text → a ≡ ascii_refused 1 0 → after ≡ before → ReadAsciiPromise text before a after
  -- the refusal of the first line that stops it
  refused : {n p : ℕ} → length text ≤ size_limit → AsciiRefusedAt text n p → a ≡ ascii_refused n p → after ≡ before
      → ReadAsciiPromise text before a after
  -- records are spelled as it, and they are too many
  many : {start : ℕ} {rs : List Record} → length text ≤ size_limit → SpellsAscii start rs text → last_number < length rs
      → a ≡ ascii_refused 34 0 → after ≡ before → ReadAsciiPromise text before a after
  -- they are not, and there is no room
  no_room : {start : ℕ} {rs : List Record} → length text ≤ size_limit → SpellsAscii start rs text → length rs ≤ last_number
      → length before < 20 * length rs → a ≡ ascii_refused 8 0 → after ≡ before → ReadAsciiPromise text before a after
  -- there is: the start and the records are handed out
  done : {start : ℕ} {rs : List Record} → length text ≤ size_limit → SpellsAscii start rs text → length rs ≤ last_number
      → 20 * length rs ≤ length before → a ≡ ascii_done start (length rs)
      → after ≡ packed rs ++ drop (20 * length rs) before → ReadAsciiPromise text before a after
