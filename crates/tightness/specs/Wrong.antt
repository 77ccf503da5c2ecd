-- The wrong programs of paper 01, "How tight a promise is": "These must be caught", and those of later orders. In words: docs/FORMAT.md, section 13.
use Rattle.std.specs.Prelude.{ℕ, suc, ◌≤◌, ◌<◌, ◌≡◌, ◌≢◌, ◌⊎◌, cond, List, [], ◌∷◌, ◌++◌, ltb, length, get_or, drop, replicate}
use Rattle.clock.specs.declared.DateTime.{DateTime}
use Rattle.clock.specs.Stamp.{Stamp}
use Rattle.record.specs.declared.Record.{Record}
use Rattle.record.specs.Record.{WellFormed, Packs}
use Rattle.records.specs.Records.{mark_after, last_offset, packed, Each, PacksAll}
use Rattle.trace.specs.Trace.{Trace, Spells}
use Rattle.ascii_line.specs.Line.{line_text}
use Rattle.tightness.specs.Programs.{Lent, FromReader, Reader, handed_out, handed_out_at, Writer, written_text, Exporter, exported_text}

-- 1. "A reader that refuses everything": its number is never 0;
abbrev pub RefusesAll : Reader → Type 0
RefusesAll f = (text out : Lent) → (f text out).number ≢ 0

-- or it refuses at least all that a writer has written, also where there is room for the records.
abbrev pub RefusesWritten : Writer → Reader → Type 0
RefusesWritten g f =
    (version start first : ℕ) (records page text out : Lent) → (g version start first records page).number ≡ 0
    → text.list ≡ written_text (g version start first records page) → length records.list ≤ length out.list → (f text out).number ≢ 0

-- 2. "One that hands out the same trace always": version, start, first number and records are the same for all texts that it accepts. One part of the
-- trace that is always the same is wrong enough.
abbrev pub Always : {A : Type 0} → (FromReader → A) → Reader → Type 0
Always part f =
    (text other out : Lent) → (f text out).number ≡ 0 → (f other out).number ≡ 0 → part (f text out) ≡ part (f other out)

abbrev pub SameVersion : Reader → Type 0
SameVersion = Always (λ a. a.version)

abbrev pub SameStart : Reader → Type 0
SameStart = Always (λ a. a.start)

abbrev pub SameFirst : Reader → Type 0
SameFirst = Always (λ a. a.first)

abbrev pub SameRecords : Reader → Type 0
SameRecords = Always handed_out

abbrev pub SameAlways : Reader → Type 0
SameAlways f = SameVersion f × SameStart f × SameFirst f × SameRecords f

-- 3. "A writer that does nothing": the output stays what it was, whatever it is given.
abbrev pub DoesNothing : Writer → Type 0
DoesNothing g = (version start first : ℕ) (records out : Lent) → (g version start first records out).after ≡ out.list

-- 4. "One that treats the first row truly and copies it for the rest": each record of a reader is its first;
abbrev pub CopiesFirst : Reader → Type 0
CopiesFirst f = (text out : Lent) → (f text out).number ≡ 0 → (j : ℕ) → j < (f text out).rows → handed_out_at (f text out) j ≡ handed_out_at (f text out) 0

-- a writer's text is that of its first record, as often as there are records.
abbrev pub WritesFirst : Writer → Type 0
WritesFirst g =
    (version start first : ℕ) (r : Record) (rs : List Record) (records copies out : Lent) → records.list ≡ packed (r ∷ rs)
    → copies.list ≡ packed (replicate (length (r ∷ rs)) r)
    → written_text (g version start first records out) ≡ written_text (g version start first copies out)

-- 5. "Invented counts of rows": for some text that it accepts, a reader's rows are not "the list's own length", of the records that the
-- text spells;
pub record InventsRows (f : Reader) : Type 0 where
  pub text : Lent
  pub out : Lent
  pub trace : Trace
  pub spelled : Spells trace text.list
  pub accepted : (f text out).number ≡ 0
  pub invented : (f text out).rows ≢ length trace.records

-- "or left-out records": for some records that it accepts, an exporter's lines or left-out records are not "the number of kinds 0 and 1,
-- by definition", or of the others.
pub data Counted : List Record → ℕ → ℕ → Type 0 where
  none : Counted [] 0 0
  frame : {r : Record} {rs : List Record} {lines left : ℕ} → r.kind ≤ 1 → Counted rs lines left → Counted (r ∷ rs) (suc lines) left
  other : {r : Record} {rs : List Record} {lines left : ℕ} → 2 ≤ r.kind → Counted rs lines left → Counted (r ∷ rs) lines (suc left)

pub record InventsLeftOut (e : Exporter) : Type 0 where
  pub start : ℕ
  pub channel : ℕ
  pub given : Lent
  pub out : Lent
  pub records : List Record
  pub packs : PacksAll records given.list
  pub lines : ℕ
  pub left : ℕ
  pub counted : Counted records lines left
  pub accepted : (e start channel given out).number ≡ 0
  pub invented : ((e start channel given out).lines ≢ lines) ⊎ ((e start channel given out).left ≢ left)

-- 6. "A refusal gives number and place, zeros for all else, and the output is untouched": one whose first number is not 0, and that gives some
-- count or touches the output all the same. The numbers are those of a reader, a writer or an exporter.
pub record Touched (numbers before after : List ℕ) : Type 0 where
  pub refused : get_or numbers 0 0 ≢ 0
  pub touched : (after ≢ before) ⊎ ((i : ℕ) × (get_or (drop 2 numbers) i 0 ≢ 0))

-- 7. Of Order 3: a reader that says 1 of every trace with rows that it accepts, as if all began there;
abbrev pub SaysOne : Reader → Type 0
SaysOne f = (text out : Lent) → (f text out).number ≡ 0 → 1 ≤ (f text out).rows → (f text out).first ≡ 1

-- and a writer that numbers from 1, whatever first number it is given, where it writes for both.
abbrev pub NumbersFromOne : Writer → Type 0
NumbersFromOne g =
    (version start first : ℕ) (records out : Lent) → (g version start first records out).number ≡ 0 → (g version start 1 records out).number ≡ 0
    → written_text (g version start first records out) ≡ written_text (g version start 1 records out)

-- 8. Of Order 6: an exporter that writes bus 0 as channel 1, whatever channel it is given, where it exports for both;
abbrev pub GivesOne : Exporter → Type 0
GivesOne e =
    (start channel : ℕ) (records out : Lent) → (e start channel records out).number ≡ 0 → (e start 1 records out).number ≡ 0
    → exported_text (e start channel records out) ≡ exported_text (e start 1 records out)

-- and one that writes every bus as the channel that it is given: its text of one data frame is the line on that channel, whatever the bus.
abbrev pub GivesAll : Exporter → Type 0
GivesAll e =
    (start channel : ℕ) (r : Record) (s : DateTime) (records out : Lent) → records.list ≡ packed (r ∷ []) → r.kind ≤ 1 → Stamp start r.offset s
    → (e start channel records out).number ≡ 0 → exported_text (e start channel records out) ≡ line_text s channel r

-- 9. Of Order 7: a reader that sets the mark of the first record;
abbrev pub MarksFirst : Reader → Type 0
MarksFirst f = (text out : Lent) (r : Record) (mark : ℕ) → (f text out).number ≡ 0 → Packs r mark (handed_out_at (f text out) 0) → mark ≡ 1

-- one whose other marks follow a rule, over the offsets of the first record, of the one before and of the record itself:
abbrev pub MarksBy : (ℕ → ℕ → ℕ → ℕ) → Reader → Type 0
MarksBy rule f =
    (text out : Lent) (j : ℕ) (first before this : Record) (a b mark : ℕ) → (f text out).number ≡ 0 → Packs first a (handed_out_at (f text out) 0)
    → Packs before b (handed_out_at (f text out) j) → Packs this mark (handed_out_at (f text out) (suc j))
    → mark ≡ rule first.offset before.offset this.offset

-- 1 for an equal offset too,
abbrev pub MarksEqual : Reader → Type 0
MarksEqual = MarksBy (λ first before offset. cond (ltb before offset) 0 1)

-- or compared with the first record in place of the one before.
abbrev pub MarksByFirst : Reader → Type 0
MarksByFirst = MarksBy (λ first before offset. mark_after first offset)

-- And a writer, or an exporter, that takes some list with a false mark: after some records stands one with another mark than it has there.
pub record FalselyMarked (s : List ℕ) : Type 0 where
  pub before : List Record
  pub this : Record
  pub mark : ℕ
  pub these : List ℕ
  pub after : List ℕ
  pub whole : s ≡ packed before ++ (these ++ after)
  pub formed : Each WellFormed before
  pub packs : Packs this mark these
  pub not_true : mark ≢ mark_after (last_offset before) this.offset

pub record WritesFalsely (g : Writer) : Type 0 where
  pub version : ℕ
  pub start : ℕ
  pub first : ℕ
  pub given : Lent
  pub out : Lent
  pub marked : FalselyMarked given.list
  pub accepted : (g version start first given out).number ≡ 0

pub record ExportsFalsely (e : Exporter) : Type 0 where
  pub start : ℕ
  pub channel : ℕ
  pub given : Lent
  pub out : Lent
  pub marked : FalselyMarked given.list
  pub accepted : (e start channel given out).number ≡ 0
