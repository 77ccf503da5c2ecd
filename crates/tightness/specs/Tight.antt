-- The one statement: no program that keeps its promise is one of the wrong ones, and the traces that they are tried with are real.
-- In words: docs/FORMAT.md, section 13.
use Rattle.std.specs.Prelude.{ℕ, ◌*◌, ◌≤◌, ◌≡◌, List, [], ◌∷◌, length}
use Rattle.base.specs.Limits.{last_bus}
use Rattle.record.specs.declared.Record.{Record}
use Rattle.records.specs.Records.{packed}
use Rattle.trace.specs.Trace.{size_limit, Trace, Spells, trace_of}
use Rattle.trace.specs.Promise.{ReadPromise}
use Rattle.trace_writer.specs.Promise.{WritePromise}
use Rattle.ascii.specs.Promise.{ExportPromise}
use Rattle.tightness.specs.Programs.{Lent, FromReader, Reader, seven, KeepsRead, handed_out, FromWriter, Writer, three, KeepsWrite, written_text, FromExporter, Exporter, five, KeepsExport}
use Rattle.tightness.specs.Wrong.{RefusesAll, RefusesWritten, SameVersion, SameStart, SameFirst, SameRecords, SameAlways, DoesNothing, CopiesFirst, WritesFirst, InventsRows, InventsLeftOut, Touched, SaysOne, NumbersFromOne, GivesOne, GivesAll, MarksFirst, MarksEqual, MarksByFirst, WritesFalsely, ExportsFalsely}

-- The text is accepted, and this trace handed out.
pub record HandsOut (t : Trace) (a : FromReader) : Type 0 where
  pub accepted : a.number ≡ 0
  pub version : a.version ≡ t.version
  pub start : a.start ≡ t.start
  pub rows : a.rows ≡ length t.records
  pub first : a.first ≡ t.first
  pub records : handed_out a ≡ packed t.records

-- The traces that the wrong programs are tried with: without rows, in two versions and with two starts; with two rows, of IDs 1 and 2; with the first of
-- these copied; with the same two from number 4,117 on; with the first of them alone; with the same without its bus; and with three rows, of which
-- the last steps back, but not before the first.
abbrev pub received_on : ℕ → ℕ → ℕ → Record
received_on bus offset id = record { offset = offset; bus = bus; kind = 0; extended = 0; id = id; len = 0; «data» = 0 }

abbrev pub received12 : ℕ → ℕ → Record
received12 = received_on 1

pub data Tried : Trace → Type 0 where
  empty : Tried (trace_of 12 0 0 [])
  later : Tried (trace_of 12 1 0 [])
  older : Tried (trace_of 11 0 0 [])
  two : Tried (trace_of 12 0 1 (received12 0 1 ∷ received12 0 2 ∷ []))
  copied : Tried (trace_of 12 0 1 (received12 0 1 ∷ received12 0 1 ∷ []))
  middle : Tried (trace_of 12 0 4117 (received12 0 1 ∷ received12 0 2 ∷ []))
  one : Tried (trace_of 12 0 1 (received12 0 1 ∷ []))
  no_bus : Tried (trace_of 11 0 1 (received_on 0 0 1 ∷ []))
  stepping : Tried (trace_of 12 0 1 (received12 100 1 ∷ received12 300 1 ∷ received12 200 1 ∷ []))

-- A trace is real: some bytes spell it, some are its records, and with room an answer with number 0 keeps each promise.
pub record Real (t : Trace) : Type 0 where
  pub text : Lent
  pub spelled : Spells t text.list
  pub records : Lent
  pub packs : records.list ≡ packed t.records
  pub is_read : (out : Lent) → 20 * length t.records ≤ length out.list
      → (a : FromReader) × (a.number ≡ 0) × ReadPromise text.list out.list (seven a) a.after
  pub is_written : (out : Lent) → length text.list ≤ length out.list
      → (a : FromWriter) × (a.number ≡ 0) × WritePromise t.version t.start t.first records.list out.list (three a) a.after
  pub is_exported : (channel : ℕ) → channel ≤ last_bus → (out : Lent) → 86 * length t.records ≤ length out.list
      → (a : FromExporter) × (a.number ≡ 0) × ExportPromise t.start channel records.list out.list (five a) a.after

pub record Tight : Type 0 where
  -- "The promise leaves room for one answer only": two programs that keep it are the same function
  pub one_reader : {f g : Reader} → KeepsRead f → KeepsRead g → (text out : Lent) → f text out ≡ g text out
  pub one_writer : {f g : Writer} → KeepsWrite f → KeepsWrite g → (version start first : ℕ) (records out : Lent)
      → f version start first records out ≡ g version start first records out
  pub one_exporter : {f g : Exporter} → KeepsExport f → KeepsExport g → (start channel : ℕ) (records out : Lent)
      → f start channel records out ≡ g start channel records out
  -- 1, by demand 3's acceptance: what spells a trace is accepted, given room,
  pub accepts : {f : Reader} {t : Trace} → KeepsRead f → (text out : Lent) → length text.list ≤ size_limit → Spells t text.list
      → 20 * length t.records ≤ length out.list → HandsOut t (f text out)
  pub refuses_all : {f : Reader} → KeepsRead f → RefusesAll f → ⊥
  -- and by demand 2's reading back: what any writer has written, any reader accepts, given room
  pub reads_back : {f : Reader} {g : Writer} → KeepsRead f → KeepsWrite g → (version start first : ℕ) (records page text out : Lent)
      → (g version start first records page).number ≡ 0 → text.list ≡ written_text (g version start first records page)
      → length records.list ≤ length out.list
      → (rs : List Record) × (records.list ≡ packed rs) × HandsOut (trace_of version start first rs) (f text out)
  pub refuses_written : {f : Reader} {g : Writer} → KeepsRead f → KeepsWrite g → RefusesWritten g f → ⊥
  -- 2
  pub same_version : {f : Reader} → KeepsRead f → SameVersion f → ⊥
  pub same_start : {f : Reader} → KeepsRead f → SameStart f → ⊥
  pub same_first : {f : Reader} → KeepsRead f → SameFirst f → ⊥
  pub same_records : {f : Reader} → KeepsRead f → SameRecords f → ⊥
  pub same_always : {f : Reader} → KeepsRead f → SameAlways f → ⊥
  -- 3
  pub does_nothing : {g : Writer} → KeepsWrite g → DoesNothing g → ⊥
  -- 4
  pub copies_first : {f : Reader} → KeepsRead f → CopiesFirst f → ⊥
  pub writes_first : {g : Writer} → KeepsWrite g → WritesFirst g → ⊥
  -- 5
  pub invents_rows : {f : Reader} → KeepsRead f → InventsRows f → ⊥
  pub invents_left_out : {e : Exporter} → KeepsExport e → InventsLeftOut e → ⊥
  -- 6
  pub reader_touches : {f : Reader} → KeepsRead f → (text out : Lent) → Touched (seven (f text out)) out.list (f text out).after → ⊥
  pub writer_touches : {g : Writer} → KeepsWrite g → (version start first : ℕ) (records out : Lent)
      → Touched (three (g version start first records out)) out.list (g version start first records out).after → ⊥
  pub exporter_touches : {e : Exporter} → KeepsExport e → (start channel : ℕ) (records out : Lent)
      → Touched (five (e start channel records out)) out.list (e start channel records out).after → ⊥
  -- 7
  pub says_one : {f : Reader} → KeepsRead f → SaysOne f → ⊥
  pub numbers_from_one : {g : Writer} → KeepsWrite g → NumbersFromOne g → ⊥
  -- 8
  pub gives_one : {e : Exporter} → KeepsExport e → GivesOne e → ⊥
  pub gives_all : {e : Exporter} → KeepsExport e → GivesAll e → ⊥
  -- 9
  pub marks_first : {f : Reader} → KeepsRead f → MarksFirst f → ⊥
  pub marks_equal : {f : Reader} → KeepsRead f → MarksEqual f → ⊥
  pub marks_by_first : {f : Reader} → KeepsRead f → MarksByFirst f → ⊥
  pub writes_falsely : {g : Writer} → KeepsWrite g → WritesFalsely g → ⊥
  pub exports_falsely : {e : Exporter} → KeepsExport e → ExportsFalsely e → ⊥
  -- and what they were tried with
  pub real : {t : Trace} → Tried t → Real t
