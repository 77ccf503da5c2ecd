-- Any reader, any writer and any exporter, whatever the code: a function of what it is given, and when it keeps its promise.
-- In words: docs/FORMAT.md, section 13.
use Rattle.std.specs.Prelude.{ℕ, ◌*◌, List, [], ◌∷◌, take, drop}
use Rattle.trace.specs.Trace.{AreBytes}
use Rattle.trace.specs.Promise.{ReadPromise}
use Rattle.trace_writer.specs.Promise.{WritePromise}
use Rattle.ascii.specs.Promise.{ExportPromise}

-- What a program is lent: bytes. (On a machine lengths and numbers end somewhere; what lies past that is refused with 1, 20, 21, 22, 26 or 35, or
-- is room that no answer needs.)
pub record Lent : Type 0 where
  pub list : List ℕ
  pub small : AreBytes list

-- A reader is given a text and an output. It gives seven numbers, and what the output then holds.
pub record FromReader : Type 0 where
  pub number : ℕ
  pub place : ℕ
  pub version : ℕ
  pub start : ℕ
  pub rows : ℕ
  pub back : ℕ
  pub first : ℕ
  pub after : List ℕ

abbrev pub Reader : Type 0
Reader = Lent → Lent → FromReader

abbrev pub seven : FromReader → List ℕ
seven a = a.number ∷ a.place ∷ a.version ∷ a.start ∷ a.rows ∷ a.back ∷ a.first ∷ []

-- It keeps the promise for every text and every output.
pub record KeepsRead (f : Reader) : Type 0 where
  pub keeps : (text out : Lent) → ReadPromise text.list out.list (seven (f text out)) (f text out).after

-- The records that it hands out, twenty bytes for each row, and the j-th of them, from 0.
abbrev pub handed_out : FromReader → List ℕ
handed_out a = take (20 * a.rows) a.after

abbrev pub handed_out_at : FromReader → ℕ → List ℕ
handed_out_at a j = take 20 (drop (20 * j) (handed_out a))

-- A writer is given a version, a start, a first number, records and an output. It gives three numbers, and what the output then holds.
pub record FromWriter : Type 0 where
  pub number : ℕ
  pub place : ℕ
  pub bytes : ℕ
  pub after : List ℕ

abbrev pub Writer : Type 0
Writer = ℕ → ℕ → ℕ → Lent → Lent → FromWriter

abbrev pub three : FromWriter → List ℕ
three a = a.number ∷ a.place ∷ a.bytes ∷ []

pub record KeepsWrite (g : Writer) : Type 0 where
  pub keeps : (version start first : ℕ) (records out : Lent)
      → WritePromise version start first records.list out.list (three (g version start first records out)) (g version start first records out).after

-- The text that it has written.
abbrev pub written_text : FromWriter → List ℕ
written_text a = take a.bytes a.after

-- An exporter is given a start, a channel for bus 0, records and an output. It gives five numbers, and what the output then holds.
pub record FromExporter : Type 0 where
  pub number : ℕ
  pub place : ℕ
  pub bytes : ℕ
  pub lines : ℕ
  pub left : ℕ
  pub after : List ℕ

abbrev pub Exporter : Type 0
Exporter = ℕ → ℕ → Lent → Lent → FromExporter

abbrev pub five : FromExporter → List ℕ
five a = a.number ∷ a.place ∷ a.bytes ∷ a.lines ∷ a.left ∷ []

pub record KeepsExport (e : Exporter) : Type 0 where
  pub keeps : (start channel : ℕ) (records out : Lent)
      → ExportPromise start channel records.list out.list (five (e start channel records out)) (e start channel records out).after

-- The text that it has exported.
abbrev pub exported_text : FromExporter → List ℕ
exported_text a = take a.bytes a.after
