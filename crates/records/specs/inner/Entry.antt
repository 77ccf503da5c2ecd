-- What `record_at` promises.
use Rattle.std.specs.Prelude.{ℕ, List}
use Rattle.record.specs.declared.Record.{Record}
use Rattle.record.specs.Record.{Packs}
use Rattle.records.specs.Records.{mark_after}

-- The bytes are this record, with its true mark after one with the offset `before`.
abbrev pub EntryOf : ℕ → List ℕ → Record → Type 0
EntryOf before s r = Packs r (mark_after before r.offset) s
