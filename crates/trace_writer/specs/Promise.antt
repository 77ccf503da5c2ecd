-- What `write` promises for every version, start, first number, bytes of records and output. In words: docs/FORMAT.md, section 11.
use Rattle.std.specs.Prelude.{Result, Ok, Err, ℕ, ◌+◌, ◌/◌, ◌≤◌, ◌<◌, ◌≡◌, List, [], ◌∷◌, ◌++◌, length, drop}
use Rattle.clock.specs.Start.{start_limit}
use Rattle.record.specs.declared.Record.{Record}
use Rattle.records.specs.Records.{packed, Whole, PacksAll, FirstMalformed}
use Rattle.row.specs.Versions.{Version, Carries}
use Rattle.trace.specs.Trace.{trace_of, FirstNumber}
use Rattle.trace.specs.House.{trace_text, Carried, Writable}
use Rattle.base.specs.declared.refusal.Refused.{Refused}
use Rattle.base.specs.Refusal.{number_of}

-- Number, place and bytes written for each answer.
abbrev pub write_done : ℕ → List ℕ
write_done bytes = 0 ∷ 0 ∷ bytes ∷ []

abbrev pub write_refused : ℕ → ℕ → List ℕ
write_refused number place = number ∷ place ∷ 0 ∷ []

abbrev pub write_numbers : Result ℕ Refused → List ℕ
write_numbers (Ok bytes) = write_done bytes
write_numbers (Err e) = write_refused (number_of e.reason) e.place

-- The first record that the version can't carry, by its position from 1: those before it are carried.
pub record FirstMisfit (version : ℕ) (rs : List Record) (place : ℕ) : Type 0 where
  pub before : List Record
  pub this : Record
  pub after : List Record
  pub whole : rs ≡ before ++ (this ∷ after)
  pub carried : Carried version before
  pub misfit : Carries this version → ⊥
  pub at : place ≡ length before + 1

-- The first number is one of a trace with as many rows as there are records in s.
abbrev pub NumberFits : ℕ → List ℕ → Type 0
NumberFits first s = FirstNumber first (length s / 20)

-- What is refused whatever the output, with which number at which place. In the table's order: each says that those before it do not hold.
pub data WriteStopped (version start first : ℕ) (s : List ℕ) : ℕ → ℕ → Type 0 where
  no_records : (Whole s → ⊥) → WriteStopped version start first s 20 0
  no_version : Whole s → (Version version → ⊥) → WriteStopped version start first s 21 0
  late : Whole s → Version version → start_limit < start → WriteStopped version start first s 22 0
  no_number : Whole s → Version version → start ≤ start_limit → (NumberFits first s → ⊥) → WriteStopped version start first s 26 0
  malformed : {place : ℕ} → Whole s → Version version → start ≤ start_limit → NumberFits first s → FirstMalformed s place
      → WriteStopped version start first s 23 place
  misfit : {rs : List Record} {place : ℕ} → Whole s → Version version → start ≤ start_limit → NumberFits first s → PacksAll rs s
      → FirstMisfit version rs place → WriteStopped version start first s 24 place

-- `write` of a version, a start, a first number and the bytes s, into an output that held `before` and then holds `after`, gives the numbers a.
pub data WritePromise (version start first : ℕ) (s before a after : List ℕ) : Type 0 where
  -- one of 20 to 24, or 26
  refused : {n p : ℕ} → WriteStopped version start first s n p → a ≡ write_refused n p → after ≡ before
      → WritePromise version start first s before a after
  -- everything good, and the output too short
  no_room : {rs : List Record} → Writable (trace_of version start first rs) → s ≡ packed rs
      → length before < length (trace_text (trace_of version start first rs))
      → a ≡ write_refused 25 0 → after ≡ before → WritePromise version start first s before a after
  -- the house spelling, and behind it what was there
  done : {rs : List Record} → Writable (trace_of version start first rs) → s ≡ packed rs
      → length (trace_text (trace_of version start first rs)) ≤ length before
      → a ≡ write_done (length (trace_text (trace_of version start first rs)))
      → after ≡ trace_text (trace_of version start first rs) ++ drop (length (trace_text (trace_of version start first rs))) before
      → WritePromise version start first s before a after
