-- The place: the lines before a refused line spell something by themselves, and nothing that begins with them and this line is spelled by anything.
use Prim.Native.Nat.{ℕ, ◌+◌, ◌≤◌}
use mathlib.Core.Path.{◌≡◌, refl}
use mathlib.Core.Logic.{◌≢◌}
use mathlib.Core.List.{List, [], ◌++◌}
use native.Mathlib.Omega.{arith}
use lib.ListN.{length}
use Rattle.fields.specs.Runs.{All}
use Rattle.lines.specs.Lines.{Inside}
use Rattle.record.specs.declared.Record.{Record}
use Rattle.ascii_reader.specs.Text.{SpellsAscii}
use Rattle.ascii_reader.specs.Promise.{ascii_refused, AsciiRefusedAt, ReadAsciiPromise, large, refused, many, no_room, done}
use Rattle.ascii_reader.proofs.Ends.{LineEnd, end_some}
use Rattle.ascii_reader.proofs.UpTo.{next_same, spelled_next}
use Rattle.ascii_reader.proofs.Stops.{Stopped, stopped, stop_some, stop_next}

-- The place of a refusal: `front` is the lines before it, and rest starts with the line at this place.
pub record Place (text : List ℕ) (place : ℕ) : Type 0 where
  pub front : List ℕ
  pub rest : List ℕ
  pub whole : text ≡ front ++ rest
  -- the lines before spell something, one record for each
  pub start : ℕ
  pub records : List Record
  pub before : SpellsAscii start records front
  pub at : place ≡ length records + 1
  -- something is left
  pub some : rest ≢ []
  -- if the line is ended, no text that begins with those and this line, whichever end it has there, is spelled by anything, however it goes on
  pub never : {line end other : List ℕ} (after more : List ℕ) → All Inside line → LineEnd end → rest ≡ line ++ (end ++ after) → LineEnd other
      → (a : ℕ) (rs : List Record) → SpellsAscii a rs (front ++ (line ++ (other ++ more))) → ⊥

placed : {text : List ℕ} {n p : ℕ} → Stopped text n p → Place text p
placed x = record {
  front = x.read.front;
  rest = x.rest;
  whole = x.read.whole;
  start = x.start;
  records = x.records;
  before = x.read.spelled;
  at = x.at;
  some = stop_some x.stop;
  never = λ {line} {end} {other} after more i e q o a rs s.
      let n = spelled_next (line ++ (other ++ more)) x.read.spelled s refl (end_some line more o) in
      stop_next x.stop (next_same more after i o e n.0 q) n.1;
}

-- For every refusal at a line.
pub place : {text : List ℕ} {n p : ℕ} → AsciiRefusedAt text n p → Place text p
place f = placed (stopped f)

-- The same of every answer that keeps the promise, with 31, 32 or 33.
pub read_place : {text before a after : List ℕ} {n p : ℕ} → ReadAsciiPromise text before a after → a ≡ ascii_refused n p
    → 31 ≤ n → n ≤ 33 → Place text p
read_place {n = n} (large h e q) d l m = let z : n ≡ 1 = cc (e, d) in absurd (omega arith)
read_place {p = p} (refused {p = o} h f e q) d l m = let y : p ≡ o = cc (e, d) in rw y (place f)
read_place {n = n} (many h s k e q) d l m = let z : n ≡ 34 = cc (e, d) in absurd (omega arith)
read_place {n = n} (no_room h s k r e q) d l m = let z : n ≡ 8 = cc (e, d) in absurd (omega arith)
read_place {n = n} (done h s k r e q) d l m = let z : n ≡ 0 = cc (e, d) in absurd (omega arith)
