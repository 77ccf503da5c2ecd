-- The ways through `convert`, over the promises of the functions that it calls.
use Rattle.std.specs.Prelude.{Option, Some, None}
use Prim.Native.Nat.{ℕ, ◌*◌, ◌≤◌, ◌<◌}
use mathlib.Core.Path.{◌≡◌, refl, ap, ◌∙◌}
use mathlib.Core.Logic.{◌≢◌}
use mathlib.Core.List.{List}
use native.Mathlib.Omega.{arith}
use lib.ListN.{length, take}
use Rattle.convert.specs.inner.Page.{PutOnPage, put}
use Rattle.record.specs.declared.Record.{Record}
use Rattle.records.specs.Records.{PacksAll}
use Rattle.records.proofs.Packing.{packed_length}
use Rattle.records.proofs.Records.{packs_all_one}
use Rattle.row.specs.Versions.{Version}
use Rattle.row.proofs.EachVersion.{version_low}
use Rattle.trace.specs.Trace.{Trace, Spells, trace_of}
use Rattle.trace.specs.Promise.{read_refused, ReadPromise, RefusedAtLine}
use Rattle.trace.specs.Promise as trace
use Rattle.trace.specs.House.{Writable}
use Rattle.trace.proofs.Answers.{not_refused, refused_numbers}
use Rattle.trace.proofs.Numbers.{rows_numbered}
use Rattle.trace.proofs.There.{read_writable}
use Rattle.trace_writer.proofs.Again.{Read, read_done, read_held}
use Rattle.ascii.specs.Promise.{export_done, export_refused, Exports, ExportPromise}
use Rattle.ascii.specs.Promise as ascii
use Rattle.ascii.proofs.Answers.{never_stopped, accepted}
use Rattle.convert.specs.Promise.{input_limit, bench_channel, refusal_text, large, refused, export, TooShort, no_records, no_page, ConvertPromise, short}
use Rattle.convert.proofs.Answers.{count_one, answered}

-- The input is too long, or is refused: its line is put, if there is room for it.
pub too_long : {input before after : List ℕ} {records : ℕ} {r : Option ℕ} → input_limit < length input → PutOnPage (refusal_text 1 0) before r after
    → ConvertPromise input records before r after
too_long h p = answered (large h) (λ t k s. omega arith) p

pub refused_input : {n o m q : ℕ} {input before after : List ℕ} {records : ℕ} {r : Option ℕ} → length input ≤ input_limit → RefusedAtLine input n o
    → n ≡ m → o ≡ q → PutOnPage (refusal_text m q) before r after → ConvertPromise input records before r after
refused_input h f d e p = answered (refused h (rw (d, e) at f)) (λ t k s. absurd (not_refused (omega arith) s f)) p

-- A refusal of the reader has no numbers of an accepted trace.
not_done : {version : ℕ} → Version version → version ≡ 0 → ⊥
not_done v e = omega (arith, version_low v)

-- The reader answers 8: the trace is good, and its records have no room.
pub unheld : {n p page : ℕ} {input records x : List ℕ} → length input ≤ input_limit
    → ReadPromise input records (read_refused n p) x → n ≡ 8 → TooShort input (length records) page
unheld h (ReadPromise.large l e q) d = absurd (omega arith)
unheld h (ReadPromise.done {t = t} l s r e q) d = absurd (not_done (read_writable s).version (cc))
unheld h (ReadPromise.no_room l s r e q) d = no_records h s r
unheld {n} h (ReadPromise.refused {n = m} l f e q) d = let g : n ≡ m = cc in absurd (omega (arith, (refused_numbers f).1))

-- It answers any other number: the input is refused.
pub unread : {n p : ℕ} {input records x : List ℕ} → length input ≤ input_limit
    → ReadPromise input records (read_refused n p) x → n ≢ 8 → RefusedAtLine input n p
unread h (ReadPromise.large l e q) d = absurd (omega arith)
unread h (ReadPromise.done {t = t} l s r e q) d = absurd (not_done (read_writable s).version (cc))
unread {n} h (ReadPromise.no_room l s r e q) d = let g : n ≡ 8 = cc in absurd (d g)
unread {n} {p} h (ReadPromise.refused {n = m} {p = o} l f e q) d =
    let g : n ≡ m = cc in
    let k : p ≡ o = cc in
    rw (g, k) f

module _ {version start first rows steps : ℕ} {input records x : List ℕ} (h : length input ≤ input_limit) (p : ReadPromise input records (trace.read_done version start rows steps first) x) where
  reading : Read version start first rows steps input records x
  reading = read_done p

  able : Writable (trace_of version start first reading.records)
  able = read_writable reading.spelled

  held : PacksAll reading.records (take (20 * rows) x)
  held = read_held reading

  -- Records that were read are not refused.
  never : {n q : ℕ} → ascii.ExportStopped start bench_channel (take (20 * rows) x) n q → ⊥
  never =
      let l = ap length held.bytes ∙ packed_length reading.records in
      never_stopped (record { twenties = omega arith; few = omega (arith, rows_numbered able.numbered) }) able.start (omega arith) held

  -- The text that they export to is that of the trace.
  of_trace : {text : List ℕ} {rs : List Record} → ascii.Given start bench_channel (take (20 * rows) x) rs text → Exports start bench_channel reading.records text
  of_trace g = rw (packs_all_one g.packs held) at g.exports

  -- The records of the trace, whatever trace it is, had room.
  held_all : (t : Trace) → length input ≤ input_limit → Spells t input → 20 * length t.records ≤ length records
  held_all t k s = omega (arith, reading.room, count_one reading.spelled s)

  -- Only the room on the page can be missing,
  pub unwritten : {n q : ℕ} {page after : List ℕ} → n ≢ 0 → ExportPromise start bench_channel (take (20 * rows) x) page (export_refused n q) after
      → ConvertPromise input (length records) page None after
  unwritten k (ascii.refused f e d) = absurd (never f)
  unwritten k (ascii.no_room g l e d) = short (no_page (export h reading.spelled (of_trace g)) l) refl d
  unwritten {n} k (ascii.done g l e d) = let z : n ≡ 0 = cc in absurd (k z)

  -- and else the export is printed.
  pub exported_all : {bytes lines others : ℕ} {page after : List ℕ}
      → ExportPromise start bench_channel (take (20 * rows) x) page (export_done bytes lines others) after
      → ConvertPromise input (length records) page (Some bytes) after
  exported_all {bytes} p =
      let y = accepted p in
      let a : bytes ≡ length y.text = cc y.numbers in
      answered (export h reading.spelled (of_trace y.given)) held_all (put y.room (ap Some a) y.output)
