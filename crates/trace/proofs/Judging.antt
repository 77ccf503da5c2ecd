-- What the first pass keeps, line by line.
use Prim.Native.Nat.{ℕ, ◌+◌, ◌-◌, ◌≤◌, ◌<◌}
use mathlib.Core.Path.{◌≡◌, refl, ap, sym, ◌∙◌}
use mathlib.Core.List.{List, [], ◌∷◌, ◌++◌}
use Rattle.std.specs.Prelude.{Ok}
use native.Mathlib.Omega.{arith}
use lib.ListN.{length, take, drop, length-append, length-drop, take-append-drop}
use lib.Seq.{take-add, take_at, take_all, length-take-le}
use Rattle.record.specs.declared.Record.{Record}
use Rattle.fields.specs.Columns.{last_number}
use Rattle.row.specs.Versions.{head_lines}
use Rattle.row.specs.Row.{Expected, Row}
use Rattle.lines.specs.Lines.{Comment}
use Rattle.trace.specs.Trace.{size_limit, Trace, trace_of, Line, Spells}
use Rattle.trace.specs.Promise.{EndedLines, RefusedAtLine}
use Rattle.trace.specs.inner.Passes.{There, NoRow, Bars, Headed, Judges}
use Rattle.trace.specs.Promise
use Rattle.trace.specs.inner.Passes
use Rattle.trace.proofs.Cuts.{ended_line, first_alone, first_whole, lines_alone, lines_append, spells_comment, spells_row}
use Rattle.trace.proofs.Numbers.{next_number, rows_before}
use Rattle.trace.proofs.Fails.{at_later, WrongNext, later, stopped_refused}
use Rattle.trace.proofs.Fails

-- The lines up to `at` are judged: they spell a trace with this first number and these records.
pub record Judging (first : ℕ) (text : List ℕ) (version start at place rows : ℕ) : Type 0 where
  pub within : at ≤ length text
  pub few : rows ≤ at
  pub near : place ≤ at
  pub head : head_lines version ≤ place
  pub lines : EndedLines place (take at text)
  pub records : List Record
  pub spelled : Spells (trace_of version start first records) (take at text)
  pub counted : rows ≡ length records

-- Each line has two bytes at the least, its end.
lines_near : {n : ℕ} {s : List ℕ} → EndedLines n s → n ≤ length s
lines_near Promise.none = omega arith
lines_near (Promise.line {l = l} {rest = rest} f ls) = omega (arith, ap length f.ended ∙ length-append l (13 ∷ 10 ∷ rest), lines_near ls)

pub judging : {text : List ℕ} {version start at : ℕ} → Headed text at version start → Judging 0 text version start at (head_lines version) 0
judging {text} {at = at} h = record {
  within = h.within;
  few = omega arith;
  near = let n = lines_near h.lines in omega (arith, length-take-le at text h.within);
  head = omega arith;
  lines = h.lines;
  records = [];
  spelled = h.spelled;
  counted = refl;
}

-- The text up to the next line.
pub up_to : {text : List ℕ} {at next : ℕ} {line : List ℕ} → There text at next line → take next text ≡ take at text ++ ended_line line
up_to {text} {at} {next} {line} t =
    let w = first_whole t.is.first in
    let a = t.later in
    let b = t.within in
    let e : length (ended_line line) ≡ length line + 2 = length-append line (13 ∷ 10 ∷ []) in
    let n : length (ended_line line) ≡ next - at = omega (arith, ap length w ∙ length-append (ended_line line) (drop next text), length-drop at text, length-drop next text) in
    let m : next ≡ at + (next - at) = omega arith in
    let x : take (next - at) (drop at text) ≡ ended_line line = rw w (take_at (ended_line line) (drop next text) (next - at) n) in
    ap (λ (i : ℕ). take i text) m ∙ take-add at (next - at) text ∙ ap (λ (s : List ℕ). take at text ++ s) x

module _ {first : ℕ} {text : List ℕ} {version start at place rows : ℕ} (j : Judging first text version start at place rows) where
  -- one line more
  lines_more : {next : ℕ} {line : List ℕ} → There text at next line → EndedLines (place + 1) (take next text)
  lines_more t = rw (up_to t) (lines_append j.lines (lines_alone t.is.first.inside))

  alone : {next : ℕ} {line : List ℕ} → There text at next line → Line line [] (ended_line line)
  alone t = record { first = first_alone t.is.first.inside; short = t.is.short }

  pub noted : {next : ℕ} (line : List ℕ) → There text at next line → Comment line → Judging first text version start next (place + 1) rows
  noted {next} line t c =
      let a = t.later in
      let n = j.few in
      let m = j.near in
      let k = j.head in
      record {
        within = t.within;
        few = omega arith;
        near = omega arith;
        head = omega arith;
        lines = lines_more t;
        records = j.records;
        spelled = rw (up_to t) (spells_comment j.spelled (alone t) c);
        counted = j.counted;
      }

  -- The number that is expected next fits a word, and a row that is expected has as many numbers before it as there are rows.
  pub next_fits : first + rows ≤ last_number + 1
  next_fits = let e = j.counted in let n = next_number j.spelled.numbered in omega arith

  pub rows_below : {k : ℕ} → Expected (first + rows) k → rows ≤ k
  rows_below x = let e = j.counted in rw e (rows_before j.spelled.numbered (rw e at x))

  pub counted_row : {next k : ℕ} (r : Record) (line : List ℕ) → Expected (first + rows) k → There text at next line → Row version k r line
      → Judging (k - rows) text version start next (place + 1) (rows + 1)
  counted_row {next} {k} r line x t w =
      let e = j.counted in
      let a = t.later in
      let n = j.few in
      let m = j.near in
      let h = j.head in
      record {
        within = t.within;
        few = omega arith;
        near = omega arith;
        head = omega arith;
        lines = lines_more t;
        records = j.records ++ (r ∷ []);
        spelled = rw (up_to t, e) (spells_row j.spelled (rw e at x) w (alone t));
        counted = omega (arith, length-append j.records (r ∷ []));
      }

  pub finished : length text ≤ at → Judges text version start (Ok (record { rows = rows; first = first }))
  finished h = (j.records, rw (take_all at text h) at j.spelled, j.counted)

  -- A line that may not stand behind them: the promise's refusal.
  abbrev so_far : Trace
  so_far = trace_of version start first j.records

  stops : {n : ℕ} → at < length text → ((k : ℕ) → Expected (first + rows) k → NoRow text at version k) → Bars (drop at text) n
      → WrongNext (later so_far) (drop at text) n
  stops h r (Passes.unended f) = Fails.unended {rest = drop at text} (λ e. omega (arith, ap length e, length-drop at text)) f
  stops h r (Passes.long f l) = Fails.long f l
  stops h r (Passes.dollar l d) = Fails.dollar l d
  stops h r (Passes.other l c d) = Fails.no_row {t = so_far} l c d (λ k x q w. r k (rw j.counted q) x _ _ l w)

  pub refused_line : {n : ℕ} → length text ≤ size_limit → at < length text → ((k : ℕ) → Expected (first + rows) k → NoRow text at version k)
      → Bars (drop at text) n → RefusedAtLine text n (place + 1)
  refused_line s h r b = stopped_refused (at_later j.head j.lines j.spelled) (sym (take-append-drop at text)) s (stops h r b)
