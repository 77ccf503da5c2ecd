-- The first line that is wrong: the lines before it, what they leave to come, and how it stops them. Each case is a refusal of the promise.
use Prim.Native.Nat.{ℕ, ◌+◌, ◌≤◌, ◌<◌}
use mathlib.Core.Path.{◌≡◌, ap, subst}
use mathlib.Core.Logic.{◌≢◌}
use mathlib.Core.List.{List, [], ◌++◌, append_assoc}
use native.Mathlib.Omega.{arith}
use lib.ListN.{length, length-append}
use Rattle.record.specs.declared.Record.{Record}
use Rattle.fields.specs.Runs.{All}
use Rattle.row.specs.Versions.{head_lines}
use Rattle.row.specs.Row.{Expected, Row}
use Rattle.lines.specs.Lines.{line_limit, Inside, FirstLine, VersionLine, StartLine, Comment, DollarLine}
use Rattle.trace.specs.Trace.{size_limit, Trace, Line, Body, Spells, Begins}
use Rattle.trace.specs.Trace.{over as body-over, comment as body-comment, row as body-row}
use Rattle.trace.specs.Promise.{EndedLines, Reached, Barred, RefusedAtLine}
use Rattle.trace.specs.Promise.{none as no_lines, line as lines_more}
use Rattle.trace.specs.Promise
use Rattle.lines.proofs.Theorems.{first_one, not_both}
use Rattle.trace.proofs.Apart.{no_line, row_no_dollar}
use Rattle.trace.proofs.One.{one_trace}
use Rattle.trace.proofs.Cuts.{ended_line, first_more, first_there, expected_next, spells_cut}
use Rattle.trace.proofs.Beginnings.{begins_none, begins_version, begins_spelled}

-- What the lines so far say: none stands there; one, of this version; the head lines or more, which spell this trace.
pub data Stage : Type 0 where
  first : Stage
  second : ℕ → Stage
  later : Trace → Stage

-- The text `front` is n lines, none of them wrong.
pub data RightSoFar : ℕ → List ℕ → Stage → Type 0 where
  at_first : RightSoFar 0 [] first
  at_second : {v : ℕ} {line front : List ℕ} → Line line [] front → VersionLine v line → RightSoFar 1 front (second v)
  at_later : {n : ℕ} {t : Trace} {front : List ℕ} → head_lines t.version ≤ n → EndedLines n front → Spells t front → RightSoFar n front (later t)

-- The number that is expected next: 0, where no row stands before.
abbrev pub next_number : Trace → ℕ
next_number t = t.first + length t.records

-- The line may stand next.
pub data Next : Stage → List ℕ → Type 0 where
  version : {v : ℕ} {line : List ℕ} → VersionLine v line → Next first line
  start : {v s : ℕ} {line : List ℕ} → StartLine s line → Next (second v) line
  comment : {t : Trace} {line : List ℕ} → Comment line → Next (later t) line
  row : {t : Trace} {k : ℕ} {r : Record} {line : List ℕ} → Expected (next_number t) k → Row t.version k r line → Next (later t) line

-- What is left stops the text, with this number.
pub data WrongNext : Stage → List ℕ → ℕ → Type 0 where
  unended : {g : Stage} {rest : List ℕ} → rest ≢ [] → ((line after : List ℕ) → FirstLine line after rest → ⊥) → WrongNext g rest 2
  long : {g : Stage} {line after rest : List ℕ} → FirstLine line after rest → line_limit < length line → WrongNext g rest 3
  no_first : WrongNext first [] 4
  no_version : {line after rest : List ℕ} → Line line after rest → ((v : ℕ) → VersionLine v line → ⊥) → WrongNext first rest 4
  no_second : {v : ℕ} → WrongNext (second v) [] 5
  no_start : {v : ℕ} {line after rest : List ℕ} → Line line after rest → ((s : ℕ) → StartLine s line → ⊥) → WrongNext (second v) rest 5
  dollar : {t : Trace} {line after rest : List ℕ} → Line line after rest → DollarLine line → WrongNext (later t) rest 6
  no_row : {t : Trace} {line after rest : List ℕ} → Line line after rest → (Comment line → ⊥) → (DollarLine line → ⊥)
      → ((k : ℕ) (r : Record) → Expected (next_number t) k → Row t.version k r line → ⊥) → WrongNext (later t) rest 7

-- The first line that is wrong has this place, and the number says how.
pub record Fails (text : List ℕ) (number place : ℕ) : Type 0 where
  pub n : ℕ
  pub front : List ℕ
  pub rest : List ℕ
  pub stage : Stage
  pub whole : text ≡ front ++ rest
  pub stands : RightSoFar n front stage
  pub stopped : WrongNext stage rest number
  pub at : place ≡ n + 1

-- The lines so far are n lines,
pub stands_lines : {n : ℕ} {front : List ℕ} {g : Stage} → RightSoFar n front g → EndedLines n front
stands_lines at_first = no_lines
stands_lines (at_second l w) = lines_more {n = 0} l.first no_lines
stands_lines (at_later m ls a) = ls

-- with which some acceptable text begins.
pub stands_begins : {n : ℕ} {front : List ℕ} {g : Stage} → RightSoFar n front g → length front ≤ size_limit → Begins front
stands_begins at_first h = begins_none
stands_begins (at_second l w) h = begins_version l w
stands_begins (at_later m ls a) h = begins_spelled a h

pub stands_reached : {n : ℕ} {front rest text : List ℕ} {g : Stage} → RightSoFar n front g → text ≡ front ++ rest → length text ≤ size_limit
    → Reached n rest text
stands_reached {front = front} {rest = rest} s e h = record {
  front = front;
  whole = e;
  lines = stands_lines s;
  begins = stands_begins s (omega (arith, ap length e, length-append front rest));
}

-- The first line of the rows to come.
body_next : {t : Trace} {k : ℕ} {rs : List Record} {line after rest : List ℕ} → FirstLine line after rest → Expected (next_number t) k
    → Body t.version k rs rest → Next (later t) line
body_next f e body-over = absurd (no_line f)
body_next f e (body-comment l c h) = comment (rw (first_one l.first f).0 at c)
body_next f e (body-row l w h) = row e (rw (first_one l.first f).0 at w)

-- Whatever spells a trace and begins with these lines has behind them a line that may stand next.
pub stands_next : {n : ℕ} {front line after rest : List ℕ} {g : Stage} {u : Trace} → RightSoFar n front g → FirstLine line after rest
    → Spells u (front ++ rest) → Next g line
stands_next at_first f a = version (rw (first_one a.one.first f).0 at a.version)
stands_next {rest = rest} (at_second l w) f a =
    let x = first_one a.one.first (first_more rest l.first) in
    start (rw (first_one a.two.first (rw (← x.1) at f)).0 at a.start)
stands_next {line = line} {rest = rest} {u = u} (at_later {t = t} m ls b) f a =
    let c = spells_cut rest m ls a in
    let e = one_trace c.first b in
    subst (λ (x : Trace). Next (later x) line) e (body_next f (expected_next u.first c.before) c.second)

-- So no acceptable text begins with them and a line that may not.
pub stands_never : {n : ℕ} {front line : List ℕ} {g : Stage} → RightSoFar n front g → All Inside line → (Next g line → ⊥)
    → Begins (front ++ ended_line line) → ⊥
stands_never {front = front} {line = line} s i bars b =
    bars (stands_next s (first_there b.rest i) (rw append_assoc at b.spelled))

barred : {n : ℕ} {front line after rest text : List ℕ} {g : Stage} → RightSoFar n front g → text ≡ front ++ rest → length text ≤ size_limit
    → Line line after rest → (Next g line → ⊥) → Barred n line text
unfolding stands_reached
barred {after = after} {rest = rest} s e h l bars = record {
  rest = rest;
  reached = stands_reached s e h;
  after = after;
  there = l;
  never = stands_never s l.first.inside bars;
}

-- What may not stand next.
not_version : {line : List ℕ} → ((v : ℕ) → VersionLine v line → ⊥) → Next first line → ⊥
not_version bars (version w) = bars _ w

not_start : {v : ℕ} {line : List ℕ} → ((s : ℕ) → StartLine s line → ⊥) → Next (second v) line → ⊥
not_start bars (start w) = bars _ w

not_dollar : {t : Trace} {line : List ℕ} → DollarLine line → Next (later t) line → ⊥
not_dollar d (comment c) = not_both c d
not_dollar d (row e w) = row_no_dollar w d

not_row : {t : Trace} {line : List ℕ} → (Comment line → ⊥) → ((k : ℕ) (r : Record) → Expected (next_number t) k → Row t.version k r line → ⊥)
    → Next (later t) line → ⊥
not_row c r (comment x) = c x
not_row c r (row e w) = r _ _ e w

-- Each case is a refusal of the promise.
pub stopped_refused : {n number : ℕ} {front rest text : List ℕ} {g : Stage} → RightSoFar n front g → text ≡ front ++ rest
    → length text ≤ size_limit → WrongNext g rest number → RefusedAtLine text number (n + 1)
stopped_refused s e h (unended x bars) = Promise.unended (stands_reached s e h) x bars
stopped_refused s e h (long f l) = Promise.long (stands_reached s e h) f l
stopped_refused at_first e h no_first = Promise.no_first (stands_reached at_first e h)
stopped_refused at_first e h (no_version l bars) = Promise.no_version (barred at_first e h l (not_version bars))
stopped_refused (at_second f v) e h no_second = Promise.no_second (stands_reached (at_second f v) e h)
stopped_refused (at_second f v) e h (no_start l bars) = Promise.no_start (barred (at_second f v) e h l (not_start bars))
stopped_refused (at_later m ls a) e h (dollar l d) = Promise.dollar (barred (at_later m ls a) e h l (not_dollar d)) m d
stopped_refused (at_later m ls a) e h (no_row l c d r) = Promise.no_row (barred (at_later m ls a) e h l (not_row c r)) m d

pub fails_refused : {text : List ℕ} {number place : ℕ} → length text ≤ size_limit → Fails text number place → RefusedAtLine text number place
fails_refused h f = rw f.at (stopped_refused f.stands f.whole h f.stopped)
