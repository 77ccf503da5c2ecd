-- Paper 01's table of numbers, for reading: each number is given exactly when the table says, with its place. Of 2 to 7 the table's words are
-- `WrongNext` (Fails): what the first wrong line is, or is not, behind lines that are right (`RightSoFar`).
use Prim.Native.Nat.{ℕ, ◌+◌, ◌*◌, ◌≤◌, ◌<◌}
use mathlib.Core.Path.{◌≡◌, refl, ap}
use mathlib.Core.List.{List, [], ◌++◌}
use native.Mathlib.Omega.{arith}
use lib.ListN.{length, get_or}
use Rattle.record.specs.declared.Record.{Record}
use Rattle.fields.specs.Columns.{last_number}
use Rattle.row.specs.Row.{Expected, this, any, Row}
use Rattle.row.specs.Versions.{head_lines}
use Rattle.row.proofs.Formed.{row_number}
use Rattle.lines.specs.Lines.{Comment, DollarLine}
use Rattle.trace.specs.Trace.{size_limit, Trace, Line, Spells, Begins}
use Rattle.trace.specs.Promise
use Rattle.trace.specs.Promise.{EndedLines, Reached, PastHead, Barred, RefusedAtLine, ReadPromise}
use Rattle.trace.specs.Promise.{none as no_lines, line as lines_more}
use Rattle.lines.proofs.Theorems.{first_one}
use Rattle.trace.proofs.Cuts.{ended_line, first_more, line_more, first_alone, spells_comment, spells_row, with_records, spells_cut}
use Rattle.trace.proofs.Beginnings.{header, begins_version, begins_spelled}
use Rattle.trace.proofs.Fails
use Rattle.trace.proofs.Fails.{Stage, first, second, later, RightSoFar, at_first, at_second, at_later, next_number, Next, version, start, comment, row, WrongNext, Fails, fails_refused}
use Rattle.trace.proofs.Place.{barred_size}
use Rattle.trace.proofs.Answers.{one_read}

-- Lines with which some acceptable text begins: none is wrong.
stands : {n : ℕ} {front : List ℕ} → EndedLines n front → Begins front → (g : Stage) × RightSoFar n front g
stands no_lines b = (first, at_first)
stands (lines_more f no_lines) b =
    let a = b.spelled in
    let x = first_one a.one.first (first_more b.rest f) in
    (second b.trace.version, at_second (record { first = f; short = rw x.0 at a.one.short }) (rw x.0 at a.version))
stands (lines_more {n = n} f (lines_more {n = m} g ls)) b =
    let head : head_lines b.trace.version ≤ m + 1 + 1 = omega arith in
    let c = spells_cut b.rest head (lines_more f (lines_more g ls)) b.spelled in
    (later (with_records b.trace c.before), at_later head (lines_more f (lines_more g ls)) c.first)

-- Which of the three it is goes by their number.
of_first : {n : ℕ} {front : List ℕ} {g : Stage} → RightSoFar n front g → n ≡ 0 → g ≡ first
of_first at_first e = refl
of_first (at_second l w) e = absurd (omega arith)
of_first (at_later m ls a) e = absurd (omega arith)

of_second : {n : ℕ} {front : List ℕ} {g : Stage} → RightSoFar n front g → n ≡ 1 → (v : ℕ) × (g ≡ second v)
of_second at_first e = absurd (omega arith)
of_second (at_second {v = v} l w) e = (v, refl)
of_second (at_later m ls a) e = absurd (omega arith)

of_later : {n : ℕ} {front : List ℕ} {g : Stage} (v : ℕ) → RightSoFar n front g → head_lines v ≤ n → (t : Trace) × (g ≡ later t)
of_later v at_first e = absurd (omega arith)
of_later v (at_second l w) e = absurd (omega arith)
of_later v (at_later {t = t} m ls a) e = (t, refl)

module _ {rest text : List ℕ} where
  on_first : (r : Reached 0 rest text) → RightSoFar 0 r.front first
  on_first r =
      let s = (stands r.lines r.begins).1 in
      rw (of_first s refl) at s

  on_second : (r : Reached 1 rest text) → (v : ℕ) × RightSoFar 1 r.front (second v)
  on_second r =
      let s = (stands r.lines r.begins).1 in
      let e = of_second s refl in
      (e.0, rw e.1 at s)

  on_later : {n : ℕ} (r : Reached n rest text) → PastHead r → (t : Trace) × RightSoFar n r.front (later t)
  on_later r m =
      let s = (stands r.lines r.begins).1 in
      let e = of_later r.begins.trace.version s m in
      (e.0, rw e.1 at s)

-- Some acceptable text begins with them and a line that may stand next, within the size limit.
goes_on : {n : ℕ} {front line : List ℕ} {g : Stage} → RightSoFar n front g → Line line [] (ended_line line) → Next g line
    → length (front ++ ended_line line) ≤ size_limit → Begins (front ++ ended_line line)
goes_on at_first l (version w) h = begins_version l w
goes_on {line = line} (at_second f v) l (start w) h = begins_spelled (header (line_more (ended_line line) f) v l w) h
goes_on (at_later m ls a) l (comment c) h = begins_spelled (spells_comment a l c) h
goes_on (at_later m ls a) l (row e w) h = begins_spelled (spells_row a e w l) h

module _ {text : List ℕ} (size : length text ≤ size_limit) where
  -- So a line with which none begins may not.
  bars : {n : ℕ} {line : List ℕ} {g : Stage} (b : Barred n line text) → RightSoFar n b.reached.front g → Next g line → ⊥
  bars b s x =
      let l = b.there in
      b.never (goes_on s (record { first = first_alone l.first.inside; short = l.short }) x (barred_size size b))

  fails : {n number : ℕ} {rest : List ℕ} {g : Stage} (r : Reached n rest text) → RightSoFar n r.front g → WrongNext g rest number
      → Fails text number (n + 1)
  fails r s x = record { n = _; front = r.front; rest = _; stage = _; whole = r.whole; stands = s; stopped = x; at = refl }

  -- A refusal says what the first wrong line is: the other way of `fails_refused`.
  pub refused_fails : {number place : ℕ} → RefusedAtLine text number place → Fails text number place
  refused_fails (Promise.unended r x f) = fails r (stands r.lines r.begins).1 (Fails.unended x f)
  refused_fails (Promise.long r f l) = fails r (stands r.lines r.begins).1 (Fails.long f l)
  refused_fails (Promise.no_first r) = fails r (on_first r) Fails.no_first
  refused_fails (Promise.no_version b) =
      let s = on_first b.reached in
      fails b.reached s (Fails.no_version b.there (λ v w. bars b s (version w)))
  refused_fails (Promise.no_second r) = fails r (on_second r).1 Fails.no_second
  refused_fails (Promise.no_start b) =
      let s = (on_second b.reached).1 in
      fails b.reached s (Fails.no_start b.there (λ v w. bars b s (start w)))
  refused_fails (Promise.dollar b m d) = fails b.reached (on_later b.reached m).1 (Fails.dollar b.there d)
  refused_fails (Promise.no_row b m d) =
      let s = (on_later b.reached m).1 in
      fails b.reached s (Fails.no_row b.there (λ c. bars b s (comment c)) d (λ k q e w. bars b s (row e w)))

-- What the table lists for a text and an output. 2 to 7: the first line that is wrong has this number and place.
pub data Listed (text before : List ℕ) : ℕ → ℕ → Type 0 where
  accepted : {t : Trace} → length text ≤ size_limit → Spells t text → 20 * length t.records ≤ length before → Listed text before 0 0
  large : size_limit < length text → Listed text before 1 0
  wrong : {number place : ℕ} → length text ≤ size_limit → Fails text number place → Listed text before number place
  no_room : {t : Trace} → length text ≤ size_limit → Spells t text → length before < 20 * length t.records → Listed text before 8 0

-- The first two numbers of an answer.
abbrev pub number : List ℕ → ℕ
number a = get_or a 0 0

abbrev pub place : List ℕ → ℕ
place a = get_or a 1 0

module _ {text before a x : List ℕ} where
  -- What `read` gives is listed,
  pub given_listed : ReadPromise text before a x → Listed text before (number a) (place a)
  given_listed (Promise.large h e q) = rw e (large h)
  given_listed (Promise.done h s l e q) = rw e (accepted h s l)
  given_listed (Promise.no_room h s l e q) = rw e (no_room h s l)
  given_listed (Promise.refused h f e q) = rw e (wrong h (refused_fails h f))

  -- and what is listed it gives.
  pub listed_given : {n p : ℕ} → Listed text before n p → ReadPromise text before a x → (number a ≡ n) × (place a ≡ p)
  listed_given (large h) r = let e = (one_read r (Promise.large h refl refl)).0 in (ap number e, ap place e)
  listed_given (accepted h s l) r = let e = (one_read r (Promise.done h s l refl refl)).0 in (ap number e, ap place e)
  listed_given (no_room h s l) r = let e = (one_read r (Promise.no_room h s l refl refl)).0 in (ap number e, ap place e)
  listed_given (wrong h f) r = let e = (one_read r (Promise.refused h (fails_refused h f) refl refl)).0 in (ap number e, ap place e)

-- Given exactly when: the number and the place that `read` gives are those that the table lists, and no others.
pub exactly : {text before a x : List ℕ} (n p : ℕ) → ReadPromise text before a x
    → ((number a ≡ n) × (place a ≡ p) → Listed text before n p) × (Listed text before n p → (number a ≡ n) × (place a ≡ p))
exactly n p r = (λ e. rw (← e.0, ← e.1) (given_listed r), λ t. listed_given t r)

-- Behind number 999,999 there is no row: an ended line that is no comment is refused there, with 7 unless it has a `$` first.
module _ {text front rest line after : List ℕ} {n : ℕ} {t : Trace} (size : length text ≤ size_limit) (whole : text ≡ front ++ rest)
    (before : head_lines t.version ≤ n) (lines : EndedLines n front) (spelled : Spells t front) (last : next_number t ≡ last_number + 1)
    (there : Line line after rest) where
  no_number : (k : ℕ) (r : Record) → Expected (next_number t) k → Row t.version k r line → ⊥
  no_number k r (this q) w = omega (arith, row_number w)
  no_number k r (any z) w = omega arith

  pub behind_last : {out a x : List ℕ} → (Comment line → ⊥) → (DollarLine line → ⊥) → ReadPromise text out a x → (number a ≡ 7) × (place a ≡ n + 1)
  behind_last c d r =
      let stopped = Fails.no_row {t = t} there c d no_number in
      listed_given (wrong size (record { n = n; front = front; rest = rest; stage = later t; whole = whole; stands = at_later before lines spelled; stopped = stopped; at = refl })) r
