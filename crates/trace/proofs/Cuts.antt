-- Texts cut after a line, and texts put together: what stands before the cut spells a trace of its own.
use Prim.Native.Nat.{ℕ, suc, ◌+◌, ◌-◌, ◌≤◌}
use mathlib.Core.Path.{◌≡◌, refl, ap, sym, ◌∙◌}
use mathlib.Core.List.{List, [], ◌∷◌, ◌++◌, append_assoc, append-nil}
use native.Mathlib.Nat.{add-zero}
use native.Mathlib.Omega.{arith}
use lib.ListN.{length, length-append}
use Rattle.record.specs.declared.Record.{Record}
use Rattle.fields.specs.Columns.{last_number}
use Rattle.fields.specs.Runs.{All}
use Rattle.row.specs.Row.{Expected, this, any, Row}
use Rattle.row.specs.Versions.{head_lines}
use Rattle.row.proofs.Formed.{row_number}
use Rattle.lines.specs.Lines.{Inside, FirstLine, Comment}
use Rattle.trace.specs.Trace.{Trace, trace_of, FirstNumber, no_rows, some_rows, Line, Body, over, comment, row, Spells}
use Rattle.trace.specs.Promise.{EndedLines, none, line}
use Rattle.lines.proofs.Theorems.{first_one}
use Rattle.trace.proofs.Apart.{no_line}

-- A line with its end.
abbrev pub ended_line : List ℕ → List ℕ
ended_line l = l ++ (13 ∷ 10 ∷ [])

-- The same first line, with more text behind.
pub first_more : {l r t : List ℕ} (x : List ℕ) → FirstLine l r t → FirstLine l (r ++ x) (t ++ x)
first_more {l} {r} x f = record { inside = f.inside; ended = ap (λ (s : List ℕ). s ++ x) f.ended ∙ append_assoc l (13 ∷ 10 ∷ r) x }

pub line_more : {l r t : List ℕ} (x : List ℕ) → Line l r t → Line l (r ++ x) (t ++ x)
line_more x f = record { first = first_more x f.first; short = f.short }

-- A line and its end in front of a text.
pub first_there : {l : List ℕ} (x : List ℕ) → All Inside l → FirstLine l x (ended_line l ++ x)
first_there {l} x a = record { inside = a; ended = append_assoc l (13 ∷ 10 ∷ []) x }

pub first_alone : {l : List ℕ} → All Inside l → FirstLine l [] (ended_line l)
first_alone a = record { inside = a; ended = refl }

-- A text is its first line, ended, and what stands behind it.
pub first_whole : {l r t : List ℕ} → FirstLine l r t → t ≡ ended_line l ++ r
first_whole {l} {r} f = f.ended ∙ sym (append_assoc l (13 ∷ 10 ∷ []) r)

-- One line of a text, alone.
pub lines_alone : {l : List ℕ} → All Inside l → EndedLines 1 (ended_line l)
lines_alone a = line {n = 0} (first_alone a) none

-- Lines behind lines are lines.
pub lines_append : {n m : ℕ} {a b : List ℕ} → EndedLines n a → EndedLines m b → EndedLines (n + m) (a ++ b)
lines_append {m = m} none g =
    let e : 0 + m ≡ m = omega arith in
    rw e g
lines_append {m = m} {b = b} (line {n = n} f h) g =
    let e : n + 1 + m ≡ n + m + 1 = omega arith in
    rw e (line (first_more b f) (lines_append h g))

-- The rows of a text, cut after some lines.
pub record Cut (v k : ℕ) (rs : List Record) (front rest : List ℕ) : Type 0 where
  pub before : List Record
  pub after : List Record
  pub whole : rs ≡ before ++ after
  pub first : Body v k before front
  pub second : Body v (k + length before) after rest

pub body_cut : {v k n : ℕ} {rs : List Record} {front t : List ℕ} (rest : List ℕ) → EndedLines n front → t ≡ front ++ rest → Body v k rs t
    → Cut v k rs front rest
body_cut {v} {k} {rs = rs} rest none e h =
    record { before = []; after = rs; whole = refl; first = over; second = rw add-zero (rw e at h) }
body_cut rest (line f ls) e over = absurd (no_line (rw (← e) at (first_more rest f)))
body_cut rest (line f ls) e (comment l c h) =
    let x = first_one l.first (rw (← e) at (first_more rest f)) in
    let y = body_cut rest ls x.1 h in
    record {
      before = y.before;
      after = y.after;
      whole = y.whole;
      first = comment (record { first = f; short = rw x.0 at l.short }) (rw x.0 at c) y.first;
      second = y.second;
    }
body_cut {v} {k} rest (line f ls) e (row {r = r} l w h) =
    let x = first_one l.first (rw (← e) at (first_more rest f)) in
    let y = body_cut {k = k + 1} rest ls x.1 h in
    let n : k + 1 + length y.before ≡ k + suc (length y.before) = omega arith in
    record {
      before = r ∷ y.before;
      after = y.after;
      whole = cc y.whole;
      first = row (record { first = f; short = rw x.0 at l.short }) (rw x.0 at w) y.first;
      second = rw n at y.second;
    }

-- Rows behind rows.
pub body_append : {v k : ℕ} {rs qs : List Record} {front rest : List ℕ} → Body v k rs front → Body v (k + length rs) qs rest
    → Body v k (rs ++ qs) (front ++ rest)
body_append over g = rw add-zero at g
body_append {rest = rest} (comment l c h) g = comment (line_more rest l) c (body_append h g)
body_append {k = k} {rest = rest} (row {rs = rs} l w h) g =
    let n : k + suc (length rs) ≡ k + 1 + length rs = omega arith in
    row (line_more rest l) w (body_append h (rw n at g))

-- Where no row stands, the next may have any number.
body_none : {v k j : ℕ} {t : List ℕ} {rs : List Record} → length rs ≡ 0 → Body v k rs t → Body v j rs t
body_none e over = over
body_none e (comment l c h) = comment l c (body_none e h)
body_none e (row l w h) = absurd (omega arith)

-- A text that spells a trace, with more behind it, and these rows instead.
lengthened : {t : Trace} {front : List ℕ} {first : ℕ} {rs : List Record} (a : Spells t front) (s : List ℕ) → Body t.version first rs (a.after_second ++ s)
    → FirstNumber first (length rs) → Spells (trace_of t.version t.start first rs) (front ++ s)
lengthened a s b n = record {
  first = a.first;
  after_first = a.after_first ++ s;
  one = line_more s a.one;
  version = a.version;
  second = a.second;
  after_second = a.after_second ++ s;
  two = line_more s a.two;
  start = a.start;
  body = b;
  numbered = n;
}

-- A comment behind it leaves the trace as it is.
pub spells_comment : {t : Trace} {front s : List ℕ} → Spells t front → Line s [] (ended_line s) → Comment s → Spells t (front ++ ended_line s)
spells_comment {s = s} a l c = lengthened a (ended_line s) (rw append-nil at (body_append a.body (comment l c over))) a.numbered

-- One row more, of number k: the first has k less as many as stand before it.
abbrev pub with_row : Trace → ℕ → Record → Trace
with_row t k r = trace_of t.version t.start (k - length t.records) (t.records ++ (r ∷ []))

module _ {t : Trace} {front s : List ℕ} {r : Record} {k : ℕ} (a : Spells t front) (e : Expected (t.first + length t.records) k) (w : Row t.version k r s) where
  before_row : (k - length t.records + length t.records ≡ k) × Body t.version (k - length t.records) t.records a.after_second
  before_row = go e
    where
      go : Expected (t.first + length t.records) k
          → (k - length t.records + length t.records ≡ k) × Body t.version (k - length t.records) t.records a.after_second
      go (any z) = (omega arith, body_none (omega arith) a.body)
      go (this q) = let n : t.first ≡ k - length t.records = omega arith in (omega arith, rw n at a.body)

  numbered_row : FirstNumber (k - length t.records) (length (t.records ++ (r ∷ [])))
  numbered_row = go a.numbered e (row_number w) (length-append t.records (r ∷ []))
    where
      go : {first n m : ℕ} → FirstNumber first n → Expected (first + n) k → (1 ≤ k) × (k ≤ last_number) → m ≡ n + 1 → FirstNumber (k - n) m
      go (no_rows z x) e h l = some_rows (omega arith) (omega arith) (omega arith)
      go (some_rows c m u) (this q) h l = some_rows (omega arith) (omega arith) (omega arith)
      go (some_rows c m u) (any z) h l = absurd (omega arith)

  pub spells_row : Line s [] (ended_line s) → Spells (with_row t k r) (front ++ ended_line s)
  spells_row l = let b = before_row in lengthened a (ended_line s) (body_append b.1 (row l (rw (← b.0) at w) over)) numbered_row

-- The first number where these are the rows.
abbrev pub first_of : ℕ → List Record → ℕ
first_of first [] = 0
first_of first (r ∷ rs) = first

-- The trace with these of its rows.
abbrev pub with_records : Trace → List Record → Trace
with_records t rs = trace_of t.version t.start (first_of t.first rs) rs

body_of : {v first : ℕ} (rs : List Record) {t : List ℕ} → Body v first rs t → Body v (first_of first rs) rs t
body_of [] b = body_none refl b
body_of (r ∷ rs) b = b

numbered_of : {first : ℕ} (rs qs : List Record) → FirstNumber first (length (rs ++ qs)) → FirstNumber (first_of first rs) (length rs)
numbered_of [] qs n = no_rows refl refl
numbered_of (r ∷ rs) qs (no_rows z x) = absurd (omega arith)
numbered_of (r ∷ rs) qs (some_rows h l u) = some_rows (omega arith) l (omega (arith, length-append rs qs))

-- Behind them the next number is expected.
pub expected_next : (first : ℕ) (rs : List Record) → Expected (first_of first rs + length rs) (first + length rs)
expected_next first [] = any refl
expected_next first (r ∷ rs) = this refl

-- A text that spells a trace, cut after its head lines or more.
pub record CutTrace (t : Trace) (front rest : List ℕ) : Type 0 where
  pub before : List Record
  pub after : List Record
  pub whole : t.records ≡ before ++ after
  pub first : Spells (with_records t before) front
  pub second : Body t.version (t.first + length before) after rest

pub spells_cut : {n : ℕ} {t : Trace} {front : List ℕ} (rest : List ℕ) → head_lines t.version ≤ n → EndedLines n front
    → Spells t (front ++ rest) → CutTrace t front rest
spells_cut rest m none a = absurd (omega arith)
spells_cut rest m (line f none) a = absurd (omega arith)
spells_cut {t = t} rest m (line f (line g ls)) a =
    let x = first_one a.one.first (first_more rest f) in
    let y = first_one a.two.first (rw (← x.1) at (first_more rest g)) in
    let c = body_cut rest ls y.1 a.body in
    record {
      before = c.before;
      after = c.after;
      whole = c.whole;
      first = record {
        first = a.first;
        after_first = _;
        one = record { first = rw (← x.0) at f; short = a.one.short };
        version = a.version;
        second = a.second;
        after_second = _;
        two = record { first = rw (← y.0) at g; short = a.two.short };
        start = a.start;
        body = body_of c.before c.first;
        numbered = numbered_of c.before c.after (rw c.whole at a.numbered);
      };
      second = c.second;
    }
