-- One answer: the promise of `read` leaves one answer and one output only.
use Prim.Native.Nat.{ℕ, ◌+◌, ◌*◌, ◌≤◌, ◌<◌}
use mathlib.Core.Path.{◌≡◌, refl, ap, sym, ◌∙◌}
use mathlib.Core.Logic.{◌≢◌}
use mathlib.Core.List.{List, [], ◌∷◌, ◌++◌, append_assoc, append-nil}
use Rattle.std.specs.Prelude.{Result, Ok, Err}
use native.Mathlib.Decide.{dec_lt}
use native.Mathlib.Omega.{arith}
use lib.ListN.{length, drop, length-append}
use Rattle.base.specs.declared.refusal.Refused.{Refused}
use Rattle.base.specs.Refusal.{number_of}
use Rattle.record.proofs.Refusals.{some_number, same_refused}
use Rattle.records.specs.Records.{packed}
use Rattle.records.specs.StepBack.{step_back}
use Rattle.lines.specs.Lines.{line_limit, FirstLine, DollarLine}
use Rattle.row.proofs.EachVersion.{version_low}
use Rattle.trace.specs.declared.TraceRead.{TraceRead}
use Rattle.trace.specs.Trace.{size_limit, Trace, Line, Spells, Begins}
use Rattle.trace.specs.Promise
use Rattle.trace.specs.Promise.{read_done, read_refused, read_numbers, EndedLines, none, line, Reached, Barred, RefusedAtLine, ReadPromise, large, done, no_room, refused}
use Rattle.lines.proofs.Theorems.{first_one}
use Rattle.trace.proofs.Apart.{no_line}
use Rattle.trace.proofs.One.{one_trace}
use Rattle.trace.proofs.Cuts.{ended_line, first_more, first_whole, lines_alone, lines_append}
use Rattle.trace.proofs.Fails.{Fails, fails_refused}
use Rattle.trace.proofs.Beginnings.{begins_cut, begins_fewer, Shorts, no_more, one_more, spells_shorts, shorts_after, shorts_first}

-- Two counts of lines in one text: what stands between.
record Between (n m : ℕ) (front front' rest rest' : List ℕ) : Type 0 where
  count : ℕ
  middle : List ℕ
  sum : n + count ≡ m
  lines : EndedLines count middle
  longer : front' ≡ front ++ middle
  left : rest ≡ middle ++ rest'

behind_line : {l l' r r' t t' : List ℕ} (middle : List ℕ) → FirstLine l r t → FirstLine l' r' t' → l ≡ l' → r' ≡ r ++ middle
    → t' ≡ t ++ middle
behind_line middle f g e q = cc ((first_more middle f).ended, g.ended)

between : {n m : ℕ} {front front' : List ℕ} (rest rest' : List ℕ) → EndedLines n front → EndedLines m front' → front ++ rest ≡ front' ++ rest'
    → n ≤ m → Between n m front front' rest rest'
between {m = m} {front' = front'} rest rest' none g e h =
    record { count = m; middle = front'; sum = omega arith; lines = g; longer = refl; left = e }
between rest rest' (line f a) none e h = absurd (omega arith)
between rest rest' (line {n = n} {l = l} {rest = r} f a) (line {n = m} {rest = r'} g b) e h =
    let x = first_one (first_more rest f) (rw (← e) at (first_more rest' g)) in
    let y = between rest rest' a b x.1 (omega arith) in
    let s = y.sum in
    record {
      count = y.count;
      middle = y.middle;
      sum = omega arith;
      lines = y.lines;
      longer = behind_line y.middle f g x.0 y.longer;
      left = y.left;
    }

no_lines : {n : ℕ} {s : List ℕ} → EndedLines n s → n ≡ 0 → s ≡ []
no_lines none e = refl
no_lines (line f a) e = absurd (omega arith)

module _ {n m : ℕ} {rest rest' text : List ℕ} (a : Reached n rest text) (b : Reached m rest' text) where
  -- As many lines are the same lines.
  reached_same : n ≡ m → (a.front ≡ b.front) × (rest ≡ rest')
  reached_same e =
      let x = between rest rest' a.lines b.lines (sym a.whole ∙ b.whole) (omega arith) in
      let s = x.sum in
      let z : x.middle ≡ [] = no_lines x.lines (omega arith) in
      (sym (append-nil a.front) ∙ sym (rw z at x.longer), rw z at x.left)

-- The line behind some lines, with which some acceptable text begins too.
record Further (front rest : List ℕ) : Type 0 where
  line : List ℕ
  after : List ℕ
  first : FirstLine line after rest
  short : length line ≤ line_limit
  begins : Begins (front ++ ended_line line)

module _ {n m : ℕ} {rest rest' text : List ℕ} (a : Reached n rest text) (b : Reached m rest' text) where
  further : n < m → Further a.front rest
  further h =
      let x = between rest rest' a.lines b.lines (sym a.whole ∙ b.whole) (omega arith) in
      let s = x.sum in
      let j : 1 ≤ x.count = omega arith in
      go j x.lines x.longer x.left
    where
      go : {j : ℕ} {middle : List ℕ} → 1 ≤ j → EndedLines j middle → b.front ≡ a.front ++ middle → rest ≡ middle ++ rest'
          → Further a.front rest
      go l none e q = absurd (omega arith)
      go {middle = middle} l (line {l = this} {rest = behind} f ls) e q =
          let c = rw e at b.begins in
          let w : a.front ++ middle ≡ (a.front ++ ended_line this) ++ behind =
          ap (λ (s : List ℕ). a.front ++ s) (first_whole f) ∙ sym (append_assoc a.front (ended_line this) behind) in
          let d = c.rest in
          record {
            line = this;
            after = behind ++ rest';
            first = rw (← q) at (first_more rest' f);
            short = shorts_first (first_more d f) (shorts_after (middle ++ d) a.lines (append_assoc a.front middle d) (spells_shorts c.spelled));
            begins = begins_fewer behind (lines_append a.lines (lines_alone f.inside)) (rw w at c);
          }

-- What stops a text behind n lines, with its number; the first two lines have numbers of their own.
data Header : ℕ → ℕ → Type 0 where
  four : Header 0 4
  five : Header 1 5

data Kind (n : ℕ) (l : List ℕ) : ℕ → Type 0 where
  of_header : {number : ℕ} → Header n number → Kind n l number
  six : 2 ≤ n → DollarLine l → Kind n l 6
  seven : 2 ≤ n → (DollarLine l → ⊥) → Kind n l 7

data Stop (n : ℕ) (front rest : List ℕ) : ℕ → Type 0 where
  unended : rest ≢ [] → ((l after : List ℕ) → FirstLine l after rest → ⊥) → Stop n front rest 2
  long : {l after : List ℕ} → FirstLine l after rest → line_limit < length l → Stop n front rest 3
  absent : {number : ℕ} → Header n number → rest ≡ [] → Stop n front rest number
  barred : {number : ℕ} {l after : List ℕ} → Line l after rest → (Begins (front ++ ended_line l) → ⊥) → Kind n l number
      → Stop n front rest number

record Stops (text : List ℕ) (number place : ℕ) : Type 0 where
  n : ℕ
  rest : List ℕ
  reached : Reached n rest text
  stop : Stop n reached.front rest number
  at : place ≡ n + 1

bars : {n number : ℕ} {l text : List ℕ} → Barred n l text → Kind n l number → Stops text number (n + 1)
bars b k = record { n = _; rest = b.rest; reached = b.reached; stop = barred b.there b.never k; at = refl }

stops : {text : List ℕ} {number place : ℕ} → RefusedAtLine text number place → Stops text number place
stops (Promise.unended r x f) = record { n = _; rest = _; reached = r; stop = unended x f; at = refl }
stops (Promise.long r f l) = record { n = _; rest = _; reached = r; stop = long f l; at = refl }
stops (Promise.no_first r) = record { n = 0; rest = []; reached = r; stop = absent four refl; at = refl }
stops (Promise.no_version b) = bars b (of_header four)
stops (Promise.no_second r) = record { n = 1; rest = []; reached = r; stop = absent five refl; at = refl }
stops (Promise.no_start b) = bars b (of_header five)
stops (Promise.dollar b m d) = bars b (six m d)
stops (Promise.no_row b m d) = bars b (seven m d)

header_few : {n a : ℕ} → Header n a → n < 2
header_few four = omega arith
header_few five = omega arith

header_one : {n a b : ℕ} → Header n a → Header n b → a ≡ b
header_one four four = refl
header_one five five = refl

kind_one : {n a b : ℕ} {l : List ℕ} → Kind n l a → Kind n l b → a ≡ b
kind_one (of_header h) (of_header k) = header_one h k
kind_one (of_header h) (six m d) = absurd (omega (arith, header_few h))
kind_one (of_header h) (seven m d) = absurd (omega (arith, header_few h))
kind_one (six m d) (of_header k) = absurd (omega (arith, header_few k))
kind_one (six m d) (six o e) = refl
kind_one (six m d) (seven o e) = absurd (e d)
kind_one (seven m d) (of_header k) = absurd (omega (arith, header_few k))
kind_one (seven m d) (six o e) = absurd (d e)
kind_one (seven m d) (seven o e) = refl

none_left : {l after rest : List ℕ} → FirstLine l after rest → rest ≡ [] → ⊥
none_left f e = no_line (rw e at f)

too_long : {l r l' r' t : List ℕ} → FirstLine l r t → line_limit < length l → Line l' r' t → ⊥
too_long f h l = omega (arith, l.short, ap length (first_one f l.first).0)

-- Behind the same lines stands one number.
stop_one : {n a b : ℕ} {front rest : List ℕ} → Stop n front rest a → Stop n front rest b → a ≡ b
stop_one (unended x f) (unended y g) = refl
stop_one (unended x f) (long g l) = absurd (f _ _ g)
stop_one (unended x f) (absent k e) = absurd (x e)
stop_one (unended x f) (barred l v k) = absurd (f _ _ l.first)
stop_one (long f h) (unended y g) = absurd (g _ _ f)
stop_one (long f h) (long g l) = refl
stop_one (long f h) (absent k e) = absurd (none_left f e)
stop_one (long f h) (barred l v k) = absurd (too_long f h l)
stop_one (absent k e) (unended y g) = absurd (y e)
stop_one (absent k e) (long g l) = absurd (none_left g e)
stop_one (absent k e) (absent j d) = header_one k j
stop_one (absent k e) (barred l v j) = absurd (none_left l.first e)
stop_one (barred l v k) (unended y g) = absurd (g _ _ l.first)
stop_one (barred l v k) (long g h) = absurd (too_long g h l)
stop_one (barred l v k) (absent j d) = absurd (none_left l.first d)
stop_one (barred l v k) (barred m w j) = kind_one (rw (first_one l.first m.first).0 at k) j

-- No acceptable text goes further.
stop_further : {n a : ℕ} {front rest : List ℕ} → Stop n front rest a → Further front rest → ⊥
stop_further (unended x f) g = f _ _ g.first
stop_further (long f h) g = omega (arith, g.short, ap length (first_one f g.first).0)
stop_further (absent k e) g = none_left g.first e
stop_further (barred l v k) g = v (rw (← (first_one l.first g.first).0) at g.begins)

same_stop : {n m a b : ℕ} {f g r s : List ℕ} → n ≡ m → f ≡ g → r ≡ s → Stop n f r a → Stop m g s b → a ≡ b
same_stop p q e x y = stop_one (rw (p, q, e) at x) y

stops_one : {text : List ℕ} {a b p q : ℕ} → Stops text a p → Stops text b q → (a ≡ b) × (p ≡ q)
stops_one {a = a} {b = b} {p = p} {q = q} x y = go (dec_lt x.n y.n) (dec_lt y.n x.n)
  where
    go : Dec (x.n < y.n) → Dec (y.n < x.n) → (a ≡ b) × (p ≡ q)
    go (yes l) d = absurd (stop_further x.stop (further x.reached y.reached l))
    go (no l) (yes m) = absurd (stop_further y.stop (further y.reached x.reached m))
    go (no l) (no m) =
        let e : x.n ≡ y.n = omega arith in
        let z = reached_same x.reached y.reached e in
        (same_stop e z.0 z.1 x.stop y.stop, omega (arith, x.at, y.at))

-- A text is refused with one number at one place.
pub refused_one : {text : List ℕ} {a b p q : ℕ} → RefusedAtLine text a p → RefusedAtLine text b q → (a ≡ b) × (p ≡ q)
refused_one h k = stops_one (stops h) (stops k)

-- A text that spells a trace has two lines.
two_lines : {n : ℕ} {t : Trace} {front : List ℕ} (rest : List ℕ) → EndedLines n front → Spells t (front ++ rest) → rest ≡ [] → 2 ≤ n
two_lines rest none a e = absurd (none_left a.one.first e)
two_lines rest (line f none) a e =
    let x = first_one a.one.first (first_more rest f) in
    absurd (none_left a.two.first (x.1 ∙ e))
two_lines rest (line {n = n} f (line {n = m} g ls)) a e = omega arith

some_line : {rest : List ℕ} → Shorts rest → rest ≢ [] → ((l after : List ℕ) → FirstLine l after rest → ⊥) → ⊥
some_line no_more x f = x refl
some_line (one_more l s) x f = f _ _ l.first

no_stop : {n a : ℕ} {rest text : List ℕ} {t : Trace} → length text ≤ size_limit → Spells t text → (r : Reached n rest text)
    → Stop n r.front rest a → ⊥
no_stop {n = n} {rest = rest} {text = text} {t = t} h s r = go (shorts_after rest r.lines r.whole (spells_shorts s))
  where
    go : {a : ℕ} → Shorts rest → Stop n r.front rest a → ⊥
    go z (unended x f) = some_line z x f
    go z (long f l) = omega (arith, shorts_first f z)
    go z (absent k e) = omega (arith, header_few k, two_lines rest r.lines (rw r.whole at s) e)
    go z (barred {l = l} {after = after} f v k) =
        let e : text ≡ (r.front ++ ended_line l) ++ after =
        r.whole ∙ ap (λ (s : List ℕ). r.front ++ s) (first_whole f.first) ∙ sym (append_assoc r.front (ended_line l) after) in
        v (begins_cut after (lines_append r.lines (lines_alone f.first.inside)) (rw e at s) (omega (arith, ap length e, length-append (r.front ++ ended_line l) after)))

-- What spells a trace is not refused.
pub not_refused : {text : List ℕ} {t : Trace} {a p : ℕ} → length text ≤ size_limit → Spells t text → RefusedAtLine text a p → ⊥
not_refused h s k =
    let x = stops k in
    no_stop h s x.reached x.stop

-- The same of the first line that is wrong: it is the only one, and there is none in what spells a trace.
pub fails_one : {text : List ℕ} {a b p q : ℕ} → length text ≤ size_limit → Fails text a p → Fails text b q → (a ≡ b) × (p ≡ q)
fails_one h f g = refused_one (fails_refused h f) (fails_refused h g)

pub spells_fails : {text : List ℕ} {t : Trace} {a p : ℕ} → length text ≤ size_limit → Spells t text → Fails text a p → ⊥
spells_fails h s f = not_refused h s (fails_refused h f)

-- The promise leaves one answer and one output only.
pub one_read : {text before a b x y : List ℕ} → ReadPromise text before a x → ReadPromise text before b y → (a ≡ b) × (x ≡ y)
one_read (large h e q) (large k d r) = (e ∙ sym d, q ∙ sym r)
one_read (large h e q) (done k s m d r) = absurd (omega arith)
one_read (large h e q) (no_room k s m d r) = absurd (omega arith)
one_read (large h e q) (refused k f d r) = absurd (omega arith)
one_read (done h s l e q) (large k d r) = absurd (omega arith)
one_read {before = before} (done h s l e q) (done k u m d r) =
    let z = one_trace s u in (
      e ∙ ap (λ (t : Trace). read_done t.version t.start (length t.records) (step_back t.records) t.first) z ∙ sym d,
      q ∙ ap (λ (t : Trace). packed t.records ++ drop (20 * length t.records) before) z ∙ sym r,
    )
one_read (done h s l e q) (no_room k u m d r) = absurd (omega (arith, ap (λ (t : Trace). length t.records) (one_trace s u)))
one_read (done h s l e q) (refused k f d r) = absurd (not_refused h s f)
one_read (no_room h s l e q) (large k d r) = absurd (omega arith)
one_read (no_room h s l e q) (done k u m d r) = absurd (omega (arith, ap (λ (t : Trace). length t.records) (one_trace s u)))
one_read (no_room h s l e q) (no_room k u m d r) = (e ∙ sym d, q ∙ sym r)
one_read (no_room h s l e q) (refused k f d r) = absurd (not_refused h s f)
one_read (refused h f e q) (large k d r) = absurd (omega arith)
one_read (refused h f e q) (done k s m d r) = absurd (not_refused h s f)
one_read (refused h f e q) (no_room k s m d r) = absurd (not_refused h s f)
one_read (refused h f e q) (refused k g d r) =
    let z = refused_one f g in
    (e ∙ cc (z.0, z.1) ∙ sym d, q ∙ sym r)

-- Demand 3, acceptance: what spells a trace, where there is room, is accepted, and that trace handed out.
pub accepts : {text before a x : List ℕ} {t : Trace} → length text ≤ size_limit → Spells t text → 20 * length t.records ≤ length before
    → ReadPromise text before a x
    → (a ≡ read_done t.version t.start (length t.records) (step_back t.records) t.first)
    × (x ≡ packed t.records ++ drop (20 * length t.records) before)
accepts h s r p = one_read p (done h s r refl refl)

-- Refusals of a line have the numbers 2 to 7, at a place from 1.
pub refused_numbers : {text : List ℕ} {number p : ℕ} → RefusedAtLine text number p → (2 ≤ number) × (number ≤ 7) × (1 ≤ p)
refused_numbers (Promise.unended r x f) = (omega arith, omega arith, omega arith)
refused_numbers (Promise.long r f l) = (omega arith, omega arith, omega arith)
refused_numbers (Promise.no_first r) = (omega arith, omega arith, omega arith)
refused_numbers (Promise.no_version b) = (omega arith, omega arith, omega arith)
refused_numbers (Promise.no_second r) = (omega arith, omega arith, omega arith)
refused_numbers (Promise.no_start b) = (omega arith, omega arith, omega arith)
refused_numbers (Promise.dollar b m d) = (omega arith, omega arith, omega arith)
refused_numbers (Promise.no_row b m d) = (omega arith, omega arith, omega arith)

-- No refusal has number 0: where that is given, the version is not 0.
pub refusal : {text before x : List ℕ} {n p : ℕ} → ReadPromise text before (read_refused n p) x → 1 ≤ n
refusal {n = n} (large h e q) = let z : n ≡ 1 = cc in omega arith
refusal (done {t = t} h s r e q) = let z : 0 ≡ t.version = cc in omega (arith, version_low s.version.is)
refusal {n = n} (no_room h s r e q) = let z : n ≡ 8 = cc in omega arith
refusal {n = n} (refused {n = m} h f e q) = let z : n ≡ m = cc in omega (arith, (refused_numbers f).0)

-- So the numbers tell the answer itself,
same_trace : (t u : TraceRead) → read_numbers (Ok t) ≡ read_numbers (Ok u) → t ≡ u
same_trace t u e =
    let v : t.version ≡ u.version = cc in
    let s : t.start ≡ u.start = cc in
    let n : t.rows ≡ u.rows = cc in
    let b : t.step_back ≡ u.step_back = cc in
    let f : t.first ≡ u.first = cc in
    λ i. record { version = v i; start = s i; rows = n i; step_back = b i; first = f i }

pub same_outcome : (a b : Result TraceRead Refused) → read_numbers a ≡ read_numbers b → a ≡ b
same_outcome (Ok t) (Ok u) e = ap Ok (same_trace t u e)
same_outcome (Ok t) (Err d) e = let z : 0 ≡ number_of d.reason = cc in absurd (some_number d.reason (sym z))
same_outcome (Err d) (Ok u) e = let z : number_of d.reason ≡ 0 = cc in absurd (some_number d.reason z)
same_outcome (Err d) (Err c) e = ap Err (same_refused (cc) (cc))

-- which is the only one.
pub same_read : {text before x y : List ℕ} (a b : Result TraceRead Refused) → ReadPromise text before (read_numbers a) x
    → ReadPromise text before (read_numbers b) y → (a ≡ b) × (x ≡ y)
same_read a b p q =
    let z = one_read p q in
    (same_outcome a b z.0, z.1)

-- And only such a text is accepted.
pub accepted : {text before x : List ℕ} {p v s n b f : ℕ} → ReadPromise text before (0 ∷ p ∷ v ∷ s ∷ n ∷ b ∷ f ∷ []) x
    → (t : Trace) × Spells t text × (20 * length t.records ≤ length before)
accepted (large h e q) = let z : ◌≡◌ {A = ℕ} 0 1 = cc in absurd (omega arith)
accepted (done {t = t} h s r e q) = (t, s, r)
accepted (no_room h s r e q) = let z : ◌≡◌ {A = ℕ} 0 8 = cc in absurd (omega arith)
accepted (refused {n = n} h f e q) = let z : 0 ≡ n = cc in absurd (omega (arith, (refused_numbers f).0))

-- A reader that writes a record before a later line refuses breaks the promise: with a refusal the output is what it was.
pub untouched : {text before x : List ℕ} {number p : ℕ} → number ≢ 0 → ReadPromise text before (read_refused number p) x
    → x ≡ before
untouched f (large h e q) = q
untouched {number = number} f (done h s r e q) = let z : number ≡ 0 = cc in absurd (f z)
untouched f (no_room h s r e q) = q
untouched f (refused h k e q) = q
