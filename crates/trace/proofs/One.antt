-- One trace: a text spells one trace at most.
use Prim.Native.Nat.{ℕ, ◌≤◌}
use mathlib.Core.Path.{◌≡◌, refl, ap}
use mathlib.Core.List.{List}
use native.Mathlib.Omega.{arith}
use lib.ListN.{length}
use Rattle.record.specs.declared.Record.{Record}
use Rattle.row.proofs.One.{row_one, number_only}
use Rattle.trace.specs.Trace.{Trace, FirstNumber, no_rows, some_rows, Line, Body, over, comment, row, Spells}
use Rattle.lines.proofs.Theorems.{first_one, version_one, start_one}
use Rattle.trace.proofs.Apart.{no_line, row_no_comment}

-- The line that a text starts with, and what stands behind it, are the only ones.
pub line_one : {l l' r r' t : List ℕ} → Line l r t → Line l' r' t → (l ≡ l') × (r ≡ r')
line_one a b = first_one a.first b.first

-- From line 3 on: the rows are the only ones, and so is the number of the first, if there is one.
pub body_one : {v k j : ℕ} {rs qs : List Record} {t : List ℕ} → Body v k rs t → Body v j qs t → (rs ≡ qs) × (1 ≤ length rs → k ≡ j)
body_one over over = (refl, λ h. absurd (omega arith))
body_one over (comment l c h) = absurd (no_line l.first)
body_one over (row l w h) = absurd (no_line l.first)
body_one (comment l c h) over = absurd (no_line l.first)
body_one (comment l c h) (comment m d j) = body_one h (rw (← (line_one l m).1) at j)
body_one (comment l c h) (row m w j) = absurd (row_no_comment w (rw (line_one l m).0 at c))
body_one (row l w h) over = absurd (no_line l.first)
body_one (row l w h) (comment m d j) = absurd (row_no_comment w (rw (← (line_one l m).0) at d))
body_one (row l w h) (row m x j) =
    let e = line_one l m in
    let n = number_only (rw e.0 at w) x in
    (cc (row_one (rw (e.0, n) at w) x, (body_one h (rw (← e.1) at j)).0), λ h. n)

-- So many rows have one first number.
number_one : {a b n m : ℕ} → FirstNumber a n → FirstNumber b m → n ≡ m → (1 ≤ n → a ≡ b) → a ≡ b
number_one (no_rows z x) (no_rows w y) e f = omega arith
number_one (no_rows z x) (some_rows h l u) e f = absurd (omega arith)
number_one (some_rows h l u) g e f = f h

-- A text spells one trace at most.
pub one_trace : {t u : Trace} {s : List ℕ} → Spells t s → Spells u s → t ≡ u
one_trace {t} {u} a b =
    let x = line_one a.one b.one in
    let y = line_one a.two (rw (← x.1) at b.two) in
    let v : t.version ≡ u.version = version_one (rw x.0 at a.version) b.version in
    let s : t.start ≡ u.start = start_one (rw y.0 at a.start) b.start in
    let r = body_one (rw (v, y.1) at a.body) b.body in
    let n : t.first ≡ u.first = number_one a.numbered b.numbered (ap length r.0) r.1 in
    λ i. record { version = v i; start = s i; first = n i; records = r.0 i }
