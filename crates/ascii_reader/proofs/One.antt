-- One result: a text spells one start and one list of records at most.
use Prim.Native.Nat.{ℕ, ◌+◌, ◌*◌, ◌<◌}
use mathlib.Core.Path.{◌≡◌, refl, ap, sym, ◌∙◌}
use mathlib.Core.List.{List}
use native.Mathlib.Omega.{arith}
use Rattle.clock.specs.declared.DateTime.{DateTime}
use Rattle.record.specs.declared.Record.{Record}
use Rattle.ascii_line_reader.specs.AsciiLine.{with_offset, instant, AsciiLine}
use Rattle.ascii_line_reader.proofs.Theorems.{line_one}
use Rattle.ascii_reader.specs.Text.{Lines, over, line, FirstStart, no_lines, cut, SpellsAscii}
use Rattle.ascii_reader.proofs.Ends.{ended_one, ended_none}

-- A line has one record of this offset.
pub record_one : {d e : DateTime} {r q : Record} {l : List ℕ} → AsciiLine d r l → AsciiLine e q l → r.offset ≡ q.offset → r ≡ q
record_one {r = r} {q = q} x y e =
    let z : with_offset r.offset r ≡ with_offset r.offset q = (line_one x y).1 r.offset in
    let w : with_offset r.offset q ≡ with_offset q.offset q = ap (λ (o : ℕ). with_offset o q) e in
    z ∙ w

-- The first line has one start, its stamp cut to the millisecond.
pub first_start : {a b : ℕ} {d e : DateTime} {r q : Record} {l : List ℕ} → AsciiLine d r l → instant d ≡ a * 1000 + r.offset → r.offset < 1000
    → AsciiLine e q l → instant e ≡ b * 1000 + q.offset → q.offset < 1000 → a ≡ b
first_start x i h y j k = omega (arith, ap instant (line_one x y).0)

-- The records behind a start are the only ones.
pub lines_one : {start : ℕ} {rs qs : List Record} {t : List ℕ} → Lines start rs t → Lines start qs t → rs ≡ qs
lines_one over over = refl
lines_one over (line l x q h g) = absurd (ended_none l refl)
lines_one (line l x q h f) over = absurd (ended_none l refl)
lines_one (line l x q h f) (line k y p i g) =
    let z = ended_one l k in
    let w = rw z.0 at x in
    let s = ap instant (line_one w y).0 in
    cc (record_one w y (omega (arith, s)), lines_one f (rw (← z.1) at g))

-- And so is the start.
start_one : {a b : ℕ} {rs qs : List Record} {t : List ℕ} → FirstStart a rs → Lines a rs t → FirstStart b qs → Lines b qs t → a ≡ b
start_one (no_lines z) over (no_lines w) over = z ∙ sym w
start_one (no_lines z) over (cut w) (line l x q h g) = absurd (ended_none l refl)
start_one (cut z) (line l x q h f) (no_lines w) over = absurd (ended_none l refl)
start_one (cut z) (line l x q h f) (cut w) (line k y p i g) =
    first_start (rw (ended_one l k).0 at x) q z y p w

-- A text spells one start and one list of records at most.
pub one_result : {a b : ℕ} {rs qs : List Record} {t : List ℕ} → SpellsAscii a rs t → SpellsAscii b qs t → (a ≡ b) × (rs ≡ qs)
one_result f g =
    let e = start_one f.first f.lines g.first g.lines in
    (e, lines_one (rw e at f.lines) g.lines)
