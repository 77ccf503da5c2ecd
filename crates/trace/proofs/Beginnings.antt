-- With which lines some acceptable text begins: none; a version line; lines that spell a trace.
use Prim.Native.Nat.{ℕ, suc, ◌+◌, ◌≤◌}
use mathlib.Core.Path.{◌≡◌, refl, ap, ◌∙◌}
use mathlib.Core.List.{List, [], ◌∷◌, ◌++◌, append_assoc, append-nil}
use native.Mathlib.Omega.{arith}
use lib.Dec.{T, leb, leb→le}
use lib.ListN.{length, length-append}
use Rattle.base.proofs.Tables.{every, at}
use Rattle.fields.specs.Runs.{empty}
use Rattle.fields.proofs.Runs.{all_append, all_of}
use Rattle.record.specs.declared.Record.{Record}
use Rattle.lines.specs.Lines.{line_limit, FirstLine, VersionLine, StartLine}
use Rattle.row.specs.Versions.{is11, version_text}
use Rattle.trace.specs.Trace.{size_limit, Trace, trace_of, no_rows, Line, Body, over, comment, row, Spells, AreBytes, Begins}
use Rattle.trace.specs.Promise.{EndedLines, none, line}
use Rattle.lines.proofs.Theorems.{first_one, version_line_text_lem, version_line_inside, start_line, start_line_text, start_line_inside}
use Rattle.trace.proofs.Apart.{no_line}
use Rattle.trace.proofs.Cuts.{ended_line, first_more, line_more, first_alone, spells_cut}

-- `;$FILEVERSION=1.1`
abbrev version_line : List ℕ
version_line = 59 ∷ version_text 11

-- A version line and a start line are a trace without rows.
pub header : {v s : ℕ} {first second rest text : List ℕ} → Line first rest text → VersionLine v first → Line second [] rest → StartLine s second
    → Spells (trace_of v s 0 []) text
header l w m x =
    record { first = _; after_first = _; one = l; version = w; second = _; after_second = []; two = m; start = x; body = over; numbered = no_rows refl refl }

-- A start line, ended.
start_alone : Line start_line [] (ended_line start_line)
start_alone = record { first = first_alone start_line_inside; short = omega arith }

-- Numbers that pass a test are bytes.
abbrev pub tested : List ℕ → Type 0
tested s = T (every (λ i b. leb (suc b) 256) 0 s)

pub are_bytes : (s : List ℕ) → tested s → AreBytes s
are_bytes s p = all_of s (λ k l. leb→le _ _ (at (λ i b. leb (suc b) 256) 0 s p k l))

-- Some acceptable text begins with no line,
pub begins_none : Begins []
begins_none = record {
  rest = ended_line version_line ++ ended_line start_line;
  bytes = are_bytes (ended_line version_line ++ ended_line start_line) tt;
  trace = _;
  spelled = header (record { first = record { inside = version_line_inside is11; ended = refl }; short = omega arith }) (version_line_text_lem is11) start_alone start_line_text;
  size = omega arith;
}

-- with a version line,
pub begins_version : {v : ℕ} {first front : List ℕ} → Line first [] front → VersionLine v first → Begins front
begins_version {first = first} {front = front} l w = record {
  rest = ended_line start_line;
  bytes = are_bytes (ended_line start_line) tt;
  trace = _;
  spelled = header (line_more (ended_line start_line) l) w start_alone start_line_text;
  size =
      let h = l.short in
      let e : length front ≡ length first + 2 = ap length l.first.ended ∙ length-append first (13 ∷ 10 ∷ []) in
      rw length-append (omega arith);
}

-- and with what spells a trace.
pub begins_spelled : {t : Trace} {front : List ℕ} → Spells t front → length front ≤ size_limit → Begins front
begins_spelled {t = t} a h = record { rest = []; bytes = empty; trace = t; spelled = rw append-nil a; size = rw append-nil h }

-- The lines with which a text that spells a trace begins are such lines.
pub begins_cut : {n : ℕ} {t : Trace} {front : List ℕ} (rest : List ℕ) → EndedLines n front → Spells t (front ++ rest)
    → length front ≤ size_limit → Begins front
begins_cut rest none a h = begins_none
begins_cut rest (line f none) a h =
    let x = first_one a.one.first (first_more rest f) in
    begins_version (record { first = f; short = rw x.0 at a.one.short }) (rw x.0 at a.version)
begins_cut rest (line {n = n} f (line {n = m} g ls)) a h = begins_spelled (spells_cut rest (omega arith) (line f (line g ls)) a).first h

-- Fewer lines begin what more do.
pub begins_fewer : {n : ℕ} {front : List ℕ} (more : List ℕ) → EndedLines n front → Begins (front ++ more) → Begins front
begins_fewer {front = front} more ls b =
    begins_cut (more ++ b.rest) ls (rw append_assoc at b.spelled) (omega (arith, b.size, length-append (front ++ more) b.rest, length-append front more))

-- Where they are bytes, so is all of the text that begins with them.
pub begins_bytes : {front : List ℕ} → AreBytes front → (b : Begins front) → AreBytes (front ++ b.rest)
begins_bytes a b = all_append a b.bytes

-- Every line of what spells a trace is short.
pub data Shorts : List ℕ → Type 0 where
  no_more : Shorts []
  one_more : {l rest text : List ℕ} → Line l rest text → Shorts rest → Shorts text

body_shorts : {v k : ℕ} {rs : List Record} {t : List ℕ} → Body v k rs t → Shorts t
body_shorts over = no_more
body_shorts (comment l c h) = one_more l (body_shorts h)
body_shorts (row l w h) = one_more l (body_shorts h)

pub spells_shorts : {t : Trace} {text : List ℕ} → Spells t text → Shorts text
spells_shorts a = one_more a.one (one_more a.two (body_shorts a.body))

-- So is every line behind some lines.
pub shorts_after : {n : ℕ} {front text : List ℕ} (rest : List ℕ) → EndedLines n front → text ≡ front ++ rest → Shorts text → Shorts rest
shorts_after rest none e s = rw e at s
shorts_after rest (line f ls) e no_more = absurd (no_line (rw (← e) at (first_more rest f)))
shorts_after rest (line f ls) e (one_more l s) = shorts_after rest ls (first_one l.first (rw (← e) at (first_more rest f))).1 s

pub shorts_first : {l rest text : List ℕ} → FirstLine l rest text → Shorts text → length l ≤ line_limit
shorts_first f no_more = absurd (no_line f)
shorts_first f (one_more l s) = rw (first_one l.first f).0 at l.short
