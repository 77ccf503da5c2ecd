-- The place: the lines before a refused line begin some acceptable text, and nothing that begins with them and this line spells a trace.
use Prim.Native.Nat.{ℕ, ◌+◌, ◌≤◌, ◌<◌}
use mathlib.Core.Path.{◌≡◌, refl, ap, sym, ◌∙◌}
use mathlib.Core.List.{List, [], ◌∷◌, ◌++◌, append_assoc, append-nil}
use native.Mathlib.Omega.{arith}
use lib.ListN.{length, length-append}
use Rattle.fields.specs.Runs.{All}
use Rattle.lines.specs.Lines.{line_limit, Inside, FirstLine}
use Rattle.trace.specs.Trace.{size_limit, Trace, Spells, Begins}
use Rattle.trace.specs.Promise
use Rattle.trace.specs.Promise.{read_refused, EndedLines, Reached, Barred, RefusedAtLine, ReadPromise, large, done, no_room, refused}
use Rattle.trace.proofs.Cuts.{ended_line, first_there, first_whole, lines_alone, lines_append}
use Rattle.trace.proofs.Beginnings.{begins_cut, spells_shorts, shorts_after, shorts_first}

-- The line at this place, ended, of a text: `front` is the lines before it.
pub record Place (text : List ℕ) (place : ℕ) : Type 0 where
  pub n : ℕ
  pub front : List ℕ
  pub line : List ℕ
  pub rest : List ℕ
  pub whole : text ≡ front ++ (line ++ (13 ∷ 10 ∷ rest))
  pub before : EndedLines n front
  pub inside : All Inside line
  pub at : place ≡ n + 1
  -- the lines before begin some acceptable text
  pub begins : Begins front
  -- nothing that begins with them and this line spells a trace, however it goes on
  pub never : (more : List ℕ) (t : Trace) → Spells t (front ++ (line ++ (13 ∷ 10 ∷ more))) → ⊥

-- Or the line at this place, line 1 or 2, is absent: the text ends before it.
pub record Absent (text : List ℕ) (place : ℕ) : Type 0 where
  pub n : ℕ
  pub few : n < 2
  pub whole : EndedLines n text
  pub at : place ≡ n + 1
  pub begins : Begins text

pub data Placed (text : List ℕ) (place : ℕ) : Type 0 where
  stands : Place text place → Placed text place
  absent : Absent text place → Placed text place

placed : {n : ℕ} {line after rest text : List ℕ} → (r : Reached n rest text) → FirstLine line after rest
    → ((more : List ℕ) (t : Trace) → Spells t (r.front ++ (ended_line line ++ more)) → ⊥) → Placed text (n + 1)
placed {n} {line} {after} {rest} r f bars = stands (record {
  n = n;
  front = r.front;
  line = line;
  rest = after;
  whole = r.whole ∙ ap (λ (s : List ℕ). r.front ++ s) f.ended;
  before = r.lines;
  inside = f.inside;
  at = refl;
  begins = r.begins;
  never = λ more t s. bars more t (rw append_assoc s);
})

-- A line over 250 bytes stands in no trace.
never_long : {n : ℕ} {line after rest text : List ℕ} → (r : Reached n rest text) → FirstLine line after rest → line_limit < length line
    → (more : List ℕ) (t : Trace) → Spells t (r.front ++ (ended_line line ++ more)) → ⊥
never_long {line = line} r f l more t s =
    omega (arith, shorts_first (first_there more f.inside) (shorts_after (ended_line line ++ more) r.lines refl (spells_shorts s)))

-- The lines before a barred line, and this one, are within the size limit, as the text is.
pub barred_size : {n : ℕ} {line text : List ℕ} → length text ≤ size_limit → (b : Barred n line text)
    → length (b.reached.front ++ ended_line line) ≤ size_limit
barred_size {line = line} h b =
    let r = b.reached in
    rw length-append (omega (arith, ap length r.whole, length-append r.front b.rest, ap length (first_whole b.there.first), length-append (ended_line line) b.after))

-- Were such a text spelled, one within the size limit would be, too.
never_barred : {n : ℕ} {line text : List ℕ} → length text ≤ size_limit → (b : Barred n line text)
    → (more : List ℕ) (t : Trace) → Spells t (b.reached.front ++ (ended_line line ++ more)) → ⊥
never_barred {n} {line} h b more t s =
    let r = b.reached in
    let f = b.there.first in
    b.never (begins_cut more (lines_append r.lines (lines_alone f.inside)) (rw (← append_assoc) at s) (barred_size h b))

barred : {n : ℕ} {line text : List ℕ} → length text ≤ size_limit → Barred n line text → Placed text (n + 1)
barred h b = placed b.reached b.there.first (never_barred h b)

missing : {n : ℕ} {text : List ℕ} → n < 2 → Reached n [] text → Placed text (n + 1)
missing {n} {text} l r =
    let e : r.front ≡ text = sym (r.whole ∙ append-nil r.front) in
    absent (record { n = n; few = l; whole = rw e at r.lines; at = refl; begins = rw e at r.begins })

-- For every refusal 3 to 7.
pub place : {text : List ℕ} {number p : ℕ} → length text ≤ size_limit → RefusedAtLine text number p → 3 ≤ number → Placed text p
place h (Promise.unended r x f) m = absurd (omega arith)
place h (Promise.long r f l) m = placed r f (never_long r f l)
place h (Promise.no_first r) m = missing (omega arith) r
place h (Promise.no_version b) m = barred h b
place h (Promise.no_second r) m = missing (omega arith) r
place h (Promise.no_start b) m = barred h b
place h (Promise.dollar b l d) m = barred h b
place h (Promise.no_row b l d) m = barred h b

-- The same of every answer that keeps the promise.
pub read_place : {text before a after : List ℕ} {number p : ℕ} → ReadPromise text before a after → a ≡ read_refused number p
    → 3 ≤ number → number ≤ 7 → Placed text p
read_place {number = number} (large h e q) d l m = let z : number ≡ 1 = cc (e, d) in absurd (omega arith)
read_place {number = number} (done h s r e q) d l m = let z : number ≡ 0 = cc (e, d) in absurd (omega arith)
read_place {number = number} (no_room h s r e q) d l m = let z : number ≡ 8 = cc (e, d) in absurd (omega arith)
read_place {number = number} {p = p} (refused {n = n} {p = o} h f e q) d l m =
    let x : number ≡ n = cc (e, d) in
    let y : p ≡ o = cc (e, d) in
    rw y (place h f (omega arith))
