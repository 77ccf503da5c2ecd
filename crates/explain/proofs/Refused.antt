-- It explains what the reader refused: the line of a text that `read` refuses with 7 is explained, and not refused, where some row has the number that
-- is expected next.
use Prim.Native.Nat.{ℕ, ◌+◌, ◌≤◌, ◌<◌}
use mathlib.Core.Path.{◌≡◌, ap, ◌∙◌}
use mathlib.Core.List.{List, ◌∷◌, ◌++◌}
use native.Mathlib.Omega.{arith}
use lib.ListN.{get_or}
use Rattle.fields.specs.Columns.{last_number}
use Rattle.row.specs.Versions.{Version}
use Rattle.trace.specs.Trace.{Trace, Spells}
use Rattle.trace.specs.Promise.{EndedLines, ReadPromise, read_refused, large, done, no_room, refused}
use Rattle.trace.proofs.Exactly.{refused_fails}
use Rattle.trace.proofs.Fails.{Stage, RightSoFar, at_first, at_second, at_later, next_number, WrongNext, no_row, Fails}
use Rattle.explain.specs.Explain.{Unexplained, no_number}
use Rattle.explain.specs.Promise.{ExplainPromise, no_version, unexplained, wrong, early}
use Rattle.explain.proofs.Theorems.{to_explain}

-- What is explained is no refusal, and what is not to be explained is one.
pub no_refusal : {line a : List ℕ} {v k : ℕ} → Version v → (Unexplained v k line → ⊥) → ExplainPromise line v k a → get_or a 0 0 ≡ 0
no_refusal v n (no_version u e) = absurd (u v)
no_refusal v n (unexplained u x e) = absurd (n x)
no_refusal v n (wrong u x w e) = ap (λ (l : List ℕ). get_or l 0 0) e
no_refusal v n (early u x w e) = ap (λ (l : List ℕ). get_or l 0 0) e

pub refused_30 : {line a : List ℕ} {v k : ℕ} → Version v → Unexplained v k line → ExplainPromise line v k a → get_or a 0 0 ≡ 30
refused_30 v x (no_version u e) = absurd (u v)
refused_30 v x (unexplained u y e) = ap (λ (l : List ℕ). get_or l 0 0) e
refused_30 v x (wrong u n w e) = absurd (n x)
refused_30 v x (early u n w e) = absurd (n x)

-- The line at this place, and the lines before it, which spell a trace: its version, its first number, and as many rows as it has records, stand before
-- the line.
pub record RefusedRow (text : List ℕ) (place : ℕ) : Type 0 where
  pub n : ℕ
  pub at : place ≡ n + 1
  pub front : List ℕ
  pub line : List ℕ
  pub rest : List ℕ
  pub whole : text ≡ front ++ (line ++ (13 ∷ 10 ∷ rest))
  pub before : EndedLines n front
  pub trace : Trace
  pub spelled : Spells trace front
  -- the line is explained, unless the last row number stands before it
  pub explains : (a : List ℕ) → next_number trace ≤ last_number → ExplainPromise line trace.version (next_number trace) a → get_or a 0 0 ≡ 0
  -- after that no line can be a row
  pub full : (a : List ℕ) → last_number < next_number trace → ExplainPromise line trace.version (next_number trace) a → get_or a 0 0 ≡ 30

row_refused : {text : List ℕ} {place : ℕ} → Fails text 7 place → RefusedRow text place
row_refused f = go f.stands f.stopped f.whole f.at
  where
    go : {text front rest : List ℕ} {n place : ℕ} {g : Stage} → RightSoFar n front g → WrongNext g rest 7 → text ≡ front ++ rest → place ≡ n + 1 → RefusedRow text place
    go {rest = rest} at_first w e p = elim w [ ]
    go {front = front} {rest = rest} (at_second {v = v} {line = line} l i) w e p = elim w [ ]
    go {front = front} {n = n} (at_later {t = t} m ls a) (no_row {line = line} {after = after} l c d r) e p = record {
      n = n;
      at = p;
      front = front;
      line = line;
      rest = after;
      whole = e ∙ ap (λ (s : List ℕ). front ++ s) l.first.ended;
      before = ls;
      trace = t;
      spelled = a;
      explains = λ x h q. no_refusal a.version.is (to_explain h l.first.inside c r) q;
      full = λ x h q. refused_30 a.version.is (no_number h) q;
    }

pub explains_refused : {text out a after : List ℕ} {place : ℕ} → ReadPromise text out a after → a ≡ read_refused 7 place
    → RefusedRow text place
explains_refused (large h e q) d = let z : ◌≡◌ {A = ℕ} 1 7 = cc (e, d) in absurd (omega arith)
explains_refused (done h s r e q) d = let z : ◌≡◌ {A = ℕ} 0 7 = cc (e, d) in absurd (omega arith)
explains_refused (no_room h s r e q) d = let z : ◌≡◌ {A = ℕ} 8 7 = cc (e, d) in absurd (omega arith)
explains_refused {place = place} (refused {n = n} {p = p} h f e q) d =
    let x : n ≡ 7 = cc (e, d) in
    let y : p ≡ place = cc (e, d) in
    rw (← y) (row_refused (rw x at (refused_fails h f)))
