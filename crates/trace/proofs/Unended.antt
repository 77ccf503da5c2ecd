-- The place of number 2: the lines before begin some acceptable text. Behind them stands a wrong end, and nothing that begins with them and
-- the line up to it spells a trace; or the text is cut off before its line has ended.
use Prim.Native.Nat.{ℕ, ◌+◌}
use mathlib.Core.Path.{◌≡◌, refl, ap}
use mathlib.Core.Logic.{◌≢◌}
use mathlib.Core.List.{List, [], ◌∷◌, ◌++◌, append_assoc}
use native.Mathlib.Omega.{arith}
use native.Mathlib.Decide.{ℕ_discrete}
use Rattle.fields.specs.Runs.{All, empty, more}
use Rattle.lines.specs.Lines.{Inside, FirstLine}
use Rattle.lines.proofs.Theorems.{feed_alone, return_alone}
use Rattle.trace.specs.Trace.{Trace, Spells, Begins}
use Rattle.trace.specs.Promise
use Rattle.trace.specs.Promise.{EndedLines, RefusedAtLine}
use Rattle.trace.proofs.Beginnings.{Shorts, no_more, one_more, spells_shorts, shorts_after}

-- A line and a wrong end: LF, or CR and another byte.
pub data Stray : List ℕ → Type 0 where
  feed : {line s : List ℕ} → All Inside line → s ≡ line ++ (10 ∷ []) → Stray s
  return : {line s : List ℕ} {b : ℕ} → All Inside line → b ≢ 10 → s ≡ line ++ (13 ∷ b ∷ []) → Stray s

-- What starts with no ended line: a wrong end stands in it, or it is cut off, before an end or behind its CR.
pub data Unended (rest : List ℕ) : Type 0 where
  stray : (s behind : List ℕ) → Stray s → rest ≡ s ++ behind → Unended rest
  unfinished : All Inside rest → Unended rest
  cut : (line : List ℕ) → All Inside line → rest ≡ line ++ (13 ∷ []) → Unended rest

-- one byte more before it
longer : (b : ℕ) {s : List ℕ} → Inside b → Unended s → Unended (b ∷ s)
longer b i (stray x y (feed {line = l} a e) q) = stray (b ∷ x) y (feed (more i a) (ap (λ (z : List ℕ). b ∷ z) e)) (ap (λ (z : List ℕ). b ∷ z) q)
longer b i (stray x y (return {line = l} a n e) q) = stray (b ∷ x) y (return (more i a) n (ap (λ (z : List ℕ). b ∷ z) e)) (ap (λ (z : List ℕ). b ∷ z) q)
longer b i (unfinished a) = unfinished (more i a)
longer b i (cut l a q) = cut (b ∷ l) (more i a) (ap (λ (z : List ℕ). b ∷ z) q)

pub unended : (s : List ℕ) → ((line after : List ℕ) → FirstLine line after s → ⊥) → Unended s
unended [] f = unfinished empty
unended (b ∷ s) f = go (ℕ_discrete b 10) (ℕ_discrete b 13) (λ g. unended s g)
  where
    behind : (s : List ℕ) → b ≡ 13 → ((line after : List ℕ) → FirstLine line after (b ∷ s) → ⊥) → Unended (b ∷ s)
    behind [] e f = cut [] empty (ap (λ (x : ℕ). x ∷ []) e)
    behind (c ∷ s) e f = at (ℕ_discrete c 10)
      where
        at : Dec (c ≡ 10) → Unended (b ∷ c ∷ s)
        at (yes z) = absurd (f [] s (record { inside = empty; ended = rw (e, z) refl }))
        at (no z) = stray (b ∷ c ∷ []) s (return empty z (ap (λ (x : ℕ). x ∷ c ∷ []) e)) refl

    go : Dec (b ≡ 10) → Dec (b ≡ 13) → (((line after : List ℕ) → FirstLine line after s → ⊥) → Unended s) → Unended (b ∷ s)
    go (yes e) d u = stray (b ∷ []) s (feed empty (ap (λ (x : ℕ). x ∷ []) e)) refl
    go (no n) (yes e) u = behind s e f
    go (no n) (no m) u =
        let i : Inside b = record { cr = m; lf = n } in
        longer b i (u (λ l a x. f (b ∷ l) a (record { inside = more i x.inside; ended = ap (λ (z : List ℕ). b ∷ z) x.ended })))

-- What short lines follow each other in starts with an ended line, if there is a byte in it.
some_line : (l : List ℕ) (b : ℕ) (other : List ℕ) → ((line after : List ℕ) → FirstLine line after (l ++ (b ∷ other)) → ⊥) → Shorts (l ++ (b ∷ other)) → ⊥
some_line l b other f h = go h refl
  where
    filled : (l : List ℕ) → [] ≡ l ++ (b ∷ other) → ⊥
    filled [] q = let z : ◌≡◌ {A = ℕ} 0 1 = cc in omega arith
    filled (x ∷ l) q = let z : ◌≡◌ {A = ℕ} 0 1 = cc in omega arith

    go : {t : List ℕ} → Shorts t → t ≡ l ++ (b ∷ other) → ⊥
    go no_more q = filled l q
    go (one_more x r) q = f _ _ (rw q at x.first)

-- Nothing spelled has a line with a wrong end, whatever stands behind it.
no_shorts : {s : List ℕ} (other : List ℕ) → Stray s → Shorts (s ++ other) → ⊥
no_shorts other (feed {line = l} a e) h = some_line l 10 other (λ line after x. feed_alone other a x) (rw (e, append_assoc) at h)
no_shorts other (return {line = l} {b = b} a n e) h = some_line l 13 (b ∷ other) (λ line after x. return_alone other a n x) (rw (e, append_assoc) at h)

pub never_stray : {n : ℕ} {front s : List ℕ} → EndedLines n front → Stray s → (other : List ℕ) (t : Trace) → Spells t (front ++ (s ++ other)) → ⊥
never_stray {s = s} ls w other t a = no_shorts other w (shorts_after (s ++ other) ls refl (spells_shorts a))

-- The line at this place, which has no end.
pub record Open (text : List ℕ) (place : ℕ) : Type 0 where
  pub n : ℕ
  pub front : List ℕ
  pub rest : List ℕ
  pub whole : text ≡ front ++ rest
  pub before : EndedLines n front
  pub at : place ≡ n + 1
  -- the lines before begin some acceptable text
  pub begins : Begins front
  -- a wrong end stands in what is left, or the text is cut off there
  pub how : Unended rest
  -- nothing that begins with them and this line, up to its wrong end, spells a trace, however it goes on
  pub never : (s : List ℕ) → Stray s → (other : List ℕ) (t : Trace) → Spells t (front ++ (s ++ other)) → ⊥

pub place_open : {text : List ℕ} {p : ℕ} → RefusedAtLine text 2 p → Open text p
place_open (Promise.unended {n = n} {rest = rest} r x f) = record {
  n = n;
  front = r.front;
  rest = rest;
  whole = r.whole;
  before = r.lines;
  at = refl;
  begins = r.begins;
  how = unended rest f;
  never = λ s w. never_stray r.lines w;
}
