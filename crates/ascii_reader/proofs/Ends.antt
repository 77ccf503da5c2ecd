-- The ends of lines: an ended line is the only one, whichever end it has; and CR for LF, which leaves the bytes inside a line as they are.
use Prim.Native.Nat.{ℕ, zero, suc, ◌≤◌, ◌<◌}
use mathlib.Core.Path.{◌≡◌, refl, ap, ap₂, sym, ◌∙◌}
use mathlib.Core.Logic.{◌≢◌, ◌⊎◌, inl, inr}
use mathlib.Core.List.{List, [], ◌∷◌, ◌++◌, append_assoc}
use native.Mathlib.Omega.{arith}
use borrow.Author.Tests.{eq-eqb, ne_eqb}
use lib.ListN.{length, get_or, drop}
use Rattle.fields.specs.Runs.{All, empty, more, Stops, halt}
use Rattle.fields.specs.inner.Window.{NoEnd}
use Rattle.fields.proofs.Runs.{cut}
use Rattle.lines.specs.Lines.{line_limit, Inside}
use Rattle.lines.proofs.Lines.{cr_outside, lf_outside}
use Rattle.ascii_reader.specs.Text.{EndedLine}
use Rattle.ascii_reader.specs.inner.Ends.{cr_for, cr_for_all}

-- The two ends that a line may have.
pub data LineEnd : List ℕ → Type 0 where
  return : LineEnd (13 ∷ 10 ∷ [])
  feed : LineEnd (10 ∷ [])

-- Neither starts with a byte that stands inside a line.
end_stops : {e : List ℕ} (rest : List ℕ) → LineEnd e → Stops Inside (e ++ rest)
end_stops rest return = halt (cr_outside refl)
end_stops rest feed = halt (lf_outside refl)

-- What stands behind an end is the only such.
same_end : {e d : List ℕ} (rest other : List ℕ) → LineEnd e → LineEnd d → e ++ rest ≡ d ++ other → rest ≡ other
same_end rest other return return q = cc
same_end rest other return feed q = let z : ◌≡◌ {A = ℕ} 13 10 = cc in absurd (omega arith)
same_end rest other feed return q = let z : ◌≡◌ {A = ℕ} 10 13 = cc in absurd (omega arith)
same_end rest other feed feed q = cc

-- The end of an ended line.
pub record Closed (line rest text : List ℕ) : Type 0 where
  pub end : List ℕ
  pub is : LineEnd end
  pub bytes : text ≡ line ++ (end ++ rest)

pub closed : {line rest text : List ℕ} → EndedLine line rest text → Closed line rest text
closed {line} {rest} {text} l = go l.ended
  where
    go : (text ≡ line ++ (13 ∷ 10 ∷ rest)) ⊎ (text ≡ line ++ (10 ∷ rest)) → Closed line rest text
    go (inl e) = record { end = 13 ∷ 10 ∷ []; is = return; bytes = e }
    go (inr e) = record { end = 10 ∷ []; is = feed; bytes = e }

pub ended_by : {line end rest text : List ℕ} → All Inside line → length line ≤ line_limit → LineEnd end → text ≡ line ++ (end ++ rest)
    → EndedLine line rest text
ended_by a h return e = record { inside = a; short = h; ended = inl e }
ended_by a h feed e = record { inside = a; short = h; ended = inr e }

-- The line that bytes inside it and an end are is the only one, and so is what stands behind it.
pub closed_one : {line end other text l r : List ℕ} → All Inside line → LineEnd end → text ≡ line ++ (end ++ other) → EndedLine l r text
    → (l ≡ line) × (r ≡ other)
closed_one {line} {end} {other} {r = r} a e q f =
    let c = closed f in
    let x = cut f.inside a (end_stops r c.is) (end_stops other e) (sym c.bytes ∙ q) in
    (x.0, same_end r other c.is e x.1)

-- An ended line of a text is the only one.
pub ended_one : {l r m q text : List ℕ} → EndedLine l r text → EndedLine m q text → (l ≡ m) × (r ≡ q)
ended_one f g =
    let c = closed g in
    closed_one g.inside c.is c.bytes f

-- What has an end in it is not empty,
pub end_some : {end : List ℕ} (line rest : List ℕ) → LineEnd end → line ++ (end ++ rest) ≢ []
end_some [] rest return q = let z : ◌≡◌ {A = ℕ} 1 0 = cc in omega arith
end_some [] rest feed q = let z : ◌≡◌ {A = ℕ} 1 0 = cc in omega arith
end_some (b ∷ line) rest e q = let z : ◌≡◌ {A = ℕ} 1 0 = cc in omega arith

-- so an empty text has no ended line.
pub ended_none : {l r text : List ℕ} → EndedLine l r text → text ≡ [] → ⊥
ended_none {l} {r} f e =
    let c = closed f in
    end_some l r c.is (sym c.bytes ∙ e)

-- The same line, with more text behind.
pub ended_more : {l r text : List ℕ} (x : List ℕ) → EndedLine l r text → EndedLine l (r ++ x) (text ++ x)
ended_more {l} {r} x f =
    let c = closed f in
    ended_by f.inside f.short c.is
    (ap (λ (s : List ℕ). s ++ x) c.bytes ∙ append_assoc l (c.end ++ r) x ∙ ap (λ (s : List ℕ). l ++ s) (append_assoc c.end r x))

-- CR for LF, and every other byte as it is.

pub cr_for_feed : (b : ℕ) → b ≡ 10 → cr_for b ≡ 13
unfolding cr_for
cr_for_feed b e = rw (eq-eqb b 10 e)

pub cr_for_other : (b : ℕ) → b ≢ 10 → cr_for b ≡ b
unfolding cr_for
cr_for_other b n = rw (ne_eqb b 10 n)

-- What is no CR then stands inside a line.
plain_byte : (b : ℕ) → cr_for b ≢ 13 → Inside b
plain_byte b n = record { cr = λ e. n (cr_for_other b (λ f. omega arith) ∙ e); lf = λ e. n (cr_for_feed b e) }

-- Each byte has its place.

pub cr_all_drop : (i : ℕ) (s : List ℕ) → drop i (cr_for_all s) ≡ cr_for_all (drop i s)
unfolding cr_for_all
cr_all_drop zero s = refl
cr_all_drop (suc i) [] = refl
cr_all_drop (suc i) (b ∷ s) = cr_all_drop i s

pub cr_all_at : (s : List ℕ) (i : ℕ) → i < length s → get_or (cr_for_all s) i 0 ≡ cr_for (get_or s i 0)
unfolding cr_for_all
cr_all_at [] i h = absurd (omega arith)
cr_all_at (b ∷ s) zero h = refl
cr_all_at (b ∷ s) (suc i) h = cr_all_at s i (omega arith)

-- A line stays as it is, and CR stands for its end.
pub cr_all_line : {line end : List ℕ} (rest : List ℕ) → All Inside line → LineEnd end → (tail : List ℕ) × (cr_for_all (line ++ (end ++ rest)) ≡ line ++ (13 ∷ tail))
unfolding cr_for_all
cr_all_line rest empty return = (cr_for_all (10 ∷ rest), ap (λ (b : ℕ). b ∷ cr_for_all (10 ∷ rest)) (cr_for_other 13 (λ e. omega arith)))
cr_all_line rest empty feed = (cr_for_all rest, ap (λ (b : ℕ). b ∷ cr_for_all rest) (cr_for_feed 10 refl))
cr_all_line rest (more {b = b} p a) e =
    let x = cr_all_line rest a e in
    (x.0, ap₂ (λ (c : ℕ) (s : List ℕ). c ∷ s) (cr_for_other b p.lf) x.1)

-- What stands there without CR stands so in the text, without CR and LF.
pub plain_front : (line tail s : List ℕ) → All NoEnd line → cr_for_all s ≡ line ++ tail → All Inside line × (s ≡ line ++ drop (length line) s)
unfolding cr_for_all
plain_front [] tail s a e = (empty, refl)
plain_front (b ∷ line) tail [] a e = let z : ◌≡◌ {A = ℕ} 0 1 = cc in absurd (omega arith)
plain_front (b ∷ line) tail (c ∷ s) (more n a) e =
    let x : cr_for c ≡ b = cc in
    let y : cr_for_all s ≡ line ++ tail = cc in
    let i = plain_byte c (λ z. n (sym x ∙ z)) in
    let q : c ≡ b = sym (cr_for_other c i.lf) ∙ x in
    let r = plain_front line tail s a y in
    (more (rw q at i) r.0, ap₂ (λ (d : ℕ) (t : List ℕ). d ∷ t) q r.1)
