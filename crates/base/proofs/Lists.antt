-- Laws on lists that every layer shares: parts of a list, and what writers leave.
use Prim.Native.Nat.{ℕ, suc, ◌+◌, ◌≤◌, ◌<◌}
use mathlib.Core.Path.{◌≡◌, refl, ap, ap₂, sym, ◌∙◌}
use mathlib.Core.List.{List, [], ◌∷◌, ◌++◌}
use native.Mathlib.Nat.{add-zero, zero-add, add-suc, suc-add}
use native.Mathlib.Numerals.{add-one}
use native.Mathlib.Omega.{arith}
use lib.ListN.{length, get_or, take, drop, set, length-append, take-append-drop}
use lib.Seq.{slice, slice-cons, sets, sets-eq, take-suc, take-take, take_at, drop_at, drop-append-le, length-take-le}
use Rattle.base.specs.inner.Wrote.{Wrote}

pub slice_snoc : (f i : ℕ) (l : List ℕ) → f ≤ i → i < length l → slice f (suc i) l ≡ slice f i l ++ (get_or l i 0 ∷ [])
slice_snoc f i l p q =
    let e : length (take i l) ≡ i = length-take-le i l (omega arith) in
    let h : f ≤ length (take i l) = omega arith in
    rw (take-suc l i 0 q, drop-append-le)

pub slice_join : (f m t : ℕ) (l : List ℕ) → f ≤ m → m ≤ t → t ≤ length l → slice f t l ≡ slice f m l ++ slice m t l
slice_join f m t l p q h =
    let a : take t l ≡ take m l ++ slice m t l = rw (← take-take m t l q, take-append-drop) in
    let b : f ≤ length (take m l) = rw (length-take-le m l (omega arith)) p in
    ap (drop f) a ∙ drop-append-le f (take m l) (slice m t l) b

pub cut : (f p t : ℕ) (l : List ℕ) → f ≤ p → p < t → t ≤ length l → slice f t l ≡ slice f p l ++ (get_or l p 0 ∷ slice (suc p) t l)
cut f p t l h k m = slice_join f p t l h (omega arith) m ∙ ap (λ (s : List ℕ). slice f p l ++ s) (slice-cons p t l 0 k m)

pub same_cut : (a a' : List ℕ) {b b' : List ℕ} {c c' : ℕ} → a ++ (c ∷ b) ≡ a' ++ (c' ∷ b') → length a ≡ length a' → (a ≡ a') × (c ≡ c') × (b ≡ b')
same_cut [] [] e l = (refl, cc, cc)
same_cut [] (y ∷ a') e l = absurd (omega arith)
same_cut (x ∷ a) [] e l = absurd (omega arith)
same_cut (x ∷ a) (y ∷ a') {b} {b'} {c} {c'} e l =
    let t : a ++ (c ∷ b) ≡ a' ++ (c' ∷ b') = cc in
    let h : x ≡ y = cc in
    let r = same_cut a a' t (omega arith) in
    (ap₂ (λ (z : ℕ) (u : List ℕ). z ∷ u) h r.0, r.1, r.2)

-- lists of one length and the same entries
pub same_entries : (s t : List ℕ) → length s ≡ length t → ((i : ℕ) → i < length s → get_or s i 0 ≡ get_or t i 0) → s ≡ t
same_entries [] [] e f = refl
same_entries [] (y ∷ t) e f = absurd (omega arith)
same_entries (x ∷ s) [] e f = absurd (omega arith)
same_entries (x ∷ s) (y ∷ t) e f =
    ap₂ (λ (z : ℕ) (u : List ℕ). z ∷ u) (f 0 (omega arith)) (same_entries s t (omega arith) (λ i l. f (suc i) (omega arith)))

pub sets_append : (s t l : List ℕ) (i : ℕ) → sets l i (s ++ t) ≡ sets (sets l i s) (i + length s) t
sets_append [] t l i = rw add-zero
sets_append (x ∷ s) t l i = sets_append s t (set l i x) (suc i) ∙ rw (add-suc, suc-add)

-- Two writes one after the other are one write of both texts.
pub then : {l a b s t : List ℕ} {i j k : ℕ} → Wrote l a i j s → Wrote a b j k t → Wrote l b i k (s ++ t)
then {l} {a} {b} {s} {t} {i} {j} {k} p q = record { next = omega (arith, p.next, q.next, length-append s t); stored = q.stored ∙ ap₂ (λ (m : List ℕ) (n : ℕ). sets m n t) p.stored p.next ∙ sym (sets_append s t l i) }

-- What was put at i stands there.
pub slice_sets : (s l : List ℕ) (i : ℕ) → i + length s ≤ length l → slice i (i + length s) (sets l i s) ≡ s
slice_sets s l i h =
    let a : length (take i l) ≡ i = length-take-le i l (omega arith) in
    let b : length (take i l ++ s) ≡ i + length s = rw (length-append, a) in
    rw (sets-eq s l i h, take_at (take i l ++ s) (drop (i + length s) l) (i + length s) b, drop_at (take i l) s i a)

-- One byte more of a text, put behind those before it.
pub put_next : {l a : List ℕ} {at i : ℕ} (text : List ℕ) → i < length text → Wrote l a at (at + i) (take i text)
    → Wrote l (set a (at + i) (get_or text i 0)) at (at + (i + 1)) (take (i + 1) text)
put_next {l} {a} {at} {i} text h w =
    rw (add-one, take-suc text i 0 h) (then w (record { next = omega arith; stored = refl }))

-- What was put at the start stands before what was behind it.
pub at_start : {old new t : List ℕ} {e : ℕ} → Wrote old new 0 e t → length t ≤ length old → new ≡ t ++ drop (length t) old
at_start {old} {t = t} w h = w.stored ∙ sets-eq t old 0 (omega arith) ∙ rw zero-add
