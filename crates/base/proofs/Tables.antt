-- A rule of a table, proved at all of its entries by one test that antt computes, one entry after the other.
use Prim.Native.Nat.{ℕ, zero, suc, ◌+◌, ◌<◌}
use mathlib.Core.Path.{◌≡◌}
use mathlib.Core.Bool.{Bool, true, false}
use mathlib.Core.List.{List, [], ◌∷◌}
use native.Mathlib.Nat.{add-zero, zero-add, add-suc, suc-add}
use native.Mathlib.Omega.{arith}
use lib.Dec.{T, eqb, eqb→eq}
use lib.ListN.{length, get_or}

abbrev pub both : Bool → Bool → Bool
both true b = b
both false b = false

pub both_left : (a b : Bool) → T (both a b) → T a
both_left true b t = tt
both_left false b t = t

pub both_right : (a b : Bool) → T (both a b) → T b
both_right true b t = t
both_right false b t = absurd t

module _ {A : Type 0} where
  -- the test f passes at each entry of the list and its place, counted from i
  abbrev pub every : (ℕ → A → Bool) → ℕ → List A → Bool
  every f i [] = true
  every f i (x ∷ xs) = both (f i x) (every f (suc i) xs)

  from : (f : ℕ → A → Bool) (d : A) (xs : List A) (i : ℕ) → T (every f i xs) → (k : ℕ) → k < length xs → T (f (i + k) (get_or xs k d))
  from f d [] i t k h = absurd (omega arith)
  from f d (x ∷ xs) i t zero h = rw add-zero (both_left (f i x) (every f (suc i) xs) t)
  from f d (x ∷ xs) i t (suc k) h = rw (add-suc, ← suc-add) (from f d xs (suc i) (both_right (f i x) (every f (suc i) xs) t) k (omega arith))

  pub at : (f : ℕ → A → Bool) (d : A) (xs : List A) → T (every f 0 xs) → (k : ℕ) → k < length xs → T (f k (get_or xs k d))
  at f d xs t k h = rw zero-add at (from f d xs 0 t k h)

-- A row of w entries, the k-th of which is f k.
abbrev pub row : (ℕ → ℕ) → ℕ → List ℕ → Bool
row f w xs = both (eqb (length xs) w) (every (λ k x. eqb x (f k)) 0 xs)

pub row_length_lem : (f : ℕ → ℕ) (w : ℕ) (xs : List ℕ) → T (row f w xs) → length xs ≡ w
row_length_lem f w xs t = eqb→eq (length xs) w (both_left (eqb (length xs) w) (every (λ k x. eqb x (f k)) 0 xs) t)

pub flat : (f : ℕ → ℕ) (w : ℕ) (xs : List ℕ) → T (row f w xs) → (k : ℕ) → k < w → get_or xs k 0 ≡ f k
flat f w xs t k h =
    let e = row_length_lem f w xs t in
    eqb→eq (get_or xs k 0) (f k) (at (λ k x. eqb x (f k)) 0 xs (both_right (eqb (length xs) w) (every (λ k x. eqb x (f k)) 0 xs) t) k (omega arith))

-- v rows of w entries, the entry j of row i of which is f i j.
abbrev pub rows : (ℕ → ℕ → ℕ) → ℕ → ℕ → List (List ℕ) → Bool
rows f v w xs = both (eqb (length xs) v) (every (λ i r. row (f i) w r) 0 xs)

pub nested : (f : ℕ → ℕ → ℕ) (v w : ℕ) (xs : List (List ℕ)) → T (rows f v w xs) → (i j : ℕ) → i < v → j < w → get_or (get_or xs i []) j 0 ≡ f i j
nested f v w xs t i j h k =
    let e = eqb→eq (length xs) v (both_left (eqb (length xs) v) (every (λ i r. row (f i) w r) 0 xs) t) in
    flat (f i) w (get_or xs i []) (at (λ i r. row (f i) w r) [] xs (both_right (eqb (length xs) v) (every (λ i r. row (f i) w r) 0 xs) t) i (omega arith)) j k
