-- Laws on runs: a run of bytes that share a property is the only one, and the longest.
use Prim.Native.Nat.{ℕ, zero, suc, ◌≤◌, ◌<◌, suc-le-suc}
use mathlib.Core.Path.{◌≡◌, refl, sym}
use mathlib.Core.List.{List, [], ◌∷◌, ◌++◌}
use native.Mathlib.Omega.{arith}
use lib.ListN.{length, get_or}
use Rattle.fields.specs.Runs.{All, empty, more, Stops, over, halt}

pub all_map : {P Q : ℕ → Type 0} {f : List ℕ} → ((b : ℕ) → P b → Q b) → All P f → All Q f
all_map g empty = empty
all_map g (more {b = b} p a) = more (g b p) (all_map g a)

module _ {P : ℕ → Type 0} where
  no_start : {b : ℕ} {s t : List ℕ} → P b → Stops P s → s ≡ b ∷ t → ⊥
  no_start p over e = let z : ◌≡◌ {A = ℕ} 0 1 = cc in omega arith
  no_start {b} p (halt {b = c} n) e = let h : c ≡ b = cc in n (rw h p)

  -- the cut after a run is the only one
  pub cut : {f g s t : List ℕ} → All P f → All P g → Stops P s → Stops P t → f ++ s ≡ g ++ t → (f ≡ g) × (s ≡ t)
  cut empty empty xs ys e = (refl, e)
  cut empty (more n g) xs ys e = absurd (no_start n xs e)
  cut (more n f) empty xs ys e = absurd (no_start n ys (sym e))
  cut (more n f) (more m g) xs ys e = let r = cut f g xs ys (cc) in (cc r.0, r.1)

  -- a run that stops is the only one of its length or more
  pub longest : {f g t : List ℕ} (s : List ℕ) → All P f → All P g → Stops P t → length g ≤ length f → f ++ s ≡ g ++ t → (f ≡ g) × (s ≡ t)
  longest s empty empty ys l e = (refl, e)
  longest s empty (more m g) ys l e = absurd (omega arith)
  longest s (more n f) empty ys l e = absurd (no_start n ys (sym e))
  longest s (more n f) (more m g) ys l e = let r = longest s f g ys (omega arith) (cc) in (cc r.0, r.1)

  pub all_append : {f g : List ℕ} → All P f → All P g → All P (f ++ g)
  all_append empty b = b
  all_append (more p a) b = more p (all_append a b)

  pub all_left : (f g : List ℕ) → All P (f ++ g) → All P f
  all_left [] g a = empty
  all_left (b ∷ f) g (more p a) = more p (all_left f g a)

  pub all_right : (f g : List ℕ) → All P (f ++ g) → All P g
  all_right [] g a = a
  all_right (b ∷ f) g (more p a) = all_right f g a

  pub all_of : (f : List ℕ) → ((k : ℕ) → k < length f → P (get_or f k 0)) → All P f
  all_of [] h = empty
  all_of (b ∷ f) h = more (h 0 (omega arith)) (all_of f (λ k l. h (suc k) (suc-le-suc l)))

  pub all_at : {f : List ℕ} (k : ℕ) → All P f → k < length f → P (get_or f k 0)
  all_at k empty h = absurd (omega arith)
  all_at zero (more p a) h = p
  all_at (suc k) (more p a) h = all_at k a (omega arith)
