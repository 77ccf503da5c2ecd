-- Runs of bytes that share a property. In words: docs/FORMAT.md, section 1.
use Rattle.std.specs.Prelude.{ℕ, List, [], ◌∷◌}

-- Every byte has P.
pub data All (P : ℕ → Type 0) : List ℕ → Type 0 where
  empty : All P []
  more : {b : ℕ} {f : List ℕ} → P b → All P f → All P (b ∷ f)

-- Nothing, or a first byte that has not P.
pub data Stops (P : ℕ → Type 0) : List ℕ → Type 0 where
  over : Stops P []
  halt : {b : ℕ} {s : List ℕ} → (P b → ⊥) → Stops P (b ∷ s)
