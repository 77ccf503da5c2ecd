-- What a writer does to a lent output.
use Rattle.std.specs.Prelude.{ℕ, ◌+◌, ◌≡◌, List, length}
use Rattle.std.proofs.lemmas.List.Edits.{sets}

-- The bytes s were put at position i, j is the position after them, and no other byte of the output changed:
-- `before` is the output before, `after` the output afterwards.
pub record Wrote (before after : List ℕ) (i j : ℕ) (s : List ℕ) : Type 0 where
  pub next : j ≡ i + length s
  pub stored : after ≡ sets before i s
