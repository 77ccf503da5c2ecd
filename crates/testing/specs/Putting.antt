-- What is put into a lent output that may have no room for it.
use Rattle.std.specs.Prelude.{ℕ, ◌+◌, ◌≤◌, ◌<◌, ◌≡◌, List, length}
use Rattle.base.specs.inner.Wrote.{Wrote}

-- The bytes s were put at position i, or there is no room for them and nothing changed; j is the position after what was put.
pub data PutOrNot (before after : List ℕ) (i j : ℕ) (s : List ℕ) : Type 0 where
  put : i + length s ≤ length before → Wrote before after i j s → PutOrNot before after i j s
  no_room : length before < i + length s → j ≡ i → after ≡ before → PutOrNot before after i j s

-- Some bytes were put at position i, and j is the position after them, within the output: no byte before i or from j on changed.
pub record Puts (before after : List ℕ) (i j : ℕ) : Type 0 where
  pub bytes : List ℕ
  pub wrote : Wrote before after i j bytes
  pub within : i ≤ length before → j ≤ length before
