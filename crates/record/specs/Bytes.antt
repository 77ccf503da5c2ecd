-- A number in bytes, most significant first. In words: docs/FORMAT.md, section 8.
use Rattle.std.specs.Prelude.{ℕ, zero, suc, ◌/◌, ◌%◌, List, [], ◌∷◌, ◌++◌}

-- The k bytes of n: the last is its remainder by 256, those before it are the k - 1 bytes of its quotient.
unfoldable pub bytes : ℕ → ℕ → List ℕ
bytes zero n = []
bytes (suc k) n = bytes k (n / 256) ++ ((n % 256) ∷ [])
