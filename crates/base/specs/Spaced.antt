-- The parts of a line, put together with blanks. In words: docs/FORMAT.md, section 9.
use Rattle.std.specs.Prelude.{ℕ, List, [], ◌∷◌, ◌++◌}
use Rattle.base.specs.Text.{blank}

-- Each behind one blank.
unfoldable pub spaced : List (List ℕ) → List ℕ
spaced [] = []
spaced (f ∷ fs) = blank ∷ (f ++ spaced fs)

-- One blank between two.
unfoldable pub joined : List (List ℕ) → List ℕ
joined [] = []
joined (f ∷ fs) = f ++ spaced fs
