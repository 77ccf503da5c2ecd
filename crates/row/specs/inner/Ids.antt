-- The ID of a frame, as `form` tells it.
use Rattle.std.specs.Prelude.{ℕ, ◌≤◌, ◌≡◌}

-- The two forms of a frame's ID, by its width: four digits up to 07FF, not extended, or eight up to 1FFFFFFF, extended.
pub data FormOf (id width x : ℕ) : Type 0 where
  standard : width ≡ 4 → id ≤ 0x7FF → x ≡ 0 → FormOf id width x
  long : width ≡ 8 → id ≤ 0x1FFFFFFF → x ≡ 1 → FormOf id width x
