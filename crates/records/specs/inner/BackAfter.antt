-- The first step back as records are added.
use Rattle.std.specs.Prelude.{ℕ, ◌≡◌, ◌≢◌}

-- What `back_after` promises: the first step back with one record more, at position `row`, which has this mark, is the old one if there was one.
pub record BackAfter (back row mark b : ℕ) : Type 0 where
  pub kept : back ≢ 0 → b ≡ back
  pub found : back ≡ 0 → mark ≢ 0 → b ≡ row
  pub none : back ≡ 0 → mark ≡ 0 → b ≡ 0
