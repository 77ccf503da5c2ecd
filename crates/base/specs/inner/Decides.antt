-- What a test that answers true or false says.
use Rattle.std.specs.Prelude.{Bool, true, false}

-- True and P holds, or false and it does not.
abbrev pub Decides : Type 0 → Bool → Type 0
Decides P true = P
Decides P false = P → ⊥
