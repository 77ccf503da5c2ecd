-- What a search for a value says.
use Rattle.std.specs.Prelude.{Option, Some, None}

-- A value that has P, or that none has it.
abbrev pub Answers : {A : Type 0} → (A → Type 0) → Option A → Type 0
Answers P (Some a) = P a
Answers {A} P None = (a : A) → P a → ⊥
