-- Laws on the answer of a search for a value.
use mathlib.Core.Path.{◌≡◌, refl, ap}
use Rattle.std.specs.Prelude.{Option, Some, None}
use Rattle.base.specs.inner.Answers.{Answers}

-- The callee's answer, carried to another relation.
pub same_answer : {A : Type 0} {P Q : A → Type 0} (r : Option A) → ((a : A) → P a → Q a) → ((a : A) → Q a → P a) → Answers P r → Answers Q r
same_answer (Some a) to from p = to a p
same_answer None to from f = λ a q. f a (from a q)

-- An answer is the only one where at most one value has P.
pub one_answer : {A : Type 0} {P : A → Type 0} → ((a b : A) → P a → P b → a ≡ b) → (r s : Option A) → Answers P r → Answers P s → r ≡ s
one_answer u (Some a) (Some b) p q = ap Some (u a b p q)
one_answer u (Some a) None p f = absurd (f a p)
one_answer u None (Some b) f q = absurd (f b q)
one_answer u None None f g = refl

-- A value that has P is found, where it is the only one.
pub found : {A : Type 0} {P : A → Type 0} → ((a b : A) → P a → P b → a ≡ b) → (r : Option A) {a : A} → Answers P r → P a → r ≡ Some a
found u r {a} p q = one_answer u r (Some a) p q
