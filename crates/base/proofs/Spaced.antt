-- Parts put together with blanks, case by case.
use Prim.Native.Nat.{ℕ}
use mathlib.Core.Path.{◌≡◌, refl}
use mathlib.Core.List.{List, [], ◌∷◌, ◌++◌, append_assoc}
use Rattle.base.specs.Spaced.{spaced, joined}

pub spaced_none : spaced [] ≡ []
unfolding spaced
spaced_none = refl

pub spaced_more : (f : List ℕ) (fs : List (List ℕ)) → spaced (f ∷ fs) ≡ (32 ∷ f) ++ spaced fs
unfolding spaced
spaced_more f fs = refl

pub spaced_append : (fs gs : List (List ℕ)) → spaced (fs ++ gs) ≡ spaced fs ++ spaced gs
spaced_append [] gs = rw spaced_none
spaced_append (f ∷ fs) gs = rw (spaced_more, spaced_more, append_assoc, spaced_append fs gs)

pub joined_none : joined [] ≡ []
unfolding joined
joined_none = refl

pub joined_more : (f : List ℕ) (fs : List (List ℕ)) → joined (f ∷ fs) ≡ f ++ spaced fs
unfolding joined
joined_more f fs = refl
