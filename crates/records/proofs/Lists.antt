-- Laws on records in order of which each has a property.
use Prim.Native.Nat.{suc}
use mathlib.Core.Path.{◌≡◌, refl, ap}
use mathlib.Core.List.{List, [], ◌∷◌, ◌++◌}
use lib.ListN.{length}
use Rattle.record.specs.declared.Record.{Record}
use Rattle.records.specs.Records.{Each, none, more}

-- Every record of two lists.
pub each_append : {P : Record → Type 0} {rs qs : List Record} → Each P rs → Each P qs → Each P (rs ++ qs)
each_append none g = g
each_append (more p f) g = more p (each_append f g)

pub each_snoc : {P : Record → Type 0} {rs : List Record} {r : Record} → Each P rs → P r → Each P (rs ++ (r ∷ []))
each_snoc f p = each_append f (more p none)

-- Every record, since all have it, or have what gives it.
pub each_all : {P : Record → Type 0} → ((r : Record) → P r) → (rs : List Record) → Each P rs
each_all f [] = none
each_all f (r ∷ rs) = more (f r) (each_all f rs)

pub each_map : {P Q : Record → Type 0} {rs : List Record} → ((r : Record) → P r → Q r) → Each P rs → Each Q rs
each_map f none = none
each_map f (more {r = r} p g) = more (f r p) (each_map f g)

pub each_tail : {P : Record → Type 0} {r : Record} {rs : List Record} → Each P (r ∷ rs) → Each P rs
each_tail (more p f) = f

pub each_head : {P : Record → Type 0} {r : Record} {rs : List Record} → Each P (r ∷ rs) → P r
each_head (more p f) = p

-- The one at a place.
pub each_at : {P : Record → Type 0} (before : List Record) (r : Record) (after : List Record) → Each P (before ++ (r ∷ after)) → P r
each_at [] r after (more p f) = p
each_at (q ∷ before) r after (more p f) = each_at before r after f

-- The first that has not P stands at one place.
pub first_one : {P : Record → Type 0} {a b : List Record} (r q : Record) (c d : List Record) → Each P a → Each P b → (P r → ⊥) → (P q → ⊥)
    → a ++ (r ∷ c) ≡ b ++ (q ∷ d) → length a ≡ length b
first_one r q c d none none f g e = refl
first_one r q c d none (more {r = k} p b) f g e = let z : r ≡ k = cc in absurd (f (rw z p))
first_one r q c d (more {r = k} p a) none f g e = let z : q ≡ k = cc in absurd (g (rw z p))
first_one r q c d (more p a) (more o b) f g e = ap suc (first_one r q c d a b f g (cc))
