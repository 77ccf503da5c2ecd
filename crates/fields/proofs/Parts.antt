-- The fields of a line are the only ones.
use Prim.Native.Nat.{ℕ, ◌<◌}
use mathlib.Core.Path.{◌≡◌, refl, ap, sym, ◌∙◌}
use mathlib.Core.List.{List, [], ◌∷◌, ◌++◌}
use native.Mathlib.Omega.{arith}
use native.Mathlib.Decide.{ℕ_discrete}
use lib.ListN.{length}
use Rattle.fields.specs.Runs.{All, empty, more, Stops, over, halt}
use Rattle.fields.specs.Parted.{NoBlank, Parted, none, blank_first, field}
use Rattle.fields.proofs.Runs.{cut}

-- A blank.
abbrev pub IsBlank : ℕ → Type 0
IsBlank b = b ≡ 32

not_blank : {b : ℕ} {f s t : List ℕ} → All NoBlank (b ∷ f) → 32 ∷ s ≡ b ∷ t → ⊥
not_blank (more n f) e = n (cc)

not_nil : {b : ℕ} {t : List ℕ} → [] ≡ b ∷ t → ⊥
not_nil e = let z : ◌≡◌ {A = ℕ} 0 1 = cc in omega arith

pub parted_one : {fs gs : List (List ℕ)} {s : List ℕ} → Parted fs s → Parted gs s → fs ≡ gs
parted_one none none = refl
parted_one none (field f xs e q) = absurd (not_nil e)
parted_one (blank_first p) (blank_first q) = parted_one p q
parted_one (blank_first p) (field f xs e q) = absurd (not_blank f e)
parted_one (field f xs e p) none = absurd (not_nil e)
parted_one (field f xs e p) (blank_first q) = absurd (not_blank f e)
parted_one (field f xs e p) (field g ys d q) =
    let r = cut f g xs ys (sym e ∙ d) in
    cc (r.0, parted_one p (rw (← r.1) at q))

unblank : {fs : List (List ℕ)} {s : List ℕ} → Parted fs (32 ∷ s) → Parted fs s
unblank (blank_first p) = p
unblank (field f xs e p) = absurd (not_blank f e)

-- blanks in front change no field
pub blanks : {fs : List (List ℕ)} {f s : List ℕ} → All IsBlank f → Parted fs s → Parted fs (f ++ s)
blanks empty p = p
blanks (more e f) p = rw e (blank_first (blanks f p))

pub unblanks : {fs : List (List ℕ)} {f : List ℕ} (s : List ℕ) → All IsBlank f → Parted fs (f ++ s) → Parted fs s
unblanks s empty p = p
unblanks s (more e f) p = unblanks s f (unblank (rw e at p))

pub only_none : {fs : List (List ℕ)} → Parted fs [] → fs ≡ []
only_none none = refl
only_none (field f xs e p) = absurd (not_nil e)

-- a field in front
pub first : {fs : List (List ℕ)} {f s t : List ℕ} → 0 < length f → All NoBlank f → Stops NoBlank s → Parted fs s → t ≡ f ++ s → Parted (f ∷ fs) t
first n empty xs p e = absurd (omega arith)
first n (more b f) xs p e = field (more b f) xs e p

pub first_only : {fs : List (List ℕ)} {f s t : List ℕ} → 0 < length f → All NoBlank f → Stops NoBlank s → Parted fs t → t ≡ f ++ s
    → (gs : List (List ℕ)) × (fs ≡ f ∷ gs) × Parted gs s
first_only n empty xs p e = absurd (omega arith)
first_only n (more b f) xs none e = absurd (not_nil e)
first_only n (more b f) xs (blank_first p) e = absurd (not_blank (more b f) e)
first_only n (more b f) xs (field {fs = gs} g ys d q) e =
    let r = cut g (more b f) ys xs (sym d ∙ e) in
    (gs, cc r.0, rw r.1 at q)

-- Every line has fields.

one_more : {b : ℕ} {s : List ℕ} {fs : List (List ℕ)} → Dec (b ≡ 32) → Parted fs s → (gs : List (List ℕ)) × Parted gs (b ∷ s)
one_more {fs = fs} (yes e) p = (fs, rw e (blank_first p))
one_more {b} (no n) none = ((b ∷ []) ∷ [], field (more n empty) over refl none)
one_more {b} {fs = fs} (no n) (blank_first p) = ((b ∷ []) ∷ fs, field (more n empty) (halt (λ m. m refl)) refl (blank_first p))
one_more {b} (no n) (field {b = c} {f = f} {fs = gs} a h e p) = ((b ∷ c ∷ f) ∷ gs, field (more n a) h (ap (λ (l : List ℕ). b ∷ l) e) p)

pub has_fields : (s : List ℕ) → (fs : List (List ℕ)) × Parted fs s
has_fields [] = ([], none)
has_fields (b ∷ s) = one_more (ℕ_discrete b 32) (has_fields s).1
