-- Fields one by one: what holds of each byte of a line, and where a line starts.
use Prim.Native.Nat.{ℕ, ◌<◌}
use mathlib.Core.Path.{◌≡◌}
use mathlib.Core.Logic.{◌⊎◌, inl, inr}
use mathlib.Core.List.{List, [], ◌∷◌}
use native.Mathlib.Omega.{arith}
use lib.ListN.{length, get_or}
use Rattle.fields.specs.Runs.{All, empty, more}
use Rattle.fields.specs.Parted.{Parted, none, blank_first, field}
use Rattle.fields.proofs.Runs.{all_append}

-- Each field has P.
pub data Each (P : List ℕ → Type 0) : List (List ℕ) → Type 0 where
  no_more : Each P []
  then : {f : List ℕ} {fs : List (List ℕ)} → P f → Each P fs → Each P (f ∷ fs)

-- What follows of each field.
pub each_map : {P Q : List ℕ → Type 0} {fs : List (List ℕ)} → ((f : List ℕ) → P f → Q f) → Each P fs → Each Q fs
each_map g no_more = no_more
each_map g (then {f = f} p e) = then (g f p) (each_map g e)

-- What holds of the blank, and of each byte of each field, holds of each byte of the line.
pub parted_all : {P : ℕ → Type 0} {fs : List (List ℕ)} {line : List ℕ} → P 32 → Each (All P) fs → Parted fs line → All P line
parted_all p e none = empty
parted_all p e (blank_first q) = more p (parted_all p e q)
parted_all p (then a e) (field n s i q) = rw i (all_append a (parted_all p e q))

-- A line starts with a blank, or as its first field does.
pub parted_first : {b : ℕ} {f line : List ℕ} {fs : List (List ℕ)} (s : List ℕ) → Parted (f ∷ fs) line → line ≡ b ∷ s
    → (b ≡ 32) ⊎ (b ≡ get_or f 0 0)
parted_first s (blank_first q) e = inl (cc)
parted_first s (field n t i q) e = inr (cc)

-- A line that has a field is not empty.
pub parted_some : {f line : List ℕ} {fs : List (List ℕ)} → Parted (f ∷ fs) line → 0 < length line
parted_some (blank_first q) = omega arith
parted_some (field n t i q) = rw i (omega arith)
