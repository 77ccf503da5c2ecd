-- The fields of a line: its runs of non-blank bytes. In words: docs/FORMAT.md, section 6.
use Rattle.std.specs.Prelude.{ℕ, ◌≡◌, ◌≢◌, List, [], ◌∷◌, ◌++◌}
use Rattle.base.specs.Text.{blank}
use Rattle.fields.specs.Runs.{All, Stops}

-- A blank is byte 32 only.
abbrev pub NoBlank : ℕ → Type 0
NoBlank b = b ≢ blank

-- The line is the fields, with blanks before the first, between two and after the last: a field is one byte or more, none of them a
-- blank, and after it the line ends or a blank stands.
pub data Parted : List (List ℕ) → List ℕ → Type 0 where
  none : Parted [] []
  blank_first : {fs : List (List ℕ)} {s : List ℕ} → Parted fs s → Parted fs (blank ∷ s)
  field : {b : ℕ} {f : List ℕ} {fs : List (List ℕ)} {s t : List ℕ} → All NoBlank (b ∷ f) → Stops NoBlank s → t ≡ b ∷ (f ++ s)
      → Parted fs s → Parted ((b ∷ f) ∷ fs) t
