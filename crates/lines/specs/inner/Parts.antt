-- What the readers of parts of a line promise to those that put them together.
use Rattle.std.specs.Prelude.{Option, Some, None, ℕ, ◌/◌, ◌%◌, ◌≤◌, ◌≡◌, List, ◌∷◌, ◌++◌, length, drop}
use Rattle.std.proofs.Math.Seq.{slice}
use Rattle.base.specs.Text.{blank, semicolon, point}
use Rattle.digits.specs.Digits.{DecimalDigit}
use Rattle.digits.specs.House.{figure_of}
use Rattle.fields.specs.Runs.{All, Stops}
use Rattle.row.specs.Versions.{Version}
use Rattle.lines.specs.Lines.{Blanks}

abbrev pub IsBlank : ℕ → Type 0
IsBlank b = b ≡ blank

-- The byte stands from one byte up to another.
pub record Between (first last b : ℕ) : Type 0 where
  pub low : first ≤ b
  pub high : b ≤ last

-- The byte is some decimal digit.
abbrev pub Digit : ℕ → Type 0
Digit b = (d : ℕ) × DecimalDigit b d

-- The run of bytes with P that starts at i ends at e.
pub record Ran (P : ℕ → Type 0) (s : List ℕ) (i e : ℕ) : Type 0 where
  pub from : i ≤ e
  pub within : e ≤ length s
  pub all : All P (slice i e s)
  pub stops : Stops P (drop e s)

-- Behind the `;` of the line and the blanks after it stands the place `at`.
pub record Opened (line : List ℕ) (at : ℕ) : Type 0 where
  pub low : 1 ≤ at
  pub within : at ≤ length line
  pub before : List ℕ
  pub bytes : line ≡ semicolon ∷ (before ++ drop at line)
  pub blanks : Blanks before
  pub stops : Stops IsBlank (drop at line)

-- That place, or none where the line does not start with `;`.
abbrev pub OpenedOr : List ℕ → Option ℕ → Type 0
OpenedOr line (Some at) = Opened line at
OpenedOr line None = (rest : List ℕ) → line ≡ semicolon ∷ rest → ⊥

-- The bytes t stand in s from `at` on.
pub record StandsAt (t s : List ℕ) (at : ℕ) : Type 0 where
  pub rest : List ℕ
  pub bytes : drop at s ≡ t ++ rest

-- The two figures of a version, with a point between.
pub record Figures (a dot b version : ℕ) : Type 0 where
  pub is : Version version
  pub first : a ≡ figure_of (version / 10)
  pub between : dot ≡ point
  pub second : b ≡ figure_of (version % 10)
