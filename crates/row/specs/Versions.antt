-- The versions of a trace, and what each decides. A version's number is its two figures: 11 is version 1.1. In words: docs/FORMAT.md, section 3.
use Rattle.std.specs.Prelude.{ℕ, ◌/◌, ◌%◌, ◌≤◌, ◌≡◌, Bool, cond, List, [], ◌∷◌, ◌++◌, eqb}
use Rattle.base.specs.Limits.{last_bus}
use Rattle.base.specs.Text.{text, point}
use Rattle.digits.specs.House.{figure_of}
use Rattle.record.specs.declared.Record.{Record}

-- 1.1 or 1.2.
pub data Version : ℕ → Type 0 where
  is11 : Version 11
  is12 : Version 12

-- On line 1: `$FILEVERSION=1.1` or `$FILEVERSION=1.2`.
abbrev pub version_text : ℕ → List ℕ
version_text v = text "$FILEVERSION=" ++ (figure_of (v / 10) ∷ point ∷ figure_of (v % 10) ∷ [])

-- The lines before the comments and rows, which stand from line 3 on.
abbrev pub head_lines : ℕ → ℕ
head_lines v = 2

-- Behind the point of an offset stand exactly one digit (1.1) or three (1.2).
abbrev pub fraction_digits : ℕ → ℕ
fraction_digits v = cond (eqb v 11) 1 3

-- Version 1.2 only: bus. In 1.1 the bus is 0.
abbrev pub has_bus : ℕ → Bool
has_bus v = eqb v 12

-- The records that a version can carry: 1.1 needs bus 0 and whole 100 microseconds, 1.2 needs bus 1 to 16.
pub data Carries (r : Record) : ℕ → Type 0 where
  v11 : r.bus ≡ 0 → r.offset % 100 ≡ 0 → Carries r 11
  v12 : 1 ≤ r.bus → r.bus ≤ last_bus → Carries r 12
