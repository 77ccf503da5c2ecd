-- The lines of a text, one by one: where a line ends, and what the first two lines and a comment are. In words: docs/FORMAT.md, sections 2 to 5.
use Rattle.std.specs.Prelude.{ℕ, ◌≤◌, ◌≡◌, ◌≢◌, List, [], ◌∷◌, ◌++◌, length}
use Rattle.base.specs.Text.{text, blank, semicolon, dollar, point, cr, lf}
use Rattle.digits.specs.Digits.{Decimal, Padded}
use Rattle.clock.specs.Start.{Start, start_limit}
use Rattle.fields.specs.Runs.{All}
use Rattle.row.specs.Versions.{Version, version_text}

-- The most bytes of a line before its end.
abbrev pub line_limit : ℕ
line_limit = 250

-- A byte before the end of a line: neither CR nor LF.
pub record Inside (b : ℕ) : Type 0 where
  pub cr : b ≢ cr
  pub lf : b ≢ lf

-- The text starts with this line, and rest stands behind its end: a line ends at its first CR or LF, which must be CR directly followed
-- by LF.
pub record FirstLine (line rest text : List ℕ) : Type 0 where
  pub inside : All Inside line
  pub ended : text ≡ line ++ (cr ∷ lf ∷ rest)

-- Any blanks.
abbrev pub Blanks : List ℕ → Type 0
Blanks s = All (λ b. b ≡ blank) s

-- Line 1: `;`, any blanks, the text of a version, any blanks.
pub record VersionLine (version : ℕ) (line : List ℕ) : Type 0 where
  pub is : Version version
  pub before : List ℕ
  pub after : List ℕ
  pub bytes : line ≡ semicolon ∷ (before ++ (version_text version ++ after))
  pub blanks : Blanks before
  pub blank_end : Blanks after

-- `$STARTTIME=`
abbrev pub start_text : List ℕ
start_text = text "$STARTTIME="

-- A day count of 1 to 5 digits with no leading zero, and 1 to 10 digits behind its point, give this start, in milliseconds, within its limit.
pub record StartDigits (day fraction : List ℕ) (start : ℕ) : Type 0 where
  pub days : ℕ
  pub count : Decimal days day
  pub few : length day ≤ 5
  pub parts : ℕ
  pub digits : Padded (length fraction) parts fraction
  pub some : 1 ≤ length fraction
  pub short : length fraction ≤ 10
  pub is : Start days parts (length fraction) start
  pub limit : start ≤ start_limit

-- Line 2: `;`, any blanks, `$STARTTIME=`, the day count, a point, the digits behind it, any blanks.
pub record StartLine (start : ℕ) (line : List ℕ) : Type 0 where
  pub before : List ℕ
  pub day : List ℕ
  pub fraction : List ℕ
  pub after : List ℕ
  pub bytes : line ≡ semicolon ∷ (before ++ (start_text ++ (day ++ (point ∷ (fraction ++ after)))))
  pub blanks : Blanks before
  pub gives : StartDigits day fraction start
  pub blank_end : Blanks after

-- What stands behind a comment's `;` and blanks: nothing, or a first byte that is neither a blank nor `$`.
pub data NoDollar : List ℕ → Type 0 where
  nothing : NoDollar []
  other : {b : ℕ} {s : List ℕ} → b ≢ blank → b ≢ dollar → NoDollar (b ∷ s)

-- A comment: its first byte is `;`, and its first non-blank byte after that is not `$`.
pub record Comment (line : List ℕ) : Type 0 where
  pub before : List ℕ
  pub rest : List ℕ
  pub bytes : line ≡ semicolon ∷ (before ++ rest)
  pub blanks : Blanks before
  pub free : NoDollar rest

-- A comment with `$` first.
pub record DollarLine (line : List ℕ) : Type 0 where
  pub before : List ℕ
  pub rest : List ℕ
  pub bytes : line ≡ semicolon ∷ (before ++ (dollar ∷ rest))
  pub blanks : Blanks before
