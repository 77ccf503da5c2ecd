-- Reading single fields of a window: what the field readers promise. A window is a line, CR, and whatever is after it.
use Rattle.std.specs.Prelude.{Option, Some, None, ℕ, ◌+◌, ◌≤◌, ◌<◌, ◌≡◌, ◌≢◌, List, ◌∷◌, ◌++◌, length, get_or, drop}
use Rattle.std.proofs.Math.Seq.{slice}
use Rattle.base.specs.Text.{blank, cr}
use Rattle.digits.specs.Digits.{Digits, Hex}
use Rattle.fields.specs.declared.Scan.{Scan}
use Rattle.fields.specs.declared.Next.{Next}
use Rattle.fields.specs.declared.Next.TheVariants as next
use Rattle.fields.specs.Runs.{All, Stops}
use Rattle.fields.specs.Columns.{type_rx, type_tx, type_warng, type_error}

-- How many bytes a window has.
abbrev pub window_bytes : ℕ
window_bytes = 4096

-- A byte of a line.
abbrev pub NoEnd : ℕ → Type 0
NoEnd b = b ≢ cr

-- A byte of a field.
pub record Solid (b : ℕ) : Type 0 where
  pub blank : b ≢ blank
  pub end : b ≢ cr

-- The bytes before the first CR of s.
pub record LineBeforeCr (line s : List ℕ) : Type 0 where
  pub rest : List ℕ
  pub plain : All NoEnd line
  pub ended : s ≡ line ++ (cr ∷ rest)

-- A CR stands in s.
pub record Lined (s : List ℕ) : Type 0 where
  pub line : List ℕ
  pub is : LineBeforeCr line s

-- The blanks from `at` on end at a.
pub record Skipped (w : List ℕ) (at a : ℕ) : Type 0 where
  pub from : at ≤ a
  pub blanks : All (λ b. b ≡ blank) (slice at a w)
  pub stop : get_or w a 0 ≢ blank
  pub lined : Lined (drop a w)

-- The field f stands at the start of s, and rest after it.
pub record FieldAt (f rest s : List ℕ) : Type 0 where
  pub bytes : s ≡ f ++ rest
  pub some : 0 < length f
  pub solid : All Solid f
  pub stops : Stops Solid rest

-- The digits from `at` on, at most `most` of them, end at `end` and are the number `value`.
pub record Scanned (D : ℕ → ℕ → Type 0) (b most : ℕ) (w : List ℕ) (at : ℕ) (s : Scan) : Type 0 where
  pub from : at ≤ s.end
  pub few : s.end ≤ at + most
  pub digits : Digits D b (slice at s.end w) s.value
  pub stop : s.end < at + most → (d : ℕ) → D (get_or w s.end 0) d → ⊥
  pub lined : Lined (drop s.end w)

-- A field starts at this place of the window, and its line ends after it.
pub record Starts (w : List ℕ) (at : ℕ) : Type 0 where
  pub lined : Lined (drop at w)
  pub solid : Solid (get_or w at 0)

-- A field stands at this place and ends before s.end, and P holds of it and of the value.
pub record Taken (P : ℕ → List ℕ → Type 0) (w : List ℕ) (at : ℕ) (s : Scan) : Type 0 where
  pub field : List ℕ
  pub there : FieldAt field (drop s.end w) (drop at w)
  pub place : s.end ≡ at + length field
  pub has : P s.value field

-- The field at this place, and the value for which P holds of it; or P holds of it for none.
abbrev pub Takes : (ℕ → List ℕ → Type 0) → List ℕ → ℕ → Option Scan → Type 0
Takes P w at (Some s) = Taken P w at s
Takes P w at None = (f rest : List ℕ) → FieldAt f rest (drop at w) → (v : ℕ) → P v f → ⊥

-- The gap at this place ends where a field starts.
pub record FieldAfter (w : List ℕ) (at a : ℕ) : Type 0 where
  pub skipped : Skipped w at a
  pub starts : Starts w a

-- The gap at this place ends at the line's CR.
pub record EndAfter (w : List ℕ) (at a : ℕ) : Type 0 where
  pub skipped : Skipped w at a
  pub end : get_or w a 0 ≡ cr
  pub within : a < window_bytes

-- What stands after the gap at this place.
abbrev pub AfterGap : List ℕ → ℕ → Next → Type 0
AfterGap w at (next.Field a) = FieldAfter w at a
AfterGap w at (next.End a) = EndAfter w at a

-- What the readers of single fields take.

-- A hexadecimal number of at most eight digits.
pub record HexField (v : ℕ) (f : List ℕ) : Type 0 where
  pub spelled : Hex (length f) v f
  pub short : length f ≤ 8

-- `Rx`, `Tx`, `Warng`, `Error`: 0 to 3.
pub data TypeField : ℕ → List ℕ → Type 0 where
  rx : {f : List ℕ} → f ≡ type_rx → TypeField 0 f
  tx : {f : List ℕ} → f ≡ type_tx → TypeField 1 f
  warng : {f : List ℕ} → f ≡ type_warng → TypeField 2 f
  error : {f : List ℕ} → f ≡ type_error → TypeField 3 f
