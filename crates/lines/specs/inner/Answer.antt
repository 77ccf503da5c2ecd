-- What the readers of single lines answer.
use Rattle.std.specs.Prelude.{Option, Some, None, ℕ, ◌+◌, ◌≤◌, List, length, drop}
use Rattle.std.proofs.Math.Seq.{slice}
use Rattle.lines.specs.declared.Remark.{Remark}
use Rattle.lines.specs.declared.Remark.TheVariants as remark
use Rattle.lines.specs.Lines.{FirstLine, Comment, DollarLine}

-- The line that starts at `at` ends at e, and the next starts two bytes further; or no ended line starts there.
abbrev pub EndsAt : List ℕ → ℕ → Option ℕ → Type 0
EndsAt text at (Some e) = (at ≤ e) × (e + 2 ≤ length text) × FirstLine (slice at e text) (drop (e + 2) text) (drop at text)
EndsAt text at None = (line rest : List ℕ) → FirstLine line rest (drop at text) → ⊥

-- A comment, a comment with `$` first, or neither.
abbrev pub Remarks : List ℕ → Remark → Type 0
Remarks line remark.Plain = Comment line
Remarks line remark.Dollar = DollarLine line
Remarks line remark.Neither = (Comment line → ⊥) × (DollarLine line → ⊥)
