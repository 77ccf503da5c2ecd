-- `explain::is_comment` is told by what a line that may be a comment is.
use mathlib.Core.Path.{refl}
use mathlib.Core.Logic.{◌≢◌}
use mathlib.Core.List.{List}
use Prim.Native.Nat.{ℕ}
use Rattle.lines.specs.declared.Remark.{Remark}
use Rattle.lines.specs.declared.Remark.TheVariants as remark
use Rattle.lines.specs.Lines.{Comment}
use Rattle.lines.specs.inner.Answer.{Remarks}
use Rattle.lines.proofs.Theorems.{not_both}
use Rattle.explain.proofs.is_comment.Goals as goal

other : {line : List ℕ} (m : Remark) → m ≢ remark.Plain → Remarks line m → Comment line → ⊥
other remark.Plain n r = absurd (n refl)
other remark.Dollar n r = λ c. not_both c r
other remark.Neither n r = r.0

pub returns-in_default : goal.returns-in_default
returns-in_default c = other c.remark_of.result c.in_default.not-Plain c.remark_of.ensures
