-- The ends of lines, and the window in which every line ends with CR. No public promise cites this file.
use Rattle.std.specs.Prelude.{Option, Some, None, ℕ, suc, ◌+◌, ◌≤◌, ◌≡◌, refl, cond, List, [], ◌∷◌, eqb, length, drop}
use Rattle.std.proofs.Common.{ap}
use Rattle.base.specs.Text.{cr, lf}
use Rattle.lines.specs.Lines.{line_limit}

-- CR for LF, every other byte as it is.
unfoldable pub cr_for : ℕ → ℕ
cr_for b = cond (eqb b lf) cr b

unfoldable pub cr_for_all : List ℕ → List ℕ
cr_for_all [] = []
cr_for_all (b ∷ s) = cr_for b ∷ cr_for_all s

-- It keeps the length, which `CrForLf` owes the window of trace.
pub cr_all_length : (s : List ℕ) → length (cr_for_all s) ≡ length s
unfolding cr_for_all
cr_all_length [] = refl
cr_all_length (b ∷ s) = ap suc (cr_all_length s)

-- At e, within the limit from `at` on, stands the end of a line, and the next one at n.
pub data EndHere (text : List ℕ) (at e n : ℕ) : Type 0 where
  feed : e ≤ at + line_limit → drop e text ≡ lf ∷ drop n text → n ≡ e + 1 → n ≤ length text → EndHere text at e n
  return : e ≤ at + line_limit → drop e text ≡ cr ∷ lf ∷ drop n text → n ≡ e + 2 → n ≤ length text → EndHere text at e n

-- No end of a line stands at e, within the limit from `at` on.
pub record NoEndHere (text : List ℕ) (at e : ℕ) : Type 0 where
  pub feed : (rest : List ℕ) → e ≤ at + line_limit → drop e text ≡ lf ∷ rest → ⊥
  pub return : (rest : List ℕ) → e ≤ at + line_limit → drop e text ≡ cr ∷ lf ∷ rest → ⊥

-- The place after the end of a line at e, if one stands there.
abbrev pub EndAt : List ℕ → ℕ → ℕ → Option ℕ → Type 0
EndAt text at e (Some n) = EndHere text at e n
EndAt text at e None = NoEndHere text at e
