-- Lines told apart: an empty text has none, and a row is no comment.
use Prim.Native.Nat.{ℕ}
use mathlib.Core.Path.{◌≡◌, refl}
use mathlib.Core.List.{List, [], ◌∷◌, ◌++◌}
use native.Mathlib.Omega.{arith}
use Rattle.record.specs.declared.Record.{Record}
use Rattle.row.specs.Row.{Row}
use Rattle.row.proofs.Plain.{row_starts}
use Rattle.lines.specs.Lines.{FirstLine, Comment, DollarLine}

-- An empty text has no line.
pub no_line : {l r : List ℕ} → FirstLine l r [] → ⊥
no_line {l} {r} a = go l a.ended
  where
    go : (l : List ℕ) → [] ≡ l ++ (13 ∷ 10 ∷ r) → ⊥
    go [] e = let z : ◌≡◌ {A = ℕ} 0 1 = cc in omega arith
    go (b ∷ l) e = let z : ◌≡◌ {A = ℕ} 0 1 = cc in omega arith

-- A row is no comment, and has no `$` first: its first byte is no `;`.
pub row_no_comment : {v k : ℕ} {r : Record} {line : List ℕ} → Row v k r line → Comment line → ⊥
row_no_comment a b = row_starts a 59 _ b.bytes refl

pub row_no_dollar : {v k : ℕ} {r : Record} {line : List ℕ} → Row v k r line → DollarLine line → ⊥
row_no_dollar a b = row_starts a 59 _ b.bytes refl
