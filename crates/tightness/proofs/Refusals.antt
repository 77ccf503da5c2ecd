-- Where a program that keeps its promise refuses, it touches nothing and counts nothing.
use Prim.Native.Nat.{ℕ, zero, suc}
use mathlib.Core.Path.{◌≡◌, refl, ap}
use mathlib.Core.Logic.{⊎_elim}
use mathlib.Core.List.{List, ◌∷◌}
use lib.ListN.{get_or, replicate}
use Rattle.trace.specs.Promise.{ReadPromise}
use Rattle.trace_writer.specs.Promise.{WritePromise}
use Rattle.ascii.specs.Promise.{ExportPromise}
use Rattle.tightness.specs.Wrong.{Touched}

zero_at : (k i : ℕ) → ◌≡◌ {A = ℕ} (get_or (replicate k 0) i 0) 0
zero_at zero i = refl
zero_at (suc k) zero = refl
zero_at (suc k) (suc i) = zero_at k i

-- Number and place, zeros for all else, and the output as it was;
refusal : {a before after : List ℕ} {n p : ℕ} (k : ℕ) → a ≡ n ∷ p ∷ replicate k 0 → after ≡ before → Touched a before after → ⊥
refusal k e q t = ⊎_elim (λ c. c q) (λ (i, c). c (rw e (zero_at k i))) t.touched

-- or the number 0.
no_refusal : {a rest before after : List ℕ} → a ≡ 0 ∷ rest → Touched a before after → ⊥
no_refusal e t = t.refused (ap (λ (l : List ℕ). get_or l 0 0) e)

pub read_quiet : {text before a after : List ℕ} → ReadPromise text before a after → Touched a before after → ⊥
read_quiet (ReadPromise.large h e q) = refusal 5 e q
read_quiet (ReadPromise.done h s r e q) = no_refusal e
read_quiet (ReadPromise.no_room h s r e q) = refusal 5 e q
read_quiet (ReadPromise.refused h f e q) = refusal 5 e q

pub write_quiet : {version start first : ℕ} {s before a after : List ℕ} → WritePromise version start first s before a after → Touched a before after → ⊥
write_quiet (WritePromise.refused f e q) = refusal 1 e q
write_quiet (WritePromise.no_room w i l e q) = refusal 1 e q
write_quiet (WritePromise.done w i l e q) = no_refusal e

pub export_quiet : {start channel : ℕ} {s before a after : List ℕ} → ExportPromise start channel s before a after → Touched a before after → ⊥
export_quiet (ExportPromise.refused f e q) = refusal 3 e q
export_quiet (ExportPromise.no_room g l e q) = refusal 3 e q
export_quiet (ExportPromise.done g l e q) = no_refusal e
