-- Laws on the pieces of a text that the passes lend.
use Prim.Native.Nat.{ℕ, ◌+◌, ◌-◌, ◌≤◌}
use mathlib.Core.Path.{◌≡◌}
use mathlib.Core.List.{List}
use native.Mathlib.Omega.{arith}
use lib.ListN.{length, take, drop}
use lib.Seq.{slice, take_at, length-slice}
use Rattle.fields.proofs.Window.{slice_drop}
use Rattle.lines.specs.Lines.{line_limit, FirstLine}
use Rattle.trace.specs.inner.Passes.{There}

-- A lent part is the slice.
pub part_slice : (at e : ℕ) (l : List ℕ) → at ≤ e → e ≤ length l → take (e - at) (drop at l) ≡ slice at e l
part_slice at e l h k = rw (slice_drop at e l h k) (take_at (slice at e l) (drop e l) (e - at) (length-slice at e l k))

-- An ended line that is short enough.
pub line_there : {at e : ℕ} {l : List ℕ} → (at ≤ e) × (e + 2 ≤ length l) × FirstLine (slice at e l) (drop (e + 2) l) (drop at l) → e - at ≤ line_limit
    → There l at (e + 2) (slice at e l)
line_there {at} {e} {l} h k = record {
  is = record { first = h.2; short = let a = h.0 in let b = h.1 in omega (arith, length-slice at e l (omega arith)) };
  later = let a = h.0 in omega arith;
  within = h.1;
}
