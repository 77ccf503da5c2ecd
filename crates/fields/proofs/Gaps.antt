-- Skipping a gap: what the loop keeps, and that it ends at one place.
use Prim.Native.Nat.{ℕ, ◌+◌, ◌≤◌}
use mathlib.Core.Path.{◌≡◌, ap, sym, ◌∙◌}
use mathlib.Core.Logic.{◌≢◌}
use mathlib.Core.List.{List}
use native.Mathlib.Numerals.{add-one}
use native.Mathlib.Omega.{arith}
use lib.ListN.{length, get_or, drop}
use lib.Seq.{slice, slice_empty, drop-cons, length-slice}
use Rattle.base.proofs.Lists.{slice_snoc}
use Rattle.fields.specs.Runs.{All, empty, more, halt}
use Rattle.fields.specs.inner.Window.{Lined, Skipped}
use Rattle.fields.proofs.Parts.{IsBlank}
use Rattle.fields.proofs.Runs.{cut, all_append}
use Rattle.fields.proofs.Window.{inside, slice_drop, next_lined}

-- The bytes passed are blanks.
pub record Blanks (w : List ℕ) (at a : ℕ) : Type 0 where
  pub from : at ≤ a
  pub blanks : All IsBlank (slice at a w)
  pub lined : Lined (drop a w)

pub no_blank : {w : List ℕ} {at : ℕ} → Lined (drop at w) → Blanks w at at
no_blank {w} {at} l = record { from = omega arith; blanks = rw (slice_empty at w) empty; lined = l }

pub one_blank : {w : List ℕ} {at a : ℕ} → Blanks w at a → get_or w a 0 ≡ 32 → Blanks w at (a + 1)
one_blank {w} {at} {a} k e =
    let i = inside w a k.lined in
    record {
      from = let f = k.from in omega arith;
      blanks = rw (add-one, slice_snoc at a w k.from i) (all_append k.blanks (more e empty));
      lined = next_lined w a k.lined (λ h. omega arith);
    }

pub skipped : {w : List ℕ} {at a : ℕ} → Blanks w at a → get_or w a 0 ≢ 32 → Skipped w at a
skipped k n = record { from = k.from; blanks = k.blanks; stop = n; lined = k.lined }

-- Blanks end at one place.
pub skipped_one : {w : List ℕ} {at a b : ℕ} → Skipped w at a → Skipped w at b → a ≡ b
skipped_one {w} {at} {a} {b} k h =
    let i = inside w a k.lined in
    let j = inside w b h.lined in
    let x = slice_drop at a w k.from (omega arith) in
    let y = slice_drop at b w h.from (omega arith) in
    let e = cut k.blanks h.blanks (rw (drop-cons w a 0 i) (halt k.stop)) (rw (drop-cons w b 0 j) (halt h.stop)) (sym x ∙ y) in
    omega (arith, ap length e.0, length-slice at a w (omega arith), length-slice at b w (omega arith), k.from, h.from)
