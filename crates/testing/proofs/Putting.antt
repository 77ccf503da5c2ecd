-- What is put, put together: nothing, some bytes, and more after them.
use Prim.Native.Nat.{ℕ, ◌+◌, ◌≤◌}
use mathlib.Core.Path.{◌≡◌, refl}
use mathlib.Core.List.{List, [], ◌++◌}
use native.Mathlib.Omega.{arith}
use lib.ListN.{length}
use lib.Seq.{length-sets}
use Rattle.base.specs.inner.Wrote.{Wrote}
use Rattle.base.proofs.Lists.{then}
use Rattle.testing.specs.Putting.{Puts}

pub nothing : {a : List ℕ} {i : ℕ} → Puts a a i i
nothing = record { bytes = []; wrote = record { next = omega arith; stored = refl }; within = λ h. h }

pub some : {a b s : List ℕ} {i j : ℕ} → Wrote a b i j s → i + length s ≤ length a → Puts a b i j
some {s = s} w h = record { bytes = s; wrote = w; within = λ k. omega (arith, w.next) }

pub same_length : {a b : List ℕ} {i j : ℕ} → Puts a b i j → length b ≡ length a
same_length {a} {i = i} p = rw p.wrote.stored (length-sets a i p.bytes)

pub more : {a b c : List ℕ} {i j k : ℕ} → Puts a b i j → Puts b c j k → Puts a c i k
more {a} {b} p q = record {
  bytes = p.bytes ++ q.bytes;
  wrote = then p.wrote q.wrote;
  within = λ h. let l = same_length p in let x = p.within h in let y = q.within (omega arith) in omega arith;
}
