-- What the writers' loops keep: they put a number in a fixed width from the last digit to the first, in any base. And what a writer leaves
-- at the start.
use Prim.Native.Nat.{ℕ, suc, ◌+◌, ◌/◌, ◌%◌, ◌^◌, ◌≤◌, ◌<◌}
use mathlib.Core.Path.{◌≡◌, refl, ap, sym, ◌∙◌}
use mathlib.Core.List.{List, [], ◌∷◌, ◌++◌, append-nil, append_assoc}
use native.Mathlib.Nat.{add-zero, add-suc}
use native.Mathlib.Omega.{arith}
use lib.ListN.{length, take, drop, set}
use lib.Seq.{sets, set_comm, take_at}
use Rattle.base.specs.inner.Wrote.{Wrote}
use Rattle.base.proofs.Lists.{at_start}
use Rattle.digits.specs.House.{fixed, decimal_text}
use Rattle.digits.specs.inner.Kept.{KeepsDigits}
use Rattle.digits.proofs.House.{fixed_zero, fixed_step, length_fixed, word_few}

-- a byte before those that are put may be put first
set_first : (s l : List ℕ) (i k x : ℕ) → i < k → set (sets l k s) i x ≡ sets (set l i x) k s
set_first [] l i k x h = refl
set_first (y ∷ s) l i k x h = set_first s (set l k y) i (suc k) x (omega arith) ∙ ap (λ (m : List ℕ). sets m (suc k) s) (set_comm l k i y x (omega arith))

-- Of the w digits of n, which start at position `at`, those from place i on are put, and m spells the others.
pub record PutFrom (g : ℕ → ℕ) (b w n at : ℕ) (before after : List ℕ) (i m : ℕ) : Type 0 where
  pub last : List ℕ
  pub text : fixed g b w n ≡ fixed g b i m ++ last
  pub stored : after ≡ sets before (at + i) last

module _ (g : ℕ → ℕ) (b : ℕ) where
  -- before the first turn
  pub put_none : {w n at : ℕ} {l : List ℕ} → PutFrom g b w n at l l w n
  put_none {w} {n} = record { last = []; text = sym (append-nil (fixed g b w n)); stored = refl }

  -- one turn: the remainder's digit v is put at position p, and the quotient q is left
  pub put_digit : {w n at i j m p v q : ℕ} {l a : List ℕ} → i ≡ suc j → p ≡ at + j → v ≡ g (m % b) → q ≡ m / b
      → PutFrom g b w n at l a i m → PutFrom g b w n at l (set a p v) j q
  put_digit {at = at} {j = j} {m = m} {l = l} e f h k r =
      rw (f, h, k) (record {
        last = g (m % b) ∷ r.last;
        text = r.text ∙ rw (e, fixed_step, append_assoc);
        stored = rw (r.stored, e, add-suc) (set_first r.last l (at + j) (suc (at + j)) (g (m % b)) (omega arith));
      })

  -- after the last turn
  pub put_all : {w n at i m : ℕ} {l a : List ℕ} → i ≡ 0 → PutFrom g b w n at l a i m → Wrote l a at (at + w) (fixed g b w n)
  put_all {w} {n} {at} e p =
      let t : fixed g b w n ≡ p.last = rw (e, fixed_zero) at p.text in
      record { next = rw length_fixed; stored = rw (t, ← add-zero at) (rw e at p.stored) }

-- Bytes put at the start are the first.
pub put_first : {old new t : List ℕ} {e : ℕ} → Wrote old new 0 e t → length t ≤ length old → take e new ≡ t
put_first {old} {t = t} {e = e} w h = ap (take e) (at_start w h) ∙ take_at t (drop (length t) old) e (omega (arith, w.next))

-- So are the digits of a number of 64 bits that is put at the start of twenty bytes.
pub kept_first : {n e : ℕ} {old new : List ℕ} → n < 2 ^ 64 → 20 ≤ length old → Wrote old new 0 e (decimal_text n) → KeepsDigits n e new
kept_first {n} h l w = let f = word_few n h in record { text = put_first w (omega arith); few = omega (arith, w.next) }
