-- A line cut at the first of a byte, and words after words.
use Prim.Native.Nat.{ℕ, zero, suc, ◌+◌, ◌*◌, ◌-◌, ◌≤◌, ◌<◌, suc-le-suc}
use mathlib.Core.Path.{◌≡◌, refl, ap, sym, ◌∙◌}
use mathlib.Core.Logic.{◌≢◌}
use mathlib.Core.List.{List, [], ◌∷◌}
use native.Mathlib.Nat.{add-zero, add-suc, add_assoc, add-mul, one-mul}
use native.Mathlib.Numerals.{add-one}
use native.Mathlib.Omega.{arith}
use borrow.Author.Count.{below_more}
use borrow.Author.Tests.{eq-eqb, ne_eqb}
use lib.ListN.{length, get_or, take, drop, set, length-drop, drop_of_length-le}
use lib.Seq.{get_or-drop, get_or-set_same, get_or-set_other, drop-drop, take_all}
use Rattle.std.specs.Prelude.{Option, Some, None}
use Rattle.std.specs.Option.{unwrap_or}
use Rattle.base.specs.inner.Answers.{Answers}
use Rattle.digits.proofs.Strings.{System}
use Rattle.testing.specs.Words.{FirstFrom, before, behind, skipped, Or0, is, none, Letter}

-- A part that goes on to the end.
pub to_end : (s : List ℕ) (i : ℕ) → take (length s - i) (drop i s) ≡ drop i s
to_end s i = take_all (length s - i) (drop i s) (omega (arith, length-drop i s))

module _ {b : ℕ} where
  -- the cut at the first b of a whole line
  cut : (s : List ℕ) (i : ℕ) → i ≤ length s → ((k : ℕ) → k < i → get_or s k 0 ≢ b) → (i < length s → get_or s i 0 ≡ b)
      → (take i s ≡ before b s) × (drop (suc i) s ≡ behind b s)
  unfolding before behind
  cut [] zero h p f = (refl, refl)
  cut [] (suc i) h p f = absurd (omega arith)
  cut (x ∷ s) zero h p f = let e = eq-eqb x b (f (omega arith)) in (rw e, rw e)
  cut (x ∷ s) (suc i) h p f =
      let e = ne_eqb x b (p zero (omega arith)) in
      let r = cut s i (omega arith) (λ k l. p (suc k) (suc-le-suc l)) (λ l. f (suc-le-suc l)) in
      (rw e (ap (λ (t : List ℕ). x ∷ t) r.0), rw e r.1)

  -- the same from a place on
  pub cut_from : {s : List ℕ} {at r : ℕ} → FirstFrom s at b r → (take (r - at) (drop at s) ≡ before b (drop at s)) × (drop (r + 1) s ≡ behind b (drop at s))
  cut_from {s} {at} {r} f =
      let h = f.from in
      let w = f.within in
      let g : at + (r - at) ≡ r = omega arith in
      let n : at + suc (r - at) ≡ r + 1 = omega arith in
      let l = length-drop at s in
      let c = cut (drop at s) (r - at) (omega arith)
      (λ k j. rw get_or-drop (f.passed (at + k) (omega arith) (omega arith)))
      (λ j. rw (get_or-drop, g) (f.found (omega arith))) in
      (c.0, sym (drop-drop (suc (r - at)) at s ∙ rw n) ∙ c.1)

  -- no b is left: nothing stands after it
  pub cut_end : {s : List ℕ} {at r : ℕ} → FirstFrom s at b r → length s ≤ r → drop r s ≡ behind b (drop at s)
  cut_end {s} {at} {r} f h =
      let k : length s ≤ r + 1 = omega arith in
      drop_of_length-le s h ∙ sym (drop_of_length-le s k) ∙ (cut_from f).1

-- one place more is passed
pub passed_more : (s : List ℕ) (at b i : ℕ) → ((k : ℕ) → at ≤ k → k < i → get_or s k 0 ≢ b) → get_or s i 0 ≢ b
    → (k : ℕ) → at ≤ k → k < i + 1 → get_or s k 0 ≢ b
passed_more s at b i p n k h l = below_more (λ (j : ℕ). at ≤ j → get_or s j 0 ≢ b) i (λ j m q. p j q m) (λ q. n) k l h

-- Blanks after blanks.
pub none_skipped : (s : List ℕ) → skipped 0 s ≡ s
unfolding skipped
none_skipped s = refl

pub one_skipped : (n : ℕ) (s : List ℕ) → behind 32 (skipped n s) ≡ skipped (n + 1) s
unfolding skipped
one_skipped n s = rw add-one

pub skipped_more : (m n : ℕ) (s : List ℕ) → skipped n (skipped m s) ≡ skipped (m + n) s
unfolding skipped
skipped_more m zero s = rw add-zero
skipped_more m (suc n) s = rw add-suc (ap (behind 32) (skipped_more m n s))

-- A list whose elements are found one by one, with one more of them.
pub found_more : (Q : ℕ → ℕ → Type 0) (a : List ℕ) (k v : ℕ) → k < length a → ((j : ℕ) → j < k → Q j (get_or a j 0)) → Q k v
    → (j : ℕ) → j < k + 1 → Q j (get_or (set a k v) j 0)
found_more Q a k v h p q =
    below_more (λ (j : ℕ). Q j (get_or (set a k v) j 0)) k
    (λ j l. rw (get_or-set_other a k j v 0 (λ e. omega arith)) (p j l))
    (rw (get_or-set_same a k v 0 h) q)

pub step_on : (m k n : ℕ) → m + k * n + n ≡ m + (k + 1) * n
step_on m k n = rw (add-mul, one-mul, add_assoc)

-- Bytes are digits of base 256.
pub letters : System Letter 256
letters = record { small = λ p. p.small; one = λ p q. p.same ∙ sym q.same }

-- A number that is found, or 0.
pub or_0 : {P : ℕ → Type 0} (r : Option ℕ) → Answers P r → Or0 P (unwrap_or r 0)
or_0 (Some n) p = is p
or_0 None f = none f refl
