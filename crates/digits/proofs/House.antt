-- The house spellings are spelled by the relations, and are the only ones.
use Prim.Native.Nat.{ℕ, zero, suc, ◌+◌, ◌*◌, ◌-◌, ◌/◌, ◌%◌, ◌^◌, ◌≤◌, ◌<◌}
use mathlib.Core.Path.{◌≡◌, refl, ap, sym, ◌∙◌}
use mathlib.Core.Logic.{◌≢◌, ◌⊎◌, inl, inr, ⊎_elim}
use mathlib.Core.Bool.{true, false}
use mathlib.Core.List.{List, [], ◌∷◌, ◌++◌}
use native.Mathlib.Nat.{add-zero, mul_comm, div-one, div-div-eq-div-mul, pow-zero, pow-suc, pow-succ', one-le-pow, div-add-mod', div-lt_iff_lt-mul, mod-lt, mul-le-mul_right, pow-le-pow_right}
use native.Mathlib.Decide.{ℕ_discrete}
use native.Mathlib.Numerals.{add-one}
use native.Mathlib.Omega.{arith}
use borrow.Author.Tests.{lt-ltb, le-ltb}
use lib.Dec.{ltb}
use lib.ListN.{length, get_or, length-append, get_or-append}
use Rattle.base.proofs.Numbers.{below_or_not}
use Rattle.digits.specs.declared.Letters.{Letters}
use Rattle.digits.specs.declared.Letters.TheVariants.{Capital, Small}
use Rattle.digits.specs.Digits.{DecimalDigit, CasedDigit, figure, letter, Digits, none, more, Decimal, Padded, CasedHex}
use Rattle.digits.specs.House.{figure_of, ten_of, glyph_of, fixed, padded_text, hex_text, spell, decimal_text}
use Rattle.digits.proofs.Strings.{snoc, below, same_width, decimal, decimal_byte, cased, cased_byte}

-- Fixed width, in every base.

pub fixed_zero : (g : ℕ → ℕ) (b n : ℕ) → fixed g b 0 n ≡ []
unfolding fixed
fixed_zero g b n = refl

pub fixed_step : (g : ℕ → ℕ) (b w n : ℕ) → fixed g b (suc w) n ≡ fixed g b w (n / b) ++ (g (n % b) ∷ [])
unfolding fixed
fixed_step g b w n = refl

pub length_fixed : (g : ℕ → ℕ) (b w n : ℕ) → length (fixed g b w n) ≡ w
length_fixed g b zero n = rw fixed_zero
length_fixed g b (suc w) n = rw (fixed_step, length-append, length_fixed g b w (n / b), add-one)

pub fixed_spells : {D : ℕ → ℕ → Type 0} (g : ℕ → ℕ) (b : ℕ) → 0 < b → ((d : ℕ) → d < b → D (g d) d)
    → (w n : ℕ) → n < b ^ w → Digits D b (fixed g b w n) n
fixed_spells {D = D} g b z f zero n h =
    let p : n < 1 = rw pow-zero at h in
    let e : n ≡ 0 = omega arith in
    rw (e, fixed_zero) none
fixed_spells {D = D} g b z f (suc w) n h =
    let p : n < b ^ w * b = rw pow-suc at h in
    let r = fixed_spells {D = D} g b z f w (n / b) ((div-lt_iff_lt-mul z).1 p) in
    rw fixed_step (rw div-add-mod' at (snoc {z = g (n % b)} {e = n % b} r (f (n % b) (mod-lt n z))))

a_figure : (d : ℕ) → d < 10 → DecimalDigit (figure_of d) d
a_figure d h = record { value = h; byte = refl }

pub padded_spells : (w n : ℕ) → n < 10 ^ w → Padded w n (padded_text w n)
padded_spells w n h = record { digits = fixed_spells figure_of 10 (omega arith) a_figure w n h; width = length_fixed figure_of 10 w n }

pub padded_only : {w n : ℕ} {s t : List ℕ} → Padded w n s → Padded w n t → s ≡ t
padded_only p q = same_width decimal decimal_byte p.digits q.digits refl (p.width ∙ sym q.width)

pub glyph_figure : (c : Letters) (d : ℕ) → d < 10 → glyph_of c d ≡ 48 + d
unfolding glyph_of
glyph_figure c d h = rw (lt-ltb d 10 h, glyph_of)

pub glyph_letter : (c : Letters) (d : ℕ) → 10 ≤ d → glyph_of c d ≡ ten_of c + (d - 10)
unfolding glyph_of
glyph_letter c d h = rw (le-ltb d 10 h, glyph_of)

a_glyph : (c : Letters) (d : ℕ) → d < 16 → CasedDigit (ten_of c) (glyph_of c d) d
a_glyph c d h =
    ⊎_elim (λ p. figure (record { value = p; byte = glyph_figure c d p }))
    (λ p. letter (record { low = p; high = h; byte = omega (arith, glyph_letter c d p) })) (below_or_not d 10)

pub cased_spells : (c : Letters) (w n : ℕ) → n < 16 ^ w → CasedHex (ten_of c) w n (hex_text c w n)
cased_spells c w n h = record { digits = fixed_spells (glyph_of c) 16 (omega arith) (a_glyph c) w n h; width = length_fixed (glyph_of c) 16 w n }

ten_high : (c : Letters) → 58 ≤ ten_of c
ten_high Capital = omega arith
ten_high Small = omega arith

pub cased_only : (c : Letters) {w n : ℕ} {s t : List ℕ} → CasedHex (ten_of c) w n s → CasedHex (ten_of c) w n t → s ≡ t
cased_only c p q = same_width (cased (ten_of c) (ten_high c)) cased_byte p.digits q.digits refl (p.width ∙ sym q.width)

-- Decimal without leading zeros. `one` and `step` are all that the other proofs see of `decimal_text`.

enough : (k j n : ℕ) → n ≤ k → n ≤ j → spell k n ≡ spell j n
unfolding spell
enough zero zero n p q = refl
enough zero (suc j) n p q = rw (lt-ltb n 10 (omega arith), spell)
enough (suc k) zero n p q = rw (lt-ltb n 10 (omega arith), spell)
enough (suc k) (suc j) n p q =
    ap (λ (l : List ℕ). elim (ltb n 10) [ true ↦ (48 + n) ∷ [] | false ↦ l ++ ((48 + n % 10) ∷ []) ])
    (enough k j (n / 10) (omega arith) (omega arith))

pub one : (n : ℕ) → n < 10 → decimal_text n ≡ (48 + n) ∷ []
unfolding decimal_text spell
one zero h = refl
one (suc n) h = rw (lt-ltb (suc n) 10 h, spell)

pub step : (n : ℕ) → 10 ≤ n → decimal_text n ≡ decimal_text (n / 10) ++ ((48 + n % 10) ∷ [])
unfolding decimal_text spell
step zero h = absurd (omega arith)
step (suc n) h =
    rw (le-ltb (suc n) 10 h, spell)
    (ap (λ (l : List ℕ). l ++ ((48 + suc n % 10) ∷ [])) (enough n (suc n / 10) (suc n / 10) (omega arith) (omega arith)))

pub length_one : (n : ℕ) → n < 10 → length (decimal_text n) ≡ 1
length_one n h = rw one

pub length_step : (n : ℕ) → 10 ≤ n → length (decimal_text n) ≡ length (decimal_text (n / 10)) + 1
length_step n h = rw step (length-append (decimal_text (n / 10)) _)

-- 10 ^ j or more has j digits more than the quotient
pub length_steps : (j n : ℕ) → 10 ^ j ≤ n → length (decimal_text n) ≡ length (decimal_text (n / 10 ^ j)) + j
length_steps zero n h = rw (pow-zero, div-one, add-zero)
length_steps (suc j) n h =
    let e : n / 10 / 10 ^ j ≡ n / 10 ^ suc j = rw (div-div-eq-div-mul, mul_comm, ← pow-suc) in
    let p = pow-suc 10 j in
    let z : 1 ≤ 10 ^ j = one-le-pow j 10 (omega arith) in
    let l = rw e at (length_steps j (n / 10) (omega arith)) in
    omega (arith, length_step n (omega arith))

-- a number from 10 ^ j on and below 10 ^ (j + 1) has j + 1 digits
pub length_told : (j n : ℕ) → 10 ^ j ≤ n → n < 10 ^ suc j → length (decimal_text n) ≡ j + 1
length_told j n h k =
    let z : 0 < 10 ^ j = one-le-pow j 10 (omega arith) in
    let p : n / 10 ^ j < 10 = (div-lt_iff_lt-mul z).1 (rw pow-succ' at k) in
    omega (arith, length_steps j n h, length_one (n / 10 ^ j) p)

-- a number below 10 ^ w has at most w digits
pub few : (w n : ℕ) → n < 10 ^ suc w → length (decimal_text n) ≤ suc w
few zero n h = rw one (omega arith)
few (suc w) n h =
    ⊎_elim (λ p. omega (arith, length_one n p))
    (λ p. omega (arith, length_step n p, few w (n / 10) (omega (arith, pow-suc 10 (suc w))))) (below_or_not n 10)

digit : (n : ℕ) → n < 10 → Decimal n ((48 + n) ∷ [])
digit n h =
    let e : n ≡ n * 10 ^ 0 + 0 = omega arith in
    record { digits = more (a_figure n h) none e; some = omega arith; lead = omega arith }

lone : {s : List ℕ} {n : ℕ} → Digits DecimalDigit 10 s n → 0 < n → length s ≤ 1 → get_or s 0 0 ≢ 48
lone none p q = omega arith
lone (more d none e) p q = omega arith
lone (more _ (more _ _ _) _) p q = omega arith

last : {s : List ℕ} {n d : ℕ} → 0 < n → d < 10 → Decimal n s → Decimal (n * 10 + d) (s ++ ((48 + d) ∷ []))
last {s} {n} {d} p h r =
    let l = length-append s ((48 + d) ∷ []) in
    let f = r.some in
    record {
      digits = snoc r.digits (a_figure d h);
      some = omega arith;
      lead = λ _. rw (get_or-append s ((48 + d) ∷ []) 0 0 f) (⊎_elim r.lead (lone r.digits p) (below_or_not 1 (length s)));
    }

spells_below : (k n : ℕ) → n ≤ k → Decimal n (decimal_text n)
spells_below zero n h = rw (one n (omega arith)) (digit n (omega arith))
spells_below (suc k) n h = ⊎_elim (λ p. rw (one n p) (digit n p)) (join n (spells_below k (n / 10) (omega arith))) (below_or_not n 10)
  where
    join : (n : ℕ) → Decimal (n / 10) (decimal_text (n / 10)) → 10 ≤ n → Decimal n (decimal_text n)
    join n r p =
        let e : n / 10 * 10 + n % 10 ≡ n = omega arith in
        let q : 0 < n / 10 = omega arith in
        let m : n % 10 < 10 = omega arith in
        rw (step n p) (rw e at (last q m r))

pub decimal_spells : (n : ℕ) → Decimal n (decimal_text n)
decimal_spells n = spells_below n n (omega arith)

-- a number of two digits or more without leading zero is at least ten to the number of the others
least : {s : List ℕ} {n : ℕ} → Digits DecimalDigit 10 s n → get_or s 0 0 ≢ 48 → 0 < length s → 10 ^ (length s - 1) ≤ n
least none f h = absurd (omega arith)
least (more {d = d} {n = n} {s = s} p r e) f h =
    let z : suc (length s) - 1 ≡ length s = omega arith in
    let q : 1 ≤ d = positive (ℕ_discrete d 0) in
    rw (z, e) (omega (arith, mul-le-mul_right (10 ^ length s) q))
  where
    positive : Dec (d ≡ 0) → 1 ≤ d
    positive (yes k) = absurd (f (omega arith))
    positive (no k) = omega arith

shorter : {s t : List ℕ} {n : ℕ} → Decimal n s → Decimal n t → length s < length t → ⊥
shorter {s} {t} {n} p q h =
    let f = p.some in
    let a = below decimal p.digits in
    let k : length s ≤ length t - 1 = omega arith in
    let z : 0 < 10 = omega arith in
    let b = pow-le-pow_right z k in
    let c = least q.digits (q.lead (omega arith)) q.some in
    omega arith

-- the spelling without leading zeros is the only one
pub decimal_only : {s t : List ℕ} {n : ℕ} → Decimal n s → Decimal n t → s ≡ t
decimal_only {s} {t} p q = same_width decimal decimal_byte p.digits q.digits refl (same (below_or_not (length s) (length t)))
  where
    same : (length s < length t) ⊎ (length t ≤ length s) → length s ≡ length t
    same (inl h) = absurd (shorter p q h)
    same (inr h) = ⊎_elim (λ k. absurd (shorter q p k)) (λ k. omega arith) (below_or_not (length t) (length s))

-- What a machine word holds has at most 20 digits.
pub word_few : (n : ℕ) → n < 2 ^ 64 → length (decimal_text n) ≤ 20
word_few n h = few 19 n (omega arith)
