-- Laws on the bytes of a number, each over their count.
use Prim.Native.Nat.{ℕ, zero, suc, ◌+◌, ◌*◌, ◌-◌, ◌/◌, ◌%◌, ◌^◌, ◌≤◌, ◌<◌}
use mathlib.Core.Path.{◌≡◌, refl, ap, sym, ◌∙◌}
use mathlib.Core.Logic.{◌≢◌}
use mathlib.Core.List.{List, [], ◌∷◌, ◌++◌, append_assoc, append-nil}
use native.Mathlib.Nat.{add-zero, add-suc, pow-suc, mul_comm, div-one, div-div-eq-div-mul}
use native.Mathlib.Numerals.{add-one}
use native.Mathlib.Omega.{arith}
use lib.ListN.{length, get_or, take, drop, set, length-append, length-drop}
use lib.Seq.{sets, set_comm, get_or_at, get_or-drop, length-take-le}
use mir.Syntax.{w32, w64}
use Rattle.std.specs.Int.{bytes_high_first, from_be_bytes}
use Rattle.std.proofs.lemmas.Nat.{be_bytes_4, be_bytes_8}
use Rattle.base.proofs.Lists.{same_cut, sets_append}
use Rattle.record.specs.Bytes.{bytes}

-- The length of k bytes is k.
pub length_bytes : (k n : ℕ) → length (bytes k n) ≡ k
unfolding bytes
length_bytes zero n = refl
length_bytes (suc k) n = rw (length-append, length_bytes k (n / 256), add-one)

none : (n : ℕ) → bytes 0 n ≡ []
unfolding bytes
none n = refl

one_more : (k n : ℕ) → bytes (suc k) n ≡ bytes k (n / 256) ++ ((n % 256) ∷ [])
unfolding bytes
one_more k n = refl

-- The last byte.
pub last_byte : (k n : ℕ) → get_or (bytes (suc k) n) k 0 ≡ n % 256
last_byte k n = rw one_more (get_or_at (bytes k (n / 256)) (n % 256) [] 0 k (length_bytes k (n / 256)))

snoc_below : (l : List ℕ) (x : ℕ) → ((i : ℕ) → get_or l i 0 < 256) → x < 256
    → (i : ℕ) → get_or (l ++ (x ∷ [])) i 0 < 256
snoc_below [] x f h zero = h
snoc_below [] x f h (suc i) = omega arith
snoc_below (y ∷ l) x f h zero = f 0
snoc_below (y ∷ l) x f h (suc i) = snoc_below l x (λ j. f (suc j)) h i

-- Each of them is below 256.
pub byte_below : (k n i : ℕ) → get_or (bytes k n) i 0 < 256
byte_below zero n i = rw none (omega arith)
byte_below (suc k) n i = rw one_more (snoc_below (bytes k (n / 256)) (n % 256) (byte_below k (n / 256)) (omega arith) i)

-- The bytes of two numbers, one after the other, are the bytes of one.
pub join : (j k m n : ℕ) → n < 256 ^ k → bytes j m ++ bytes k n ≡ bytes (j + k) (m * 256 ^ k + n)
unfolding bytes
join j zero m n h =
    let e : m ≡ m * 256 ^ 0 + n = omega arith in
    rw (append-nil, add-zero) (ap (bytes j) e)
join j (suc k) m n h =
    let q : (m * 256 ^ suc k + n) / 256 ≡ m * 256 ^ k + n / 256 = rw pow-suc (omega arith) in
    let r : (m * 256 ^ suc k + n) % 256 ≡ n % 256 = rw pow-suc (omega arith) in
    rw (add-suc, q, r, ← append_assoc, join j k m (n / 256) (omega (arith, pow-suc 256 k)))

-- The bytes tell the number.
pub one_number : (k : ℕ) {m n : ℕ} → m < 256 ^ k → n < 256 ^ k → bytes k m ≡ bytes k n → m ≡ n
one_number zero p q e = omega arith
one_number (suc k) {m} {n} p q e =
    let l : length (bytes k (m / 256)) ≡ length (bytes k (n / 256)) = rw (length_bytes, length_bytes) refl in
    let r = same_cut (bytes k (m / 256)) (bytes k (n / 256)) (sym (one_more k m) ∙ e ∙ one_more k n) l in
    let d = one_number k (omega (arith, pow-suc 256 k)) (omega (arith, pow-suc 256 k)) r.0 in
    omega (arith, r.1)

-- The first byte.
first : (k n : ℕ) → bytes (suc k) n ≡ (n / 256 ^ k % 256) ∷ bytes k n
first zero n = rw (one_more 0 n, none (n / 256), none n, div-one)
first (suc k) n =
    let e : n / 256 / 256 ^ k ≡ n / 256 ^ suc k = div-div-eq-div-mul n 256 (256 ^ k) ∙ ap (λ (m : ℕ). n / m) (mul_comm 256 (256 ^ k) ∙ sym (pow-suc 256 k)) in
    rw (one_more (suc k) n, first k (n / 256), e, one_more k n)

-- The bytes that std gives, of a number of any width.
pub be_bytes : (k n : ℕ) → bytes_high_first k n ≡ bytes k n
be_bytes zero n = sym (none n)
be_bytes (suc zero) n = rw (first zero n, div-one, none)
be_bytes (suc (suc k)) n = rw first (ap (λ (s : List ℕ). (n / 256 ^ suc k % 256) ∷ s) (be_bytes (suc k) n))

take_below : (k : ℕ) (l : List ℕ) → ((i : ℕ) → get_or l i 0 < 256) → (i : ℕ) → get_or (take k l) i 0 < 256
take_below zero l f i = omega arith
take_below (suc k) [] f i = omega arith
take_below (suc k) (x ∷ l) f zero = f 0
take_below (suc k) (x ∷ l) f (suc i) = take_below k l (λ j. f (suc j)) i

-- The number that std reads from the bytes of a list between two places has these as its bytes.
module _ (s : List ℕ) (f : (i : ℕ) → get_or s i 0 < 256) where
  part_below : (k at i : ℕ) → get_or (take k (drop at s)) i 0 < 256
  part_below k at = take_below k (drop at s) (λ i. rw get_or-drop (f (at + i)))

  part_length : (k at : ℕ) → at + k ≤ length s → length (take k (drop at s)) ≡ k
  part_length k at h = length-take-le k (drop at s) (omega (arith, length-drop at s))

  part_is : (k at i j : ℕ) (x : List ℕ) → x ≡ take (j - i) (drop i s) → i ≡ at → j ≡ at + k → x ≡ take k (drop at s)
  part_is k at i j x p e d =
      let z : j - i ≡ k = omega arith in
      p ∙ rw (z, e)

  pub read4 : (at i j n : ℕ) (x : List ℕ) → x ≡ take (j - i) (drop i s) → i ≡ at → j ≡ at + 4 → at + 4 ≤ length s → n ≡ from_be_bytes w32 x
      → take 4 (drop at s) ≡ bytes 4 n
  read4 at i j n x p e d h q =
      sym (be_bytes_4 (take 4 (drop at s)) n (part_length 4 at h) (part_below 4 at) (q ∙ ap (from_be_bytes w32) (part_is 4 at i j x p e d)))
      ∙ be_bytes 4 n

  pub read8 : (at i j n : ℕ) (x : List ℕ) → x ≡ take (j - i) (drop i s) → i ≡ at → j ≡ at + 8 → at + 8 ≤ length s → n ≡ from_be_bytes w64 x
      → take 8 (drop at s) ≡ bytes 8 n
  read8 at i j n x p e d h q =
      sym (be_bytes_8 (take 8 (drop at s)) n (part_length 8 at h) (part_below 8 at) (q ∙ ap (from_be_bytes w64) (part_is 8 at i j x p e d)))
      ∙ be_bytes 8 n

-- A store past some others can be made before them.
set_before : (s l : List ℕ) (i j x : ℕ) → i + length s ≤ j → sets (set l j x) i s ≡ set (sets l i s) j x
set_before [] l i j x h = refl
set_before (a ∷ s) l i j x h =
    let d : j ≢ i = omega arith in
    ap (λ (m : List ℕ). sets m (suc i) s) (set_comm l j i x a d) ∙ set_before s (set l i a) (suc i) j x (omega arith)

-- Storing k + 1 bytes is storing the last and then k.
pub put_last : (k : ℕ) (l : List ℕ) (i n : ℕ) → sets (set l (i + k) (n % 256)) i (bytes k (n / 256)) ≡ sets l i (bytes (suc k) n)
put_last k l i n =
    set_before (bytes k (n / 256)) l i (i + k) (n % 256) (omega (arith, length_bytes k (n / 256)))
    ∙ rw (one_more, sets_append, length_bytes)

pub put_none : (l : List ℕ) (i n : ℕ) → sets l i (bytes 0 n) ≡ l
put_none l i n = rw none
