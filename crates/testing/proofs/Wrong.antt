-- Wrong answers of the parts of a line: each is refuted over what the function promises.
use Prim.Native.Nat.{ℕ, ◌+◌, ◌*◌, ◌≤◌, ◌<◌}
use mathlib.Core.Path.{◌≡◌, refl, ap, sym, ◌∙◌}
use mathlib.Core.Logic.{◌≢◌}
use mathlib.Core.List.{List, [], ◌∷◌}
use native.Mathlib.Nat.{pow-le-pow_left, pow-lt-pow_left, mul-le-mul_left, mul-lt-mul_of_pos_left}
use native.Mathlib.Omega.{arith}
use lib.ListN.{length, get_or, take, drop, length-drop}
use Rattle.base.specs.Text.{text, blank}
use Rattle.digits.specs.Digits.{Digits, none, more, DecimalDigit}
use Rattle.digits.specs.inner.Answer.{ReadHex}
use Rattle.testing.specs.Putting.{PutOrNot, put, no_room}
use Rattle.testing.specs.Words.{FirstFrom, before, behind, word, is, none as is_none, ValueOf, hexadecimal, decimal, Letter, KeyOf, few, many}
use Rattle.testing.proofs.Cutting.{cut_from}
use Rattle.testing.proofs.One.{one_value}

-- the end, where the byte stands before it
pub end_for_a_byte : {s : List ℕ} {b : ℕ} → FirstFrom (b ∷ s) 0 b (length (b ∷ s)) → ⊥
end_for_a_byte f = f.passed 0 (omega arith) (omega arith) refl

-- nothing, where a byte stands before it
pub before_is_nothing : before blank (text "ab cd") ≡ [] → ⊥
unfolding before
before_is_nothing e = omega (arith, ap length e)

-- nothing, where something stands after it
pub behind_is_nothing : behind blank (text "ab cd") ≡ [] → ⊥
unfolding behind
behind_is_nothing e = omega (arith, ap length e)

-- what stands from the first of a byte on, with that byte
pub behind_with_its_byte : {s : List ℕ} {b i : ℕ} → FirstFrom s 0 b i → i < length s → behind b s ≡ drop i s → ⊥
behind_with_its_byte {s} {b} {i} f h e = omega (arith, ap length ((cut_from f).1 ∙ e), length-drop i s, length-drop (i + 1) s)

-- nothing, and one byte more
pub front_is_nothing : take 1 (text "ab") ≡ [] → ⊥
front_is_nothing e = omega (arith, ap length e)

pub front_one_more : take 1 (text "ab") ≡ text "ab" → ⊥
front_one_more e = omega (arith, ap length e)

-- a number after a capital X, and none after a small x
pub capital_x : {s : List ℕ} {v : ℕ} → 0 < v → ValueOf (88 ∷ s) v → ⊥
capital_x p (hexadecimal e h) = let z : ◌≡◌ {A = ℕ} 88 120 = cc in omega arith
capital_x p (decimal n (is_none m e)) = omega arith
capital_x {s} p (decimal n (is d)) = go d.spelled.digits
  where
    go : {v : ℕ} → Digits DecimalDigit 10 (88 ∷ s) v → ⊥
    go (more a r e) = omega (arith, a.value, a.byte)

pub small_x_refused : {s : List ℕ} {v : ℕ} → 0 < v → ReadHex s v → ValueOf (120 ∷ s) 0 → ⊥
small_x_refused p h w = omega (arith, one_value (hexadecimal refl (is h)) w)

-- every word from the first on, where the numbers go by steps and the two words are other numbers
abbrev pub ByStep : List ℕ → ℕ → ℕ → List ℕ → Type 0
ByStep s first step a = (k : ℕ) → k < 9 → ValueOf (word (first + k * step) s) (get_or a k 0)

pub every_word : {v w : ℕ} (s a : List ℕ) (first step k : ℕ) → k < 9 → ValueOf (word (first + k * step) s) v → ValueOf (word (first + k * 1) s) w
    → v ≢ w → ByStep s first step a → ByStep s first 1 a → ⊥
every_word s a first step k h p q n x y = n (one_value p (x k h) ∙ one_value (y k h) q)

-- the letters as digits of another base, below 256
no_more : {c : ℕ} {s : List ℕ} {m k : ℕ} → c < 256 → Digits Letter c s m → Digits Letter 256 s k → m ≤ k
no_more h none none = omega arith
no_more {c = c} h (more {d = d} {s = s} p r e) (more q t f) =
    let l : c ≤ 256 = omega arith in
    let x = mul-le-mul_left d (pow-le-pow_left l (length s)) in
    omega (arith, no_more h r t, rw (q.same ∙ sym p.same) at f)

pub letters_in_another_base : {x : ℕ} {s : List ℕ} {c k : ℕ} → c < 256 → 0 < x → 1 ≤ length s → length s ≤ 7
    → Digits Letter c (x ∷ s) k → KeyOf (x ∷ s) k → ⊥
letters_in_another_base h p n l (more r t e) (many j z) = omega arith
letters_in_another_base {s = s} h p n l (more {d = d} r t e) (few j (more q u f)) =
    let x = mul-lt-mul_of_pos_left {k = d} (pow-lt-pow_left {n = length s} h (λ i. omega arith)) (omega (arith, r.same)) in
    omega (arith, no_more h t u, rw (q.same ∙ sym r.same) at f)

-- a number for more than eight letters
pub key_of_nine : {s : List ℕ} {k : ℕ} → length s ≡ 9 → 0 < k → KeyOf s k → ⊥
key_of_nine n p (few h d) = omega arith
key_of_nine n p (many h e) = omega arith

-- an output that is touched where there is no room
pub touched_without_room : {old new s : List ℕ} {i j : ℕ} → length old < i + length s → PutOrNot old new i j s → (new ≡ old → ⊥) → ⊥
touched_without_room h (put r w) n = omega arith
touched_without_room h (no_room r e u) n = n u

-- no room for bytes that fit, also where they just fit
pub no_room_for_what_fits : {old new s : List ℕ} {i : ℕ} → i + length s ≤ length old → 0 < length s → PutOrNot old new i i s → ⊥
no_room_for_what_fits h n (put r w) = omega (arith, w.next)
no_room_for_what_fits h n (no_room r e u) = omega arith
