-- What the loop that fills the table of pairs keeps: the digits of the bytes below n stand in it.
use Prim.Native.Nat.{ℕ, ◌+◌, ◌*◌, ◌/◌, ◌%◌, ◌<◌}
use mathlib.Core.Path.{◌≡◌, ◌∙◌}
use mathlib.Core.Logic.{⊎_elim}
use mathlib.Core.List.{List}
use native.Mathlib.Omega.{arith}
use lib.ListN.{length, get_or, set, length-set}
use lib.Seq.{get_or-set_same, get_or-set_other}
use Rattle.digits.specs.inner.Pairs.{PairsOf}
use Rattle.base.proofs.Numbers.{below_or_not}
use Rattle.digits.specs.declared.Letters.{Letters}
use Rattle.digits.specs.House.{glyph_of}

pub record PairsTo (c : Letters) (n : ℕ) (t : List ℕ) : Type 0 where
  pub high : (b : ℕ) → b < n → get_or t (2 * b) 0 ≡ glyph_of c (b / 16)
  pub low : (b : ℕ) → b < n → get_or t (2 * b + 1) 0 ≡ glyph_of c (b % 16)

pub no_pair : (c : Letters) (t : List ℕ) → PairsTo c 0 t
no_pair c t = record { high = λ b h. absurd (omega arith); low = λ b h. absurd (omega arith) }

-- one turn: the digits x and y of the byte n are put after those of the bytes before it
module _ {c : Letters} {n : ℕ} {t : List ℕ} {x y : ℕ} (p : PairsTo c n t) (l : 2 * n + 1 < length t) (e : x ≡ glyph_of c (n / 16)) (f : y ≡ glyph_of c (n % 16)) where
  abbrev next : List ℕ
  next = set (set t (2 * n) x) (2 * n + 1) y

  kept : (i : ℕ) → i < 2 * n → get_or next i 0 ≡ get_or t i 0
  kept i h = get_or-set_other (set t (2 * n) x) (2 * n + 1) i y 0 (λ z. omega arith) ∙ get_or-set_other t (2 * n) i x 0 (λ z. omega arith)

  first : get_or next (2 * n) 0 ≡ glyph_of c (n / 16)
  first = get_or-set_other (set t (2 * n) x) (2 * n + 1) (2 * n) y 0 (λ z. omega arith) ∙ get_or-set_same t (2 * n) x 0 (omega arith) ∙ e

  second : get_or next (2 * n + 1) 0 ≡ glyph_of c (n % 16)
  second = get_or-set_same (set t (2 * n) x) (2 * n + 1) y 0 (rw length-set l) ∙ f

  high_of : (b : ℕ) → b < n + 1 → get_or next (2 * b) 0 ≡ glyph_of c (b / 16)
  high_of b h = ⊎_elim (λ q. kept (2 * b) (omega arith) ∙ p.high b q) (λ q. let z : b ≡ n = omega arith in rw z first) (below_or_not b n)

  low_of : (b : ℕ) → b < n + 1 → get_or next (2 * b + 1) 0 ≡ glyph_of c (b % 16)
  low_of b h = ⊎_elim (λ q. kept (2 * b + 1) (omega arith) ∙ p.low b q) (λ q. let z : b ≡ n = omega arith in rw z second) (below_or_not b n)

  pub pair_more : PairsTo c (n + 1) next
  pair_more = record { high = high_of; low = low_of }

pub all_pairs : {c : Letters} {n : ℕ} {t : List ℕ} → PairsTo c n t → n ≡ 256 → length t ≡ 512 → PairsOf c t
all_pairs p e l = record { long = l; high = λ b h. p.high b (omega arith); low = λ b h. p.low b (omega arith) }
