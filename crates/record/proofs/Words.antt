-- The 160 bits as words of 32, 64 and 64 bits, and that the number tells the fields and the mark.
use Prim.Native.Nat.{ℕ, ◌+◌, ◌*◌, ◌/◌, ◌%◌, ◌^◌, ◌≤◌, ◌<◌}
use mathlib.Core.Path.{◌≡◌, ap, ap₂, ◌∙◌}
use mathlib.Core.List.{List, ◌++◌}
use native.Mathlib.Nat.{add-zero, div-add-mod', mul-mod_left}
use native.Mathlib.Omega.{arith}
use lib.Arith.{digits_lt}
use lib.ListN.{take, drop, length-append}
use lib.Seq.{sets, take-add, drop-drop}
use Rattle.base.proofs.Lists.{sets_append}
use Rattle.base.proofs.Numbers.{parts}
use Rattle.record.specs.declared.Record.{Record}
use Rattle.record.specs.Bytes.{bytes}
use Rattle.record.specs.Record.{WellFormed, number}
use Rattle.record.specs.inner.Words.{Words}
use Rattle.record.proofs.Bytes.{length_bytes, join}

-- Every field within its bits.
pub record Widths (r : Record) : Type 0 where
  pub offset : r.offset < 2 ^ 48
  pub bus : r.bus < 2 ^ 5
  pub kind : r.kind < 2 ^ 3
  pub extended : r.extended < 2
  pub id : r.id < 2 ^ 29
  pub len : r.len < 2 ^ 4
  pub «data» : r.«data» < 2 ^ 64

pub widths : {r : Record} → WellFormed r → Widths r
widths w =
    record {
      offset = omega arith;
      bus = omega arith;
      kind = omega arith;
      extended = omega arith;
      id = omega arith;
      len = omega arith;
      «data» = omega arith;
    }

pub widths_of : {r : Record}
    → (r.offset < 2 ^ 48) × (r.bus < 2 ^ 5) × (r.kind < 2 ^ 3) × (r.extended < 2) × (r.id < 2 ^ 29) × (r.len < 2 ^ 4) × (r.«data» < 2 ^ 64)
    → Widths r
widths_of f = record { offset = f.0; bus = f.1; kind = f.2; extended = f.3; id = f.4; len = f.5; «data» = f.6 }

-- The bits from a part o of the offset to the length.
abbrev after : Record → ℕ → ℕ
after r o = ((((o * 2 ^ 5 + r.bus) * 2 ^ 3 + r.kind) * 2 + r.extended) * 2 ^ 29 + r.id) * 2 ^ 4 + r.len

abbrev middle_of : Record → ℕ
middle_of r = after r (r.offset % 2 ^ 16) * 2 ^ 6 + r.«data» / 2 ^ 58

-- The number tells the fields and the mark.
pub same_record : {r t : Record} {m n : ℕ} → Widths r → Widths t → m ≤ 1 → n ≤ 1 → number r m ≡ number t n → (r ≡ t) × (m ≡ n)
same_record {r} {t} {m} {n} a b c d e =
    let z : 0 < 2 ^ 5 = omega arith in
    let e' : number r m + 0 ≡ number t n + 0 = rw (add-zero, add-zero) e in
    let p0 = parts 2 (omega arith) (omega arith) (parts (2 ^ 5) z z e').0 in
    let p1 = parts (2 ^ 64) a.«data» b.«data» p0.0 in
    let p2 = parts (2 ^ 4) a.len b.len p1.0 in
    let p3 = parts (2 ^ 29) a.id b.id p2.0 in
    let p4 = parts 2 a.extended b.extended p3.0 in
    let p5 = parts (2 ^ 3) a.kind b.kind p4.0 in
    let p6 = parts (2 ^ 5) a.bus b.bus p5.0 in (
      λ i. record {
        offset = p6.0 i;
        bus = p6.1 i;
        kind = p5.1 i;
        extended = p4.1 i;
        id = p3.1 i;
        len = p2.1 i;
        «data» = p1.1 i;
      },
      p0.1,
    )

-- The last five bits are zero.
pub spare_zero : (r : Record) (m : ℕ) → number r m % 32 ≡ 0
spare_zero r m = mul-mod_left _ 32

-- 58 bits and the six that follow them are a word.
pub word_fits : (b d : ℕ) → b < 2 ^ 58 → d < 2 ^ 64 → b * 2 ^ 6 + d / 2 ^ 58 < 2 ^ 64
word_fits b d p q = omega arith

module _ (r : Record) (h : Widths r) where
  after_lt : {o m : ℕ} → o < m → after r o < m * 2 ^ 5 * 2 ^ 3 * 2 * 2 ^ 29 * 2 ^ 4
  after_lt p = digits_lt (digits_lt (digits_lt (digits_lt (digits_lt p h.bus) h.kind) h.extended) h.id) h.len

  pub number_lt : {m : ℕ} → m ≤ 1 → number r m < 256 ^ 20
  number_lt {m} b =
      let z : 0 < 2 ^ 5 = omega arith in
      let c : m < 2 = omega arith in
      rw add-zero at (digits_lt (digits_lt (digits_lt (after_lt h.offset) h.«data») c) z)

  middle_lt : middle_of r < 256 ^ 8
  middle_lt =
      let p : r.offset % 2 ^ 16 < 2 ^ 16 = omega arith in
      let q : r.«data» / 2 ^ 58 < 2 ^ 6 = omega (arith, h.«data») in
      digits_lt (after_lt p) q

  -- The last word, which ends with the mark and five bits.
  abbrev low : ℕ → ℕ
  low m = r.«data» % 2 ^ 58 * 2 ^ 6 + m * 2 ^ 5

  low_lt : {m : ℕ} → m ≤ 1 → low m < 256 ^ 8
  low_lt b = omega arith

  split : (u w m : ℕ) → ((u * 2 ^ 64 + w) * 2 + m) * 2 ^ 5 ≡ (u * 2 ^ 6 + w / 2 ^ 58) * 256 ^ 8 + (w % 2 ^ 58 * 2 ^ 6 + m * 2 ^ 5)
  split u w m = omega arith

  high : (o t : ℕ) → after r o * 2 ^ 6 + t ≡ o / 2 ^ 16 * 256 ^ 8 + (after r (o % 2 ^ 16) * 2 ^ 6 + t)
  high o t = omega arith

  words : {mark : ℕ} → mark ≤ 1 → bytes 20 (number r mark)
      ≡ (bytes 4 (r.offset / 2 ^ 16) ++ bytes 8 (middle_of r)) ++ bytes 8 (low mark)
  words {mark} b =
      let h = r.offset / 2 ^ 16 in
      let m = middle_of r in
      let l = low mark in
      let n : number r mark ≡ (h * 256 ^ 8 + m) * 256 ^ 8 + l =
      split (after r r.offset) r.«data» mark ∙ ap (λ (x : ℕ). x * 256 ^ 8 + l) (high r.offset (r.«data» / 2 ^ 58)) in
      rw (n, join 4 8 h m middle_lt, join 12 8 (h * 256 ^ 8 + m) l (low_lt b))

  -- Storing the three words is storing the twenty bytes.
  pub stored_words : {mark : ℕ} → mark ≤ 1 → (s a b c : List ℕ) (i j k h m l : ℕ)
      → a ≡ sets s i (bytes 4 h) → b ≡ sets a j (bytes 8 m) → c ≡ sets b k (bytes 8 l)
      → j ≡ i + 4 → k ≡ i + 12 → h ≡ r.offset / 2 ^ 16 → m ≡ middle_of r → l ≡ low mark → c ≡ sets s i (bytes 20 (number r mark))
  stored_words t s a b c i j k h m l p q o d e u v w =
      rw (o, q, p, d, e, u, v, w, words t) (simp (sets_append, length-append, length_bytes))

-- The twenty bytes at a place are the bytes of their three words.
pub read_words : (s : List ℕ) (at h m l : ℕ) → m < 256 ^ 8 → l < 256 ^ 8
    → take 4 (drop at s) ≡ bytes 4 h → take 8 (drop (at + 4) s) ≡ bytes 8 m → take 8 (drop (at + 12) s) ≡ bytes 8 l
    → take 20 (drop at s) ≡ bytes 20 ((h * 256 ^ 8 + m) * 256 ^ 8 + l)
read_words s at h m l pm pl p q r =
    let d = drop at s in
    take-add 12 8 d
    ∙ ap₂ (λ (x y : List ℕ). x ++ y)
    (take-add 4 8 d ∙ ap₂ (λ (x y : List ℕ). x ++ y) p (ap (take 8) (drop-drop 4 at s) ∙ q) ∙ join 4 8 h m pm)
    (ap (take 8) (drop-drop 12 at s) ∙ r)
    ∙ join 12 8 (h * 256 ^ 8 + m) l pl

-- As one number they are below 160 bits.
pub words_lt : {s : List ℕ} {at h m l : ℕ} → Words s at h m l → (h * 256 ^ 8 + m) * 256 ^ 8 + l < 256 ^ 20
words_lt w = digits_lt (digits_lt w.high w.middle) w.low

two : (r : Record) (h x : ℕ) → after r (h * 2 ^ 16 + x) ≡ h * 2 ^ 58 + after r x
two r h x = omega arith

tail : (u v l : ℕ) → l % 32 ≡ 0 → ((u * 2 ^ 64 + (v * 2 ^ 58 + l / 64)) * 2 + l / 32 % 2) * 2 ^ 5 ≡ (u * 2 ^ 6 + v) * 256 ^ 8 + l
tail u v l h = omega arith

pub data_lt : (m l : ℕ) → l < 2 ^ 64 → m % 64 * 2 ^ 58 + l / 64 < 2 ^ 64
data_lt m l h =
    let p : m % 64 < 2 ^ 6 = omega arith in
    let q : l / 64 < 2 ^ 58 = omega arith in
    digits_lt p q

-- The fields that are cut out of the three words, one after the other.
abbrev pub made : ℕ → ℕ → ℕ → Record
made h m l =
    record {
      offset = h * 2 ^ 16 + m / 2 ^ 6 / 2 ^ 4 / 2 ^ 29 / 2 / 2 ^ 3 / 2 ^ 5;
      bus = m / 2 ^ 6 / 2 ^ 4 / 2 ^ 29 / 2 / 2 ^ 3 % 2 ^ 5;
      kind = m / 2 ^ 6 / 2 ^ 4 / 2 ^ 29 / 2 % 2 ^ 3;
      extended = m / 2 ^ 6 / 2 ^ 4 / 2 ^ 29 % 2;
      id = m / 2 ^ 6 / 2 ^ 4 % 2 ^ 29;
      len = m / 2 ^ 6 % 2 ^ 4;
      «data» = m % 2 ^ 6 * 2 ^ 58 + l / 2 ^ 6;
    }

pub made_number : (h m l : ℕ) → l % 32 ≡ 0 → number (made h m l) (l / 2 ^ 5 % 2) ≡ (h * 256 ^ 8 + m) * 256 ^ 8 + l
made_number h m l z =
    let a : after (made h m l) (m / 2 ^ 6 / 2 ^ 4 / 2 ^ 29 / 2 / 2 ^ 3 / 2 ^ 5) ≡ m / 64 = simp div-add-mod' in
    let u : (h * 2 ^ 58 + m / 64) * 2 ^ 6 + m % 64 ≡ h * 256 ^ 8 + m = omega arith in
    ap (λ (x : ℕ). ((x * 2 ^ 64 + (m % 64 * 2 ^ 58 + l / 64)) * 2 + l / 32 % 2) * 2 ^ 5)
    (two (made h m l) h _ ∙ ap (λ (x : ℕ). h * 2 ^ 58 + x) a)
    ∙ tail (h * 2 ^ 58 + m / 64) (m % 64) l z
    ∙ ap (λ (x : ℕ). x * 256 ^ 8 + l) u
