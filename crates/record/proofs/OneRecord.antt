-- Twenty bytes mean one record and one mark at most, and a record with a mark is packed as one text.
use Prim.Native.Nat.{ℕ, ◌+◌, ◌*◌, ◌/◌, ◌%◌, ◌^◌, ◌≤◌, ◌<◌}
use mathlib.Core.Path.{◌≡◌, refl, ap, sym, ◌∙◌}
use mathlib.Core.List.{List}
use native.Mathlib.Omega.{arith}
use lib.ListN.{length, get_or, take, drop, length-take, length-drop}
use Rattle.record.specs.declared.Record.{Record}
use Rattle.record.specs.Bytes.{bytes}
use Rattle.record.specs.Record.{WellFormed, Packs, number}
use Rattle.record.proofs.Bytes.{length_bytes, last_byte, byte_below, one_number}
use Rattle.record.proofs.Words.{Widths, widths, number_lt, same_record, spare_zero}

-- Every well-formed record has its bytes, with either mark.
pub packs : {r : Record} {m : ℕ} → WellFormed r → m ≤ 1 → Packs r m (bytes 20 (number r m))
packs w b = record { formed = w; bit = b; packed = refl }

pub packed_length : {r : Record} {m : ℕ} {s : List ℕ} → Packs r m s → length s ≡ 20
packed_length {r} {m} p = ap length p.packed ∙ length_bytes 20 (number r m)

-- Twenty bytes at a place that are a record stand there whole.
pub packed_within : {r : Record} {m : ℕ} (at : ℕ) (s : List ℕ) → Packs r m (take 20 (drop at s)) → at + 20 ≤ length s
packed_within at s p = omega (arith, packed_length p, length-take 20 (drop at s), length-drop at s)

pub packed_byte : {r : Record} {m : ℕ} {s : List ℕ} → Packs r m s → (i : ℕ) → get_or s i 0 < 256
packed_byte {r} {m} p i = rw p.packed (byte_below 20 (number r m) i)

-- The bytes of a number are a packed record only if it is the record's number.
pub packed_number : {t : Record} {m : ℕ} {s : List ℕ} {n : ℕ}
    → n < 256 ^ 20 → s ≡ bytes 20 n → Packs t m s → number t m ≡ n
packed_number {t} h e p = one_number 20 (number_lt t (widths p.formed) p.bit) h (sym p.packed ∙ e)

-- The mark is the sixth bit from the end, and the five after it are zero.
pub mark_place : {r : Record} {m : ℕ} {s : List ℕ} → Packs r m s → (get_or s 19 0 / 32 % 2 ≡ m) × (get_or s 19 0 % 32 ≡ 0)
mark_place {r} {m} p =
    let e = rw (← p.packed) at (last_byte 19 (number r m)) in
    let b = p.bit in
    (omega arith, omega arith)

-- The only record and mark that the bytes of a number can be are those with that number.
pub only : {r t : Record} {m k : ℕ} {s : List ℕ} {n : ℕ}
    → n < 256 ^ 20 → s ≡ bytes 20 n → Widths r → m ≤ 1 → number r m ≡ n → Packs t k s → (t ≡ r) × (k ≡ m)
only h e w b k p = same_record (widths p.formed) w p.bit b (packed_number h e p ∙ sym k)

-- The last five bits of a record's bytes are zero.
pub spare : {t : Record} {m : ℕ} {s : List ℕ} (u l : ℕ) → u * 256 ^ 8 + l < 256 ^ 20 → s ≡ bytes 20 (u * 256 ^ 8 + l) → Packs t m s → l % 32 ≡ 0
spare {t} {m} u l h e p =
    let z : (u * 256 ^ 8 + l) % 32 ≡ 0 = ap (λ (x : ℕ). x % 32) (sym (packed_number h e p)) ∙ spare_zero t m in
    omega arith

pub one_marked : {r t : Record} {m n : ℕ} {s : List ℕ} → Packs r m s → Packs t n s → (r ≡ t) × (m ≡ n)
one_marked {t = t} p q = only (number_lt t (widths q.formed) q.bit) q.packed (widths q.formed) q.bit refl p

pub one_record : {r t : Record} {m n : ℕ} {s : List ℕ} → Packs r m s → Packs t n s → r ≡ t
one_record p q = (one_marked p q).0

pub same_bytes : {r : Record} {m : ℕ} {s t : List ℕ} → Packs r m s → Packs r m t → s ≡ t
same_bytes p q = p.packed ∙ sym q.packed
