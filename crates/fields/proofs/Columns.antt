-- What holds of every column, for those who cite it: one value for its bytes, one byte or more, and none of them a blank, CR or LF.
use Prim.Native.Nat.{ℕ, ◌+◌, ◌*◌, ◌-◌, ◌^◌, ◌≤◌, ◌<◌}
use mathlib.Core.Path.{◌≡◌, refl, ap, ap₂, sym, ◌∙◌}
use mathlib.Core.Logic.{◌≢◌}
use mathlib.Core.Bool.{true, false}
use mathlib.Core.List.{List, [], ◌∷◌, ◌++◌}
use native.Mathlib.Omega.{arith}
use lib.Dec.{T, eqb, leb, leb→le}
use lib.ListN.{length, get_or, length-append}
use Rattle.base.proofs.Tables.{every, at}
use Rattle.digits.specs.Digits.{DecimalDigit, CasedDigit, figure, letter, HexDigit, capital, small, Digits, Decimal, Padded, Hex}
use Rattle.digits.proofs.Theorems.{one_decimal, one_padded, one_hex}
use Rattle.fields.specs.Runs.{All, empty, more, halt}
use Rattle.fields.specs.Columns.{NumberField, OffsetField, BusField, LengthField, IdField, standard, long, Capital, type_rx, type_tx, type_warng, type_error, remote_text}
use Rattle.fields.specs.inner.Window.{Solid, HexField, TypeField, rx, tx, warng, error}
use Rattle.fields.proofs.Runs.{cut, all_map, all_append, all_of}
use Rattle.fields.proofs.Scans.{Some, digits_all}

-- No blank, no CR, no LF.
pub record Plain (b : ℕ) : Type 0 where
  pub blank : b ≢ 32
  pub end : b ≢ 13
  pub feed : b ≢ 10

pub plain_solid : (b : ℕ) → Plain b → Solid b
plain_solid b p = record { blank = p.blank; end = p.end }

-- A byte above the blank.
pub visible : {b : ℕ} → 33 ≤ b → Plain b
visible h = record { blank = λ e. omega arith; end = λ e. omega arith; feed = λ e. omega arith }

decimal_plain : (x : ℕ) → Some DecimalDigit x → Plain x
decimal_plain x (d, p) = visible (omega (arith, p.byte))

cased_high : {ten x d : ℕ} → 33 ≤ ten → CasedDigit ten x d → 33 ≤ x
cased_high h (figure p) = omega arith
cased_high h (letter p) = omega arith

hex_digit_plain : (x : ℕ) → Some HexDigit x → Plain x
hex_digit_plain x (d, p) = visible (go p)
  where
    go : HexDigit x d → 33 ≤ x
    go (capital q) = cased_high (omega arith) q
    go (small q) = cased_high (omega arith) q

-- The bytes of digits are plain.
pub decimals : {b n : ℕ} {s : List ℕ} → Digits DecimalDigit b s n → All Plain s
decimals r = all_map decimal_plain (digits_all r)

hexes : {b n : ℕ} {s : List ℕ} → Digits HexDigit b s n → All Plain s
hexes r = all_map hex_digit_plain (digits_all r)

-- Decimal digits before a byte that is none are the only ones.
pub before : {m n x y : ℕ} {s t u v : List ℕ} → x < 48 → y < 48 → Digits DecimalDigit 10 s m → Digits DecimalDigit 10 t n
    → s ++ (x ∷ u) ≡ t ++ (y ∷ v) → (s ≡ t) × (x ∷ u ≡ y ∷ v)
before h k p q e = cut (digits_all p) (digits_all q) (halt (λ (d, r). omega (arith, r.byte))) (halt (λ (d, r). omega (arith, r.byte))) e

pub number_one : {k j : ℕ} {f : List ℕ} → NumberField k f → NumberField j f → k ≡ j
number_one p q =
    let r = before (omega arith) (omega arith) p.spelled.digits q.spelled.digits (sym p.bytes ∙ q.bytes) in
    one_decimal (rw r.0 at p.spelled) q.spelled

pub number_plain : {k : ℕ} {f : List ℕ} → NumberField k f → All Plain f
number_plain p = rw p.bytes (all_append (decimals p.spelled.digits) (more (visible (omega arith)) empty))

pub number_some : {k : ℕ} {f : List ℕ} → NumberField k f → 0 < length f
number_some p = omega (arith, ap length p.bytes ∙ length-append p.digits (41 ∷ []))

-- The digits on both sides of the point tell the offset.
pub offset_value : {w a m n : ℕ} {f s t : List ℕ} → OffsetField w a f → f ≡ s ++ (46 ∷ t) → Decimal m s → Padded w n t → a ≡ m * 1000 + n * 10 ^ (3 - w)
offset_value {w} {t = t} p e d q =
    let r = before (omega arith) (omega arith) p.first.digits d.digits (sym p.bytes ∙ e) in
    let i : p.part ≡ t = cc r.1 in
    p.value ∙ ap₂ (λ (x y : ℕ). x * 1000 + y * 10 ^ (3 - w)) (one_decimal (rw r.0 at p.first) d) (one_padded (rw i at p.second) q)

pub offset_one : {w a b : ℕ} {f : List ℕ} → OffsetField w a f → OffsetField w b f → a ≡ b
offset_one p q = offset_value p q.bytes q.first q.second ∙ sym q.value

pub offset_plain : {w a : ℕ} {f : List ℕ} → OffsetField w a f → All Plain f
offset_plain p = rw p.bytes (all_append (decimals p.first.digits) (more (visible (omega arith)) (decimals p.second.digits)))

pub offset_some : {w a : ℕ} {f : List ℕ} → OffsetField w a f → 0 < length f
offset_some p = omega (arith, ap length p.bytes ∙ length-append p.whole (46 ∷ p.part))

pub bus_one : {a b : ℕ} {f : List ℕ} → BusField a f → BusField b f → a ≡ b
bus_one p q = one_decimal p.spelled q.spelled

pub bus_plain : {a : ℕ} {f : List ℕ} → BusField a f → All Plain f
bus_plain p = decimals p.spelled.digits

pub bus_some : {a : ℕ} {f : List ℕ} → BusField a f → 0 < length f
bus_some p = p.spelled.some

-- The first letter tells the type.
abbrev type_of : List ℕ → ℕ
type_of f =
    elim (eqb (get_or f 0 0) 82) [ true ↦ 0 | false ↦ elim (eqb (get_or f 0 0) 84) [ true ↦ 1 | false ↦ elim (eqb (get_or f 0 0) 87) [ true ↦ 2 | false ↦ 3 ] ] ]

type_told : {v : ℕ} {f : List ℕ} → TypeField v f → v ≡ type_of f
type_told (rx e) = rw e refl
type_told (tx e) = rw e refl
type_told (warng e) = rw e refl
type_told (error e) = rw e refl

pub type_one : {a b : ℕ} {f : List ℕ} → TypeField a f → TypeField b f → a ≡ b
type_one p q = type_told p ∙ sym (type_told q)

-- A spelled-out text is plain where each of its bytes is above the blank, which antt computes.
pub text_plain : (f : List ℕ) → T (every (λ k x. leb 33 x) 0 f) → All Plain f
text_plain f t = all_of f (λ k h. visible (leb→le 33 (get_or f k 0) (at (λ k x. leb 33 x) 0 f t k h)))

pub type_plain : {v : ℕ} {f : List ℕ} → TypeField v f → All Plain f
type_plain (rx e) = rw e (text_plain type_rx tt)
type_plain (tx e) = rw e (text_plain type_tx tt)
type_plain (warng e) = rw e (text_plain type_warng tt)
type_plain (error e) = rw e (text_plain type_error tt)

pub type_some : {v : ℕ} {f : List ℕ} → TypeField v f → 0 < length f
type_some (rx e) = omega (arith, ap length e)
type_some (tx e) = omega (arith, ap length e)
type_some (warng e) = omega (arith, ap length e)
type_some (error e) = omega (arith, ap length e)

pub remote_plain : {f : List ℕ} → f ≡ remote_text → All Plain f
remote_plain e = rw e (text_plain remote_text tt)

pub remote_some : {f : List ℕ} → f ≡ remote_text → 0 < length f
remote_some e = omega (arith, ap length e)

-- Hexadecimal fields: a byte's, one of at most eight digits (which may be empty, as a relation), and an ID's.

pub byte_one : {v u : ℕ} {f : List ℕ} → Hex 2 v f → Hex 2 u f → v ≡ u
byte_one p q = one_hex p q

pub byte_plain : {v : ℕ} {f : List ℕ} → Hex 2 v f → All Plain f
byte_plain p = hexes p.digits

pub byte_some : {v : ℕ} {f : List ℕ} → Hex 2 v f → 0 < length f
byte_some p = omega (arith, p.width)

pub hex_one : {v u : ℕ} {f : List ℕ} → HexField v f → HexField u f → v ≡ u
hex_one p q = one_hex p.spelled q.spelled

pub hex_plain : {v : ℕ} {f : List ℕ} → HexField v f → All Plain f
hex_plain p = hexes p.spelled.digits

pub id_one : {x y i j : ℕ} {f : List ℕ} → IdField x i f → IdField y j f → (x ≡ y) × (i ≡ j)
id_one (standard a p h) (standard b q k) = (a ∙ sym b, one_hex p q)
id_one (standard a p h) (long b q k) = absurd (omega (arith, p.width, q.width))
id_one (long a p h) (standard b q k) = absurd (omega (arith, p.width, q.width))
id_one (long a p h) (long b q k) = (a ∙ sym b, one_hex p q)

pub id_plain : {x i : ℕ} {f : List ℕ} → IdField x i f → All Plain f
id_plain (standard a p h) = hexes p.digits
id_plain (long a p h) = hexes p.digits

pub id_some : {x i : ℕ} {f : List ℕ} → IdField x i f → 0 < length f
id_some (standard a p h) = omega (arith, p.width)
id_some (long a p h) = omega (arith, p.width)

pub length_one : {a b : ℕ} {f : List ℕ} → LengthField a f → LengthField b f → a ≡ b
length_one {a} {b} p q =
    let e : 48 + a ≡ 48 + b = cc (p.spelled, q.spelled) in
    omega arith

pub length_plain : {a : ℕ} {f : List ℕ} → LengthField a f → All Plain f
length_plain {a} p = rw p.spelled (more {b = 48 + a} (visible (omega arith)) empty)

pub length_some : {a : ℕ} {f : List ℕ} → LengthField a f → 0 < length f
length_some p = omega (arith, ap length p.spelled)

pub word_plain : {f : List ℕ} → All Capital f → All Plain f
word_plain a = all_map (λ b p. visible (omega (arith, p.low))) a
