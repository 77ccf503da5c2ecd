-- Laws on fields of a fixed text or length: the bytes that were read one by one, and the byte after them; and on words.
use Prim.Native.Nat.{ℕ, ◌+◌, ◌*◌, ◌^◌, ◌≤◌, ◌<◌}
use mathlib.Core.Path.{◌≡◌, refl, ap, sym, ◌∙◌}
use mathlib.Core.Logic.{◌≢◌, ◌⊎◌, inl, inr, ⊎_elim}
use mathlib.Core.Bool.{Bool, true, false}
use mathlib.Core.List.{List, [], ◌∷◌, ◌++◌, append_assoc}
use Rattle.std.specs.Prelude.{Option, Some, None}
use native.Mathlib.Nat.{add-zero}
use native.Mathlib.Numerals.{add-one}
use native.Mathlib.Omega.{arith}
use native.Mathlib.Decide.{dec_lt}
use lib.Dec.{eqb}
use lib.ListN.{length, get_or, drop, length-append, get_or-append}
use lib.Seq.{slice, slice_empty, length-slice, drop-cons, drop-drop, drop-append_seam, get_or-drop, get_or-append_seam}
use Rattle.base.proofs.Lists.{slice_snoc}
use Rattle.base.specs.inner.Decides.{Decides}
use Rattle.base.proofs.Tests.{shown}
use Rattle.digits.specs.Digits.{HexDigit, Hex}
use Rattle.digits.specs.Digits.{none as no-digits, more as digits_more}
use Rattle.digits.proofs.Strings.{each}
use Rattle.fields.specs.Runs.{All, empty, more, Stops, over, halt}
use Rattle.fields.specs.declared.Scan.{Scan}
use Rattle.fields.specs.Columns.{LengthField, Capital, type_rx, type_tx, type_warng, type_error}
use Rattle.fields.specs.inner.Window.{Solid, Lined, FieldAt, Starts, Takes, TypeField, rx, tx, warng, error}
use Rattle.fields.proofs.Runs.{cut, all_map, all_append}
use Rattle.fields.proofs.Window.{End, inside, next_lined, slice_drop, stops_here, no_stop, field_of}

-- What the answer of `ends` says of the byte, where it is false.
pub is_solid : {b : ℕ} (r : Bool) → Decides (End b) r → r ≡ false → Solid b
is_solid true d e = let z : ◌≡◌ {A = ℕ} 0 1 = cc in absurd (omega arith)
is_solid false d e = record { blank = λ h. d (inl h); end = λ h. d (inr h) }

stops_map : {P Q : ℕ → Type 0} {s : List ℕ} → ((b : ℕ) → P b → Q b) → Stops Q s → Stops P s
stops_map g over = over
stops_map g (halt {b = b} n) = halt (λ p. n (g b p))

-- The bytes of a field are those that stand there.
pub byte_at : (w : List ℕ) (at k : ℕ) {f rest : List ℕ} → FieldAt f rest (drop at w) → k < length f → get_or w (at + k) 0 ≡ get_or f k 0
byte_at w at k {f} {rest} a h = sym (get_or-drop at w k 0) ∙ ap (λ (l : List ℕ). get_or l k 0) a.bytes ∙ get_or-append f rest 0 k h

-- The bytes t stand from `at` on, none of them ends the field, and the line goes on after them.
pub record StandsAt (t w : List ℕ) (at : ℕ) : Type 0 where
  pub bytes : drop at w ≡ t ++ drop (at + length t) w
  pub solid : All Solid t
  pub lined : Lined (drop (at + length t) w)

module _ {w : List ℕ} {at : ℕ} where
  -- the first byte
  pub first : {b : ℕ} → Starts w at → get_or w at 0 ≡ b → StandsAt (b ∷ []) w at
  first {b} s e = record {
    bytes = drop-cons w at 0 (inside w at s.lined) ∙ rw (e, add-one);
    solid = more (rw e at s.solid) empty;
    lined = next_lined w at s.lined s.solid.end;
  }

  -- one byte more
  pub then : {t : List ℕ} {b : ℕ} → StandsAt t w at → Solid b → get_or w (at + length t) 0 ≡ b → StandsAt (t ++ (b ∷ [])) w at
  then {t} {b} p s e =
      let j = at + length t in
      let k : j + 1 ≡ at + length (t ++ (b ∷ [])) = omega (arith, length-append t (b ∷ [])) in
      let d : drop j w ≡ (b ∷ []) ++ drop (j + 1) w = drop-cons w j 0 (inside w j p.lined) ∙ rw (e, add-one) in
      record {
        bytes = p.bytes ∙ ap (λ (l : List ℕ). t ++ l) d ∙ rw (append_assoc, k);
        solid = all_append p.solid (more s empty);
        lined = rw k at (next_lined w j p.lined (rw e s.end));
      }

  pub here : {t : List ℕ} → StandsAt t w at → at + length t < length w
  here {t} p = inside w (at + length t) p.lined

  -- a byte that ends the field after them
  pub ended : {t : List ℕ} → StandsAt t w at → 0 < length t → (r : Bool) → Decides (End (get_or w (at + length t) 0)) r → r ≡ true
      → FieldAt t (drop (at + length t) w) (drop at w)
  ended {t} p h r d e = record { bytes = p.bytes; some = h; solid = p.solid; stops = stops_here w (at + length t) (shown r e d) }

  -- no such byte: no field is as long as they are
  pub unended : {t f rest : List ℕ} → StandsAt t w at → (r : Bool) → Decides (End (get_or w (at + length t) 0)) r → r ≡ false
      → FieldAt f rest (drop at w) → length f ≡ length t → ⊥
  unended {t} {f} {rest} p b d n a e =
      let j = at + length t in
      let r : rest ≡ drop j w = sym (drop-append_seam f rest) ∙ ap (drop (length f)) (sym a.bytes) ∙ drop-drop (length f) at w ∙ rw e in
      no_stop w j (here p) (is_solid b d n) (rw r at a.stops)

  -- a field begins with the byte that stands there
  pub first_is : {f rest : List ℕ} → Starts w at → FieldAt f rest (drop at w) → get_or w at 0 ≡ get_or f 0 0
  first_is s a = rw add-zero at (byte_at w at 0 a a.some)

  -- and goes on with those after it
  pub then_is : {t f rest : List ℕ} → StandsAt t w at → FieldAt f rest (drop at w) → length t < length f
      → get_or w (at + length t) 0 ≡ get_or f (length t) 0
  then_is {t} p a h = byte_at w at (length t) a h

  -- so another byte there than the text has refuses it
  pub not_first : {b : ℕ} {u f rest : List ℕ} → Starts w at → get_or w at 0 ≢ b → FieldAt f rest (drop at w) → f ≡ b ∷ u → ⊥
  not_first {b} s n a e = n (first_is s a ∙ ap (λ (l : List ℕ). get_or l 0 0) e)

  pub not_then : {b : ℕ} (u : List ℕ) {t f rest : List ℕ} → StandsAt t w at → get_or w (at + length t) 0 ≢ b → FieldAt f rest (drop at w)
      → f ≡ t ++ (b ∷ u) → ⊥
  not_then {b} u {t} p n a e =
      n (then_is p a (omega (arith, ap length e ∙ length-append t (b ∷ u))) ∙ ap (λ (l : List ℕ). get_or l (length t) 0) e ∙ get_or-append_seam t b u 0)

-- A byte that is known is told from a blank and from CR by its number.
pub solid_at : (b : ℕ) → 33 ≤ b → Solid b
solid_at b h = record { blank = λ e. omega arith; end = λ e. omega arith }

-- A length is one digit.
pub length_byte : {w f rest : List ℕ} {at v : ℕ} → Starts w at → FieldAt f rest (drop at w) → LengthField v f
    → (48 ≤ get_or w at 0) × (get_or w at 0 ≤ 56)
length_byte s a p = let l = p.small in let e = first_is s a ∙ ap (λ (l : List ℕ). get_or l 0 0) p.spelled in (omega arith, omega arith)

-- Two hexadecimal digits.
pub two_digits : {x y d e : ℕ} → HexDigit x d → HexDigit y e → Hex 2 (d * 16 + e) (x ∷ y ∷ [])
two_digits {d = d} {e = e} p q =
    let h : e ≡ e * 16 ^ 0 + 0 = omega arith in
    let k : d * 16 + e ≡ d * 16 ^ 1 + e = omega arith in
    record { digits = digits_more p (digits_more q no-digits h) k; width = refl }

pub digit_first : {w f rest : List ℕ} {at v n : ℕ} → Starts w at → FieldAt f rest (drop at w) → Hex n v f → (d : ℕ) × HexDigit (get_or w at 0) d
digit_first s a p = let d = each p.digits 0 a.some in (d.0, rw (← (first_is s a)) at d.1)

pub digit_then : {t w f rest : List ℕ} {at v n : ℕ} → StandsAt t w at → FieldAt f rest (drop at w) → Hex n v f → length t < n
    → (d : ℕ) × HexDigit (get_or w (at + length t) 0) d
digit_then {t} {f = f} p a h l =
    let k : length t < length f = rw h.width l in
    let d = each h.digits (length t) k in
    (d.0, rw (← (then_is p a k)) at d.1)

-- A type is told by its first byte.
abbrev head : List ℕ → ℕ
head l = get_or l 0 0

abbrev type_text : ℕ → List ℕ
type_text v = get_or (type_rx ∷ type_tx ∷ type_warng ∷ type_error ∷ []) v []

abbrev type_value : ℕ → ℕ
type_value b = elim (eqb b 82) [ true ↦ 0 | false ↦ elim (eqb b 84) [ true ↦ 1 | false ↦ elim (eqb b 87) [ true ↦ 2 | false ↦ 3 ] ] ]

type_text_lem : {v : ℕ} {f : List ℕ} → TypeField v f → f ≡ type_text v
type_text_lem (rx e) = e
type_text_lem (tx e) = e
type_text_lem (warng e) = e
type_text_lem (error e) = e

type_value_lem : {v : ℕ} {f : List ℕ} → TypeField v f → type_value (head f) ≡ v
type_value_lem (rx e) = ap (λ (l : List ℕ). type_value (head l)) e
type_value_lem (tx e) = ap (λ (l : List ℕ). type_value (head l)) e
type_value_lem (warng e) = ap (λ (l : List ℕ). type_value (head l)) e
type_value_lem (error e) = ap (λ (l : List ℕ). type_value (head l)) e

type_one : {v u : ℕ} {f g : List ℕ} → TypeField v f → TypeField u g → head f ≡ head g → (f ≡ g) × (v ≡ u)
type_one p q e =
    let h = sym (type_value_lem p) ∙ ap type_value e ∙ type_value_lem q in
    (type_text_lem p ∙ ap type_text h ∙ sym (type_text_lem q), h)

-- The second byte tells the short types from the long ones, and the first byte then which it is.
pub no_short : {b c v : ℕ} {f : List ℕ} → b ≡ head f → (1 < length f → c ≡ get_or f 1 0) → c ≡ 120 → ((b ≡ 82) ⊎ (b ≡ 84) → ⊥) → TypeField v f → ⊥
no_short e s x i (rx p) = i (inl (e ∙ ap head p))
no_short e s x i (tx p) = i (inr (e ∙ ap head p))
no_short e s x i (warng p) = omega (arith, s (omega (arith, ap length p)) ∙ ap (λ (l : List ℕ). get_or l 1 0) p)
no_short e s x i (error p) = omega (arith, s (omega (arith, ap length p)) ∙ ap (λ (l : List ℕ). get_or l 1 0) p)

pub no_long : {b c v : ℕ} {f : List ℕ} → b ≡ head f → (1 < length f → c ≡ get_or f 1 0) → c ≢ 120 → ((b ≡ 69) ⊎ (b ≡ 87) → ⊥) → TypeField v f → ⊥
no_long e s x i (rx p) = x (s (omega (arith, ap length p)) ∙ ap (λ (l : List ℕ). get_or l 1 0) p)
no_long e s x i (tx p) = x (s (omega (arith, ap length p)) ∙ ap (λ (l : List ℕ). get_or l 1 0) p)
no_long e s x i (warng p) = i (inr (e ∙ ap head p))
no_long e s x i (error p) = i (inl (e ∙ ap head p))

-- The two types that go on with `x` are told by one number.
pub short : {b v : ℕ} → (b ≡ 82 → v ≡ 0) → (b ≡ 84 → v ≡ 1) → (b ≡ 82) ⊎ (b ≡ 84) → TypeField v (b ∷ 120 ∷ [])
short f g (inl e) = rw (f e) (rx (ap (λ (x : ℕ). x ∷ 120 ∷ []) e))
short f g (inr e) = rw (g e) (tx (ap (λ (x : ℕ). x ∷ 120 ∷ []) e))

-- So are the two that do not.
pub long : {b v : ℕ} (e : ℕ) → v ≡ 2 + e → (b ≡ 69 → e ≡ 1) → (b ≡ 87 → e ≡ 0) → (b ≡ 69) ⊎ (b ≡ 87)
    → TypeField v (b ∷ (97 + 17 * e) ∷ 114 ∷ (110 + e) ∷ (103 + 11 * e) ∷ [])
long e z f g (inl p) = rw (z, f p) (error (ap (λ (x : ℕ). x ∷ 114 ∷ 114 ∷ 111 ∷ 114 ∷ []) p))
long e z f g (inr p) = rw (z, g p) (warng (ap (λ (x : ℕ). x ∷ 97 ∷ 114 ∷ 110 ∷ 103 ∷ []) p))

-- The reader of the one type that starts with this byte reads types.
pub type_takes : {w u : List ℕ} {at k : ℕ} (r : Option Scan) → Starts w at → TypeField k (get_or w at 0 ∷ u)
    → Takes (λ v f. (f ≡ get_or w at 0 ∷ u) × (v ≡ k)) w at r → Takes TypeField w at r
type_takes (Some s) r m t = record { field = t.field; there = t.there; place = t.place; has = rw (t.has.0, t.has.1) m }
type_takes None r m n = λ f rest a v p. n f rest a v (type_one p m (sym (first_is r a)))

-- The bytes from `at` up to i are capitals, and the line goes on after them.
pub record Capitals (w : List ℕ) (at i : ℕ) : Type 0 where
  pub from : at ≤ i
  pub all : All Capital (slice at i w)
  pub lined : Lined (drop i w)

capital_solid : (b : ℕ) → Capital b → Solid b
capital_solid b p = solid_at b (omega arith)

pub no_capitals : {w : List ℕ} {at : ℕ} → Starts w at → Capitals w at at
no_capitals {w} {at} s = record { from = omega arith; all = rw (slice_empty at w) empty; lined = s.lined }

module _ {w : List ℕ} {at i : ℕ} (c : Capitals w at i) where
  pub behind : i < length w
  behind = inside w i c.lined

  pub more_capitals : 65 ≤ get_or w i 0 → get_or w i 0 ≤ 90 → Capitals w at (i + 1)
  more_capitals l h = record {
    from = let f = c.from in omega arith;
    all = rw (add-one, slice_snoc at i w c.from behind) (all_append c.all (more (record { low = l; high = h }) empty));
    lined = next_lined w i c.lined (λ e. omega arith);
  }

  -- a byte of the field that is no capital: the field is no word
  pub no_word : {f rest : List ℕ} → Solid (get_or w i 0) → (Capital (get_or w i 0) → ⊥) → FieldAt f rest (drop at w) → All Capital f → ⊥
  no_word {f} {rest} s n a p =
      let k = behind in
      let e = sym a.bytes ∙ slice_drop at i w c.from (omega arith) in
      let h : Stops Capital (drop i w) = rw (drop-cons w i 0 k) (halt n) in
      no_stop w i k s (rw (cut p c.all (stops_map capital_solid a.stops) h e).1 at a.stops)

  -- the field ends there
  pub a_word : Starts w at → End (get_or w i 0) → FieldAt (slice at i w) (drop i w) (drop at w)
  a_word s e = field_of w at i (go (dec_lt at i)) (omega (arith, behind)) (all_map capital_solid c.all) e
    where
      go : Dec (at < i) → at < i
      go (yes h) = h
      go (no h) =
          let f = c.from in
          let q : i ≡ at = omega arith in
          absurd (⊎_elim s.solid.blank s.solid.end (rw q at e))

  pub word_end : i ≡ at + length (slice at i w)
  word_end = let f = c.from in let k = behind in omega (arith, length-slice at i w (omega arith))
