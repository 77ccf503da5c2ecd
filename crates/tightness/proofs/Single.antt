-- Wrong answers of single functions: each is refuted over the relation that the function promises.
use Rattle.std.specs.Prelude.{Option, Some, None}
use Prim.Native.Nat.{ℕ, ◌+◌, ◌*◌, ◌%◌, ◌<◌}
use mathlib.Core.Path.{◌≡◌, refl, ap, ◌∙◌}
use mathlib.Core.Logic.{◌≢◌, ◌⊎◌, inl, inr}
use mathlib.Core.List.{List, [], ◌∷◌, ◌++◌}
use native.Mathlib.Omega.{arith}
use mathlib.Core.Bool.{true, false}
use lib.ListN.{length, get_or, drop}
use Rattle.base.specs.Limits.{offset_limit}
use Rattle.base.specs.inner.Answers.{Answers}
use Rattle.base.specs.inner.Decides.{Decides}
use Rattle.digits.specs.Digits.{DecimalDigit, Digits, HexDigit, capital, small, figure, letter, none, more, Hex}
use Rattle.digits.specs.inner.Answer.{ReadDecimal, ReadPadded, ReadHex}
use Rattle.digits.specs.declared.Letters.TheVariants.{Capital as CapitalLetters}
use Rattle.digits.specs.House.{glyph_of, padded_text, hex_text, fixed}
use Rattle.clock.specs.declared.DateTime.{DateTime}
use Rattle.clock.specs.Start.{start_limit}
use Rattle.clock.specs.Stamp.{Stamp}
use Rattle.record.specs.declared.Record.{Record}
use Rattle.record.specs.Record.{record_of, ErrorId, one, two, four, eight}
use Rattle.record.specs.Promise.{UnpackPromise, fields, not_twenty, malformed, record_numbers}
use Rattle.record.proofs.OneRecord.{packed_length}
use Rattle.fields.specs.declared.Scan.{Scan}
use Rattle.fields.specs.Runs.{All, empty, more as and, Stops, halt}
use Rattle.fields.specs.Columns.{NumberField, OffsetField, BusField, LengthField, remote_text, type_tx, Capital}
use Rattle.fields.specs.inner.Window.{Solid, FieldAt, Taken, Takes, HexField, TypeField, rx, tx, warng, error}
use Rattle.digits.proofs.Strings.{each}
use Rattle.fields.proofs.FixedFields.{byte_at}
use Rattle.fields.proofs.Window.{field_one}
use Rattle.fields.proofs.Columns.{number_one, offset_one}
use Rattle.row.specs.Versions.{Version, is11, is12, version_text}
use Rattle.lines.specs.Lines.{Blanks, VersionLine, Comment}

-- Equal lists begin with the same.
differ : {x y : ℕ} {s t : List ℕ} → x ∷ s ≡ y ∷ t → x ≡ y
differ e = cc

-- digits

-- `A` is not 1, its low four bits
pub low_bits : HexDigit 65 1 → ⊥
low_bits (capital (figure p)) = omega (arith, p.byte)
low_bits (capital (letter p)) = omega (arith, p.low)
low_bits (small (figure p)) = omega (arith, p.byte)
low_bits (small (letter p)) = omega (arith, p.low)

-- no byte is no number
pub no_digit : {n : ℕ} → ReadDecimal [] n → ⊥
no_digit p = let h = p.spelled.some in omega arith

-- 20 decimal digits and 17 hexadecimal ones are not read, and so not wrapped
pub twenty_digits : {s : List ℕ} {n : ℕ} → length s ≡ 20 → ReadPadded s n → ⊥
twenty_digits e p = let h = p.short in omega arith

pub seventeen_digits : {s : List ℕ} {n : ℕ} → length s ≡ 17 → ReadHex s n → ⊥
seventeen_digits e p = let h = p.short in omega arith

-- ten is no figure
pub ten_as_figure : glyph_of CapitalLetters 10 ≡ 58 → ⊥
unfolding glyph_of
ten_as_figure e = omega arith

-- zeros are kept, and no digit is dropped
pub zeros_dropped : padded_text 3 7 ≡ 55 ∷ [] → ⊥
unfolding fixed
zeros_dropped e = let z = ap length e in omega arith

pub hex_digit_dropped : hex_text CapitalLetters 2 18 ≡ 49 ∷ [] → ⊥
unfolding fixed
hex_digit_dropped e = let z = ap length e in omega arith

-- record

-- the data is the last of the seven fields, and not lost
pub data_lost : (record_of (1 ∷ 2 ∷ 3 ∷ 4 ∷ 5 ∷ 6 ∷ 7 ∷ [])).«data» ≡ 0 → ⊥
data_lost e = omega arith

pub error_id_3 : ErrorId 3 → ⊥
error_id_3 (one e) = omega arith
error_id_3 (two e) = omega arith
error_id_3 (four e) = omega arith
error_id_3 (eight e) = omega arith

-- 19 and 21 bytes are no record, whatever its fields
pub not_twenty_taken : {s : List ℕ} {r : Record} {mark : ℕ} → (length s ≡ 19) ⊎ (length s ≡ 21) → UnpackPromise s (record_numbers r mark) → ⊥
not_twenty_taken (inl h) (fields p e) = omega (arith, packed_length p)
not_twenty_taken (inr h) (fields p e) = omega (arith, packed_length p)
not_twenty_taken h (not_twenty n e) = omega (arith, differ e)
not_twenty_taken (inl h) (malformed n f e) = omega arith
not_twenty_taken (inr h) (malformed n f e) = omega arith

-- clock

-- the last stamp is not wrapped to day 0
pub last_stamp_wrapped : {s : DateTime} → Stamp start_limit offset_limit s → s.time.days ≡ 0 → ⊥
last_stamp_wrapped p e = let t = p.time in omega (arith, t.high, t.hour, t.minute, t.second, t.part)

-- 13 o'clock is not 1, its hour modulo 12
pub hour_of_twelve : {s : DateTime} → Stamp 46800000 0 s → s.time.hour ≡ 13 % 12 → ⊥
hour_of_twelve p e = let t = p.time in omega (arith, t.low, t.high, t.minute, t.second, t.part)

-- fields

-- `Warnng` and `rx` are no types, and `Tx` is not `Rx`
pub type_warnng : {v : ℕ} → TypeField v (87 ∷ 97 ∷ 114 ∷ 110 ∷ 110 ∷ 103 ∷ []) → ⊥
type_warnng (rx e) = let z = ap length e in omega arith
type_warnng (tx e) = let z = ap length e in omega arith
type_warnng (warng e) = let z = ap length e in omega arith
type_warnng (error e) = let z = ap length e in omega arith

pub tx_is_not_rx : TypeField 0 type_tx → ⊥
tx_is_not_rx (rx e) = omega (arith, differ e)

-- nine digits and `G` are no number
pub nine_digits : {v : ℕ} {f : List ℕ} → length f ≡ 9 → HexField v f → ⊥
nine_digits e p = let h = p.short in omega arith

pub letter_g : {v : ℕ} → HexField v (71 ∷ []) → ⊥
letter_g p = go p.spelled.digits
  where
    no : {d : ℕ} → HexDigit 71 d → ⊥
    no (capital (figure q)) = omega (arith, q.value, q.byte)
    no (capital (letter q)) = omega (arith, q.high, q.byte)
    no (small (figure q)) = omega (arith, q.value, q.byte)
    no (small (letter q)) = omega (arith, q.low, q.byte)

    go : {v : ℕ} → Digits HexDigit 16 (71 ∷ []) v → ⊥
    go (more q r e) = no q

-- two digits are no length, and 0 is not 8
pub two_digit_length : {v : ℕ} {f : List ℕ} → length f ≡ 2 → LengthField v f → ⊥
two_digit_length e p = let z = ap length p.spelled in omega arith

pub length_0_as_8 : LengthField 8 (48 ∷ []) → ⊥
length_0_as_8 p = omega (arith, differ p.spelled)

-- a field of one digit, or three, is no byte: the reader's answer is none
pub byte_of_two : {f rest : List ℕ} (w : List ℕ) (at : ℕ) (o : Option Scan) → FieldAt f rest (drop at w) → length f ≢ 2 → Takes (Hex 2) w at o → o ≡ None
byte_of_two w at (Some s) a n t = absurd (n (ap length (field_one a t.there).0 ∙ t.has.width))
byte_of_two w at None a n t = refl

-- nor are two bytes of which either is no digit, whatever the other is
pub no_digit_in_byte : {i : ℕ} (w : List ℕ) (at : ℕ) (o : Option Scan) → i < 2 → ((d : ℕ) → HexDigit (get_or w (at + i) 0) d → ⊥)
    → Takes (Hex 2) w at o → o ≡ None
no_digit_in_byte {i} w at (Some s) l n t =
    let k : i < length t.field = omega (arith, t.has.width) in
    let d = each t.has.digits i k in
    absurd (n d.0 (rw (byte_at w at i t.there k) d.1))
no_digit_in_byte w at None l n t = refl

-- The field that stands there is read as its own value.
takes_one : {P : ℕ → List ℕ → Type 0} {w f rest : List ℕ} {at v : ℕ} {s : Scan} → ((a b : ℕ) (g : List ℕ) → P a g → P b g → a ≡ b)
    → FieldAt f rest (drop at w) → P v f → Taken P w at s → s.value ≡ v
takes_one u a p t = u _ _ _ (rw (← (field_one a t.there).0) at t.has) p

-- another row number than the field's, or none
pub another_number : {f rest : List ℕ} {k : ℕ} (w : List ℕ) (at : ℕ) (o : Option Scan) → FieldAt f rest (drop at w) → NumberField k f
    → Takes NumberField w at o → ((s : Scan) → o ≡ Some s → s.value ≢ k) → ⊥
another_number w at (Some s) a p t n = n s refl (takes_one (λ x y g q r. number_one q r) a p t)
another_number w at None a p t n = t _ _ a _ p

-- one digit after the point as ten microseconds each
pub tenths_as_ten_microseconds : {w f rest : List ℕ} {at offset : ℕ} {s : Scan} → FieldAt f rest (drop at w) → (o : OffsetField 1 offset f)
    → 0 < o.fraction → Takes (OffsetField 1) w at (Some s) → s.value ≡ o.ms * 1000 + o.fraction * 10 → ⊥
tenths_as_ten_microseconds a o h t e = omega (arith, takes_one (λ x y g q r. offset_one q r) a o t, o.value)

-- `rtr`, and `RTR` with a byte after it
pub small_rtr : 114 ∷ 116 ∷ 114 ∷ [] ≡ remote_text → ⊥
small_rtr e = omega (arith, differ e)

pub longer_rtr : {b : ℕ} → 82 ∷ 84 ∷ 82 ∷ b ∷ [] ≡ remote_text → ⊥
longer_rtr e = let z = ap length e in omega arith

-- a small letter is in no word
pub small_word : All Capital (97 ∷ []) → ⊥
small_word (and p q) = omega (arith, p.high)

-- a tab ends no field
pub tab_ends : {f rest s : List ℕ} → FieldAt f (9 ∷ rest) s → ⊥
tab_ends a = go a.stops
  where
    go : {rest : List ℕ} → Stops Solid (9 ∷ rest) → ⊥
    go (halt n) = n (record { blank = λ e. omega arith; end = λ e. omega arith })

-- bus 16 is not its first digit
pub bus_16_as_1 : BusField 1 (49 ∷ 54 ∷ []) → ⊥
bus_16_as_1 p = go p.spelled.digits
  where
    go : Digits DecimalDigit 10 (49 ∷ 54 ∷ []) 1 → ⊥
    go (more a (more b none e) h) = omega (arith, a.byte, b.byte)

-- lines

-- a blank before `;` makes no comment
pub blank_before : {s : List ℕ} → Comment (32 ∷ 59 ∷ s) → ⊥
blank_before c = omega (arith, differ c.bytes)

-- a version line is none the less one with blanks, or none, after it;
pub blanks_refused : {v : ℕ} {a b : List ℕ} → Blanks a → Version v → Blanks b → Answers (λ u. VersionLine u (59 ∷ (a ++ (version_text v ++ b)))) None → ⊥
blanks_refused {v} {a} {b} p t q f =
    f v (record { is = t; before = a; after = b; bytes = refl; blanks = p; blank_end = q })

-- but not with a tab
pub tab_taken : {v : ℕ} → VersionLine v (59 ∷ (version_text 12 ++ (9 ∷ []))) → ⊥
tab_taken l = go l.blanks l.is l.blank_end l.bytes
  where
    go : {v : ℕ} {a b : List ℕ} → Blanks a → Version v → Blanks b → 59 ∷ (version_text 12 ++ (9 ∷ [])) ≡ 59 ∷ (a ++ (version_text v ++ b)) → ⊥
    go (and {b = x} p a) t q e = let z : 36 ≡ x = cc in omega arith
    go empty is11 q h = let z : ◌≡◌ {A = ℕ} 50 49 = cc in omega arith
    go empty is12 empty h = omega (arith, ap length h)
    go empty is12 (and {b = x} p b) h = let z : 9 ≡ x = cc in omega arith

-- the line ends at CR, and not at LF
pub return_passed : (s : List ℕ) → Decides (get_or (13 ∷ s) 0 0 ≡ 13) false → ⊥
return_passed s f = f refl

pub feed_as_return : (s : List ℕ) → Decides (get_or (10 ∷ s) 0 0 ≡ 13) true → ⊥
feed_as_return s e = omega arith
