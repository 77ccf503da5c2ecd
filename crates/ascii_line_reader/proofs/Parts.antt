-- The readers of single parts: what each takes, by the bytes that stand there.
use Prim.Native.Nat.{ℕ, zero, suc, ◌+◌, ◌*◌, ◌≤◌, ◌<◌}
use mathlib.Core.Path.{◌≡◌, refl, ap, sym, ◌∙◌}
use mathlib.Core.Logic.{◌≢◌, ⊎_elim}
use mathlib.Core.Bool.{Bool, true, false}
use mathlib.Core.List.{List, [], ◌∷◌, ◌++◌}
use native.Mathlib.Nat.{add-zero}
use native.Mathlib.Numerals.{add-one}
use native.Mathlib.Omega.{arith}
use native.Mathlib.Decide.{ℕ_discrete, dec_lt}
use lib.Dec.{T, leb}
use lib.ListN.{length, get_or, take, drop, take-append-drop}
use lib.Seq.{take-suc, take_all, length-take-le, drop-cons}
use Rattle.std.specs.Prelude.{Option, Some, None}
use Rattle.base.specs.Text.{text}
use Rattle.base.specs.inner.Decides.{Decides}
use Rattle.base.proofs.Tables.{every}
use Rattle.digits.specs.House.{decimal_text}
use Rattle.digits.proofs.House.{one, decimal_spells}
use Rattle.digits.proofs.Theorems.{one_hex, decimal_house}
use Rattle.fields.specs.declared.Scan.{Scan}
use Rattle.fields.specs.Runs.{All, empty, more}
use Rattle.fields.specs.Columns.{BusField}
use Rattle.fields.specs.inner.Window.{Solid, FieldAt, Starts, Taken, Takes, HexField, TypeField, rx, tx, warng, error}
use Rattle.fields.proofs.Columns.{plain_solid, text_plain, type_one}
use Rattle.fields.proofs.Runs.{all_map, all_at}
use Rattle.fields.proofs.Window.{End, field_one}
use Rattle.fields.proofs.FixedFields.{StandsAt, first, first_is, then, here, ended, unended, not_first, not_then, then_is}
use Rattle.ascii_line.specs.Line.{message_type_text, direction_text}
use Rattle.ascii_line_reader.specs.inner.Columns.{TypePart, ChannelNumber, ChannelPart, DirectionPart, IdPart}
use Rattle.ascii_line_reader.proofs.Columns.{no_type}

-- A spelled-out word has no blank and no CR: antt computes that each of its bytes stands behind the blank.
pub solid_word : (word : List ℕ) → T (every (λ k x. leb 33 x) 0 word) → All Solid word
solid_word word t = all_map plain_solid (text_plain word t)

-- A word that is spelled exactly: its first i bytes stand there.
pub record Stood (word w : List ℕ) (at i : ℕ) : Type 0 where
  pub few : i ≤ length word
  pub begun : StandsAt (take i word) w at

pub none_stood : {word w : List ℕ} {at : ℕ} → Starts w at → Stood word w at 0
none_stood {word} {w} {at} s = record {
  few = omega arith;
  begun = record { bytes = rw (add-zero at); solid = empty; lined = rw (add-zero at) s.lined };
}

module _ {word w : List ℕ} {at i : ℕ} (k : Stood word w at i) where
  front : length (take i word) ≡ i
  front = length-take-le i word k.few

  pub stood_in : at + i < length w
  stood_in = rw front at (here k.begun)

  pub one_stood : All Solid word → i < length word → get_or w (at + i) 0 ≡ get_or word i 0 → Stood word w at (i + 1)
  one_stood a h e =
      let q : take (i + 1) word ≡ take i word ++ (get_or word i 0 ∷ []) = rw add-one (take-suc word i 0 h) in
      record { few = omega arith; begun = rw q (then k.begun (all_at i a h) (rw front e)) }

  -- another byte than the word has
  pub not_stood : {f rest : List ℕ} → i < length word → get_or w (at + i) 0 ≢ get_or word i 0 → FieldAt f rest (drop at w) → f ≡ word → ⊥
  not_stood h n a e =
      let q : word ≡ take i word ++ (get_or word i 0 ∷ drop (suc i) word) = sym (take-append-drop i word) ∙ ap (λ (l : List ℕ). take i word ++ l) (drop-cons word i 0 h) in
      not_then (drop (suc i) word) k.begun (rw front n) a (e ∙ q)

-- The whole word.
pub word_stands : {word w : List ℕ} {at i : ℕ} → Stood word w at i → length word ≤ i → StandsAt word w at
word_stands {word} {i = i} k h = rw (take_all i word h) at k.begun

module _ {word w : List ℕ} {at : ℕ} (stands : StandsAt word w at) where
  pub word_in : at + length word < length w
  word_in = here stands

  pub word_unended : {f rest : List ℕ} (r : Bool) → Decides (End (get_or w (at + length word) 0)) r → r ≡ false → FieldAt f rest (drop at w) → f ≡ word → ⊥
  word_unended r d e a q = unended stands r d e a (ap length q)

  pub word_taken : (r : Bool) → 0 < length word → Decides (End (get_or w (at + length word) 0)) r → r ≡ true
      → Taken (λ v f. f ≡ word) w at (record { end = at + length word; value = 0 })
  word_taken r z d e = record { field = word; there = ended stands z r d e; place = refl; has = refl }

-- The type: `CAN`, or else `CANExt`.
pub standard_type : {w : List ℕ} {at : ℕ} {s : Scan} → Taken (λ v f. f ≡ text "CAN") w at s → Taken TypePart w at (record { end = s.end; value = 0 })
unfolding message_type_text
standard_type t = record { field = t.field; there = t.there; place = t.place; has = record { bytes = t.has; few = omega arith } }

pub extended_type : {w : List ℕ} {at : ℕ} {s : Scan} → Taken (λ v f. f ≡ text "CANExt") w at s → Taken TypePart w at (record { end = s.end; value = 1 })
unfolding message_type_text
extended_type t = record { field = t.field; there = t.there; place = t.place; has = record { bytes = t.has; few = omega arith } }

pub neither_type : (w : List ℕ) (at : ℕ) → Takes (λ v f. f ≡ text "CAN") w at None → Takes (λ v f. f ≡ text "CANExt") w at None → Takes TypePart w at None
unfolding message_type_text
neither_type w at n m f rest a v p =
    no_type v p.few (λ y. n f rest a 0 (p.bytes ∙ ap message_type_text y)) (λ y. m f rest a 0 (p.bytes ∙ ap message_type_text y))

-- The number of a channel: a lone 0, or that of a bus.
module _ {w : List ℕ} {at : ℕ} (b : Starts w at) where
  pub bus_takes : (s : Option Scan) → get_or w at 0 ≢ 48 → Takes BusField w at s → Takes ChannelNumber w at s
  bus_takes (Some s) z t = record { field = t.field; there = t.there; place = t.place; has = record { spelled = t.has.spelled; high = t.has.high } }
  bus_takes None z n = λ f rest a v p. go a p (ℕ_discrete v 0)
    where
      go : {f rest : List ℕ} {v : ℕ} → FieldAt f rest (drop at w) → ChannelNumber v f → Dec (v ≡ 0) → ⊥
      go a p (yes o) = not_first b z a (decimal_house p.spelled ∙ ap decimal_text o ∙ one 0 (omega arith))
      go {v = v} a p (no o) = n _ _ a v (record { spelled = p.spelled; low = omega arith; high = p.high })

  module _ (e : get_or w at 0 ≡ 48) where
    pub zero_stands : StandsAt (48 ∷ []) w at
    zero_stands = first b e

    pub zero_taken : (r : Bool) → Decides (End (get_or w (at + 1) 0)) r → r ≡ true → Taken ChannelNumber w at (record { end = at + 1; value = 0 })
    zero_taken r d n = record {
      field = 48 ∷ [];
      there = ended zero_stands (omega arith) r d n;
      place = refl;
      has = record { spelled = rw (one 0 (omega arith)) at (decimal_spells 0); high = omega arith };
    }

    -- another byte behind it
    pub zero_first : {f rest : List ℕ} {v : ℕ} (r : Bool) → Decides (End (get_or w (at + 1) 0)) r → r ≡ false → FieldAt f rest (drop at w) → ChannelNumber v f → ⊥
    zero_first {f} r d n a p = go (dec_lt 1 (length f))
      where
        go : Dec (1 < length f) → ⊥
        go (yes l) = p.spelled.lead l (sym (first_is b a) ∙ e)
        go (no l) = let s = a.some in unended zero_stands r d n a (omega arith)

-- The channel: `#`, and its number behind it.
module _ {w : List ℕ} {at : ℕ} (b : Starts w at) (e : get_or w at 0 ≡ 35) where
  pub sharp : StandsAt (35 ∷ []) w at
  sharp = first b e

  -- nothing behind it
  pub no_channel : {f rest : List ℕ} {v : ℕ} → End (get_or w (at + 1) 0) → FieldAt f rest (drop at w) → ChannelPart v f → ⊥
  no_channel {f} {rest} {v} h a p =
      let l : 1 < length f = omega (arith, ap length p.bytes, (decimal_spells v).some) in
      let s = all_at 1 a.solid l in
      let q = then_is sharp a l in
      ⊎_elim (λ z. s.blank (sym q ∙ z)) (λ z. s.end (sym q ∙ z)) h

  pub channel_takes : (s : Option Scan) → Takes ChannelNumber w (at + 1) s → Takes ChannelPart w at s
  channel_takes (Some s) t =
      let a = t.there in
      record {
        field = 35 ∷ t.field;
        there = record { bytes = sharp.bytes ∙ ap (λ (l : List ℕ). 35 ∷ l) a.bytes; some = omega arith; solid = more (go sharp.solid) a.solid; stops = a.stops };
        place = omega (arith, t.place);
        has = record { bytes = ap (λ (l : List ℕ). 35 ∷ l) (decimal_house t.has.spelled); high = t.has.high };
      }
    where
      go : All Solid (35 ∷ []) → Solid 35
      go (more x y) = x
  channel_takes None n = λ f rest a v p. n (decimal_text v) rest (behind v a p.bytes) v (record { spelled = decimal_spells v; high = p.high })
    where
      behind : {f rest : List ℕ} (v : ℕ) → FieldAt f rest (drop at w) → f ≡ 35 ∷ decimal_text v → FieldAt (decimal_text v) rest (drop (at + 1) w)
      behind {f} {rest} v a q = record {
        bytes = let y : 35 ∷ drop (at + 1) w ≡ 35 ∷ (decimal_text v ++ rest) = sym sharp.bytes ∙ a.bytes ∙ ap (λ (l : List ℕ). l ++ rest) q in cc;
        some = (decimal_spells v).some;
        solid = go (rw q at a.solid);
        stops = a.stops;
      }
        where
          go : All Solid (35 ∷ decimal_text v) → All Solid (decimal_text v)
          go (more x y) = y

-- The direction: the types `Rx` and `Tx` of a row.
is_direction : {v : ℕ} {f : List ℕ} → v ≤ 1 → TypeField v f → DirectionPart v f
unfolding direction_text
is_direction h (rx e) = record { bytes = e; few = omega arith }
is_direction h (tx e) = record { bytes = e; few = omega arith }
is_direction h (warng e) = absurd (omega arith)
is_direction h (error e) = absurd (omega arith)

pub is_type : (v : ℕ) {f : List ℕ} → DirectionPart v f → TypeField v f
unfolding direction_text
is_type zero p = rx p.bytes
is_type (suc zero) p = tx p.bytes
is_type (suc (suc v)) p = let h = p.few in absurd (omega arith)

pub direction_taken : {w : List ℕ} {at : ℕ} {s : Scan} → s.value ≤ 1 → Taken TypeField w at s → Taken DirectionPart w at s
direction_taken h t = record { field = t.field; there = t.there; place = t.place; has = is_direction h t.has }

pub no_direction : (w : List ℕ) (at : ℕ) → Takes TypeField w at None → Takes DirectionPart w at None
no_direction w at n f rest a v p = n f rest a v (is_type v p)

-- the other types are none
pub other_direction : {w : List ℕ} {at : ℕ} {s : Scan} → 1 < s.value → Taken TypeField w at s → Takes DirectionPart w at None
other_direction h t f rest a v p =
    let z = type_one (rw (field_one a t.there).0 at (is_type v p)) t.has in
    let l = p.few in
    omega arith

-- The ID: a hexadecimal number of its width, within its limit.
abbrev pub id_limit : ℕ → ℕ
id_limit extended = 0x7FF + 0x1FFFF800 * extended

pub is_hex : {x v : ℕ} {f : List ℕ} → x ≤ 1 → IdPart x v f → HexField v f
is_hex h p = record { spelled = record { digits = p.digits.digits; width = refl }; short = let w = p.digits.width in omega arith }

within : {x v : ℕ} {f : List ℕ} → x ≤ 1 → IdPart x v f → v ≤ id_limit x
within {x} {v} h p = go (ℕ_discrete x 0)
  where
    go : Dec (x ≡ 0) → v ≤ id_limit x
    go (yes e) = let l = p.standard e in omega arith
    go (no n) = let l = p.long in omega arith

pub no_hex : (w : List ℕ) (at : ℕ) {x : ℕ} → x ≤ 1 → Takes HexField w at None → Takes (IdPart x) w at None
no_hex w at h n f rest a v p = n f rest a v (is_hex h p)

-- Where a number stands, an ID has its width and value.
module _ {w : List ℕ} {at x : ℕ} {s : Scan} (h : x ≤ 1) (t : Taken HexField w at s) where
  pub id_is : {f rest : List ℕ} {v : ℕ} → FieldAt f rest (drop at w) → IdPart x v f → (s.end ≡ at + (3 + 5 * x)) × (s.value ≤ id_limit x)
  id_is a p =
      let y = (field_one a t.there).0 in
      let v : s.value ≡ _ = one_hex t.has.spelled (rw y at p.digits) in
      let l = within h p in
      (omega (arith, t.place, ap length y, p.digits.width), rw v l)

  pub id_taken : s.end ≡ at + (3 + 5 * x) → s.value ≤ id_limit x → Taken (IdPart x) w at s
  id_taken e l = record {
    field = t.field;
    there = t.there;
    place = t.place;
    has = record { digits = record { digits = t.has.spelled.digits; width = omega (arith, t.place) }; standard = λ y. omega arith; long = omega arith };
  }
