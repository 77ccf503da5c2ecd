-- The house texts: what each is, case by case, how long it is, and that joined fields are parted so.
use Prim.Native.Nat.{ℕ, zero, suc, ◌+◌, ◌*◌, ◌-◌, ◌/◌, ◌%◌, ◌^◌, ◌≤◌, ◌<◌}
use mathlib.Core.Path.{◌≡◌, refl}
use mathlib.Core.Logic.{◌≢◌, ⊎_elim}
use mathlib.Core.Bool.{cond}
use mathlib.Core.List.{List, [], ◌∷◌, ◌++◌, append-nil}
use native.Mathlib.Decide.{ℕ_discrete}
use native.Mathlib.Omega.{arith}
use borrow.Author.Tests.{eq-eqb, ne_eqb, lt-ltb, le-ltb}
use lib.Dec.{leb, ltb, leb→le}
use lib.ListN.{length, get_or, length-append}
use Rattle.base.specs.Limits.{offset_digits, offset_limit}
use Rattle.base.specs.Spaced.{joined}
use Rattle.base.proofs.Spaced.{spaced_none, spaced_more, joined_none, joined_more}
use Rattle.base.proofs.Numbers.{below_or_not}
use Rattle.base.proofs.Tables.{both, both_left, both_right, at}
use Rattle.digits.specs.declared.Letters.TheVariants.{Capital}
use Rattle.digits.specs.House.{decimal_text, padded_text, hex_text, glyph_of, figure_of, byte_texts}
use Rattle.digits.proofs.ByteTexts.{bytes_none, bytes_more}
use Rattle.digits.proofs.House.{length_fixed, few, decimal_spells}
use Rattle.fields.specs.Columns.{remote_text, last_number}
use Rattle.fields.specs.Runs.{All, over, halt}
use Rattle.fields.specs.Parted.{NoBlank, Parted, none, blank_first}
use Rattle.fields.proofs.Parts.{first}
use Rattle.record.specs.declared.Record.{Record}
use Rattle.record.specs.Record.{WellFormed}
use Rattle.row.specs.House.{number_text, offset_text, bus_texts, types, type_text, id_text, data_texts, frame_texts, row_texts}
use Rattle.row.specs.Versions.{fraction_digits, Carries, v11, v12}
use Rattle.row.specs.inner.Sizes.{longest_field, longest_row}
use Rattle.row.proofs.Fields.{Each, no_more, then}

-- Joined fields, case by case.

joined_last : (f : List ℕ) → joined (f ∷ []) ≡ f ++ []
joined_last f = rw (joined_more, spaced_none)

joined_two : (f g : List ℕ) (fs : List (List ℕ)) → joined (f ∷ g ∷ fs) ≡ f ++ (32 ∷ joined (g ∷ fs))
joined_two f g fs = rw (joined_more, joined_more, spaced_more)

-- No field is empty, and with a blank behind each they have at most n bytes.
pub data Sized : ℕ → List (List ℕ) → Type 0 where
  nil : {n : ℕ} → Sized n []
  one : {n m : ℕ} {f : List ℕ} {fs : List (List ℕ)} → 0 < length f → length f + suc m ≤ n → Sized m fs → Sized n (f ∷ fs)

-- With a blank between two only, they have less.
pub joined_short : {n : ℕ} {f : List ℕ} {fs : List (List ℕ)} → Sized n (f ∷ fs) → length (joined (f ∷ fs)) < n
joined_short {f = f} (one s l nil) = rw (joined_last, append-nil f) (omega arith)
joined_short {f = f} (one s l (one {f = g} {fs = fs} t k e)) =
    let i = joined_short {f = g} {fs = fs} (one t k e) in
    rw (joined_two f g fs) (omega (arith, length-append f (32 ∷ joined (g ∷ fs))))

-- What is joined of fields without blanks is parted into them.
pub parted_joined : {n : ℕ} {fs : List (List ℕ)} → Sized n fs → Each (All NoBlank) fs → Parted fs (joined fs)
parted_joined nil no_more = rw joined_none none
parted_joined (one {f = f} s l nil) (then p no_more) = first s p over none (joined_last f)
parted_joined (one {f = f} s l (one {f = g} {fs = fs} t k e)) (then p (then q c)) =
    first s p (halt (λ n. n refl)) (blank_first (parted_joined (one t k e) (then q c))) (joined_two f g fs)

-- Each text, as it is defined.

pub number_text_lem : (k : ℕ) → number_text k ≡ decimal_text k ++ (41 ∷ [])
unfolding number_text
number_text_lem k = refl

pub offset_text_lem : (v offset : ℕ) → offset_text v offset
    ≡ decimal_text (offset / 1000) ++ (46 ∷ padded_text (fraction_digits v) (offset % 1000 / 10 ^ (3 - fraction_digits v)))
unfolding offset_text
offset_text_lem v offset = refl

pub bus_none : (bus : ℕ) → bus_texts 11 bus ≡ []
unfolding bus_texts
bus_none bus = refl

pub bus_text : (bus : ℕ) → bus_texts 12 bus ≡ decimal_text bus ∷ []
unfolding bus_texts
bus_text bus = refl

pub type_text_lem : (kind : ℕ) → type_text kind ≡ get_or types kind []
unfolding type_text
type_text_lem kind = refl

pub id_frame : (r : Record) → r.kind ≢ 4 → id_text r ≡ hex_text Capital (4 + 4 * r.extended) r.id
unfolding id_text
id_frame r n = rw (ne_eqb r.kind 4 n)

pub id_warning : (r : Record) → r.kind ≡ 4 → id_text r ≡ hex_text Capital 8 0xFFFFFFFF
unfolding id_text
id_warning r e = rw (eq-eqb r.kind 4 e)

pub data_remote : (r : Record) → r.kind / 2 ≡ 1 → data_texts r ≡ remote_text ∷ []
unfolding data_texts
data_remote r e = rw (eq-eqb (r.kind / 2) 1 e)

pub data_bytes : (r : Record) → r.kind / 2 ≢ 1 → data_texts r ≡ byte_texts Capital (256 ^ 7) r.len r.«data»
unfolding data_texts
data_bytes r n = rw (ne_eqb (r.kind / 2) 1 n)

-- The fields of a row, and in each version.
pub row_texts_lem : (v k : ℕ) (r : Record) → row_texts v k r
    ≡ number_text k ∷ offset_text v r.offset ∷ (bus_texts v r.bus ++ frame_texts r)
unfolding row_texts
row_texts_lem v k r = refl

pub row_texts_11 : (k : ℕ) (r : Record) → row_texts 11 k r ≡ number_text k ∷ offset_text 11 r.offset ∷ frame_texts r
row_texts_11 k r = rw (row_texts_lem, bus_none)

pub row_texts_12 : (k : ℕ) (r : Record) → row_texts 12 k r
    ≡ number_text k ∷ offset_text 12 r.offset ∷ decimal_text r.bus ∷ frame_texts r
row_texts_12 k r = rw (row_texts_lem, bus_text)

-- How long each is.

abbrev Fits : ℕ → List ℕ → Type 0
Fits n f = (0 < length f) × (length f ≤ n)

-- A field of at most w bytes in front.
fits : (n w m : ℕ) {f : List ℕ} {fs : List (List ℕ)} → Fits w f → w + suc m ≤ n → Sized m fs → Sized n (f ∷ fs)
fits n w m {f} s l e = let k : length f + suc m ≤ n = omega arith in one s.0 k e

decimal_size : (w n : ℕ) → n < 10 ^ suc w → Fits (suc w) (decimal_text n)
decimal_size w n h = ((decimal_spells n).some, few w n h)

hex_fits : (w n : ℕ) → 0 < w → Fits w (hex_text Capital w n)
hex_fits w n h = let e = length_fixed (glyph_of Capital) 16 w n in (omega arith, omega arith)

number_size : (k : ℕ) → k ≤ last_number → Fits 7 (number_text k)
number_size k h =
    let d = decimal_size 5 k (omega arith) in
    let e = length-append (decimal_text k) (41 ∷ []) in
    rw number_text_lem (omega arith, omega arith)

offset_size : (v offset : ℕ) → fraction_digits v ≤ 3 → offset ≤ offset_limit → Fits longest_field (offset_text v offset)
offset_size v offset l h =
    let d = decimal_size (offset_digits - 1) (offset / 1000) (omega arith) in
    let w = fraction_digits v in
    let n = offset % 1000 / 10 ^ (3 - w) in
    let p = length_fixed figure_of 10 w n in
    let e = length-append (decimal_text (offset / 1000)) (46 ∷ padded_text w n) in
    rw offset_text_lem (omega arith, omega arith)

-- `Rx` and `Tx`, for frames, are shorter than `Warng` and `Error`.
abbrev type_width : ℕ → ℕ
type_width kind = cond (ltb kind 4) 2 5

type_size : (kind : ℕ) → kind ≤ 5 → Fits (type_width kind) (type_text kind)
type_size kind h =
    let t = at (λ k f. both (leb 1 (length f)) (leb (length f) (type_width k))) [] types tt kind (omega arith) in
    let f = get_or types kind [] in
    rw type_text_lem (
      leb→le 1 (length f) (both_left (leb 1 (length f)) (leb (length f) (type_width kind)) t),
      leb→le (length f) (type_width kind) (both_right (leb 1 (length f)) (leb (length f) (type_width kind)) t),
    )

id_size : (r : Record) → r.extended ≤ 1 → Fits 8 (id_text r)
id_size r h = go (ℕ_discrete r.kind 4)
  where
    go : Dec (r.kind ≡ 4) → Fits 8 (id_text r)
    go (yes e) = rw (id_warning r e) (hex_fits 8 0xFFFFFFFF (omega arith))
    go (no n) = let s = hex_fits (4 + 4 * r.extended) r.id (omega arith) in rw (id_frame r n) (s.0, omega arith)

bytes_size : (place n sum : ℕ) → Sized (3 * n) (byte_texts Capital place n sum)
bytes_size place zero sum = rw bytes_none nil
bytes_size place (suc n) sum =
    let s = hex_fits 2 (sum / place % 256) (omega arith) in
    rw bytes_more (fits (3 * suc n) 2 (3 * n) s (omega arith) (bytes_size (place / 256) n sum))

wider : (n m : ℕ) {fs : List (List ℕ)} → n ≤ m → Sized n fs → Sized m fs
wider n m l nil = nil
wider n m l (one {m = q} {f = f} s k e) = let j : length f + suc q ≤ m = omega arith in one s j e

data_size : (r : Record) → r.len ≤ 8 → Sized 24 (data_texts r)
data_size r h = go (ℕ_discrete (r.kind / 2) 1)
  where
    go : Dec (r.kind / 2 ≡ 1) → Sized 24 (data_texts r)
    go (yes e) = rw (data_remote r e) (fits 24 3 0 (omega arith, omega arith) (omega arith) nil)
    go (no n) = rw (data_bytes r n) (wider (3 * r.len) 24 (omega arith) (bytes_size (256 ^ 7) r.len r.«data»))

-- A warning and an error frame have four bytes.
four : {r : Record} → WellFormed r → 4 ≤ r.kind → r.len ≡ 4
four {r} w h = go (ℕ_discrete r.kind 4)
  where
    go : Dec (r.kind ≡ 4) → r.len ≡ 4
    go (yes e) = (w.warning e).len
    go (no n) = let k = w.kind in (w.error (omega arith)).len

-- From the type on: a frame's eight bytes take more than what the long types have more.
type_sized : {r : Record} → WellFormed r → Sized 38 (frame_texts r)
type_sized {r} w = ⊎_elim frame other (below_or_not r.kind 4)
  where
    frame : r.kind < 4 → Sized 38 (frame_texts r)
    frame h =
        fits 38 2 35 (rw (lt-ltb r.kind 4 h) at (type_size r.kind w.kind)) (omega arith)
        (fits 35 8 26 (id_size r w.extended) (omega arith)
        (fits 26 1 24 (omega arith, omega arith) (omega arith) (data_size r w.len)))

    other : 4 ≤ r.kind → Sized 38 (frame_texts r)
    other h =
        let n : r.kind / 2 ≢ 1 = λ e. omega arith in
        let d = wider (3 * r.len) 12 (omega (arith, four w h)) (bytes_size (256 ^ 7) r.len r.«data») in
        fits 38 5 23 (rw (le-ltb r.kind 4 h) at (type_size r.kind w.kind)) (omega arith)
        (fits 23 8 14 (id_size r w.extended) (omega arith)
        (fits 14 1 12 (omega arith, omega arith) (omega arith) (rw (data_bytes r n) d)))

-- No field of the house is empty, and with a blank behind each they have at most a byte more than the longest row.
pub row_sized : {v k : ℕ} {r : Record} → WellFormed r → Carries r v → k ≤ last_number → Sized (longest_row + 1) (row_texts v k r)
row_sized {k = k} {r = r} w (v11 b o) h =
    rw row_texts_11
    (fits (longest_row + 1) 7 (longest_field + 42) (number_size k h) (omega arith)
    (fits (longest_field + 42) longest_field 38 (offset_size 11 r.offset (omega arith) w.offset) (omega arith) (type_sized w)))
row_sized {k = k} {r = r} w (v12 l b) h =
    rw row_texts_12
    (fits (longest_row + 1) 7 (longest_field + 42) (number_size k h) (omega arith)
    (fits (longest_field + 42) longest_field 41 (offset_size 12 r.offset (omega arith) w.offset) (omega arith)
    (fits 41 2 38 (decimal_size 1 r.bus (omega arith)) (omega arith) (type_sized w))))
