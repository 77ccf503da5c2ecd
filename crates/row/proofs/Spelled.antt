-- The house spelling of a row is a row of its record, and short.
use Prim.Native.Nat.{ℕ, zero, suc, ◌+◌, ◌*◌, ◌-◌, ◌/◌, ◌%◌, ◌^◌, ◌≤◌, ◌<◌}
use mathlib.Core.Path.{◌≡◌, refl, ap, sym, ◌∙◌}
use mathlib.Core.Logic.{◌≢◌, inl, inr}
use mathlib.Core.List.{List, [], ◌∷◌, ◌++◌}
use native.Mathlib.Nat.{sub-zero, pow-suc, pow-succ', one-le-pow, mod-eq_of_lt, mul-div_cancel}
use native.Mathlib.Omega.{arith}
use lib.Arith.{mod-mul}
use lib.ListN.{length}
use Rattle.base.specs.Limits.{offset_digits, offset_limit}
use Rattle.digits.specs.declared.Letters.{Letters}
use Rattle.digits.specs.declared.Letters.TheVariants.{Capital}
use Rattle.digits.specs.Digits.{Hex}
use Rattle.digits.specs.House.{decimal_text, padded_text, hex_text, byte_texts}
use Rattle.digits.proofs.ByteTexts.{bytes_none, bytes_more}
use Rattle.digits.proofs.House.{few, decimal_spells, padded_spells}
use Rattle.digits.proofs.Theorems.{hex_spells}
use Rattle.fields.specs.Columns.{NumberField, OffsetField, IdField, standard, long, LengthField, last_number}
use Rattle.fields.proofs.Runs.{all_map}
use Rattle.record.specs.declared.Record.{Record}
use Rattle.record.specs.Record.{WellFormed}
use Rattle.row.specs.Row
use Rattle.row.specs.House.{number_text, type_text, id_text, data_texts, frame_texts, row_texts, row_text}
use Rattle.row.specs.Versions.{is11, is12, Carries, v11, v12}
use Rattle.row.specs.inner.Sizes.{longest_row}
use Rattle.row.proofs.Fields.{each_map}
use Rattle.row.proofs.Formed.{error_small}
use Rattle.row.proofs.Plain.{fields_plain}
use Rattle.row.proofs.Texts.{joined_short, parted_joined, number_text_lem, offset_text_lem, type_text_lem, id_frame, id_warning, data_remote, data_bytes, row_texts_lem, row_texts_11, row_texts_12, row_sized}

-- Place value: the byte at 256 ^ m of a number, and those below it.
high : (whole m : ℕ) → whole % 256 ^ suc m ≡ whole / 256 ^ m % 256 * 256 ^ m + whole % 256 ^ m
high whole m =
    let z : 0 < 256 = omega arith in
    rw pow-succ' (mod-mul whole z (one-le-pow m 256 z))

byte_spelled : (c : Letters) (n : ℕ) → Hex 2 (n % 256) (hex_text c 2 (n % 256))
byte_spelled c n = hex_spells c 2 (n % 256) (omega arith)

-- n bytes of a number, from the one at 256 ^ m on, below which it is zero.
pub bytes_spelled : (c : Letters) (Then : List (List ℕ) → Type 0) → Then [] → (whole n m place u : ℕ) → place ≡ 256 ^ m → n ≤ suc m
    → whole % 256 ^ (suc m - n) ≡ 0 → u ≡ whole % 256 ^ suc m → Row.ByteFields Then place n u (byte_texts c place n whole)
bytes_spelled c Then t whole zero m place u p l z e =
    let k : u ≡ 0 = e ∙ rw sub-zero at z in
    rw (k, bytes_none) (Row.done t)
bytes_spelled c Then t whole (suc zero) zero place u p l z e =
    let q : u ≡ whole / place % 256 * place + 0 = rw p (e ∙ omega arith) in
    rw (bytes_more, bytes_none) (Row.byte (byte_spelled c (whole / place)) (Row.done t) q)
bytes_spelled c Then t whole (suc (suc n)) zero place u p l z e = absurd (omega arith)
bytes_spelled c Then t whole (suc n) (suc m) place u p l z e =
    let s : suc (suc m) - suc n ≡ suc m - n = omega arith in
    let k : 0 < 256 = omega arith in
    let d : place / 256 ≡ 256 ^ m = rw (p, pow-suc) (mul-div_cancel (256 ^ m) k) in
    let q : u ≡ whole / place % 256 * place + whole % 256 ^ suc m = rw p (e ∙ high whole (suc m)) in
    rw bytes_more
    (Row.byte (byte_spelled c (whole / place)) (bytes_spelled c Then t whole n m (place / 256) _ d (omega arith) (rw s at z) refl) q)

-- The columns.

pub number_spelled : (k : ℕ) → 1 ≤ k → k ≤ last_number → NumberField k (number_text k)
number_spelled k l h = record { digits = decimal_text k; bytes = number_text_lem k; spelled = decimal_spells k; low = l; high = h }

pub offset_spelled : (w offset fraction : ℕ) {f : List ℕ} → offset ≤ offset_limit → fraction < 10 ^ w
    → offset ≡ offset / 1000 * 1000 + fraction * 10 ^ (3 - w) → f ≡ decimal_text (offset / 1000) ++ (46 ∷ padded_text w fraction) → OffsetField w offset f
offset_spelled w offset fraction l h e q = record {
  whole = decimal_text (offset / 1000);
  part = padded_text w fraction;
  bytes = q;
  ms = offset / 1000;
  fraction = fraction;
  first = decimal_spells (offset / 1000);
  short = few (offset_digits - 1) (offset / 1000) (omega arith);
  second = padded_spells w fraction h;
  value = e;
  limit = l;
}

pub id_spelled : (x id : ℕ) → x ≤ 1 → (x ≡ 0 → id ≤ 0x7FF) → id < 2 ^ 29 → IdField x id (hex_text Capital (4 + 4 * x) id)
id_spelled zero id h s l = let k = s refl in standard refl (hex_spells Capital 4 id (omega arith)) k
id_spelled (suc zero) id h s l = long refl (hex_spells Capital 8 id (omega arith)) (omega arith)
id_spelled (suc (suc x)) id h s l = absurd (omega arith)

pub length_spelled : (n m : ℕ) → n ≡ m → m ≤ 8 → LengthField m ((48 + n) ∷ [])
length_spelled n m e h = record { small = h; spelled = rw e }

module _ {r : Record} (w : WellFormed r) where
  eight_bytes : r.«data» ≡ r.«data» % 256 ^ 8
  eight_bytes = sym (mod-eq_of_lt w.eight)

  -- a frame's data
  received : (sent : ℕ) → sent ≤ 1 → r.kind ≡ sent → Row.FrameData sent r (data_texts r)
  received sent l e =
      let n : r.kind / 2 ≢ 1 = λ z. omega arith in
      rw (data_bytes r n)
      (Row.data_bytes e
      (bytes_spelled Capital Row.Nothing Row.nothing r.«data» r.len 7 (256 ^ 7) _ refl w.len w.past eight_bytes))

  asked : (sent : ℕ) → sent ≤ 1 → r.kind ≡ 2 + sent → r.«data» ≡ 0 → Row.FrameData sent r (data_texts r)
  asked sent l e d =
      let n : r.kind / 2 ≡ 1 = omega arith in
      rw (data_remote r n) (Row.remote e d refl)

  frame : (sent : ℕ) → r.kind ≢ 4 → Row.FrameData sent r (data_texts r)
      → Row.FrameId sent r (id_text r ∷ ((48 + r.len) ∷ []) ∷ data_texts r)
  frame sent n d =
      rw (id_frame r n)
      (Row.frame_id (id_spelled r.extended r.id w.extended w.standard w.id)
      (Row.frame_length (length_spelled r.len r.len refl w.len) d))

  -- four bytes, of a warning or an error frame
  four_bytes : r.kind / 2 ≢ 1 → r.len ≡ 4 → data_texts r ≡ byte_texts Capital (256 ^ 7) 4 r.«data»
  four_bytes n l = data_bytes r n ∙ ap (λ (k : ℕ). byte_texts Capital (256 ^ 7) k r.«data») l

  four_zero : r.len ≡ 4 → r.«data» % 256 ^ 4 ≡ 0
  four_zero l = ap (λ (k : ℕ). r.«data» % 256 ^ (8 - k)) (sym l) ∙ w.past

  warned : r.kind ≡ 4 → Row.WarningId r (id_text r ∷ ((48 + r.len) ∷ []) ∷ data_texts r)
  warned e =
      let x = w.warning e in
      let d = four_bytes (λ z. omega arith) x.len in
      rw (id_warning r e, d)
      (Row.warning_id e x (hex_spells Capital 8 0xFFFFFFFF (omega arith))
      (Row.warning_length (length_spelled r.len 4 x.len (omega arith))
      (bytes_spelled Capital Row.Words Row.none r.«data» 4 7 (256 ^ 7) _ refl (omega arith) (four_zero x.len) eight_bytes)))

  four_digits : r.kind ≢ 4 → r.extended ≡ 0 → id_text r ≡ hex_text Capital 4 r.id
  four_digits n e = id_frame r n ∙ ap (λ (k : ℕ). hex_text Capital (4 + 4 * k) r.id) e

  failed : r.kind ≡ 5 → Row.ErrorIdField r (id_text r ∷ ((48 + r.len) ∷ []) ∷ data_texts r)
  failed e =
      let x = w.error e in
      let d = four_bytes (λ z. omega arith) x.len in
      let i = four_digits (λ z. omega arith) x.extended in
      let s = error_small x.id in
      rw (i, d, bytes_more, bytes_more)
      (Row.error_id e x.extended (hex_spells Capital 4 r.id (omega arith)) x.id
      (Row.error_length x.len (length_spelled r.len 4 x.len (omega arith))
      (Row.first (byte_spelled Capital (r.«data» / 256 ^ 7)) x.first
      (Row.second (byte_spelled Capital (r.«data» / 256 ^ 6)) x.second
      (bytes_spelled Capital Row.Nothing Row.nothing r.«data» 2 5 (256 ^ 5) _ refl (omega arith) (four_zero x.len) refl)
      (high r.«data» 6)) (eight_bytes ∙ high r.«data» 7))))

  type_spelled : (k : ℕ) → r.kind ≡ k → Row.FromType r (frame_texts r)
  type_spelled zero e = Row.rx (ap type_text e ∙ type_text_lem 0) (frame 0 (λ z. omega arith) (received 0 (omega arith) e))
  type_spelled (suc zero) e = Row.tx (ap type_text e ∙ type_text_lem 1) (frame 1 (λ z. omega arith) (received 1 (omega arith) e))
  type_spelled (suc (suc zero)) e =
      Row.rx (ap type_text e ∙ type_text_lem 2) (frame 0 (λ z. omega arith) (asked 0 (omega arith) e (w.remote (inl e))))
  type_spelled (suc (suc (suc zero))) e =
      Row.tx (ap type_text e ∙ type_text_lem 3) (frame 1 (λ z. omega arith) (asked 1 (omega arith) e (w.remote (inr e))))
  type_spelled (suc (suc (suc (suc zero)))) e = Row.warng (ap type_text e ∙ type_text_lem 4) (warned e)
  type_spelled (suc (suc (suc (suc (suc zero))))) e = Row.error (ap type_text e ∙ type_text_lem 5) (failed e)
  type_spelled (suc (suc (suc (suc (suc (suc k)))))) e = absurd (omega (arith, w.kind))

-- The house texts are the fields of a row.
pub fields_spelled : {v k : ℕ} {r : Record} → WellFormed r → Carries r v → 1 ≤ k → k ≤ last_number
    → Row.RowFields v k r (row_texts v k r)
fields_spelled {k = k} {r = r} w (v11 b o) l h =
    rw row_texts_11
    (Row.number (number_spelled k l h)
    (Row.offset is11 (offset_spelled 1 r.offset (r.offset % 1000 / 100) w.offset (omega arith) (omega arith) (offset_text_lem 11 r.offset))
    (Row.no_bus b (type_spelled w r.kind refl))))
fields_spelled {k = k} {r = r} w (v12 a b) l h =
    rw row_texts_12
    (Row.number (number_spelled k l h)
    (Row.offset is12 (offset_spelled 3 r.offset (r.offset % 1000 / 1) w.offset (omega arith) (omega arith) (offset_text_lem 12 r.offset))
    (Row.bus (record { spelled = decimal_spells r.bus; low = a; high = b }) (type_spelled w r.kind refl))))

-- The house spelling of a row is a row of its record.
pub row_spelled : {v k : ℕ} {r : Record} → WellFormed r → Carries r v → 1 ≤ k → k ≤ last_number → Row.Row v k r (row_text v k r)
row_spelled {v} {k} {r} w c l h =
    let f = fields_spelled w c l h in
    let p = each_map (λ g a. all_map (λ b q. q.blank) a) (fields_plain f) in
    record { fields = row_texts v k r; parted = parted_joined (row_sized w c h) p; row = f }

-- It is no longer than the longest.
pub row_size : {v k : ℕ} {r : Record} → WellFormed r → Carries r v → k ≤ last_number → length (row_text v k r) ≤ longest_row
row_size {v} {k} {r} w c h = let s = joined_short (rw row_texts_lem at (row_sized {k = k} w c h)) in rw row_texts_lem (omega arith)
