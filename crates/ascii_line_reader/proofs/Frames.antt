-- What stands behind a stamp, as a list of parts and part by part: the same; and one record for its parts, but for the offset.
use Prim.Native.Nat.{ℕ, ◌+◌, ◌*◌, ◌^◌}
use mathlib.Core.Path.{◌≡◌, refl, ap}
use mathlib.Core.List.{List, [], ◌∷◌, ◌++◌}
use native.Mathlib.Omega.{arith}
use native.Mathlib.Decide.{ℕ_discrete}
use Rattle.base.specs.Text.{text}
use Rattle.digits.specs.Digits.{Hex}
use Rattle.digits.specs.House.{figure_of}
use Rattle.record.specs.declared.Record.{Record}
use Rattle.fields.proofs.Columns.{length_one}
use Rattle.row.specs.Row.{Nothing, ByteFields}
use Rattle.row.proofs.One.{bytes_one}
use Rattle.ascii_line.specs.Line.{extended_texts, direction_text, parts_with}
use Rattle.ascii_line_reader.specs.AsciiLine.{FrameFits}
use Rattle.ascii_line_reader.specs.inner.Columns.{IdPart}
use Rattle.ascii_line_reader.specs.inner.Frame.{FromType, from_type, from_channel, from_bar, FromExtended, no_word, word, FromDirection, from_direction, from_id, from_length}
use Rattle.ascii_line_reader.proofs.Columns.{type_one, channel_one, direction_one, id_one}

extended_texts_lem : {x : ℕ} → x ≡ 1 → extended_texts x ≡ text "EXTENDED" ∷ []
unfolding extended_texts
extended_texts_lem e = ap extended_texts e

no_texts : {x : ℕ} → x ≡ 0 → extended_texts x ≡ []
unfolding extended_texts
no_texts e = ap extended_texts e

-- The parts as a list.
pub record FrameParts (r : Record) (fs : List (List ℕ)) : Type 0 where
  pub id : List ℕ
  pub bytes : List (List ℕ)
  pub are : fs ≡ parts_with r.bus r id bytes
  pub id_hex : Hex (3 + 5 * r.extended) r.id id
  pub byte_digits : ByteFields Nothing (256 ^ 7) r.len r.«data» bytes
  pub fits : FrameFits r

abbrev behind : Record → List ℕ → List (List ℕ) → List (List ℕ)
behind r id bytes = direction_text r.kind ∷ id ∷ (figure_of r.len ∷ []) ∷ bytes

-- From the list to the parts one by one.
pub from_parts : {r : Record} {fs : List (List ℕ)} → FrameParts r fs → FromType r fs
from_parts {r} p =
    let f = p.fits in
    rw p.are (from_type (record { bytes = refl; few = f.extended }) (from_channel (record { bytes = refl; high = f.channel }) (from_bar refl (go (ℕ_discrete r.extended 1)))))
  where
    rest : FromDirection r (behind r p.id p.bytes)
    rest =
        let f = p.fits in
        from_direction (record { bytes = refl; few = f.kind }) (from_id (record { digits = p.id_hex; standard = f.standard; long = f.id }) (from_length (record { small = f.len; spelled = refl }) p.byte_digits))

    go : Dec (r.extended ≡ 1) → FromExtended r (extended_texts r.extended ++ behind r p.id p.bytes)
    go (yes e) = rw (extended_texts_lem e) (word e refl rest)
    go (no n) = let z : r.extended ≡ 0 = omega (arith, p.fits.extended) in rw (no_texts z) (no_word z rest)

-- And back.
pub to_parts : {r : Record} {fs : List (List ℕ)} → FromType r fs → FrameParts r fs
to_parts (from_type t (from_channel c (from_bar b (no_word e (from_direction d (from_id {f = i'} i (from_length {fs = fs} l bs))))))) = record {
  id = i';
  bytes = fs;
  are = rw (t.bytes, c.bytes, b, no_texts e, d.bytes, l.spelled);
  id_hex = i.digits;
  byte_digits = bs;
  fits = record { channel = c.high; kind = d.few; extended = t.few; standard = i.standard; id = i.long; len = l.small };
}
to_parts (from_type t (from_channel c (from_bar b (word e x (from_direction d (from_id {f = i'} i (from_length {fs = fs} l bs))))))) = record {
  id = i';
  bytes = fs;
  are = rw (t.bytes, c.bytes, b, extended_texts_lem e, x, d.bytes, l.spelled);
  id_hex = i.digits;
  byte_digits = bs;
  fits = record { channel = c.high; kind = d.few; extended = t.few; standard = i.standard; id = i.long; len = l.small };
}

-- One record.
abbrev pub values : Record → List ℕ
values r = r.bus ∷ r.kind ∷ r.extended ∷ r.id ∷ r.len ∷ r.«data» ∷ []

direction_values : {r q : Record} {fs : List (List ℕ)} → r.bus ∷ r.extended ∷ [] ≡ q.bus ∷ q.extended ∷ [] → FromDirection r fs → FromDirection q fs → values r ≡ values q
direction_values {r} {q} e (from_direction d (from_id {f = f} i (from_length l bs))) (from_direction g (from_id j (from_length m cs))) =
    let x : r.extended ≡ q.extended = cc in
    let k = direction_one d g in
    let o : IdPart q.extended r.id f = rw x at i in
    let v = id_one o j in
    let n = length_one l m in
    let u = bytes_one (rw n at bs) cs in
    cc

pub one_frame : {r q : Record} {fs : List (List ℕ)} → FromType r fs → FromType q fs → values r ≡ values q
one_frame (from_type t (from_channel c (from_bar b x))) (from_type s (from_channel d (from_bar g y))) = go (type_one t s) (channel_one c d) x y
  where
    go : {r q : Record} {fs : List (List ℕ)} → r.extended ≡ q.extended → r.bus ≡ q.bus → FromExtended r fs → FromExtended q fs → values r ≡ values q
    go e u (no_word z a) (no_word y b) = direction_values (cc) a b
    go e u (no_word z a) (word y w b) = absurd (omega arith)
    go e u (word z w a) (no_word y b) = absurd (omega arith)
    go e u (word z w a) (word y v b) = direction_values (cc) a b
