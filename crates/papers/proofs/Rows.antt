-- Rows of received frames: fields joined by blanks, and which record they are a row of.
use Prim.Native.Nat.{ℕ, suc, ◌+◌, ◌-◌, ◌^◌, ◌≤◌, ◌<◌}
use mathlib.Core.Path.{◌≡◌, refl, ap, subst}
use mathlib.Core.Bool.{Bool}
use mathlib.Core.List.{List, [], ◌∷◌}
use native.Mathlib.Nat.{zero-mod}
use native.Mathlib.Omega.{arith}
use lib.Dec.{T, leb, leb→le}
use lib.ListN.{length, get_or}
use Rattle.base.specs.Spaced.{spaced, joined}
use Rattle.base.proofs.Tables.{both, both_left, both_right, every, at}
use Rattle.base.specs.Text.{text}
use Rattle.digits.specs.declared.Letters.TheVariants.{Capital}
use Rattle.digits.specs.Digits.{Hex}
use Rattle.digits.specs.House.{glyph_of, fixed}
use Rattle.digits.proofs.Theorems.{hex_spells, one_hex}
use Rattle.fields.specs.Runs.{All, over, halt}
use Rattle.fields.specs.Parted.{NoBlank, Parted, none, blank_first}
use Rattle.fields.specs.Columns.{type_rx, IdField, standard, long}
use Rattle.fields.proofs.Runs.{all_of}
use Rattle.fields.proofs.Parts.{parted_one, first}
use Rattle.record.specs.declared.Record.{Record}
use Rattle.record.specs.Record.{WellFormed}
use Rattle.record.proofs.Frames.{frame_formed}
use Rattle.row.specs.Versions.{is11}
use Rattle.row.specs.Row
use Rattle.papers.specs.Cases.{received11}

-- Each field has a byte, and none that is a blank or below; this antt computes.
abbrev pub solid : ℕ → List (List ℕ) → Bool
solid i fs = every (λ k f. both (leb 1 (length f)) (every (λ j b. leb 33 b) 0 f)) i fs

no_blank : (f : List ℕ) → T (every (λ j b. leb 33 b) 0 f) → All NoBlank f
no_blank f t = all_of f (λ k h. let l = leb→le 33 (get_or f k 0) (at (λ j b. leb 33 b) 0 f t k h) in λ e. omega arith)

-- Such fields, joined, are parted into them;
parted : (i : ℕ) (fs : List (List ℕ)) → T (solid i fs) → Parted fs (joined fs)
unfolding spaced joined
parted i [] t = none
parted i (f ∷ []) t =
    let s = leb 1 (length f) in
    let b = every (λ j b. leb 33 b) 0 f in
    let u = both_left (both s b) _ t in
    first (leb→le 1 (length f) (both_left s b u)) (no_blank f (both_right s b u)) over none refl
parted i (f ∷ g ∷ fs) t =
    let s = leb 1 (length f) in
    let b = every (λ j b. leb 33 b) 0 f in
    let u = both_left (both s b) (solid (suc i) (g ∷ fs)) t in
    let v = both_right (both s b) (solid (suc i) (g ∷ fs)) t in
    first (leb→le 1 (length f) (both_left s b u)) (no_blank f (both_right s b u)) (halt (λ n. n refl)) (blank_first (parted (suc i) (g ∷ fs) v)) refl

-- so that they are those of any row.
pub fields_of : {v k : ℕ} {r : Record} (fs : List (List ℕ)) → T (solid 0 fs) → Row.Row v k r (joined fs) → Row.RowFields v k r fs
fields_of {v} {k} {r} fs t w = subst (Row.RowFields v k r) (parted_one w.parted (parted 0 fs t)) w.row

from_rx : {r : Record} {fs : List (List ℕ)} → Row.FromType r (type_rx ∷ fs) → Row.FrameId 0 r fs
from_rx (Row.rx e i) = i
from_rx (Row.tx e i) = let z : ◌≡◌ {A = ℕ} 82 84 = cc in absurd (omega arith)
from_rx (Row.warng e i) = absurd (omega (arith, ap length e))
from_rx (Row.error e i) = absurd (omega (arith, ap length e))

-- The fields of a received frame, from the ID on.
pub frame : {k : ℕ} {r : Record} {n o : List ℕ} {fs : List (List ℕ)} → Row.RowFields 11 k r (n ∷ o ∷ type_rx ∷ fs) → Row.FrameId 0 r fs
frame (Row.number a (Row.offset is11 b (Row.no_bus c m))) = from_rx m

-- 0800 and 20000000 are no IDs.

id_800 : Hex 4 0x800 (text "0800")
unfolding fixed glyph_of
id_800 = hex_spells Capital 4 0x800 (omega arith)

no_800 : {e i : ℕ} → IdField e i (text "0800") → ⊥
no_800 (standard z h l) = omega (arith, one_hex h id_800)
no_800 (long z h l) = omega (arith, h.width)

id_20000000 : Hex 8 0x20000000 (text "20000000")
unfolding fixed glyph_of
id_20000000 = hex_spells Capital 8 0x20000000 (omega arith)

no_20000000 : {e i : ℕ} → IdField e i (text "20000000") → ⊥
no_20000000 (standard z h l) = omega (arith, h.width)
no_20000000 (long z h l) = omega (arith, one_hex h id_20000000)

-- After length 0 stands no byte.

none_left : {fs : List (List ℕ)} → Row.Nothing fs → fs ≡ []
none_left Row.nothing = refl

no_bytes : {n sum : ℕ} {f : List ℕ} → n ≡ 0 → Row.ByteFields Row.Nothing (256 ^ 7) n sum (f ∷ []) → ⊥
no_bytes e (Row.done h) = omega (arith, ap length (none_left h))
no_bytes e (Row.byte h r d) = omega arith

no_0A : {r : Record} → r.len ≡ 0 → Row.FrameData 0 r (text "0A" ∷ []) → ⊥
no_0A e (Row.data_bytes k h) = no_bytes e h
no_0A e (Row.remote k d f) = let z : ◌≡◌ {A = ℕ} 48 82 = cc in omega arith

-- The rows that are refused.

pub row_0800 : (r : Record) → Row.Row 11 1 r (text "1) 0.0 Rx 0800 0") → ⊥
unfolding spaced joined
row_0800 r w = go (frame (fields_of (text "1)" ∷ text "0.0" ∷ text "Rx" ∷ text "0800" ∷ text "0" ∷ []) tt w))
  where
    go : Row.FrameId 0 r (text "0800" ∷ text "0" ∷ []) → ⊥
    go (Row.frame_id i l) = no_800 i

pub row_20000000 : (r : Record) → Row.Row 11 1 r (text "1) 0.0 Rx 20000000 0") → ⊥
unfolding spaced joined
row_20000000 r w = go (frame (fields_of (text "1)" ∷ text "0.0" ∷ text "Rx" ∷ text "20000000" ∷ text "0" ∷ []) tt w))
  where
    go : Row.FrameId 0 r (text "20000000" ∷ text "0" ∷ []) → ⊥
    go (Row.frame_id i l) = no_20000000 i

pub row_0_byte : (r : Record) → Row.Row 11 1 r (text "1) 0.0 Rx 0123 0 0A") → ⊥
unfolding spaced joined
row_0_byte r w = go (frame (fields_of (text "1)" ∷ text "0.0" ∷ text "Rx" ∷ text "0123" ∷ text "0" ∷ text "0A" ∷ []) tt w))
  where
    go : Row.FrameId 0 r (text "0123" ∷ text "0" ∷ text "0A" ∷ []) → ⊥
    go (Row.frame_id i (Row.frame_length l d)) =
        let e : 48 ≡ 48 + r.len = cc l.spelled in
        no_0A (omega arith) d

-- A received frame, of data or remote, is well formed.
pub received_formed : (kind extended id len : ℕ) → kind ≤ 3 → extended ≤ 1 → (extended ≡ 0 → id ≤ 0x7FF) → id < 2 ^ 29 → len ≤ 8
    → WellFormed (received11 kind extended id len)
received_formed kind extended id len k x s i l =
    frame_formed _ k (omega arith) (omega arith) x s i l (omega arith) (zero-mod (256 ^ (8 - len))) (λ e. refl)
