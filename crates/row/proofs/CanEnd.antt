-- From every state that is reached some row can be ended: for each stage a record, and the fields that are left of its row.
use Prim.Native.Nat.{ℕ, zero, suc, ◌+◌, ◌*◌, ◌/◌, ◌^◌, ◌≤◌}
use native.Mathlib.Nat.{add-zero}
use mathlib.Core.Path.{◌≡◌, refl, sym}
use mathlib.Core.Bool.{true}
use mathlib.Core.List.{List, [], ◌∷◌}
use native.Mathlib.Omega.{arith}
use Rattle.digits.specs.declared.Letters.TheVariants.{Capital}
use Rattle.digits.specs.House.{figure_of, hex_text}
use Rattle.digits.proofs.House.{decimal_spells}
use Rattle.digits.proofs.Theorems.{hex_spells}
use Rattle.fields.specs.Columns.{last_number, type_rx, remote_text}
use Rattle.record.specs.declared.Record.{Record}
use Rattle.record.specs.Record.{low, one}
use Rattle.row.specs.declared.Part.{Part}
use Rattle.row.specs.declared.Stage.{Stage}
use Rattle.row.specs.declared.Stage.TheVariants as stage
use Rattle.row.specs.Row
use Rattle.row.specs.Versions.{Version, is11, is12}
use Rattle.row.specs.inner.Stages.{continues_at, good_at, Continues, Good}
use Rattle.row.proofs.Spelled.{number_spelled, offset_spelled, id_spelled, length_spelled}

-- C says which fields end in which record: some do.
pub record CanEnd (C : List (List ℕ) → Record → Type 0) : Type 0 where
  pub fields : List (List ℕ)
  pub r : Record
  pub ends : C fields r

-- A record with these values behind its bus.
abbrev ended : ℕ → ℕ → ℕ → ℕ → ℕ → ℕ → ℕ → Record
ended offset bus kind extended id len word =
    record { offset = offset; bus = bus; kind = kind; extended = extended; id = id; len = len; «data» = word }

-- So many bytes of zeros.
zeros : {Then : List (List ℕ) → Type 0} → Then [] → (place n : ℕ) → (fs : List (List ℕ)) × Row.ByteFields Then place n 0 fs
zeros t place zero = ([], Row.done t)
zeros t place (suc n) =
    let x = zeros t (place / 256) n in
    (hex_text Capital 2 0 ∷ x.0, Row.byte {sum = 0} (hex_spells Capital 2 0 (omega arith)) x.1 (omega arith))

-- A remote frame of length 0 that was received or sent, from each of its columns on.

module _ (o b : ℕ) where
  from_data : (sent x i n : ℕ) → Row.FrameData sent (ended o b (2 + sent) x i n 0) (remote_text ∷ [])
  from_data sent x i n = Row.remote refl refl refl

  from_length : (sent x i : ℕ) → Row.FrameLength sent (ended o b (2 + sent) x i 0 0) ((figure_of 0 ∷ []) ∷ remote_text ∷ [])
  from_length sent x i = Row.frame_length (length_spelled 0 0 refl (omega arith)) (from_data sent x i 0)

  from_id : (sent : ℕ) → Row.FrameId sent (ended o b (2 + sent) 0 0 0 0) (hex_text Capital 4 0 ∷ (figure_of 0 ∷ []) ∷ remote_text ∷ [])
  from_id sent = Row.frame_id (id_spelled 0 0 (omega arith) (λ e. omega arith) (omega arith)) (from_length sent 0 0)

  from_type : Row.FromType (ended o b 2 0 0 0 0) (type_rx ∷ hex_text Capital 4 0 ∷ (figure_of 0 ∷ []) ∷ remote_text ∷ [])
  from_type = Row.rx refl (from_id 0)

-- with bus 1, at offset 0, and as row k
from_bus : (o : ℕ) → CanEnd (λ fs r. (r.offset ≡ o) × Row.FromBus r true fs)
from_bus o = record {
  fields = _;
  r = ended o 1 2 0 0 0 0;
  ends = (refl, Row.bus (record { spelled = decimal_spells 1; low = omega arith; high = omega arith }) (from_type o 1));
}

from_offset : {v : ℕ} → Version v → CanEnd (λ fs r. Row.FromOffset r v fs)
from_offset is11 = record {
  fields = _;
  r = ended 0 0 2 0 0 0 0;
  ends = Row.offset is11 (offset_spelled 1 0 0 (omega arith) (omega arith) refl refl) (Row.no_bus refl (from_type 0 0));
}
from_offset is12 =
    let b = from_bus 0 in
    let e : 0 ≡ b.r.offset = sym b.ends.0 in
    record { fields = _; r = _; ends = Row.offset is12 (rw e at (offset_spelled 3 0 0 (omega arith) (omega arith) refl refl)) b.ends.1 }

pub row_can_end : {v k : ℕ} → Version v → 1 ≤ k → k ≤ last_number → CanEnd (λ fs r. Row.RowFields v k r fs)
row_can_end {k = k} v l h = let x = from_offset v in record { fields = _; r = _; ends = Row.number (number_spelled k l h) x.ends }

-- A warning, and an error frame at position 2.

warned : (o b k x i n : ℕ) → CanEnd (λ fs q. Row.WarningLength (ended o b k x i n 0) fs)
warned o b k x i n =
    let z = zeros {Then = Row.Words} Row.none (256 ^ 7) 4 in
    record { fields = _; r = ended o b k x i n 0; ends = Row.warning_length (length_spelled 4 4 refl (omega arith)) z.1 }

second : (fs : List (List ℕ)) × Row.ErrorSecond (2 * 256 ^ 6) fs
second = let z = zeros Row.nothing (256 ^ 5) 2 in (_, Row.second (hex_spells Capital 2 2 (omega arith)) (low (omega arith) (omega arith)) z.1 refl)

first : (fs : List (List ℕ)) × Row.ErrorFirst (2 * 256 ^ 6) fs
first = (_, Row.first (hex_spells Capital 2 0 (omega arith)) (omega arith) second.1 refl)

failed : (o b x i : ℕ) → CanEnd (λ fs q. Row.ErrorLength (ended o b 5 x i 4 (2 * 256 ^ 6)) fs)
failed o b x i = record { fields = _; r = ended o b 5 x i 4 0; ends = Row.error_length refl (length_spelled 4 4 refl (omega arith)) first.1 }

-- From each stage on.

abbrev with_data : Record → ℕ → Record
with_data r word = ended r.offset r.bus r.kind r.extended r.id r.len word

can_end_at : (x : Stage) (p : Part) → good_at x p → CanEnd (continues_at x p)
can_end_at (stage.Offset v) p g = from_offset g.0
can_end_at stage.Bus p g = from_bus p.r.offset
can_end_at stage.TypeColumn p g = record { fields = _; r = _; ends = (refl, from_type p.r.offset p.r.bus) }
can_end_at stage.Id p g = record { fields = _; r = _; ends = (refl, from_id p.r.offset p.r.bus p.r.kind) }
can_end_at stage.Length p g = record { fields = _; r = _; ends = (refl, from_length p.r.offset p.r.bus p.r.kind p.r.extended p.r.id) }
can_end_at stage.Data p g =
    record { fields = _; r = _; ends = (refl, from_data p.r.offset p.r.bus p.r.kind p.r.extended p.r.id p.r.len) }
can_end_at stage.Bytes p g =
    record { fields = _; r = p.r; ends = record { known = refl; sum = 0; bytes = (zeros Row.nothing p.place p.left).1; total = sym (add-zero p.r.«data») } }
can_end_at stage.WarningId p g =
    let w = warned p.r.offset p.r.bus 4 0 0 4 in
    record { fields = _; r = _; ends = (refl, Row.warning_id refl (record { extended = refl; id = refl; len = refl }) (hex_spells Capital 8 0xFFFFFFFF (omega arith)) w.ends) }
can_end_at stage.WarningLength p g = let w = warned p.r.offset p.r.bus p.r.kind p.r.extended p.r.id p.r.len in record { fields = _; r = _; ends = (refl, w.ends) }
can_end_at stage.WarningBytes p g =
    record { fields = _; r = p.r; ends = record { known = refl; sum = 0; bytes = (zeros Row.none p.place p.left).1; total = sym (add-zero p.r.«data») } }
can_end_at stage.ErrorId p g =
    let w = failed p.r.offset p.r.bus 0 1 in
    record { fields = _; r = _; ends = (refl, Row.error_id refl refl (hex_spells Capital 4 1 (omega arith)) (one refl) w.ends) }
can_end_at stage.ErrorLength p g =
    let w = failed p.r.offset p.r.bus p.r.extended p.r.id in record { fields = _; r = _; ends = (refl, refl, w.ends) }
can_end_at stage.ErrorFirst p g = record { fields = _; r = with_data p.r (2 * 256 ^ 6); ends = (refl, first.1) }
can_end_at stage.ErrorSecond p g =
    record { fields = _; r = with_data p.r (p.r.«data» + 2 * 256 ^ 6); ends = record { known = refl; sum = 2 * 256 ^ 6; bytes = second.1; total = refl } }

pub can_end : (p : Part) → Good p → CanEnd (Continues p)
can_end p g = can_end_at p.stage p g
