-- The data bytes, one after the other: what the loop keeps.
use Prim.Native.Nat.{ℕ, suc, ◌+◌, ◌*◌, ◌/◌, ◌^◌, ◌≤◌, ◌<◌}
use mathlib.Core.Path.{◌≡◌, refl, subst}
use mathlib.Core.Logic.{◌≢◌}
use mathlib.Core.List.{List}
use native.Mathlib.Omega.{arith}
use lib.ListN.{get_or, drop}
use Rattle.std.specs.Prelude.{Option, Some, None}
use Rattle.digits.specs.Digits.{Hex}
use Rattle.record.specs.declared.Record.{Record}
use Rattle.fields.specs.declared.Scan.{Scan}
use Rattle.fields.specs.inner.Window.{Lined, Taken, Takes, FieldAfter, EndAfter}
use Rattle.row.proofs.Data.{byte_fits}
use Rattle.ascii_line_reader.specs.declared.FrameRead.{FrameRead}
use Rattle.ascii_line_reader.specs.inner.Frame.{DataOf, Leads}
use Rattle.ascii_line_reader.proofs.Walk.{part_lined}
use Rattle.ascii_line_reader.proofs.Chain.{over, stop, link}
use Rattle.ascii_line_reader.proofs.Stages.{byte_stage}
use Rattle.ascii_line_reader.proofs.Ending.{not_last, last}

-- `left` bytes are to come, and whatever is read from here on is what is read from the first byte on.
pub record Reading (x b k i n : ℕ) (w : List ℕ) (at e place left sum : ℕ) : Type 0 where
  pub lined : Lined (drop e w)
  pub room : sum + 256 * place ≤ 256 ^ 8
  pub small : sum < 256 ^ 8
  pub leads : (y : Option FrameRead) → Leads (DataOf x b k i n place left sum) w e y → Leads (DataOf x b k i n (256 ^ 7) n 0) w at y

pub reading : {x b k i n at : ℕ} {w : List ℕ} → Lined (drop at w) → Reading x b k i n w at at (256 ^ 7) n 0
reading l = record { lined = l; room = omega arith; small = omega arith; leads = λ y d. d }

-- With as many bytes to come.
pub same_left : {x b k i n at e place left sum m : ℕ} {w : List ℕ} → left ≡ m → Reading x b k i n w at e place left sum
    → Reading x b k i n w at e place m sum
same_left {x} {b} {k} {i} {n} {at} {e} {place} {sum = sum} {w = w} q r = subst (λ (z : ℕ). Reading x b k i n w at e place z sum) q r

-- One byte more is to come, and then `left`.
module _ {x b k i n at e place left sum a : ℕ} {w : List ℕ} (r : Reading x b k i n w at e place (suc left) sum) where
  -- the line ends before it
  pub bytes_over : EndAfter w e a → Leads (DataOf x b k i n (256 ^ 7) n 0) w at None
  bytes_over g = r.leads None (over (byte_stage x b k i n place left sum) g)

  module _ (g : FieldAfter w e a) where
    -- it does not stand there
    pub bytes_stop : Takes (Hex 2) w a None → Leads (DataOf x b k i n (256 ^ 7) n 0) w at None
    bytes_stop t = r.leads None (stop (byte_stage x b k i n place left sum) g t)

    module _ {s : Scan} (t : Taken (Hex 2) w a s) where
      -- it is read
      pub byte_room : (sum + s.value * place < 256 ^ 8) × (sum + s.value * place + 256 * (place / 256) ≤ 256 ^ 8)
      byte_room = let f = byte_fits place t.has in let o = r.room in let m = r.small in (omega arith, omega arith)

      pub one_read : Reading x b k i n w at s.end (place / 256) left (sum + s.value * place)
      one_read = record {
        lined = part_lined g.starts t;
        room = byte_room.1;
        small = byte_room.0;
        leads = λ y d. r.leads y (link (byte_stage x b k i n place left sum) g t y d);
      }

-- No byte more is to come.
module _ {x b k i n at e place sum : ℕ} {w : List ℕ} (r : Reading x b k i n w at e place 0 sum) where
  -- more stands behind the last byte
  pub data_left : get_or w e 0 ≢ 13 → Leads (DataOf x b k i n (256 ^ 7) n 0) w at None
  data_left z = r.leads None (not_last x b k i n place sum z)

  -- the line ends behind it
  pub data_read : get_or w e 0 ≡ 13 → Leads (DataOf x b k i n (256 ^ 7) n 0) w at
      (Some record { end = e; r = record { offset = 0; bus = b; kind = k; extended = x; id = i; len = n; «data» = sum } })
  data_read z =
      let q : Record = record { offset = 0; bus = b; kind = k; extended = x; id = i; len = n; «data» = sum } in
      r.leads (Some record { end = e; r = q }) (last x b k i n place sum z q refl refl)
