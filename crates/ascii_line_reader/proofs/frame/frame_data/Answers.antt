-- `ascii_line_reader::frame::frame_data` keeps: what is read from here on is what is read from the first byte on.
use Prim.Native.Nat.{ℕ, suc, ◌+◌, ◌-◌, ◌≤◌, ◌<◌}
use mathlib.Core.Path.{◌≡◌}
use native.Mathlib.Omega.{arith}
use Rattle.base.proofs.Tests.{shown, refuted}
use Rattle.ascii_line_reader.proofs.Data.{reading, same_left, bytes_over, bytes_stop, byte_room, one_read, data_left, data_read}
use Rattle.ascii_line_reader.proofs.frame.frame_data.Goals as goal

-- How many bytes are to come at a turn of the loop, and after it.
start : (len : ℕ) → len ≡ len - 0
start len = omega arith

turn : {counter len : ℕ} → counter < len → len - counter ≡ suc (len - (counter + 1))
turn h = omega arith

end : {counter len : ℕ} → len ≤ counter → len - counter ≡ 0
end h = omega arith

pub loop-init : goal.loop-init
loop-init c = same_left (start c.args.len) (reading c.requires)

pub after_gap-requires : goal.after_gap-requires
after_gap-requires c = c.loop.invariant.lined

pub returns-in_default : goal.returns-in_default
returns-in_default c = bytes_over (same_left (turn c.loop-test.true) c.loop.invariant) c.in_default.ensures

pub returns-in_err-s : goal.returns-in_err-s
returns-in_err-s c = rw c.from_residual.ensures (bytes_stop (same_left (turn c.loop-test.true) c.loop.invariant) c.in-Field.ensures c.in_err-s.ensures)

pub overflow_mul-data : goal.overflow_mul-data
overflow_mul-data c =
    let f = (byte_room (same_left (turn c.loop-test.true) c.loop.invariant) c.in-Field.ensures c.in_ok-s.ensures).0 in
    omega arith

pub overflow_add-data : goal.overflow_add-data
overflow_add-data c =
    let f = (byte_room (same_left (turn c.loop-test.true) c.loop.invariant) c.in-Field.ensures c.in_ok-s.ensures).0 in
    omega arith

pub loop-preserved : goal.loop-preserved
loop-preserved c = one_read (same_left (turn c.loop-test.true) c.loop.invariant) c.in-Field.ensures c.in_ok-s.ensures

pub at_end-requires : goal.at_end-requires
at_end-requires c = c.loop.invariant.lined

pub returns-then-not-at_end : goal.returns-then-not-at_end
returns-then-not-at_end c =
    data_left (same_left (end c.loop-test.false) c.loop.invariant) (refuted c.at_end.result c.if-not-at_end.true c.at_end.ensures)

pub returns : goal.returns
returns c =
    data_read (same_left (end c.loop-test.false) c.loop.invariant) (shown c.at_end.result c.if-not-at_end.false c.at_end.ensures)
