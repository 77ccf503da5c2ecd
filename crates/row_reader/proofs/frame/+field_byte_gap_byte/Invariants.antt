-- The data bytes of a frame: a gap is skipped and a byte read, and so on to the end of the row. What falls is twice the bytes left in the window,
-- and one more at a gap, which may stand where a field does.
use Rattle.std.proofs.Common.{◌+◌, ◌-◌, ◌*◌, length}
use Rattle.row_reader.proofs.frame.+field_byte_gap_byte.Given as goal

abbrev pub decreases-field_byte : goal.decreases-field_byte
decreases-field_byte l = 2 * (length l.w.now - l.at)

abbrev pub decreases-gap_byte : goal.decreases-gap_byte
decreases-gap_byte l = 2 * (length l.w.now - l.at) + 1
