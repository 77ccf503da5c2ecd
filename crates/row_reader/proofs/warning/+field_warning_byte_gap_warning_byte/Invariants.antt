-- The data bytes and words of a warning: a gap is skipped and a byte or a word read, and so on to the end of the row. What falls is what falls in the
-- cycle of a frame's data bytes.
use Rattle.std.proofs.Common.{◌+◌, ◌-◌, ◌*◌, length}
use Rattle.row_reader.proofs.warning.+field_warning_byte_gap_warning_byte.Given as goal

abbrev pub decreases-field_warning_byte : goal.decreases-field_warning_byte
decreases-field_warning_byte l = 2 * (length l.w.now - l.at)

abbrev pub decreases-gap_warning_byte : goal.decreases-gap_warning_byte
decreases-gap_warning_byte l = 2 * (length l.w.now - l.at) + 1
