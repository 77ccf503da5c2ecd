-- `ascii_line_reader::stamp::stamp_in` takes a date at the start of a line, and a time behind the next gap.
use Rattle.ascii_line_reader.proofs.Stamps.{taken_starts, date_off, time_over, time_off, stamp_on}
use Rattle.ascii_line_reader.proofs.Walk.{part_lined}
use Rattle.ascii_line_reader.proofs.stamp.stamp_in.Goals as goal

pub returns-in_err-d : goal.returns-in_err-d
returns-in_err-d c = rw c.from_residual.ensures (λ line fs l ps. date_off c.args.w.now c.args.at l ps c.in_err-d.ensures)

pub after_gap-requires : goal.after_gap-requires
after_gap-requires c = part_lined (taken_starts c.requires c.in_ok-d.ensures) c.in_ok-d.ensures

pub returns-in_default : goal.returns-in_default
returns-in_default c = λ line fs l ps. time_over c.args.w.now c.args.at l ps c.in_ok-d.ensures c.in_default.ensures

pub returns-in_err-t : goal.returns-in_err-t
returns-in_err-t c = rw c.from_residual-in_err-t.ensures (λ line fs l ps. time_off c.args.w.now c.args.at l ps c.in_ok-d.ensures c.in-Field.ensures c.in_err-t.ensures)

pub returns : goal.returns
returns c = λ line fs l ps. stamp_on c.args.w.now c.args.at l ps c.in_ok-d.ensures c.in-Field.ensures c.in_ok-t.ensures
