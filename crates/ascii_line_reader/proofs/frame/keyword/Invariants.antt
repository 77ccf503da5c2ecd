-- `ascii_line_reader::frame::keyword` keeps: the bytes passed are the word's.
use Rattle.ascii_line_reader.proofs.Parts.{Stood}
use Rattle.ascii_line_reader.proofs.frame.keyword.Given as goal

abbrev pub invariant-loop-i : goal.invariant-loop-i
invariant-loop-i l = Stood l.word l.w l.at l.i
