-- `ascii_line_reader::line_in` reads a stamp, and a frame behind it.
use Rattle.ascii_line_reader.proofs.Whole.{unstamped, stamp_lined, unframed, whole_line}
use Rattle.ascii_line_reader.proofs.line_in.Goals as goal

pub returns-in_err-s : goal.returns-in_err-s
returns-in_err-s c = rw c.from_residual.ensures (λ line l. unstamped c.args.w.now c.args.at (λ fs p. c.in_err-s.ensures line fs l p))

pub frame_type-requires : goal.frame_type-requires
frame_type-requires c = let l = c.requires in stamp_lined (λ fs p. c.in_ok-s.ensures l.line fs l.is p)

pub returns-in_err-f : goal.returns-in_err-f
returns-in_err-f c = rw c.from_residual-in_err-f.ensures (λ line l. unframed (λ fs p. c.in_ok-s.ensures line fs l p) c.in_err-f.ensures)

pub returns : goal.returns
returns c = λ line l. whole_line (λ fs p. c.in_ok-s.ensures line fs l p) c.in_ok-f.ensures
