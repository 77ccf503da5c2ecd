-- `stages::warning::warning_bytes` takes a data byte of a warning off, and after the last a word.
use Rattle.row.proofs.Data.{warning_bytes_went, word_refused, word_went}
use Rattle.stages.proofs.warning.warning_bytes.Goals as goal

pub returns-then-p-ne0 : goal.returns-then-p-ne0
returns-then-p-ne0 c = warning_bytes_went _ _ c.args.p _ c.if-p-ne0.true c.requires.1 c.byte.ensures

pub returns-in_err-s : goal.returns-in_err-s
returns-in_err-s c = rw c.from_residual.ensures (word_refused c.args.p c.if-p-ne0.false c.in_err-s.ensures)

pub returns : goal.returns
returns c = rw c.bytes_left.ensures (word_went c.args.p c.if-p-ne0.false c.requires.1 c.in_ok-s.ensures)
