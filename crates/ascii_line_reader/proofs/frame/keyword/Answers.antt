-- `ascii_line_reader::frame::keyword` keeps: the bytes passed are the word's.
use native.Mathlib.Omega.{arith}
use Rattle.ascii_line_reader.proofs.Parts.{none_stood, one_stood, word_stands, word_unended, word_taken}
use Rattle.ascii_line_reader.proofs.frame.keyword.Goals as goal

pub loop-i-init : goal.loop-i-init
loop-i-init c = none_stood c.requires.0

pub loop-i-preserved : goal.loop-i-preserved
loop-i-preserved c = one_stood c.loop-i.invariant c.requires.1 (omega arith) c.if-bytes-at.false

pub returns-then-not-ends : goal.returns-then-not-ends
returns-then-not-ends c =
    λ f rest a v p. word_unended (word_stands c.loop-i.invariant (omega arith)) c.ends.result c.ends.ensures c.if-not-ends.true a p

pub returns : goal.returns
returns c = word_taken (word_stands c.loop-i.invariant (omega arith)) c.ends.result c.requires.2 c.ends.ensures c.if-not-ends.false
