-- `ascii_line_reader::frame::channel_number` reads a lone 0, or a bus.
use Rattle.ascii_line_reader.proofs.Parts.{bus_takes, zero_taken, zero_first}
use Rattle.ascii_line_reader.proofs.frame.channel_number.Goals as goal

pub returns-then-bytes-at-ne48 : goal.returns-then-bytes-at-ne48
returns-then-bytes-at-ne48 c = bus_takes c.requires c.bus_field.result c.if-bytes-at-ne48.true c.bus_field.ensures

pub returns-then-not-ends : goal.returns-then-not-ends
returns-then-not-ends c = λ f rest a v p. zero_first c.requires c.if-bytes-at-ne48.false c.ends.result c.ends.ensures c.if-not-ends.true a p

pub returns : goal.returns
returns c = zero_taken c.requires c.if-bytes-at-ne48.false c.ends.result c.ends.ensures c.if-not-ends.false
