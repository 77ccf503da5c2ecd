-- `ascii_line_reader::frame::channel_part` reads `#`, and the channel's number behind it.
use mathlib.Core.Logic.{inl, inr}
use Rattle.base.proofs.Tests.{shown, refuted}
use Rattle.ascii_line_reader.proofs.Parts.{sharp, no_channel, channel_takes}
use Rattle.ascii_line_reader.proofs.frame.channel_part.Goals as goal

pub returns-then-ends : goal.returns-then-ends
returns-then-ends c = λ f rest a v p. no_channel c.requires c.if-bytes-at-ne35.false (shown c.ends.result c.if-ends.true c.ends.ensures) a p

pub channel_number-requires : goal.channel_number-requires
channel_number-requires c =
    let n = refuted c.ends.result c.if-ends.false c.ends.ensures in
    record { lined = (sharp c.requires c.if-bytes-at-ne35.false).lined; solid = record { blank = λ e. n (inl e); end = λ e. n (inr e) } }

pub returns : goal.returns
returns c = channel_takes c.requires c.if-bytes-at-ne35.false c.channel_number.result c.channel_number.ensures
