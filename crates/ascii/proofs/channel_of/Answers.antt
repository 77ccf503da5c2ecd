-- `ascii::channel_of` meets its contract.
use mathlib.Core.Path.{sym}
use Rattle.ascii.proofs.Channels.{given_channel, own_channel}
use Rattle.ascii.proofs.channel_of.Goals as goal

pub returns-then-bus-eq0 : goal.returns-then-bus-eq0
returns-then-bus-eq0 c = sym (given_channel c.args.channel c.args.bus c.if-bus-eq0.true)

pub returns : goal.returns
returns c = sym (own_channel c.args.channel c.args.bus c.if-bus-eq0.false)
