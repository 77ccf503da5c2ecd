-- `Pairs::put` puts bytes from its own table.
use Rattle.digits.proofs.pairs.Pairs.put.Goals as goal

pub returns : goal.returns
returns c = c.put_pairs.ensures _ c.args.self.now.pairs
