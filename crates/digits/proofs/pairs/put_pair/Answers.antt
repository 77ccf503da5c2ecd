-- `digits::put_pair` puts what the table has for the byte.
use Rattle.digits.proofs.ByteTexts.{paired}
use Rattle.digits.proofs.pairs.put_pair.Goals as goal

pub returns-clause-wrote : goal.returns-clause-wrote
returns-clause-wrote c = λ x q. rw (paired c.args.b c.requires.0 q) c.put_three.ensures
