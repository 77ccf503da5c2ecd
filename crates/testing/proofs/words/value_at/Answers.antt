-- `testing::words::value_at` reads the word that begins at a place.
use Rattle.testing.proofs.Cutting.{cut_from}
use Rattle.testing.proofs.words.value_at.Goals as goal

pub returns : goal.returns
returns c = rw (cut_from c.find-end.ensures).0 at c.value.ensures
