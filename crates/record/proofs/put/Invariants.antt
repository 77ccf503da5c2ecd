-- `record::put` meets its contract: the bytes before those that were put are those of the rest.
use Rattle.std.proofs.Common.{◌≡◌}
use Rattle.std.proofs.lemmas.List.Edits.{sets}
use Rattle.record.specs.Bytes.{bytes}
use Rattle.record.proofs.put.Given as goal

abbrev pub invariant-loop-i : goal.invariant-loop-i
invariant-loop-i g l = sets l.out l.at (bytes l.i l.rest) ≡ sets l.fn.out l.at (bytes g.row.N l.n)
