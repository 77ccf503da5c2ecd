-- `day_of` meets its contract: no date lies before 1899, and up to the last day none after 2173.
use native.Mathlib.Omega.{arith}
use Rattle.std.proofs.lemmas.Grind.{common_steps}
use Rattle.clock.proofs.Dates.{last_year}
use Rattle.clock.proofs.day_of.Goals as goal
use Rattle.clock.proofs.day_of.Goals.{then-not-contains-via-then-not-contains, then-not-contains-via-else-not-contains+then-not-contains-2}

pub returns-then-not-contains : goal.returns-then-not-contains
returns-then-not-contains c m w =
    let l = last_year w.within w.day in
    elim c.then-not-contains.branch [
      | then-not-contains-via-then-not-contains v ↦ grind (arith, common_steps)
      | then-not-contains-via-else-not-contains+then-not-contains-2 v ↦ grind (arith, common_steps)
    ]
