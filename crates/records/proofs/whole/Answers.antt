-- `records::whole` decides.
use Rattle.std.proofs.Common.{ℕ, ◌≤◌, length, nat_le, arith, rules}
use Rattle.base.specs.inner.Decides.{Decides}
use Rattle.base.proofs.Tests.{same_test}
use Rattle.records.specs.declared.TheConstants.{PACKED_LIMIT}
use Rattle.records.proofs.whole.Goals as goal

at_most : (m n : ℕ) → Decides (m ≤ n) (nat_le m n)
at_most m n = search rules

pub returns-then-records-eq0 : goal.returns-then-records-eq0
returns-then-records-eq0 c =
    let n = length c.args.records.now in
    same_test (nat_le n PACKED_LIMIT) (λ h. record { twenties = omega arith; few = omega arith }) (λ w. let f = w.few in omega arith)
    (at_most n PACKED_LIMIT)
