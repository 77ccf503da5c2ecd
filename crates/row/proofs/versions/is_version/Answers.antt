-- `row::versions::is_version` decides.
use lib.Dec.{eqb}
use Rattle.base.proofs.Tests.{same_test, equal}
use Rattle.row.proofs.EachVersion.{version_11, version_12, other_version}
use Rattle.row.proofs.versions.is_version.Goals as goal

pub returns-then-version-eq11 : goal.returns-then-version-eq11
returns-then-version-eq11 c = let v = c.args.version in same_test (eqb v 11) version_11 (λ h. c.if-version-eq11.true) (equal v 11)

pub returns-else-version-eq11 : goal.returns-else-version-eq11
returns-else-version-eq11 c =
    let v = c.args.version in same_test (eqb v 12) version_12 (other_version c.if-version-eq11.false) (equal v 12)
