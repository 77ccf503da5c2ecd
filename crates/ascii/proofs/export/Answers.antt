-- `ascii::export` keeps its promise for every start, bytes and output.
use mathlib.Core.Path.{refl}
use Rattle.base.proofs.Tests.{shown, refuted}
use Rattle.ascii.specs.Promise.{refused, no_records, late, no_channel}
use Rattle.ascii.proofs.Answers.{numbered}
use Rattle.ascii.proofs.export.Goals as goal

pub returns-then-not-whole : goal.returns-then-not-whole
returns-then-not-whole c =
    rw c.whole-then-not-whole.ensures
    (record { export_promise = refused (no_records (refuted c.whole.result c.if-not-whole.true c.whole.ensures)) refl refl; numbered = numbered _ })

pub returns-then-start-gt-START_LIMIT : goal.returns-then-start-gt-START_LIMIT
returns-then-start-gt-START_LIMIT c =
    rw c.whole-then-start-gt-START_LIMIT.ensures
    (record { export_promise = refused (late (shown c.whole.result c.if-not-whole.false c.whole.ensures) c.if-start-gt-START_LIMIT.true) refl refl; numbered = numbered _ })

pub returns-then-channel-gt-LAST_BUS : goal.returns-then-channel-gt-LAST_BUS
returns-then-channel-gt-LAST_BUS c =
    rw c.whole-then-channel-gt-LAST_BUS.ensures
    (record {
      export_promise = refused (no_channel (shown c.whole.result c.if-not-whole.false c.whole.ensures) c.if-start-gt-START_LIMIT.false c.if-channel-gt-LAST_BUS.true) refl refl;
      numbered = numbered _;
    })
