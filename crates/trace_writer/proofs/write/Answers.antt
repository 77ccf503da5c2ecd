-- `trace_writer::write` keeps its promise for every version, start, first number, bytes and output.
use mathlib.Core.Path.{refl}
use Rattle.base.proofs.Tests.{shown, refuted}
use Rattle.trace_writer.specs.Promise.{refused, no_records, no_version, late, no_number}
use Rattle.trace_writer.proofs.write.Goals as goal

pub returns-then-not-whole : goal.returns-then-not-whole
returns-then-not-whole c = rw c.whole-then-not-whole.ensures (refused (no_records (refuted c.whole.result c.if-not-whole.true c.whole.ensures)) refl refl)

pub returns-then-not-is_version : goal.returns-then-not-is_version
returns-then-not-is_version c =
    let w = shown c.whole.result c.if-not-whole.false c.whole.ensures in
    rw c.whole-then-not-is_version.ensures (refused (no_version w (refuted c.is_version.result c.if-not-is_version.true c.is_version.ensures)) refl refl)

pub returns-then-start-gt-START_LIMIT : goal.returns-then-start-gt-START_LIMIT
returns-then-start-gt-START_LIMIT c =
    let w = shown c.whole.result c.if-not-whole.false c.whole.ensures in
    let v = shown c.is_version.result c.if-not-is_version.false c.is_version.ensures in
    rw c.whole-then-start-gt-START_LIMIT.ensures (refused (late w v c.if-start-gt-START_LIMIT.true) refl refl)

pub returns-then-not-is_first : goal.returns-then-not-is_first
returns-then-not-is_first c =
    let w = shown c.whole.result c.if-not-whole.false c.whole.ensures in
    let v = shown c.is_version.result c.if-not-is_version.false c.is_version.ensures in
    let f = refuted c.is_first.result c.if-not-is_first.true c.is_first.ensures in
    rw c.whole-then-not-is_first.ensures (refused (no_number w v c.if-start-gt-START_LIMIT.false f) refl refl)
