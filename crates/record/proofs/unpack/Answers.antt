-- `record::unpack` meets its contract.
use mathlib.Core.Path.{refl, sym, ◌∙◌, ap}
use native.Mathlib.Omega.{arith}
use lib.Seq.{take_all}
use Rattle.record.specs.Bytes.{bytes}
use Rattle.record.specs.Promise.{UnpackPromise}
use Rattle.base.proofs.Tests.{shown, refuted}
use Rattle.record.proofs.Words.{widths_of, words_lt}
use Rattle.record.proofs.OneRecord.{spare, only}
use Rattle.record.proofs.unpack.Goals as goal

pub returns-then-l-ne0 : goal.returns-then-l-ne0
returns-then-l-ne0 c =
    let w = c.words_at-h.ensures in
    let s = sym (take_all 20 c.args.s.now (omega arith)) ∙ w.are in
    UnpackPromise.malformed (omega arith)
    (λ t m p. c.if-l-ne0.true (omega (arith, spare _ c.words_at-h.result.2 (words_lt w) s p)))
    (rw c.at.ensures)

pub returns-then-not-well_formed : goal.returns-then-not-well_formed
returns-then-not-well_formed c =
    let w = c.words_at-h.ensures in
    let s = sym (take_all 20 c.args.s.now (omega arith)) ∙ w.are in
    let f = c.well_formed-2 in
    let b = widths_of c.record_of-r.ensures.offset_bound in
    UnpackPromise.malformed (omega arith)
    (λ t m p. refuted f.result c.if-not-well_formed.true f.ensures (rw (only (words_lt w) s b (omega arith) c.record_of-r.ensures.l_value p).0 at p.formed))
    (rw c.at-then-not-well_formed.ensures)

pub returns : goal.returns
returns c =
    let w = c.words_at-h.ensures in
    let s = sym (take_all 20 c.args.s.now (omega arith)) ∙ w.are in
    let f = c.well_formed-2 in
    UnpackPromise.fields
    (record { formed = shown f.result c.if-not-well_formed.false f.ensures; bit = omega arith; packed = s ∙ ap (bytes 20) (sym c.record_of-r.ensures.l_value) })
    refl
