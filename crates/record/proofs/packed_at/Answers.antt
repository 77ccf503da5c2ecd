-- `record::packed_at` meets its contract.
use native.Mathlib.Omega.{arith}
use Rattle.record.proofs.Words.{widths_of, words_lt}
use Rattle.record.proofs.OneRecord.{packed_within, spare, only}
use Rattle.record.proofs.packed_at.Goals as goal

pub words_at-h-requires : goal.words_at-h-requires
words_at-h-requires c = packed_within c.args.at c.args.s.now c.requires.1.packs

pub record_of-requires : goal.record_of-requires
record_of-requires c =
    let w = c.words_at-h.ensures in
    (w.high, spare _ c.words_at-h.result.2 (words_lt w) w.are c.requires.1.packs)

pub returns : goal.returns
returns c =
    let h = c.requires.1 in
    let w = c.words_at-h.ensures in
    let z = only (words_lt w) w.are (widths_of c.record_of.ensures.offset_bound) (omega arith) c.record_of.ensures.l_value h.packs in
    record { mark = h.mark; packs = rw z.0 at h.packs }
