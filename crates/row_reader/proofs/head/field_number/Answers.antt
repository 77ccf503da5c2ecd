-- `row_reader::head::field_number` takes the row number that is asked for, and goes on at the offset.
use Rattle.row_reader.proofs.Chain.{link, next, stop}
use Rattle.row_reader.proofs.Columns.{number_off, number_none, number_on, no_version}
use Rattle.row_reader.proofs.head.field_number.Goals.{then-s-k-via-then-s-k, then-s-k-via-else-s-k+then-not-is_version}
use Rattle.row_reader.proofs.head.field_number.Goals as goal

pub returns-in_default : goal.returns-in_default
returns-in_default c = stop (number_off c.args.out.now c.in_default.ensures) c.requires

pub returns-then-s-k : goal.returns-then-s-k
returns-then-s-k c =
    elim c.then-s-k.branch [
      | then-s-k-via-then-s-k w ↦ stop (number_none c.args.out.now c.in-Some.ensures w.if-s-k.true) c.requires
      | then-s-k-via-else-s-k+then-not-is_version w ↦ no_version c.args.w.now c.args.at w.if-not-is_version.ensures
    ]

pub gap_offset-requires : goal.gap_offset-requires
gap_offset-requires c = let t = c.in-Some.ensures in next (number_on c.args.out.now t c.if-s-k.false c.if-not-is_version.ensures) c.requires

pub returns : goal.returns
returns c = let t = c.in-Some.ensures in link (number_on c.args.out.now t c.if-s-k.false c.if-not-is_version.ensures) c.gap_offset.ensures
