-- `row_reader::error::field_error_id` takes an error frame's ID.
use Rattle.row_reader.proofs.Chain.{link, next, stop}
use Rattle.row_reader.proofs.Columns.{error_id_off, error_id_none, error_id_on}
use Rattle.row_reader.proofs.error.field_error_id.Goals.{then-s-at-ne4-via-then-s-at-ne4, then-s-at-ne4-via-else-s-at-ne4+then-not-error_id}
use Rattle.row_reader.proofs.error.field_error_id.Goals as goal

pub returns-in_default : goal.returns-in_default
returns-in_default c = stop (error_id_off c.requires.1 c.in_default.ensures) c.requires.0

pub returns-then-s-at-ne4 : goal.returns-then-s-at-ne4
returns-then-s-at-ne4 c =
    elim c.then-s-at-ne4.branch [
      | then-s-at-ne4-via-then-s-at-ne4 w ↦ stop (error_id_none c.requires.1 c.in-Some.ensures (λ e v. w.if-s-at-ne4.true e)) c.requires.0
      | then-s-at-ne4-via-else-s-at-ne4+then-not-error_id w ↦ stop (error_id_none c.requires.1 c.in-Some.ensures (λ e. w.if-not-error_id.ensures)) c.requires.0
    ]

pub gap_error_length-requires : goal.gap_error_length-requires
gap_error_length-requires c = let t = c.in-Some.ensures in next (error_id_on c.requires.1 t c.if-s-at-ne4.false c.if-not-error_id.ensures) c.requires.0

pub returns : goal.returns
returns c = let t = c.in-Some.ensures in link (error_id_on c.requires.1 t c.if-s-at-ne4.false c.if-not-error_id.ensures) c.gap_error_length.ensures
