-- `row_reader::warning::field_warning_id` takes the eight F of a warning.
use Rattle.row_reader.proofs.Chain.{link, next, stop}
use Rattle.row_reader.proofs.Columns.{warning_id_off, warning_id_none, warning_id_on}
use Rattle.row_reader.proofs.warning.field_warning_id.Goals.{then-s-at-ne8-via-then-s-at-ne8, then-s-at-ne8-via-else-s-at-ne8+then-s-ne4294967295}
use Rattle.row_reader.proofs.warning.field_warning_id.Goals as goal

pub returns-in_default : goal.returns-in_default
returns-in_default c = stop (warning_id_off c.requires.1 c.in_default.ensures) c.requires.0

pub returns-then-s-at-ne8 : goal.returns-then-s-at-ne8
returns-then-s-at-ne8 c =
    elim c.then-s-at-ne8.branch [
      | then-s-at-ne8-via-then-s-at-ne8 w ↦ stop (warning_id_none c.requires.1 c.in-Some.ensures (λ e v. w.if-s-at-ne8.true e)) c.requires.0
      | then-s-at-ne8-via-else-s-at-ne8+then-s-ne4294967295 w ↦ stop (warning_id_none c.requires.1 c.in-Some.ensures (λ e v. w.if-s-ne4294967295.true v)) c.requires.0
    ]

pub gap_warning_length-requires : goal.gap_warning_length-requires
gap_warning_length-requires c = let t = c.in-Some.ensures in next (warning_id_on c.requires.1 t c.if-s-at-ne8.false c.if-s-ne4294967295.false) c.requires.0

pub returns : goal.returns
returns c = let t = c.in-Some.ensures in link (warning_id_on c.requires.1 t c.if-s-at-ne8.false c.if-s-ne4294967295.false) c.gap_warning_length.ensures
