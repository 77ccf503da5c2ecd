-- `stages::head::offset` takes the offset off; the bus is next, or 0 where the version has none.
use mathlib.Core.Path.{refl, sym, ◌∙◌}
use Rattle.row.proofs.Moves.{refused}
use Rattle.row.proofs.Columns.{after_offset, offset_went, offset_bus_went}
use Rattle.row.proofs.EachVersion.{digits_known}
use Rattle.stages.proofs.head.offset.Goals as goal

pub offset_field-requires : goal.offset_field-requires
offset_field-requires c = (c.requires.0, rw c.fraction_digits.ensures (digits_known c.args.version))

pub returns-in_err-s : goal.returns-in_err-s
returns-in_err-s c =
    let f = rw c.fraction_digits.ensures at c.in_err-s.ensures in
    rw c.from_residual.ensures (refused f (λ f fs r h. (r.offset, (after_offset h).0)))

pub returns-then-has_bus : goal.returns-then-has_bus
returns-then-has_bus c =
    let g = rw c.fraction_digits.ensures at c.in_ok-s.ensures in
    rw c.known.ensures (offset_bus_went c.args.p c.requires.1.0 g (sym c.has_bus.ensures ∙ c.if-has_bus.true) _ refl c.requires.1.1)

pub returns : goal.returns
returns c =
    let g = rw c.fraction_digits.ensures at c.in_ok-s.ensures in
    rw c.known-2.ensures (offset_went c.args.p c.requires.1.0 g (sym c.has_bus.ensures ∙ c.if-has_bus.false) _ refl refl c.requires.1.1)
