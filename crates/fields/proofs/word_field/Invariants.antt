-- `fields::word_field` keeps: the bytes passed are capitals.
use Rattle.fields.proofs.FixedFields.{Capitals}
use Rattle.fields.proofs.word_field.Given as goal

abbrev pub invariant-loop-i : goal.invariant-loop-i
invariant-loop-i l = Capitals l.w l.at l.i
