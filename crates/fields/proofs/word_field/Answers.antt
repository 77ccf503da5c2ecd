-- `fields::word_field` keeps: the bytes passed are capitals.
use mathlib.Core.Logic.{⊎_elim}
use native.Mathlib.Omega.{arith}
use Rattle.fields.proofs.FixedFields.{is_solid, no_capitals, behind, more_capitals, no_word, a_word, word_end}
use Rattle.fields.proofs.word_field.Goals as goal

pub loop-i-init : goal.loop-i-init
loop-i-init c = no_capitals c.requires

pub returns-then-ends : goal.returns-then-ends
returns-then-ends c =
    let l = c.loop-i.invariant in
    record { field = _; there = a_word l c.requires c.if-ends.ensures; place = word_end l; has = l.all }

pub returns-then-b-lt65 : goal.returns-then-b-lt65
returns-then-b-lt65 c =
    λ f rest a v p.
    no_word c.loop-i.invariant (is_solid c.ends.result c.ends.ensures c.if-ends.false)
    (λ q. ⊎_elim (λ h. omega arith) (λ h. omega arith) c.then-b-lt65.either) a p

pub loop-i-preserved : goal.loop-i-preserved
loop-i-preserved c = more_capitals c.loop-i.invariant c.if-b-lt65.false c.if-b-gt90.false

pub unreachable-requires : goal.unreachable-requires
unreachable-requires c = omega (arith, behind c.loop-i.invariant)
