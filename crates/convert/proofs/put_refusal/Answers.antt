-- `convert::put_refusal` meets its contract.
use Rattle.std.specs.Prelude.{Some}
use Prim.Native.Nat.{◌≤◌}
use mathlib.Core.Path.{refl, ap, ◌∙◌}
use native.Mathlib.Nat.{zero-add}
use native.Mathlib.Omega.{arith}
use lib.ListN.{length}
use Rattle.convert.specs.inner.Page.{put, no_room}
use Rattle.digits.proofs.House.{word_few}
use Rattle.base.proofs.Lists.{then, at_start}
use Rattle.convert.specs.Promise.{refusal_text}
use Rattle.convert.proofs.Texts.{refusal, refusal_length}
use Rattle.convert.proofs.put_refusal.Goals as goal

pub overflow_add-size : goal.overflow_add-size
overflow_add-size c = omega (arith, word_few c.number-number.result (omega arith), word_few c.args.refused.place (omega arith))

pub overflow_add-size-2 : goal.overflow_add-size-2
overflow_add-size-2 c = omega (arith, word_few c.number-number.result (omega arith), word_few c.args.refused.place (omega arith))

pub returns-then-page-size : goal.returns-then-page-size
returns-then-page-size c = rw (← c.number-number.ensures) (no_room (omega (arith, refusal_length c.number-number.result c.args.refused.place)) refl refl)

pub returns : goal.returns
returns c =
    let number = c.number-number.result in
    let place = c.args.refused.place in
    let o = then c.put_text-s.ensures (then c.put_decimal-t.ensures c.put_text.ensures) in
    let w = rw (← (refusal number place)) at (then c.put_text-p.ensures (then c.put_decimal-q.ensures o)) in
    let l : length (refusal_text number place) ≤ length c.args.page.now = omega (arith, refusal_length number place) in
    rw (← c.number-number.ensures) (put l (ap Some (w.next ∙ zero-add (length (refusal_text number place)))) (at_start w l))
