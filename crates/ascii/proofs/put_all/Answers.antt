-- `ascii::put_all` measures, sees whether there is room, and writes.
use Prim.Native.Nat.{ℕ, ◌≤◌}
use mathlib.Core.Path.{◌≡◌, refl, ap}
use native.Mathlib.Omega.{arith}
use lib.ListN.{length}
use Rattle.std.proofs.lemmas.Result.{err_from_is_err_and}
use Rattle.base.proofs.Lists.{at_start}
use Rattle.ascii.specs.Promise.{export_done, export_refused, refused, no_room, done, malformed}
use Rattle.ascii.proofs.Answers.{numbered}
use Rattle.ascii.proofs.put_all.Goals as goal

-- Three counts of an answer.
counts : {a b c x y z : ℕ} → a ≡ x → b ≡ y → c ≡ z → export_done a b c ≡ export_done x y z
counts e d f = cc

pub returns-in_err-measured : goal.returns-in_err-measured
returns-in_err-measured c =
    let p = err_from_is_err_and c.from_residual.result c.from_residual.ensures.1 in
    let d = c.in_err-measured.field-0.0 in
    let f = c.in_err-measured.ensures in
    let e = c.requires in
    rw (p.1, p.2)
    (record {
      export_promise = refused (malformed e.0 e.1 e.2 f.1) (ap (λ (n : ℕ). export_refused n d.place) f.0) refl;
      numbered = numbered _;
    })

pub returns-then-out-measured : goal.returns-then-out-measured
returns-then-out-measured c =
    let g = c.in_ok-measured.ensures in
    let e = c.requires in
    let x = g.2 c.args.start in
    rw c.whole.ensures
    (record {
      export_promise = no_room (record { whole = e.0; limit = e.1; is_channel = e.2; packs = g.1; exports = x.1 }) (omega (arith, x.2, c.if-out-measured.true)) refl refl;
      numbered = numbered _;
    })

pub put_lines-requires : goal.put_lines-requires
put_lines-requires c =
    let g = c.in_ok-measured.ensures in
    let x = g.2 c.args.start in
    (record { records = g.0; packs = g.1; text = x.0; exports = x.1; room = omega (arith, x.2, c.if-out-measured.false) }, c.requires.1)

pub returns : goal.returns
returns c =
    let g = c.in_ok-measured.ensures in
    let e = c.requires in
    let x = g.2 c.args.start in
    let l : length x.0 ≤ length c.args.out.now = omega (arith, x.2, c.if-out-measured.false) in
    record {
      export_promise = done (record { whole = e.0; limit = e.1; is_channel = e.2; packs = g.1; exports = x.1 }) l (counts x.2 g.3 g.4)
          (at_start (c.put_lines.ensures.lines g.0 x.0 g.1 x.1).1 l);
      numbered = numbered _;
    }
