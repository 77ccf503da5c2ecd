-- `ascii_reader::read_ascii` keeps its promise for every text and every output.
use Prim.Native.Nat.{ℕ}
use mathlib.Core.Path.{refl, ap}
use native.Mathlib.Omega.{arith}
use Rattle.std.proofs.lemmas.Result.{err_from_is_err_and}
use Rattle.ascii_reader.specs.Promise.{ascii_done, large, refused, many, no_room, done}
use Rattle.ascii_reader.proofs.Answers.{numbered}
use Rattle.ascii_reader.proofs.read_ascii.Goals as goal

pub returns-then-text-gt-SIZE_LIMIT : goal.returns-then-text-gt-SIZE_LIMIT
returns-then-text-gt-SIZE_LIMIT c =
    rw c.whole.ensures (record { read_ascii_promise = large c.if-text-gt-SIZE_LIMIT.true refl refl; numbered = numbered _ })

pub returns-in_err-read : goal.returns-in_err-read
returns-in_err-read c =
    let p = err_from_is_err_and c.from_residual.result c.from_residual.ensures.1 in
    rw (p.1, p.2)
    (record { read_ascii_promise = refused (omega (arith, c.if-text-gt-SIZE_LIMIT.false)) c.in_err-read.ensures refl refl; numbered = numbered _ })

pub returns-then-read-gt-LAST_NUMBER : goal.returns-then-read-gt-LAST_NUMBER
returns-then-read-gt-LAST_NUMBER c =
    let g = c.in_ok-read.ensures in
    rw c.whole-then-read-gt-LAST_NUMBER.ensures
    (record {
      read_ascii_promise = many (omega (arith, c.if-text-gt-SIZE_LIMIT.false)) g.1 (omega (arith, g.2, c.if-read-gt-LAST_NUMBER.true)) refl refl;
      numbered = numbered _;
    })

pub returns-then-out-read : goal.returns-then-out-read
returns-then-out-read c =
    let g = c.in_ok-read.ensures in
    rw c.whole-then-out-read.ensures
    (record {
      read_ascii_promise = no_room (omega (arith, c.if-text-gt-SIZE_LIMIT.false)) g.1 (omega (arith, g.2, c.if-read-gt-LAST_NUMBER.false)) (omega (arith, g.2, c.if-out-read.true)) refl refl;
      numbered = numbered _;
    })

pub fill-requires : goal.fill-requires
fill-requires c =
    let g = c.in_ok-read.ensures in
    record { records = g.0; spelled = g.1; room = omega (arith, g.2, c.if-out-read.false) }

pub returns : goal.returns
returns c =
    let g = c.in_ok-read.ensures in
    record {
      read_ascii_promise =
          done (omega (arith, c.if-text-gt-SIZE_LIMIT.false)) g.1 (omega (arith, g.2, c.if-read-gt-LAST_NUMBER.false)) (omega (arith, g.2, c.if-out-read.false))
          (ap (λ (n : ℕ). ascii_done c.in_ok-read.read.start n) g.2) (c.fill.ensures.bytes _ _ g.1);
      numbered = numbered _;
    }
