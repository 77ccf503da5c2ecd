-- `record::words_at` meets its contract.
use Prim.Native.Nat.{ℕ, ◌+◌}
use mathlib.Core.Path.{◌∙◌}
use native.Mathlib.Omega.{arith}
use Rattle.record.proofs.Bytes.{read4, read8}
use Rattle.record.proofs.Words.{read_words}
use Rattle.record.proofs.words_at.Goals as goal

pub returns : goal.returns
returns c =
    let s = c.args.s.now in
    let at = c.args.at in
    let f = λ (i : ℕ). (c.type_inv.s i).fits in
    let x = rw c.unwrap.ensures at c.try_into.ensures.1 in
    let y = rw c.unwrap-2.ensures at c.try_into-2.ensures.1 in
    let z = rw c.unwrap-3.ensures at c.try_into-3.ensures.1 in
    record {
      are =
          read_words s at _ _ _ (omega arith) (omega arith)
          (read4 s f at _ _ c.from.result _ x.same (omega arith) (omega arith) (omega arith) (c.from.ensures ∙ c.from_be_bytes-h.ensures))
          (read8 s f (at + 4) _ _ c.from_be_bytes-m.result _ y.same (omega arith) (omega arith) (omega arith) c.from_be_bytes-m.ensures)
          (read8 s f (at + 12) _ _ c.from_be_bytes-l.result _ z.same (omega arith) (omega arith) (omega arith) c.from_be_bytes-l.ensures);
      high = omega arith;
      middle = omega arith;
      low = omega arith;
    }
