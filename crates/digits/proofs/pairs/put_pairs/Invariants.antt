-- `digits::put_pairs` puts one byte more in each turn.
use Prim.Native.Nat.{◌+◌, ◌*◌, ◌^◌}
use mathlib.Core.Path.{◌≡◌}
use lib.ListN.{length}
use Rattle.base.specs.Spaced.{spaced}
use Rattle.base.specs.inner.Wrote.{Wrote}
use Rattle.digits.specs.declared.Letters.{Letters}
use Rattle.digits.specs.House.{byte_texts}
use Rattle.digits.specs.inner.Pairs.{PairsOf}
use Rattle.digits.proofs.pairs.put_pairs.Given as goal

abbrev pub invariant-loop-j : goal.invariant-loop-j
invariant-loop-j l = (length l.out ≡ length l.initial.out) × (l.p ≡ l.at + 3 * l.j)
    × ((x : Letters) → PairsOf x l.table → Wrote l.initial.out l.out l.at l.p (spaced (byte_texts x (256 ^ 7) l.j l.word)))
