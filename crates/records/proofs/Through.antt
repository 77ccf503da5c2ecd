-- What a pass that judges keeps: the records up to `at` are well formed, with true marks, and `last` is the offset of the last of them.
use Prim.Native.Nat.{ℕ, ◌+◌, ◌*◌, ◌≤◌, ◌<◌}
use mathlib.Core.Path.{◌≡◌, refl, ap, sym, ◌∙◌}
use mathlib.Core.List.{List, [], ◌∷◌, ◌++◌, append_assoc, append-nil}
use native.Mathlib.Omega.{arith}
use lib.ListN.{length, take, drop, length-append, drop_of_length-le}
use Rattle.record.specs.declared.Record.{Record}
use Rattle.record.specs.Record.{WellFormed, Packs}
use Rattle.records.specs.Records.{mark_after, last_offset, packed, packed_limit, Each, none, Whole, PacksAll, FirstMalformed}
use Rattle.records.proofs.Lists.{each_snoc}
use Rattle.records.proofs.Records.{malformed_at}
use Rattle.records.proofs.Packing.{last_more, packed_more, packed_none, twenty, next_record}

pub record Through (s : List ℕ) (at k last : ℕ) : Type 0 where
  pub records : List Record
  pub front : s ≡ packed records ++ drop at s
  pub formed : Each WellFormed records
  pub counted : k ≡ length records
  pub latest : last ≡ last_offset records
  pub place : at ≡ 20 * k
  pub within : at ≤ length s

-- The twenty bytes at a place are this record, with the mark that it has after the offset `last`.
abbrev pub NextIs : List ℕ → ℕ → ℕ → Record → Type 0
NextIs s at last r = Packs r (mark_after last r.offset) (take 20 (drop at s))

abbrev pub through : (s : List ℕ) → Through s 0 0 0
through s = record { records = []; front = rw packed_none; formed = none; counted = refl; latest = refl; place = refl; within = omega arith }

module _ {s : List ℕ} {at k last : ℕ} (m : Through s at k last) where
  -- Another record is there, and within the limit.
  pub one_more : Whole s → at < length s → (at + 20 ≤ length s) × (20 * (k + 1) ≤ packed_limit)
  one_more w h =
      let p = m.place in
      let a = w.twenties in
      let b = w.few in
      (omega arith, omega arith)

  pub behind : s ≡ packed m.records ++ (take 20 (drop at s) ++ drop (at + 20) s)
  behind = m.front ∙ ap (λ (x : List ℕ). packed m.records ++ x) (next_record at s)

  -- It is malformed, and the first such,
  pub malformed_next : at + 20 ≤ length s → ((r : Record) → NextIs s at last r → ⊥) → FirstMalformed s (k + 1)
  malformed_next h f = rw m.counted (malformed_at (drop (at + 20) s) behind m.formed (twenty at s h) (rw m.latest at f))

  -- or it is one record more.
  abbrev pub through_more : {r : Record} → at + 20 ≤ length s → NextIs s at last r → Through s (at + 20) (k + 1) r.offset
  through_more {r} h p = record {
    records = m.records ++ (r ∷ []);
    front =
        behind
        ∙ sym (append_assoc (packed m.records) (take 20 (drop at s)) (drop (at + 20) s))
        ∙ ap (λ (x : List ℕ). x ++ drop (at + 20) s)
        (ap (λ (x : List ℕ). packed m.records ++ x) (rw m.latest at p.packed) ∙ sym (packed_more m.records r));
    formed = each_snoc m.formed p.formed;
    counted = omega (arith, m.counted, length-append m.records (r ∷ []));
    latest = sym (last_more m.records r);
    place = omega (arith, m.place);
    within = h;
  }

  pub all_through : length s ≤ at → PacksAll m.records s
  all_through h = record {
    formed = m.formed;
    bytes = m.front ∙ ap (λ (x : List ℕ). packed m.records ++ x) (drop_of_length-le s h) ∙ append-nil (packed m.records);
  }
