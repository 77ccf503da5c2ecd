-- What a pass that writes keeps: the records that the bytes are, those up to `at` and those ahead.
use Prim.Native.Nat.{ℕ, ◌+◌, ◌%◌, ◌≤◌, ◌<◌}
use mathlib.Core.Path.{◌≡◌, refl, ap, sym, ◌∙◌}
use mathlib.Core.List.{List, [], ◌∷◌, ◌++◌, append_assoc, append-nil}
use native.Mathlib.Omega.{arith}
use lib.ListN.{length, drop, length-drop}
use lib.Seq.{drop-drop}
use Rattle.record.specs.declared.Record.{Record}
use Rattle.record.specs.Record.{WellFormed}
use Rattle.record.specs.inner.PackedAt.{PackedAt}
use Rattle.record.proofs.OneRecord.{one_record}
use Rattle.records.specs.Records.{last_offset, packed_after, Each, more, PacksAll}
use Rattle.records.proofs.Lists.{each_tail}
use Rattle.records.proofs.Packing.{last_more, marked_packs, packed_length, after_length, first_packed, rest_packed}
use Rattle.records.proofs.Records.{packs_all_one}

pub record Ahead (s : List ℕ) (at : ℕ) : Type 0 where
  pub before : List Record
  pub after : List Record
  pub whole : PacksAll (before ++ after) s
  pub formed : Each WellFormed after
  pub rest : drop at s ≡ packed_after (last_offset before) after

abbrev pub ahead : {rs : List Record} {s : List ℕ} → PacksAll rs s → Ahead s 0
ahead {rs} h = record { before = []; after = rs; whole = h; formed = h.formed; rest = h.bytes }

-- The record at the place is the first of those ahead.
pub next_of : {r : Record} (b at : ℕ) (s : List ℕ) (rs : List Record) → at < length s → drop at s ≡ packed_after b rs → Each WellFormed rs
    → PackedAt s at r → (qs : List Record) × (rs ≡ r ∷ qs) × (drop (at + 20) s ≡ packed_after r.offset qs)
next_of b at s [] h e w p = absurd (omega (arith, length-drop at s, ap length e, after_length b []))
next_of {r} b at s (q ∷ qs) h e (more x w) p =
    let d : q ≡ r = one_record (marked_packs b x) (rw (e, first_packed b q qs) at p.packs) in
    let f = sym (drop-drop 20 at s) ∙ ap (drop 20) e ∙ rest_packed b q qs in
    (qs, ap (λ (y : Record). y ∷ qs) d, f ∙ ap (λ (y : Record). packed_after y.offset qs) d)

module _ {s : List ℕ} {at : ℕ} (f : Ahead s at) where
  module _ {r : Record} (h : at < length s) (b : PackedAt s at r) where
    abbrev next : (qs : List Record) × (f.after ≡ r ∷ qs) × (drop (at + 20) s ≡ packed_after r.offset qs)
    next = next_of (last_offset f.before) at s f.after h f.rest f.formed b

    abbrev pub later : List Record
    later = next.0

    pub after_next : f.after ≡ r ∷ later
    after_next = next.1

    abbrev pub ahead_more : Ahead s (at + 20)
    ahead_more = record {
      before = f.before ++ (r ∷ []);
      after = later;
      whole = rw append_assoc (rw after_next at f.whole);
      formed = each_tail (rw after_next at f.formed);
      rest = rw last_more next.2;
    }

  -- The record at the place is whole, and the place a multiple of twenty.
  pub next_whole : at < length s → at + 20 ≤ length s
  next_whole h = omega (arith, length-drop at s, ap length f.rest, after_length (last_offset f.before) f.after)

  pub next_place : at < length s → at % 20 ≡ 0
  next_place h =
      omega
      (arith, length-drop at s, ap length f.rest, after_length (last_offset f.before) f.after, ap length f.whole.bytes, packed_length (f.before ++ f.after))

  -- At the end none is ahead.
  pub none_ahead : length s ≤ at → f.after ≡ []
  none_ahead h = go f.after f.rest
    where
      go : (rs : List Record) → drop at s ≡ packed_after (last_offset f.before) rs → rs ≡ []
      go [] e = refl
      go (q ∷ qs) e = absurd (omega (arith, length-drop at s, ap length e, after_length (last_offset f.before) (q ∷ qs)))

  pub all_behind : {rs : List Record} → length s ≤ at → PacksAll rs s → rs ≡ f.before
  all_behind h g = packs_all_one g f.whole ∙ ap (λ (x : List Record). f.before ++ x) (none_ahead h) ∙ append-nil f.before
