-- Wrong answers of `read_ascii`: each is refuted over its promise, for every text and every output to which it applies.
use Prim.Native.Nat.{ℕ, ◌+◌, ◌*◌, ◌-◌, ◌/◌, ◌%◌, ◌≤◌, ◌<◌}
use mathlib.Core.Path.{◌≡◌, refl, ap, sym, ◌∙◌}
use mathlib.Core.Logic.{◌≢◌, ◌⊎◌, inl, inr, ⊎_elim}
use mathlib.Core.List.{List, [], ◌∷◌, ◌++◌}
use native.Mathlib.Omega.{arith}
use lib.ListN.{length, take, drop}
use lib.Seq.{take_at}
use Rattle.base.specs.Text.{cr, lf}
use Rattle.base.proofs.Numbers.{below_or_not}
use Rattle.clock.specs.declared.DateTime.{DateTime}
use Rattle.record.specs.declared.Record.{Record}
use Rattle.record.specs.Record.{WellFormed}
use Rattle.records.specs.Records.{Each, packed, PacksAll}
use Rattle.records.specs.Records as records
use Rattle.records.proofs.Packing.{packed_length}
use Rattle.records.proofs.Records.{packs_all_one}
use Rattle.fields.specs.Columns.{last_number}
use Rattle.fields.specs.Runs.{All, Stops, halt}
use Rattle.fields.proofs.Runs.{cut}
use Rattle.lines.specs.Lines.{line_limit, Inside}
use Rattle.lines.proofs.Lines.{cr_outside, lf_outside}
use Rattle.trace.specs.Trace.{size_limit}
use Rattle.ascii_line_reader.specs.AsciiLine.{with_offset, instant, AsciiLine}
use Rattle.ascii_line_reader.proofs.Theorems.{line_one, line_formed, line_moved}
use Rattle.ascii_reader.specs.Text.{EndedLine, Lines, FirstStart, no_lines, SpellsAscii}
use Rattle.ascii_reader.specs.Text
use Rattle.ascii_reader.specs.Promise.{ReadUpTo, NextStamp, AsciiRefusedAt, ReadAsciiPromise, large, refused, many, no_room, done}
use Rattle.ascii_reader.specs.Promise
use Rattle.ascii_reader.proofs.Answers.{one_read_ascii}
use Rattle.ascii_reader.proofs.Back.{all_formed}
use Rattle.ascii_reader.proofs.Ends.{LineEnd, closed_one, ended_one, ended_none, end_some}
use Rattle.ascii_reader.proofs.Exactly.{number_0, accepted, accepts}
use Rattle.ascii_reader.proofs.One.{one_result}
use Rattle.ascii_reader.proofs.Stops.{not_refused, refused_numbers}

module _ {text before after : List ℕ} where
  -- another number than 1 for a text that is too long
  pub size_first : {m : ℕ} {s : List ℕ} → size_limit < length text → m ≢ 1 → ReadAsciiPromise text before (m ∷ s) after → ⊥
  size_first h d p = let e = (one_read_ascii p (large h refl refl)).0 in d (cc)

  -- A refusal gives number and place, zeros for all else, and the output as it was.
  module _ {m p b n : ℕ} where
    quiet : m ≢ 0 → ReadAsciiPromise text before (m ∷ p ∷ b ∷ n ∷ []) after → (b ≡ 0) × (n ≡ 0) × (after ≡ before)
    quiet d (large h e q) = (cc, cc, q)
    quiet d (refused h f e q) = (cc, cc, q)
    quiet d (many h s l e q) = (cc, cc, q)
    quiet d (no_room h s l r e q) = (cc, cc, q)
    quiet d (done h s l r e q) = absurd (d (cc))

    -- the output touched with a refusal, or a start or records given with it
    pub touched : m ≢ 0 → after ≢ before → ReadAsciiPromise text before (m ∷ p ∷ b ∷ n ∷ []) after → ⊥
    touched d t r = t (quiet d r).2

    pub given_with_a_refusal : m ≢ 0 → 0 < b + n → ReadAsciiPromise text before (m ∷ p ∷ b ∷ n ∷ []) after → ⊥
    given_with_a_refusal d l r = let x = quiet d r in omega arith

  -- an answer for a text that spells nothing
  pub takes_bad : {s : List ℕ} → ((start : ℕ) (rs : List Record) → SpellsAscii start rs text → ⊥) → ReadAsciiPromise text before (0 ∷ s) after → ⊥
  takes_bad f p = let x = accepted p number_0 in f x.start x.records x.is

  -- A text that is stopped at a line: another number, another line, and 34 all the same
  module _ {n p : ℕ} (h : length text ≤ size_limit) (f : AsciiRefusedAt text n p) where
    pub another_number : {m : ℕ} {s : List ℕ} → m ≢ n → ReadAsciiPromise text before (m ∷ s) after → ⊥
    another_number d r = let e = (one_read_ascii r (refused h f refl refl)).0 in d (cc)

    pub another_line : {m q : ℕ} {s : List ℕ} → q ≢ p → ReadAsciiPromise text before (m ∷ q ∷ s) after → ⊥
    another_line d r = let e = (one_read_ascii r (refused h f refl refl)).0 in d (cc)

    pub many_first : {s : List ℕ} → ReadAsciiPromise text before (34 ∷ s) after → ⊥
    many_first = another_number (λ e. omega (arith, (refused_numbers f).1))

-- What is left of a text is no line for 31: it is no such line, too long, or not ended, as by CR alone.
pub data NoLine (rest : List ℕ) : Type 0 where
  not_such : {line behind : List ℕ} → EndedLine line behind rest → ((s : DateTime) (r : Record) → AsciiLine s r line → ⊥) → NoLine rest
  too_long : {line end : List ℕ} (behind : List ℕ) → All Inside line → LineEnd end → rest ≡ line ++ (end ++ behind) → line_limit < length line → NoLine rest
  unended : {line : List ℕ} (tail : List ℕ) → All Inside line → Stops Inside tail → rest ≡ line ++ tail → rest ≢ []
      → ((s : List ℕ) → tail ≡ cr ∷ lf ∷ s → ⊥) → ((s : List ℕ) → tail ≡ lf ∷ s → ⊥) → NoLine rest

none_next : {rest : List ℕ} {s : DateTime} → NoLine rest → NextStamp s rest → ⊥
none_next (not_such l f) x = f _ _ (rw (ended_one x.there l).0 at x.is)
none_next (too_long behind a e q h) x = let z = (closed_one a e q x.there).0 in omega (arith, x.there.short, ap length z)
none_next {rest} (unended {line = line} tail a t q n f g) x = go x.there.ended
  where
    go : (rest ≡ x.line ++ (cr ∷ lf ∷ x.after)) ⊎ (rest ≡ x.line ++ (lf ∷ x.after)) → ⊥
    go (inl e) = f x.after (cut a x.there.inside t (halt (cr_outside refl)) (sym q ∙ e)).1
    go (inr e) = g x.after (cut a x.there.inside t (halt (lf_outside refl)) (sym q ∙ e)).1

some_left : {rest : List ℕ} → NoLine rest → rest ≢ []
some_left (not_such l f) e = ended_none l e
some_left (too_long {line = line} behind a e q h) z = end_some line behind e (sym q ∙ z)
some_left (unended tail a t q n f g) e = n e

stopped : {text rest : List ℕ} {start : ℕ} {rs : List Record} → ReadUpTo start rs rest text → NoLine rest → AsciiRefusedAt text 31 (length rs + 1)
stopped u n = Promise.no_line u (some_left n) (λ s x. none_next n x)

module _ {text before after rest : List ℕ} {start : ℕ} {rs : List Record} (h : length text ≤ size_limit) (u : ReadUpTo start rs rest text) (n : NoLine rest) where
  -- After lines that spell something it gives 31 at its own line,
  pub bad_line : {a : List ℕ} → ReadAsciiPromise text before a after → a ≡ 31 ∷ (length rs + 1) ∷ 0 ∷ 0 ∷ []
  bad_line p = (one_read_ascii p (refused h (stopped u n) refl refl)).0

  -- and not 32
  pub thirty_two_for_31 : {s : List ℕ} → ReadAsciiPromise text before (32 ∷ s) after → ⊥
  thirty_two_for_31 = another_number h (stopped u n) (λ e. omega arith)

-- A text that spells a start and records.
module _ {text before after : List ℕ} {start : ℕ} {rs : List Record} (s : SpellsAscii start rs text) where
  module _ (h : length text ≤ size_limit) where
    -- refused with room for its records; and another number than 34 for more than 999,999 lines, as 8
    pub refuses_good : {m : ℕ} {ns : List ℕ} → length rs ≤ last_number → 20 * length rs ≤ length before → m ≢ 0 → ReadAsciiPromise text before (m ∷ ns) after → ⊥
    refuses_good l r d p = let e = (accepts h s l r p).0 in d (cc)

    pub many_missed : {m : ℕ} {ns : List ℕ} → last_number < length rs → m ≢ 34 → ReadAsciiPromise text before (m ∷ ns) after → ⊥
    many_missed l d p = let e = (one_read_ascii p (many h s l refl refl)).0 in d (cc)

    -- another number than 8 where there is no room; and 34 for no more than 999,999 lines
    pub no_room_missed : {m : ℕ} {ns : List ℕ} → length rs ≤ last_number → length before < 20 * length rs → m ≢ 8 → ReadAsciiPromise text before (m ∷ ns) after → ⊥
    no_room_missed l r d p = let e = (one_read_ascii p (no_room h s l r refl refl)).0 in d (cc)

    pub thirty_four_for_few : {ns : List ℕ} → length rs ≤ last_number → ReadAsciiPromise text before (34 ∷ ns) after → ⊥
    thirty_four_for_few l p =
        ⊎_elim (λ r. no_room_missed l r (λ e. omega arith) p) (λ r. refuses_good l r (λ e. omega arith) p) (below_or_not (length before) (20 * length rs))

  -- What is handed out is what it spells.
  handed : {p b n : ℕ} → ReadAsciiPromise text before (0 ∷ p ∷ b ∷ n ∷ []) after
      → (b ≡ start) × (n ≡ length rs) × (length rs ≤ last_number) × (after ≡ packed rs ++ drop (20 * length rs) before)
  handed (large h e q) = let z : ◌≡◌ {A = ℕ} 0 1 = cc in absurd (omega arith)
  handed (refused h f e q) = absurd (not_refused s f)
  handed (many h t l e q) = let z : ◌≡◌ {A = ℕ} 0 34 = cc in absurd (omega arith)
  handed (no_room h t l r e q) = let z : ◌≡◌ {A = ℕ} 0 8 = cc in absurd (omega arith)
  handed {n = n} (done {start = c} {rs = qs} h t l r e q) =
      let o = one_result t s in
      let i : n ≡ length qs = cc in
      let w = ap length o.1 in
      (cc o.0, i ∙ w, omega arith, q ∙ ap (λ (x : List Record). packed x ++ drop (20 * length x) before) o.1)

  -- another start, another count, another output, other records in it
  module _ {p b n : ℕ} where
    pub other_start : b ≢ start → ReadAsciiPromise text before (0 ∷ p ∷ b ∷ n ∷ []) after → ⊥
    other_start d r = d (handed r).0

    pub count_off : n ≢ length rs → ReadAsciiPromise text before (0 ∷ p ∷ b ∷ n ∷ []) after → ⊥
    count_off d r = d (handed r).1

    pub other_output : after ≢ packed rs ++ drop (20 * length rs) before → ReadAsciiPromise text before (0 ∷ p ∷ b ∷ n ∷ []) after → ⊥
    other_output d r = d (handed r).3

    pub other_records : {qs : List Record} → qs ≢ rs → PacksAll qs (take (20 * n) after) → ReadAsciiPromise text before (0 ∷ p ∷ b ∷ n ∷ []) after → ⊥
    other_records d k r =
        let x = handed r in
        let z : take (20 * n) after ≡ packed rs = rw (x.3, x.1) (take_at (packed rs) (drop (20 * length rs) before) (20 * length rs) (packed_length rs)) in
        d (packs_all_one k (record { formed = all_formed s.lines; bytes = z }))

-- The records with every offset lessened.
abbrev pub lessened : ℕ → List Record → List Record
lessened k [] = []
lessened k (r ∷ rs) = with_offset (r.offset - k) r ∷ lessened k rs

lessened_formed : {start : ℕ} {rs : List Record} {text : List ℕ} (k : ℕ) → Lines start rs text → Each WellFormed (lessened k rs)
lessened_formed k Text.over = records.none
lessened_formed k (Text.line {r = r} l a e h ls) = records.more (line_formed (line_moved (r.offset - k) a) (omega arith)) (lessened_formed k ls)

-- offsets from the first stamp, where it is past the start
pub offset_from_first_stamp : {text before after : List ℕ} {start p b n : ℕ} {r : Record} {rs : List Record} → SpellsAscii start (r ∷ rs) text → 0 < r.offset
    → take (20 * n) after ≡ packed (lessened r.offset (r ∷ rs)) → ReadAsciiPromise text before (0 ∷ p ∷ b ∷ n ∷ []) after → ⊥
offset_from_first_stamp {r = r} s h e = other_records s differ (record { formed = lessened_formed r.offset s.lines; bytes = e })
  where
    differ : {rs qs : List Record} → with_offset (r.offset - r.offset) r ∷ qs ≢ r ∷ rs
    differ q =
        let z : with_offset (r.offset - r.offset) r ≡ r = cc in
        omega (arith, ap (λ (x : Record). x.offset) z)

-- The start is the stamp of the first line, cut to the millisecond: not rounded.
cut_start : {text before after l rest : List ℕ} {p b n : ℕ} {d : DateTime} {r : Record} → EndedLine l rest text → AsciiLine d r l
    → ReadAsciiPromise text before (0 ∷ p ∷ b ∷ n ∷ []) after → b ≡ instant d / 1000
cut_start {b = b} {d = d} f a p = let x = accepted p number_0 in (handed x.is p).0 ∙ go f a x.is.first x.is.lines
  where
    go : {text l rest : List ℕ} {r : Record} {start : ℕ} {rs : List Record} → EndedLine l rest text → AsciiLine d r l → FirstStart start rs → Lines start rs text
        → start ≡ instant d / 1000
    go f a (no_lines z) Text.over = absurd (ended_none f refl)
    go f a (Text.cut o) (Text.line k y e h ls) = omega (arith, ap instant (line_one (rw (ended_one f k).0 at a) y).0)

pub start_rounded : {text before after l rest : List ℕ} {p n : ℕ} {d : DateTime} {r : Record} → EndedLine l rest text → AsciiLine d r l → 500 ≤ instant d % 1000
    → ReadAsciiPromise text before (0 ∷ p ∷ ((instant d + 500) / 1000) ∷ n ∷ []) after → ⊥
start_rounded f a h p = omega (arith, cut_start f a p)

-- no lines: start 0 and no records
pub no_lines_refused : {before after : List ℕ} {m : ℕ} {ns : List ℕ} → m ≢ 0 → ReadAsciiPromise [] before (m ∷ ns) after → ⊥
no_lines_refused = refuses_good (record { first = no_lines refl; lines = Text.over }) (omega arith) (omega arith) (omega arith)
