-- Wrong answers of `write`: each is refuted over its promise, for every version, start, records and output to which it applies.
use Prim.Native.Nat.{ℕ, ◌+◌, ◌/◌, ◌%◌, ◌≤◌, ◌<◌}
use mathlib.Core.Path.{◌≡◌, ap, sym, ◌∙◌}
use mathlib.Core.Logic.{◌≢◌, ◌⊎◌, ⊎_elim}
use mathlib.Core.List.{List, [], ◌∷◌, ◌++◌, append_assoc}
use native.Mathlib.Omega.{arith}
use lib.ListN.{length, get_or, drop, length-append}
use lib.Seq.{drop-append_seam}
use Rattle.digits.specs.House.{fixed, decimal_text, padded_text}
use Rattle.clock.specs.Start.{day_ms, start_limit}
use Rattle.fields.specs.Columns.{last_number}
use Rattle.fields.specs.Runs.{halt}
use Rattle.fields.proofs.Runs.{cut}
use Rattle.record.specs.declared.Record.{Record}
use Rattle.record.specs.Record.{WellFormed}
use Rattle.records.specs.Records.{packed, Whole, PacksAll, FirstMalformed}
use Rattle.records.proofs.Lists.{each_at}
use Rattle.records.proofs.Records.{packs_all_one}
use Rattle.row.specs.Versions.{Version, Carries}
use Rattle.row.specs.House.{row_text}
use Rattle.row.proofs.One.{row_one, number_only}
use Rattle.row.proofs.Plain.{row_plain}
use Rattle.row.proofs.Spelled.{row_spelled}
use Rattle.lines.specs.Lines.{start_text}
use Rattle.trace.specs.Trace.{trace_of}
use Rattle.trace.specs.House.{version_line_text, fraction_of_day, start_line_text, rows_text, trace_text, Writable}
use Rattle.trace.proofs.Numbers.{next_number, from_one}
use Rattle.trace.proofs.HouseTexts.{start_line, rows_append, rows_more, trace_text_lem}
use Rattle.trace_writer.specs.Promise.{NumberFits, WriteStopped, WritePromise}
use Rattle.trace_writer.proofs.Answers.{stopped_numbers, writes, written, malformed_first, misnumbered}

-- 24 where a record is not well formed, whatever the version can carry
pub malformed_as_misfit : {version start first place p n : ℕ} {s before after : List ℕ} → Whole s → Version version → start ≤ start_limit → NumberFits first s
    → FirstMalformed s place
    → WritePromise version start first s before (24 ∷ p ∷ n ∷ []) after → ⊥
malformed_as_misfit w v l n f q = let e = malformed_first w v l n f q in let z : ◌≡◌ {A = ℕ} 24 23 = cc in omega arith

-- anything but 26 where the first number is none of so many rows: 0 with records, another without, or one with which the last row's would pass 999,999
pub wrong_number_taken : {version start first n p m : ℕ} {s before after : List ℕ} → Whole s → Version version → start ≤ start_limit
    → (NumberFits first s → ⊥) → n ≢ 26 → WritePromise version start first s before (n ∷ p ∷ m ∷ []) after → ⊥
wrong_number_taken w v l f d q = let e = misnumbered w v l f q in d (cc)

-- and 26 where it is one
pub number_refused : {version start first p m : ℕ} {s before after : List ℕ} → NumberFits first s
    → WritePromise version start first s before (26 ∷ p ∷ m ∷ []) after → ⊥
number_refused f (WritePromise.refused {n = n} t e u) = let z : n ≡ 26 = cc in numbered_well f t z
  where
    numbered_well : {version start first n p : ℕ} {s : List ℕ} → NumberFits first s → WriteStopped version start first s n p → n ≡ 26 → ⊥
    numbered_well f (WriteStopped.no_records w) z = omega arith
    numbered_well f (WriteStopped.no_version w v) z = omega arith
    numbered_well f (WriteStopped.late w v l) z = omega arith
    numbered_well f (WriteStopped.no_number w v l g) z = g f
    numbered_well f (WriteStopped.malformed w v l n g) z = omega arith
    numbered_well f (WriteStopped.misfit w v l n h g) z = omega arith
number_refused f (WritePromise.no_room w s r e u) = let z : ◌≡◌ {A = ℕ} 26 25 = cc in omega arith
number_refused f (WritePromise.done w s r e u) = let z : ◌≡◌ {A = ℕ} 26 0 = cc in omega arith

-- The text of the records, of which there is one list.
module _ {version start first : ℕ} {s : List ℕ} {rs qs : List Record} (w : Writable (trace_of version start first qs)) (e : s ≡ packed qs) (h : PacksAll rs s) where
  same_records : qs ≡ rs
  same_records = packs_all_one (record { formed = w.formed; bytes = e }) h

  same_length : length (trace_text (trace_of version start first qs)) ≡ length (trace_text (trace_of version start first rs))
  same_length = ap (λ (l : List Record). length (trace_text (trace_of version start first l))) same_records

-- another count than that of the bytes of the text
pub count_off : {version start first n : ℕ} {s before after : List ℕ} {rs : List Record} → PacksAll rs s → n ≢ length (trace_text (trace_of version start first rs))
    → WritePromise version start first s before (0 ∷ 0 ∷ n ∷ []) after → ⊥
count_off h d p = let (qs, w, e, m, x) = written p in d (m ∙ same_length w e h)

-- a text for which there is no room, and no room where there is
pub written_without_room : {version start first p n : ℕ} {s before after : List ℕ} {rs : List Record} → PacksAll rs s
    → length before < length (trace_text (trace_of version start first rs)) → WritePromise version start first s before (0 ∷ p ∷ n ∷ []) after → ⊥
written_without_room h l (WritePromise.refused {n = m} t e u) = let z : 0 ≡ m = cc in omega (arith, (stopped_numbers t).0)
written_without_room h l (WritePromise.no_room w s r e u) = let z : ◌≡◌ {A = ℕ} 0 25 = cc in omega arith
written_without_room h l (WritePromise.done w s r e u) = omega (arith, same_length w s h)

pub room_for_the_text_refused : {version start first p n : ℕ} {before after : List ℕ} {rs : List Record} → Writable (trace_of version start first rs)
    → length (trace_text (trace_of version start first rs)) ≤ length before → WritePromise version start first (packed rs) before (25 ∷ p ∷ n ∷ []) after → ⊥
room_for_the_text_refused w l p = let e = (writes w l p).0 in let z : ◌≡◌ {A = ℕ} 25 0 = cc in omega arith

-- What stands after the same bytes.
pub same_behind : (a : List ℕ) {x y : List ℕ} → a ++ x ≡ a ++ y → x ≡ y
same_behind a {x} {y} e = sym (drop-append_seam a x) ∙ ap (drop (length a)) e ∙ drop-append_seam a y

-- nine digits in the fraction of the day, whatever they are
abbrev pub up_to_the_fraction : ℕ → ℕ → List ℕ → List ℕ
up_to_the_fraction version start rest =
    version_line_text version ++ (13 ∷ 10 ∷ ((59 ∷ start_text) ++ (decimal_text (start / day_ms) ++ (46 ∷ rest))))

to_the_fraction : (version start first : ℕ) (rs : List Record) (d : List ℕ) → trace_text (trace_of version start first rs) ++ d
    ≡ up_to_the_fraction version start (padded_text 10 (fraction_of_day (start % day_ms)) ++ (13 ∷ 10 ∷ (rows_text version first rs ++ d)))
to_the_fraction version start first rs d = simp (trace_text_lem, start_line, append_assoc)

pub nine_fraction_digits : {version start first n : ℕ} {s before : List ℕ} (m : ℕ) (rest : List ℕ)
    → WritePromise version start first s before (0 ∷ 0 ∷ n ∷ []) (up_to_the_fraction version start (padded_text 9 m ++ (13 ∷ rest))) → ⊥
unfolding fixed
nine_fraction_digits {version} {start} {first} {before = before} m rest p =
    let (rs, w, e, k, x) = written p in
    let a = x ∙ to_the_fraction version start first rs (drop (length (trace_text (trace_of version start first rs))) before) in
    let b = same_behind (13 ∷ 10 ∷ 59 ∷ start_text) (same_behind (version_line_text version) a) in
    let c = same_behind (46 ∷ []) (same_behind (decimal_text (start / day_ms)) b) in
    omega (arith, ap (λ (l : List ℕ). get_or l 9 0) c)

-- after the rows of some records, a row with another number than the next, or of another record: the first again, one with the seconds of the
-- row before
abbrev pub up_to_a_row : ℕ → ℕ → ℕ → List Record → List ℕ → List ℕ
up_to_a_row version start first front rest =
    version_line_text version ++ (13 ∷ 10 ∷ (start_line_text start ++ (13 ∷ 10 ∷ (rows_text version first front ++ rest))))

to_a_row : (version start first : ℕ) (front back : List Record) (r : Record) (d : List ℕ) → trace_text (trace_of version start first (front ++ (r ∷ back))) ++ d
    ≡ up_to_a_row version start first front (row_text version (first + length front) r ++ (13 ∷ 10 ∷ (rows_text version (first + length front + 1) back ++ d)))
to_a_row version start first front back r d = simp (trace_text_lem, rows_append, rows_more, append_assoc)

module _ {version : ℕ} {r q : Record} {k j : ℕ} where
  same_row : (a b : List ℕ) → WellFormed r → Carries r version → 1 ≤ k → k ≤ last_number → WellFormed q → Carries q version → 1 ≤ j → j ≤ last_number
      → row_text version j q ++ (13 ∷ a) ≡ row_text version k r ++ (13 ∷ b) → (j ≡ k) × (q ≡ r)
  same_row a b f c l h g d m n e =
      let x = row_spelled f c l h in
      let y = row_spelled g d m n in
      let z = (cut (row_plain y) (row_plain x) (halt (λ o. o.0 (omega arith))) (halt (λ o. o.0 (omega arith))) e).0 in
      let w = rw z at y in
      (number_only w x, row_one (rw (number_only w x) at w) x)

pub row_of_another : {version start first n j : ℕ} {s before : List ℕ} {q : Record} (front back : List Record) (r : Record) (rest : List ℕ)
    → PacksAll (front ++ (r ∷ back)) s → WellFormed q → Carries q version → 1 ≤ j → j ≤ last_number → (j ≢ first + length front) ⊎ (q ≢ r)
    → WritePromise version start first s before (0 ∷ 0 ∷ n ∷ []) (up_to_a_row version start first front (row_text version j q ++ (13 ∷ rest))) → ⊥
row_of_another {version} {start} {first} {before = before} front back r rest h g d m n other p =
    let (qs, w, e, k, x) = written p in
    let u = same_records w e h in
    let v : Writable (trace_of version start first (front ++ (r ∷ back))) = rw u at w in
    let a = (rw u at x) ∙ to_a_row version start first front back r (drop (length (trace_text (trace_of version start first (front ++ (r ∷ back))))) before) in
    let b = same_behind (13 ∷ 10 ∷ []) (same_behind (version_line_text version) a) in
    let c = same_behind (rows_text version first front) (same_behind (13 ∷ 10 ∷ []) (same_behind (start_line_text start) b)) in
    let l = length-append front (r ∷ back) in
    let z = same_row rest _ (each_at front r back v.formed) (each_at front r back v.carried) (omega (arith, from_one v.numbered (omega arith))) (omega (arith, next_number v.numbered)) g d m n c in
    ⊎_elim (λ f. f z.0) (λ f. f z.1) other
