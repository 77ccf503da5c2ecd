-- The line by the pieces that its writer puts, and how long each is.
use Prim.Native.Nat.{ℕ, ◌+◌, ◌*◌, ◌^◌, ◌≤◌}
use mathlib.Core.Path.{◌≡◌, refl, ap, sym, ◌∙◌}
use mathlib.Core.List.{List, [], ◌∷◌, ◌++◌, append_assoc, append-nil}
use native.Mathlib.Decide.{ℕ_discrete}
use native.Mathlib.Omega.{arith}
use borrow.Author.Tests.{eq-eqb, ne_eqb}
use lib.ListN.{length, length-append, drop_of_length-le}
use Rattle.base.specs.Limits.{last_bus}
use Rattle.base.specs.Spaced.{spaced}
use Rattle.base.specs.inner.Wrote.{Wrote}
use Rattle.base.proofs.Lists.{at_start}
use Rattle.base.proofs.Spaced.{spaced_none, spaced_more, spaced_append}
use Rattle.digits.specs.declared.Letters.TheVariants.{Small}
use Rattle.digits.specs.House.{decimal_text, padded_text, hex_text, byte_texts}
use Rattle.digits.proofs.ByteTexts.{length_bytes}
use Rattle.digits.proofs.House.{length_fixed, few}
use Rattle.clock.specs.declared.CalendarDay.{CalendarDay}
use Rattle.clock.specs.declared.DayTime.{DayTime}
use Rattle.clock.specs.declared.DateTime.{DateTime}
use Rattle.record.specs.declared.Record.{Record}
use Rattle.ascii_line.specs.Line.{date_text, time_text, stamp_text, message_type_text, extended_texts, direction_text, id_digits, part_texts, line_text}
use Rattle.ascii_line.specs.inner.Parts.{two_text, clock_text, second_text, source_text, bar_text, way_text, data_text, rest_text, frame_text}

pub date : (d : CalendarDay) → date_text d ≡ two_text d.day d.month 46 ++ padded_text 4 d.year
unfolding date_text
date d = simp append_assoc

pub clock : (t : DayTime) → clock_text t ≡ two_text t.hour t.minute 58 ++ (padded_text 2 t.second ++ (46 ∷ []))
unfolding clock_text
clock t = refl

pub second : (s : DateTime) → second_text s ≡ date_text s.date ++ (32 ∷ clock_text s.time)
unfolding second_text
second s = refl

time : (t : DayTime)
    → time_text t ≡ padded_text 2 t.hour ++ (58 ∷ (padded_text 2 t.minute ++ (58 ∷ (padded_text 2 t.second ++ (46 ∷ padded_text 4 t.part)))))
unfolding time_text
time t = refl

-- A stamp is what it is up to its point, and its part.
stamp_cut : (s : DateTime) → stamp_text s ≡ second_text s ++ padded_text 4 s.time.part
stamp_cut s = rw (second, clock, time) (simp append_assoc)

-- Stamps of one second are the same up to their points.
pub same_second : (s u : DateTime) → s.date ≡ u.date → s.time.hour ≡ u.time.hour → s.time.minute ≡ u.time.minute
    → s.time.second ≡ u.time.second → second_text s ≡ second_text u
same_second s u d h m e = rw (second s, second u, clock s.time, clock u.time, d, h, m, e)

pub extended_source : (x : ℕ) → x ≡ 1 → source_text x ≡ 32 ∷ 67 ∷ 65 ∷ 78 ∷ 69 ∷ 120 ∷ 116 ∷ 32 ∷ 35 ∷ []
unfolding message_type_text
extended_source x e = rw (eq-eqb x 1 e)

pub standard_source : (x : ℕ) → (x ≡ 1 → ⊥) → source_text x ≡ 32 ∷ 67 ∷ 65 ∷ 78 ∷ 32 ∷ 35 ∷ []
unfolding message_type_text
standard_source x f = rw (ne_eqb x 1 f)

pub extended_bar : (x : ℕ) → x ≡ 1 → bar_text x ≡ 32 ∷ 124 ∷ 32 ∷ 69 ∷ 88 ∷ 84 ∷ 69 ∷ 78 ∷ 68 ∷ 69 ∷ 68 ∷ 32 ∷ []
unfolding extended_texts
extended_bar x e = rw (eq-eqb x 1 e, spaced_more, spaced_more, spaced_none)

pub standard_bar : (x : ℕ) → (x ≡ 1 → ⊥) → bar_text x ≡ 32 ∷ 124 ∷ 32 ∷ []
unfolding extended_texts
standard_bar x f = rw (ne_eqb x 1 f, spaced_more, spaced_none)

-- `R` is 82, `T` is 84, and the `x` 120.
direction : (kind : ℕ) → kind ≤ 1 → direction_text kind ≡ (82 + 2 * kind) ∷ 120 ∷ []
unfolding direction_text
direction kind k =
    elim (ℕ_discrete kind 0) [ yes e ↦ rw (eq-eqb kind 0 e, e) | no f ↦ let o : kind ≡ 1 = omega arith in rw (ne_eqb kind 0 f, o) ]

way_cut : (x kind : ℕ) → way_text x kind ≡ bar_text x ++ direction_text kind
way_cut x kind =
    let bar = spaced ((124 ∷ []) ∷ extended_texts x) in
    let e : spaced (direction_text kind ∷ []) ≡ 32 ∷ direction_text kind = rw (spaced_more, spaced_none, append-nil (direction_text kind)) in
    spaced_append ((124 ∷ []) ∷ extended_texts x) (direction_text kind ∷ [])
    ∙ ap (λ (t : List ℕ). bar ++ t) e ∙ sym (append_assoc bar (32 ∷ []) (direction_text kind))

pub way : (x kind : ℕ) → kind ≤ 1 → way_text x kind ≡ bar_text x ++ ((82 + 2 * kind) ∷ 120 ∷ [])
way x kind k = rw (way_cut, direction kind k)

pub id : (r : Record) → id_digits r ≡ hex_text Small (3 + 5 * r.extended) r.id
unfolding id_digits
id r = refl

-- The line is what is written.

way_more : (x kind : ℕ) (fs : List (List ℕ)) → spaced ((124 ∷ []) ∷ (extended_texts x ++ (direction_text kind ∷ fs))) ≡ way_text x kind ++ spaced fs
way_more x kind fs =
    let e : extended_texts x ++ (direction_text kind ∷ fs) ≡ (extended_texts x ++ (direction_text kind ∷ [])) ++ fs = rw append_assoc in
    ap (λ (gs : List (List ℕ)). spaced ((124 ∷ []) ∷ gs)) e ∙ spaced_append ((124 ∷ []) ∷ (extended_texts x ++ (direction_text kind ∷ []))) fs

data_more : (r : Record) → spaced (id_digits r ∷ ((48 + r.len) ∷ []) ∷ byte_texts Small (256 ^ 7) r.len r.«data») ≡ (32 ∷ id_digits r) ++ data_text r
data_more r = rw (spaced_more, spaced_more)

regroup : (t h n w i d e : List ℕ) → (t ++ ((h ++ n) ++ (w ++ (i ++ d)))) ++ e ≡ (t ++ h) ++ (n ++ (w ++ (i ++ (d ++ e))))
regroup t h n w i d e = simp append_assoc

frame_cut : (n : ℕ) (r : Record) → spaced (part_texts n r) ++ (13 ∷ 10 ∷ []) ≡ frame_text n r
frame_cut n r =
    rw (spaced_more, spaced_more, way_more, data_more)
    (regroup (32 ∷ message_type_text r.extended) (32 ∷ 35 ∷ []) (decimal_text n) (way_text r.extended r.kind) (32 ∷ id_digits r) (data_text r) (13 ∷ 10 ∷ []))

pub line_cut : (s : DateTime) (n : ℕ) (r : Record) → line_text s n r ≡ second_text s ++ (padded_text 4 s.time.part ++ frame_text n r)
unfolding line_text
line_cut s n r = rw (frame_cut, stamp_cut, append_assoc)

-- How long the pieces are.

pub length_date : (d : CalendarDay) → length (date_text d) ≡ 10
length_date d = rw date (simp (length-append, length_fixed))

pub length_time : (t : DayTime) → length (time_text t) ≡ 13
length_time t = rw time (simp (length-append, length_fixed))

length_clock : (t : DayTime) → length (clock_text t) ≡ 9
length_clock t = rw clock (simp (length-append, length_fixed))

pub length_second : (s : DateTime) → length (second_text s) ≡ 20
length_second s = rw second (omega (arith, length-append (date_text s.date) (32 ∷ clock_text s.time), length_date s.date, length_clock s.time))

-- What takes all the room is all there is.
pub all_put : {old new : List ℕ} {e : ℕ} (s : DateTime) → length old ≡ 20 → Wrote old new 0 e (date_text s.date ++ (32 ∷ clock_text s.time)) → new ≡ second_text s
all_put {old} s h w =
    let n = length_second s in
    let v = rw (← second s) at w in
    at_start v (omega arith) ∙ rw (drop_of_length-le old {i = length (second_text s)} (omega arith), append-nil (second_text s))

pub length_direction : (kind : ℕ) → length (direction_text kind) ≡ 2
unfolding direction_text
length_direction kind = elim (ℕ_discrete kind 0) [ yes e ↦ rw (eq-eqb kind 0 e) | no f ↦ rw (ne_eqb kind 0 f) ]

pub length_way : (x kind : ℕ) → length (way_text x kind) ≡ length (bar_text x) + 2
length_way x kind = rw (way_cut, length-append, length_direction)

pub length_id : (r : Record) → length (id_digits r) ≡ 3 + 5 * r.extended
length_id r = rw (id, length_fixed)

pub length_data : (r : Record) → length (data_text r) ≡ 2 + 3 * r.len
length_data r = omega (arith, length_bytes Small (256 ^ 7) r.len r.«data»)

pub line_length_lem : (s : DateTime) (n : ℕ) (r : Record) → length (line_text s n r) ≡ length (frame_text n r) + 24
line_length_lem s n r =
    rw (line_cut, length-append, length-append, length_second, length_fixed) (omega arith)

pub rest_length : (r : Record) → length (rest_text r) ≡ length (32 ∷ id_digits r) + length (data_text r) + 2
rest_length r = simp length-append (omega arith)

pub frame_length : (n : ℕ) (r : Record)
    → length (frame_text n r) ≡ length (source_text r.extended) + length (decimal_text n) + length (way_text r.extended r.kind) + length (32 ∷ id_digits r) + length (data_text r) + 2
frame_length n r = simp length-append (omega arith)

pub extended_length : (n : ℕ) (r : Record) → r.extended ≡ 1 → length (frame_text n r) ≡ length (decimal_text n) + 3 * r.len + 36
extended_length n r h =
    omega (arith, frame_length n r, ap length (extended_source r.extended h), length_way r.extended r.kind, ap length (extended_bar r.extended h), length_id r, length_data r)

pub standard_length : (n : ℕ) (r : Record) → r.extended ≡ 0 → length (frame_text n r) ≡ length (decimal_text n) + 3 * r.len + 19
standard_length n r h =
    let f : r.extended ≡ 1 → ⊥ = λ k. omega arith in
    omega (arith, frame_length n r, ap length (standard_source r.extended f), length_way r.extended r.kind, ap length (standard_bar r.extended f), length_id r, length_data r)

pub short_channel : (n : ℕ) → n ≤ last_bus → length (decimal_text n) ≤ 2
short_channel n h = few 1 n (omega arith)
