-- Laws on the exported lines, and on the counts of records.
use Prim.Native.Nat.{ℕ, ◌+◌, ◌*◌, ◌≤◌, ◌<◌}
use mathlib.Core.Path.{◌≡◌, refl, ap, ap₂}
use mathlib.Core.List.{List, [], ◌∷◌, ◌++◌, append_assoc, append-nil}
use native.Mathlib.Decide.{dec_lt, ℕ_discrete}
use native.Mathlib.Omega.{arith}
use borrow.Author.Tests.{lt-ltb, le-ltb}
use lib.ListN.{length, length-append}
use Rattle.base.specs.Limits.{last_bus}
use Rattle.clock.specs.declared.DateTime.{DateTime}
use Rattle.clock.specs.Stamp.{Stamp}
use Rattle.clock.proofs.Stamps.{one_stamp}
use Rattle.record.specs.declared.Record.{Record}
use Rattle.record.specs.Record.{WellFormed}
use Rattle.records.specs.Records.{Each, none as wellNone, more as wellMore}
use Rattle.ascii_line.proofs.Texts.{line_length_lem, extended_length, standard_length, short_channel}
use Rattle.ascii.proofs.Channels.{channel_most}
use Rattle.ascii.specs.Promise.{channel_of, line_of, Exports, none, line, left, is_frame, line_count, left_count}

-- The records export to one text.
pub exports_one : {start channel : ℕ} {rs : List Record} {t u : List ℕ} → Exports start channel rs t → Exports start channel rs u → t ≡ u
exports_one none none = refl
exports_one {channel = channel} (line {r = r} k s e) (line j z f) = ap₂ (λ (x : DateTime) (y : List ℕ). line_of channel x r ++ y) (one_stamp s z) (exports_one e f)
exports_one (line k s e) (left j f) = absurd (omega arith)
exports_one (left k e) (line j z f) = absurd (omega arith)
exports_one (left k e) (left j f) = exports_one e f

-- Lines behind lines.
pub exports_append : {start channel : ℕ} {rs qs : List Record} {t u : List ℕ} → Exports start channel rs t → Exports start channel qs u
    → Exports start channel (rs ++ qs) (t ++ u)
exports_append none g = g
exports_append {channel = channel} {u = u} (line {r = r} {s = s} {text = t} k z e) g = rw (append_assoc (line_of channel s r) t u) (line k z (exports_append e g))
exports_append (left k e) g = left k (exports_append e g)

-- The line of one record, or nothing.
pub exports_line : {start channel : ℕ} {r : Record} {s : DateTime} → r.kind ≤ 1 → Stamp start r.offset s → Exports start channel (r ∷ []) (line_of channel s r)
exports_line {start} {channel} {r} {s} k z =
    let e : Exports start channel (r ∷ []) (line_of channel s r ++ []) = line k z none in
    rw append-nil at e

pub exports_left : {start channel : ℕ} {r : Record} → 1 < r.kind → Exports start channel (r ∷ []) []
exports_left k = left k none

-- The first record's line, and the rest.
pub first_line : {start channel : ℕ} {r : Record} {rs : List Record} {t : List ℕ} {s : DateTime} → r.kind ≤ 1 → Stamp start r.offset s
    → Exports start channel (r ∷ rs) t → (u : List ℕ) × (t ≡ line_of channel s r ++ u) × Exports start channel rs u
first_line {channel = channel} {r = r} k z (line {text = u} j y e) = (u, ap (λ (x : DateTime). line_of channel x r ++ u) (one_stamp y z), e)
first_line k z (left j e) = absurd (omega arith)

pub first_left : {start channel : ℕ} {r : Record} {rs : List Record} {t : List ℕ} → 1 < r.kind → Exports start channel (r ∷ rs) t → Exports start channel rs t
first_left k (line j y e) = absurd (omega arith)
first_left k (left j e) = e

-- The counts.

pub frame_line : (r : Record) → r.kind ≤ 1 → is_frame r ≡ 1
unfolding is_frame
frame_line r k = rw (le-ltb 1 r.kind k)

pub frame_left : (r : Record) → 1 < r.kind → is_frame r ≡ 0
unfolding is_frame
frame_left r k = rw (lt-ltb 1 r.kind k)

pub count_none : line_count [] ≡ 0
unfolding line_count
count_none = refl

count_more : (r : Record) (rs : List Record) → line_count (r ∷ rs) ≡ is_frame r + line_count rs
unfolding line_count
count_more r rs = refl

pub count_snoc : (rs : List Record) (r : Record) → line_count (rs ++ (r ∷ [])) ≡ line_count rs + is_frame r
count_snoc [] r = rw (count_more, count_none) (omega arith)
count_snoc (q ∷ rs) r = rw (count_more, count_more, count_snoc rs r) (omega arith)

frame_most : (r : Record) → is_frame r ≤ 1
frame_most r = elim (dec_lt 1 r.kind) [ yes p ↦ omega (arith, frame_left r p) | no q ↦ omega (arith, frame_line r (omega arith)) ]

-- A record gives a line or is left out.
pub counts_sum : (rs : List Record) → line_count rs + left_count rs ≡ length rs
unfolding line_count left_count
counts_sum [] = refl
counts_sum (r ∷ rs) = omega (arith, counts_sum rs, frame_most r)

-- A line has at most 86 bytes,
line_most : {channel : ℕ} → channel ≤ last_bus → (s : DateTime) (r : Record) → WellFormed r → length (line_of channel s r) ≤ 86
line_most {channel} h s r w =
    let n = channel_of channel r.bus in
    let c = short_channel n (channel_most channel r.bus h w.bus) in
    elim (ℕ_discrete r.extended 1) [
      | yes e ↦ omega (arith, line_length_lem s n r, extended_length n r e, w.len)
      | no f ↦ let z : r.extended ≡ 0 = omega (arith, w.extended, f) in omega (arith, line_length_lem s n r, standard_length n r z, w.len)
    ]

-- and so has each record's.
pub export_most : {start channel : ℕ} {rs : List Record} {text : List ℕ} → channel ≤ last_bus → Each WellFormed rs → Exports start channel rs text
    → length text ≤ 86 * length rs
export_most h wellNone none = omega arith
export_most {channel = channel} h (wellMore {r = r} w ws) (line {s = s} {text = t} k z e) =
    omega (arith, length-append (line_of channel s r) t, line_most h s r w, export_most h ws e)
export_most h (wellMore w ws) (left k e) = omega (arith, export_most h ws e)
