-- Wrong channels of the export and of the bench program, for any program: a line on another channel than that of its bus, or than the one given for bus 0;
-- and 35 where another number is right, or another where 35 is.
use Rattle.std.specs.Prelude.{Some}
use Prim.Native.Nat.{ℕ, ◌≤◌, ◌<◌}
use mathlib.Core.Path.{◌≡◌, refl, ap, sym, ◌∙◌}
use mathlib.Core.Logic.{◌≢◌}
use mathlib.Core.List.{List, [], ◌∷◌, ◌++◌, append_assoc}
use native.Mathlib.Omega.{arith}
use lib.ListN.{length, drop}
use Rattle.base.specs.Limits.{last_bus}
use Rattle.base.specs.Spaced.{spaced}
use Rattle.base.proofs.Spaced.{spaced_more}
use Rattle.digits.specs.House.{decimal_text, padded_text}
use Rattle.digits.proofs.House.{decimal_spells}
use Rattle.digits.proofs.Theorems.{one_spelled}
use Rattle.clock.specs.declared.DateTime.{DateTime}
use Rattle.clock.specs.Start.{start_limit}
use Rattle.clock.specs.Stamp.{Stamp}
use Rattle.record.specs.declared.Record.{Record}
use Rattle.records.specs.Records.{Whole, PacksAll}
use Rattle.records.proofs.Records.{packs_all_one}
use Rattle.fields.proofs.Columns.{before}
use Rattle.trace.specs.Trace.{Trace, Spells}
use Rattle.ascii_line.specs.Line.{extended_texts, direction_text, line_text}
use Rattle.ascii_line.specs.inner.Parts.{second_text, source_text, way_text, rest_text}
use Rattle.ascii_line.proofs.Texts.{line_cut}
use Rattle.ascii.specs.Promise.{channel_of, line_of, Exports, line, ExportStopped, no_records, late, no_channel, malformed, ExportPromise, refused, no_room, done}
use Rattle.ascii.proofs.Answers.{one_export, accepted}
use Rattle.ascii.proofs.Channels.{given_channel, own_channel}
use Rattle.ascii.proofs.Exporting.{exports_one, exports_append}
use Rattle.convert.specs.Promise.{bench_channel, ConvertPromise}
use Rattle.convert.specs.Promise as bench
use Rattle.convert.proofs.Answers.{one_print}
use Rattle.tightness.proofs.Real.{some_export}
use Rattle.tightness.proofs.Writing.{same_behind}

regroup : (a b c d e f x : List ℕ) → (a ++ (b ++ (c ++ (d ++ (e ++ f))))) ++ x ≡ (a ++ (b ++ c)) ++ (d ++ (e ++ (f ++ x)))
regroup a b c d e f x = simp append_assoc

-- The bytes of a line tell its channel, whatever stands after it.
module _ (s : DateTime) (r : Record) where
  abbrev front : List ℕ
  front = second_text s ++ (padded_text 4 s.time.part ++ source_text r.extended)

  abbrev bar : List ℕ
  bar = (124 ∷ []) ++ spaced (extended_texts r.extended ++ (direction_text r.kind ∷ []))

  at_channel : (n : ℕ) (x : List ℕ) → line_text s n r ++ x ≡ front ++ (decimal_text n ++ (32 ∷ (bar ++ (rest_text r ++ x))))
  at_channel n x =
      ap (λ (l : List ℕ). l ++ x) (line_cut s n r)
      ∙ regroup (second_text s) (padded_text 4 s.time.part) (source_text r.extended) (decimal_text n) (way_text r.extended r.kind) (rest_text r) x
      ∙ ap (λ (l : List ℕ). front ++ (decimal_text n ++ (l ++ (rest_text r ++ x)))) (spaced_more (124 ∷ []) (extended_texts r.extended ++ (direction_text r.kind ∷ [])))

  pub channel_told : {c d : ℕ} (x y : List ℕ) → line_text s c r ++ x ≡ line_text s d r ++ y → c ≡ d
  channel_told {c} {d} x y e =
      let q = same_behind front (sym (at_channel c x) ∙ e ∙ at_channel d y) in
      one_spelled c d (before (omega arith) (omega arith) (decimal_spells c).digits (decimal_spells d).digits q).0

-- A data frame among records, and what is exported before it.
module _ {start channel : ℕ} (lead back : List Record) (r : Record) {s : DateTime} {t : List ℕ} (rest : List ℕ) (k : r.kind ≤ 1) (z : Stamp start r.offset s)
    (f : Exports start channel lead t) where
  -- its line stands after that, on its channel and no other
  on_another : {d : ℕ} {text : List ℕ} (behind : List ℕ) → d ≢ channel_of channel r.bus → Exports start channel (lead ++ (r ∷ back)) text
      → t ++ (line_text s d r ++ rest) ≡ text ++ behind → ⊥
  on_another {d} behind n x e =
      let (v, y) = some_export start channel back in
      let q = exports_one x (exports_append f (line {s = s} k z y)) in
      let o : t ++ (line_text s d r ++ rest) ≡ t ++ (line_of channel s r ++ (v ++ behind)) = e ∙ ap (λ (l : List ℕ). l ++ behind) q ∙ simp append_assoc in
      n (channel_told s r rest (v ++ behind) (same_behind t o))

  -- export
  pub another_channel : {d : ℕ} {bytes old ns : List ℕ} → PacksAll (lead ++ (r ∷ back)) bytes → d ≢ channel_of channel r.bus
      → ExportPromise start channel bytes old (0 ∷ ns) (t ++ (line_text s d r ++ rest)) → ⊥
  another_channel {old = old} p n x =
      let a = accepted x in
      on_another (drop (length a.text) old) n (rw (packs_all_one a.given.packs p) at a.given.exports) a.output

  -- channel 1 for bus 0, whatever is given
  pub one_whatever_is_given : {bytes old ns : List ℕ} → PacksAll (lead ++ (r ∷ back)) bytes → r.bus ≡ 0 → channel ≢ 1
      → ExportPromise start channel bytes old (0 ∷ ns) (t ++ (line_text s 1 r ++ rest)) → ⊥
  one_whatever_is_given p b n = another_channel p (λ e. n (sym (e ∙ given_channel channel r.bus b)))

  -- the channel that is given, for another bus than 0
  pub used_for_another_bus : {bytes old ns : List ℕ} → PacksAll (lead ++ (r ∷ back)) bytes → r.bus ≢ 0 → channel ≢ r.bus
      → ExportPromise start channel bytes old (0 ∷ ns) (t ++ (line_text s channel r ++ rest)) → ⊥
  used_for_another_bus p b n = another_channel p (λ e. n (e ∙ own_channel channel r.bus b))

-- The bench program: bus 0 on another channel than 1.
module _ (u : Trace) (lead back : List Record) (r : Record) {s : DateTime} {t : List ℕ} (rest : List ℕ) (k : r.kind ≤ 1) (z : Stamp u.start r.offset s)
    (f : Exports u.start bench_channel lead t) (e : u.records ≡ lead ++ (r ∷ back)) (b : r.bus ≡ 0) where
  pub bench_prints_another : {d n room : ℕ} {input old : List ℕ} → length input ≤ bench.input_limit → Spells u input → d ≢ 1
      → ConvertPromise input room old (Some n) (t ++ (line_text s d r ++ rest)) → ⊥
  bench_prints_another {old = old} h w m (bench.page {text = text} p x y q) =
      let (v, o) = some_export u.start bench_channel u.records in
      let i : v ≡ text = one_print (bench.export h w o) p in
      on_another lead back r rest k z f (drop (length text) old) (λ c. m (c ∙ given_channel 1 r.bus b)) (rw (i, e) at o) q
  bench_prints_another h w m (bench.short x y q) = let g : ◌≡◌ {A = ℕ} 0 1 = cc in omega arith

-- 35 says that all before it is good, that the channel is above 16, and no place.
record Is35 (start channel : ℕ) (bytes : List ℕ) (p : ℕ) : Type 0 where
  whole : Whole bytes
  limit : start ≤ start_limit
  high : last_bus < channel
  nowhere : p ≡ 0

stopped_35 : {start channel n p : ℕ} {bytes : List ℕ} → ExportStopped start channel bytes n p → n ≡ 35 → Is35 start channel bytes p
stopped_35 (no_records f) e = absurd (omega arith)
stopped_35 (late w l) e = absurd (omega arith)
stopped_35 (no_channel w l c) e = record { whole = w; limit = l; high = c; nowhere = refl }
stopped_35 (malformed w l c f) e = absurd (omega arith)

module _ {start channel p : ℕ} {bytes old after ns : List ℕ} where
  is_35 : ExportPromise start channel bytes old (35 ∷ p ∷ ns) after → Is35 start channel bytes p
  is_35 (refused {n = n} {p = q} f e u) =
      let y : n ≡ 35 = cc in
      let z : q ≡ p = cc in
      rw z at (stopped_35 f y)
  is_35 (no_room g l e u) = let y : ◌≡◌ {A = ℕ} 35 25 = cc in absurd (omega arith)
  is_35 (done g l e u) = let y : ◌≡◌ {A = ℕ} 35 0 = cc in absurd (omega arith)

  -- 35 before 20, and before 22
  pub channel_before_length : (Whole bytes → ⊥) → ExportPromise start channel bytes old (35 ∷ p ∷ ns) after → ⊥
  channel_before_length f x = f (is_35 x).whole

  pub channel_before_start : start_limit < start → ExportPromise start channel bytes old (35 ∷ p ∷ ns) after → ⊥
  channel_before_start h x = omega (arith, (is_35 x).limit)

  -- 35 for a channel up to 16, and with a record
  pub good_channel_refused : channel ≤ last_bus → ExportPromise start channel bytes old (35 ∷ p ∷ ns) after → ⊥
  good_channel_refused h x = omega (arith, (is_35 x).high)

  pub channel_at_a_record : 0 < p → ExportPromise start channel bytes old (35 ∷ p ∷ ns) after → ⊥
  channel_at_a_record h x = omega (arith, (is_35 x).nowhere)

-- Another number than 35 for a channel above 16, whatever the records are: 17 let through, 23 before 35, 35 only where bus 0 occurs.
pub other_than_35 : {start channel n : ℕ} {bytes old after ns : List ℕ} → Whole bytes → start ≤ start_limit → last_bus < channel → n ≢ 35
    → ExportPromise start channel bytes old (n ∷ ns) after → ⊥
other_than_35 w l c f x = f (cc (one_export x (refused (no_channel w l c) refl refl)).0)
