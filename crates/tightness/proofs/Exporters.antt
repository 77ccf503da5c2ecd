-- An exporter that keeps its promise counts the records of kinds 0 and 1, and the others, and writes bus 0 as the channel that it is given.
use Prim.Native.Nat.{ℕ, ◌*◌, ◌≤◌}
use mathlib.Core.Path.{◌≡◌, refl, ap, sym, ◌∙◌}
use mathlib.Core.Logic.{⊎_elim}
use mathlib.Core.List.{List, [], ◌∷◌, ◌++◌}
use native.Mathlib.Omega.{arith}
use lib.ListN.{length, take, length-replicate}
use Rattle.base.specs.Limits.{last_bus}
use Rattle.clock.proofs.Stamps.{some_stamp}
use Rattle.record.specs.declared.Record.{Record}
use Rattle.records.specs.Records.{packed, PacksAll}
use Rattle.records.proofs.Records.{packs_all_one}
use Rattle.trace.specs.Trace.{Trace}
use Rattle.ascii_line.specs.Line.{line_text}
use Rattle.ascii.specs.Promise.{line_of, Exports, line_count, left_count, ExportPromise}
use Rattle.ascii.proofs.Answers.{exports, accepted, accepted_text}
use Rattle.ascii.proofs.Channels.{given_channel, own_channel}
use Rattle.ascii.proofs.Exporting.{exports_one, exports_line, export_most, frame_line, frame_left}
use Rattle.tightness.specs.Programs.{Lent, FromExporter, Exporter, five, KeepsExport, exported_text}
use Rattle.tightness.specs.Tight.{received_on, received12, Tried, one, no_bus}
use Rattle.tightness.specs.Wrong.{Counted, none, frame, other, InventsLeftOut, GivesOne, GivesAll}
use Rattle.tightness.proofs.ExportChannels.{channel_told}
use Rattle.tightness.proofs.Real.{some_export, given}
use Rattle.tightness.proofs.Tried.{writable, zeros, records_of}

-- The promise counts by that definition.
counts : {rs : List Record} {lines left : ℕ} → Counted rs lines left → (line_count rs ≡ lines) × (left_count rs ≡ left)
unfolding line_count left_count
counts none = (refl, refl)
counts (frame {r = r} k c) = let (a, b) = counts c in (omega (arith, frame_line r k), omega (arith, frame_line r k))
counts (other {r = r} k c) = let (a, b) = counts c in (omega (arith, frame_left r k), omega (arith, frame_left r k))

-- What it exports of records is what they export to, and counted so.
record Made (start channel : ℕ) (rs : List Record) (m lines left : ℕ) (x : List ℕ) : Type 0 where
  text : Exports start channel rs (take m x)
  lines_true : lines ≡ line_count rs
  left_true : left ≡ left_count rs

made : {start channel n p m lines left : ℕ} {s before x : List ℕ} {rs : List Record}
    → ExportPromise start channel s before (n ∷ p ∷ m ∷ lines ∷ left ∷ []) x → n ≡ 0 → PacksAll rs s → Made start channel rs m lines left x
made p z h =
    let a = accepted (rw z at p) in
    let o = packs_all_one a.given.packs h in
    record {
      text = rw (accepted_text a, ← o) a.given.exports;
      lines_true = cc (a.numbers, ap line_count o);
      left_true = cc (a.numbers, ap left_count o);
    }

module _ {e : Exporter} (k : KeepsExport e) where
  pub invents_left_out : InventsLeftOut e → ⊥
  invents_left_out i =
      let (a, b) = counts i.counted in
      let m = made (k.keeps i.start i.channel i.given i.out) i.accepted i.packs in
      ⊎_elim (λ f. f (m.lines_true ∙ a)) (λ f. f (m.left_true ∙ b)) i.invented

  -- A trace that is tried, on a channel up to 16, in a page for its lines.
  module _ {t : Trace} (w : Tried t) (channel : ℕ) (c : channel ≤ last_bus) where
    abbrev records : Lent
    records = records_of t

    abbrev page : Lent
    page = zeros (86 * length t.records)

    abbrev answer : FromExporter
    answer = e t.start channel records page

    keeps : ExportPromise t.start channel (packed t.records) page.list (five answer) answer.after
    keeps = k.keeps t.start channel records page

    taken : answer.number ≡ 0
    taken =
        let (x, y) = some_export t.start channel t.records in
        let l = export_most c (writable w).formed y in
        let o = exports (given w c y) (omega (arith, length-replicate {A = ℕ} (86 * length t.records) 0)) keeps in
        cc o.0

    its_text : {x : List ℕ} → Exports t.start channel t.records x → exported_text answer ≡ x
    its_text y = exports_one (made keeps taken (given w c y).packs).text y

  -- The line of the one frame that two of these traces have.
  line : (bus channel : ℕ) → Exports 0 channel (received_on bus 0 1 ∷ []) (line_of channel (some_stamp 0 0).0 (received_on bus 0 1))
  line bus channel = exports_line (omega arith) (some_stamp 0 0).1

  -- Its channel is told by it.
  told : {c d : ℕ} (bus : ℕ) → line_text (some_stamp 0 0).0 c (received_on bus 0 1) ≡ line_text (some_stamp 0 0).0 d (received_on bus 0 1) → c ≡ d
  told bus q = channel_told (some_stamp 0 0).0 (received_on bus 0 1) [] [] (ap (λ (l : List ℕ). l ++ []) q)

  pub gives_one : GivesOne e → ⊥
  gives_one h =
      let z : 0 ≤ last_bus = omega arith in
      let y : 1 ≤ last_bus = omega arith in
      let q = h 0 0 (records no_bus 0 z) (page no_bus 0 z) (taken no_bus 0 z) (taken no_bus 1 y) in
      omega (arith, told 0 (sym (its_text no_bus 0 z (line 0 0)) ∙ q ∙ its_text no_bus 1 y (line 0 1)), given_channel 0 0 refl, given_channel 1 0 refl)

  pub gives_all : GivesAll e → ⊥
  gives_all h =
      let z : 0 ≤ last_bus = omega arith in
      let q = h 0 0 (received12 0 1) (some_stamp 0 0).0 (records one 0 z) (page one 0 z) refl (omega arith) (some_stamp 0 0).1 (taken one 0 z) in
      omega (arith, told 1 (sym (its_text one 0 z (line 1 0)) ∙ q), own_channel 0 1 (λ o. omega arith))
