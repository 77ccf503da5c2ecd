-- Our own lines are such lines, whatever channel bus 0 was given: what `export` wrote is never refused with 31, up to day 99,999.
use Prim.Native.Nat.{ℕ, suc, ◌+◌, ◌*◌, ◌≤◌, ◌<◌}
use mathlib.Core.Path.{◌≡◌, refl, ap, ◌∙◌}
use mathlib.Core.Logic.{◌≢◌, inl}
use mathlib.Core.List.{List, [], ◌∷◌, ◌++◌, append_assoc}
use native.Mathlib.Omega.{arith}
use lib.ListN.{length, take, length-append}
use Rattle.base.specs.Limits.{last_bus}
use Rattle.clock.specs.declared.DateTime.{DateTime}
use Rattle.clock.specs.Stamp.{Stamp}
use Rattle.record.specs.declared.Record.{Record}
use Rattle.record.specs.Record.{WellFormed}
use Rattle.record.proofs.Frames.{frame_formed}
use Rattle.records.specs.Records.{Each, none, more, PacksAll}
use Rattle.ascii_line.specs.Line.{id_digits, line_text}
use Rattle.ascii.specs.Promise.{channel_of, line_of, Exports, ExportPromise}
use Rattle.ascii.specs.Promise
use Rattle.ascii.proofs.Answers.{accepted, accepted_text}
use Rattle.ascii.proofs.Channels.{channel_most}
use Rattle.ascii.proofs.Exporting.{exports_line, export_most}
use Rattle.ascii_line_reader.specs.AsciiLine.{instant, StampFits, FrameFits, AsciiLine}
use Rattle.ascii_line_reader.specs.inner.Answer.{tick_limit}
use Rattle.ascii_line_reader.proofs.House.{house_line, house_text, house_line_lem, house_inside}
use Rattle.ascii_reader.specs.Text.{EndedLine, Lines}
use Rattle.ascii_reader.specs.Text
use Rattle.ascii_reader.specs.Promise.{NextStamp, AsciiRefusedAt, no_line, ReadAsciiPromise}
use Rattle.ascii_reader.specs.Promise as read
use Rattle.ascii_reader.proofs.Ends.{ended_one, ended_none, ended_more}

-- The stamp of a record does not pass day 99,999.
abbrev pub Dated : ℕ → Record → Type 0
Dated start r = start * 1000 + r.offset < 100 * suc tick_limit

-- A stamp up to day 99,999, whichever start and offset it is of.
pub stamp_fits : {start offset : ℕ} {s : DateTime} → Stamp start offset s → start * 1000 + offset < 100 * suc tick_limit → StampFits s
stamp_fits s h =
    let t = s.time in
    record {
      exists = record { time = record { low = omega arith; high = omega arith; hour = t.hour; minute = t.minute; second = t.second; part = t.part }; date = s.date };
      last = omega arith;
    }

-- The record on the channel that it is written as: bus 0 on the one that is given.
abbrev pub on_channel : ℕ → Record → Record
on_channel channel r =
    record {
      offset = r.offset;
      bus = channel_of channel r.bus;
      kind = r.kind;
      extended = r.extended;
      id = r.id;
      len = r.len;
      «data» = r.«data»;
    }

-- That is the channel of its bus, where the channel that is given for bus 0 says so: where 0 is given, or where it is on another bus.
abbrev pub OnItsBus : ℕ → Record → Type 0
OnItsBus channel r = channel_of channel r.bus ≡ r.bus

-- The line of a record, as it is exported, is such a line.
module _ {start channel : ℕ} {r : Record} {s : DateTime} (c : channel ≤ last_bus) (w : WellFormed r) (k : r.kind ≤ 1) (t : Stamp start r.offset s)
    (h : Dated start r) where
  bus : channel_of channel r.bus ≤ last_bus
  bus = channel_most channel r.bus c w.bus

  fits : FrameFits (on_channel channel r)
  fits = record {
    channel = bus;
    kind = k;
    extended = w.extended;
    standard = w.standard;
    id = omega (arith, w.id);
    len = w.len;
  }

  formed : WellFormed (on_channel channel r)
  formed = frame_formed (on_channel channel r) (omega arith) w.offset bus w.extended w.standard w.id w.len w.eight w.past w.remote

  pub own_line : AsciiLine s (on_channel channel r) (house_line s (on_channel channel r))
  own_line = house_line_lem (stamp_fits t h) fits formed

  same_text : line_of channel s r ≡ line_text s (channel_of channel r.bus) (on_channel channel r)
  unfolding line_text id_digits
  same_text = refl

  pub own_ended : (rest : List ℕ) → EndedLine (house_line s (on_channel channel r)) rest (line_of channel s r ++ rest)
  own_ended rest =
      let e = same_text ∙ house_text s (on_channel channel r) in
      let m = export_most c (more w none) (exports_line k t) in
      record {
        inside = house_inside (stamp_fits t h) fits formed;
        short = omega (arith, ap length e ∙ length-append (house_line s (on_channel channel r)) (13 ∷ 10 ∷ []));
        ended = inl (ap (λ (x : List ℕ). x ++ rest) e ∙ append_assoc (house_line s (on_channel channel r)) (13 ∷ 10 ∷ []) rest);
      }

  -- it is read as that record on its channel, with its offset, where the stamp cuts nothing off: bus 0 that was given channel 1 comes back as bus 1,
  pub channel_back : {rs : List Record} {rest : List ℕ} → instant s ≡ start * 1000 + r.offset → Lines start rs rest
      → Lines start (on_channel channel r ∷ rs) (line_of channel s r ++ rest)
  channel_back {rest = rest} e ls = Text.line (own_ended rest) own_line e w.offset ls

  -- and as that record itself, where it is written on its bus
  pub line_back : {rs : List Record} {rest : List ℕ} → OnItsBus channel r → instant s ≡ start * 1000 + r.offset → Lines start rs rest
      → Lines start (r ∷ rs) (line_of channel s r ++ rest)
  line_back q e ls =
      let z : on_channel channel r ≡ r = λ i. record { offset = r.offset; bus = q i; kind = r.kind; extended = r.extended; id = r.id; len = r.len; «data» = r.«data» } in
      rw z at (channel_back e ls)

-- A text of such lines alone.
pub data SuchLines : List ℕ → Type 0 where
  over : SuchLines []
  line : {s : DateTime} {r : Record} {l rest text : List ℕ} → EndedLine l rest text → AsciiLine s r l → SuchLines rest → SuchLines text

pub own_lines : {start channel : ℕ} {rs : List Record} {text : List ℕ} → channel ≤ last_bus → Each WellFormed rs → Each (Dated start) rs
    → Exports start channel rs text → SuchLines text
own_lines c none none Promise.none = over
own_lines c (more w ws) (more h hs) (Promise.line {text = text} k t x) = line (own_ended c w k t h text) (own_line c w k t h) (own_lines c ws hs x)
own_lines c (more w ws) (more h hs) (Promise.left k x) = own_lines c ws hs x

-- Behind lines that were read such lines follow.
behind : {start : ℕ} {rs : List Record} {front text : List ℕ} (rest : List ℕ) → Lines start rs front → SuchLines text → text ≡ front ++ rest → SuchLines rest
behind rest Text.over x e = rw e at x
behind rest (Text.line {rest = tail} f a i o ls) over e = absurd (ended_none (rw (← e) at (ended_more rest f)) refl)
behind rest (Text.line {rest = tail} f a i o ls) (line g b x) e = behind rest ls x (ended_one g (rw (← e) at (ended_more rest f))).1

pub never_31 : {text : List ℕ} {p : ℕ} → SuchLines text → AsciiRefusedAt text 31 p → ⊥
never_31 x (no_line u n f) = go (behind _ u.spelled.lines x u.whole) n f
  where
    go : {rest : List ℕ} → SuchLines rest → rest ≢ [] → ((s : DateTime) → NextStamp s rest → ⊥) → ⊥
    go over n f = n refl
    go (line {s = s} {r = r} g b y) n f = f s (record { line = _; after = _; there = g; r = r; is = b })

number : {n m : ℕ} {s t : List ℕ} → n ∷ s ≡ m ∷ t → n ≡ m
number e = cc

-- Over the promises: what any export wrote, from records up to day 99,999, no reading refuses with 31.
pub own_export : {start channel n l k p : ℕ} {s before after old new : List ℕ} → ExportPromise start channel s before (0 ∷ 0 ∷ n ∷ l ∷ k ∷ []) after
    → ((rs : List Record) → PacksAll rs s → Each (Dated start) rs) → ReadAsciiPromise (take n after) old (31 ∷ p ∷ 0 ∷ 0 ∷ []) new → ⊥
own_export p d r =
    let x = accepted p in
    let g = x.given in
    go (own_lines g.is_channel g.packs.formed (d x.records g.packs) g.exports) (rw (accepted_text x) at r)
  where
    go : {text old new : List ℕ} {p : ℕ} → SuchLines text → ReadAsciiPromise text old (31 ∷ p ∷ 0 ∷ 0 ∷ []) new → ⊥
    go x (read.large l e q) = let z = number e in omega arith
    go x (read.refused l f e q) = let z = number e in never_31 x (rw (← z) at f)
    go x (read.many l s m e q) = let z = number e in omega arith
    go x (read.no_room l s m r e q) = let z = number e in omega arith
    go x (read.done l s m r e q) = let z = number e in omega arith
