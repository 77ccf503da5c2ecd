-- What callers cite of a line.
use Prim.Native.Nat.{ℕ, ◌≤◌, ◌<◌}
use mathlib.Core.Path.{◌≡◌, refl, sym, ◌∙◌}
use mathlib.Core.Logic.{⊎_elim}
use mathlib.Core.List.{List, [], ◌∷◌}
use native.Mathlib.Omega.{arith}
use lib.ListN.{length}
use Rattle.base.specs.Limits.{offset_limit}
use Rattle.clock.specs.declared.DateTime.{DateTime}
use Rattle.clock.specs.Stamp.{ticks}
use Rattle.record.specs.declared.Record.{Record}
use Rattle.record.specs.Record.{WellFormed}
use Rattle.record.proofs.Frames.{frame_formed}
use Rattle.fields.proofs.Parts.{parted_one, only_none}
use Rattle.row.proofs.Formed.{bytes_sum}
use Rattle.ascii_line.specs.Line.{date_text, time_text}
use Rattle.ascii_line_reader.specs.AsciiLine.{with_offset, AsciiLine}
use Rattle.ascii_line_reader.specs.inner.Answer.{tick_limit}
use Rattle.ascii_line_reader.proofs.Frames.{one_frame}
use Rattle.ascii_line_reader.proofs.One.{one_stamp, same_values}
use Rattle.ascii_line_reader.proofs.Whole.{line_frame}

-- A line has one stamp, and one record but for its offset.
pub line_one : {d e : DateTime} {r q : Record} {line : List ℕ} → AsciiLine d r line → AsciiLine e q line → (d ≡ e) × ((o : ℕ) → with_offset o r ≡ with_offset o q)
line_one {d} {e} {r} {q} a b =
    let p = sym a.spelled.are ∙ parted_one a.apart.parted b.apart.parted ∙ b.spelled.are in
    let x : date_text d.date ≡ date_text e.date = cc in
    let y : time_text d.time ≡ time_text e.time = cc in (
      one_stamp a.stamp b.stamp x y,
      same_values r q (one_frame (line_frame a a.apart.parted a.spelled.are) (line_frame b a.apart.parted a.spelled.are)),
    )

-- Its record is well formed, if its offset is within the limit.
pub line_formed : {d : DateTime} {r : Record} {line : List ℕ} → AsciiLine d r line → r.offset ≤ offset_limit → WellFormed r
line_formed {r = r} a h =
    let f = a.frame in
    let k = f.kind in
    let x = bytes_sum 7 a.spelled.byte_digits refl f.len in
    frame_formed r (omega arith) h f.channel f.extended f.standard (omega (arith, f.id)) f.len x.0 x.1
    (λ e. absurd (⊎_elim (λ q. omega arith) (λ q. omega arith) e))

-- The offset is no part of it.
pub line_moved : {d : DateTime} {r : Record} {line : List ℕ} (o : ℕ) → AsciiLine d r line → AsciiLine d (with_offset o r) line
line_moved o a =
    let s = a.spelled in
    let f = a.frame in
    record {
      parts = a.parts;
      apart = a.apart;
      spelled = record { id = s.id; bytes = s.bytes; are = s.are; id_hex = s.id_hex; byte_digits = s.byte_digits };
      stamp = a.stamp;
      frame = record {
        channel = f.channel;
        kind = f.kind;
        extended = f.extended;
        standard = f.standard;
        id = f.id;
        len = f.len;
      };
    }

-- It has some byte.
pub line_some : {d : DateTime} {r : Record} {line : List ℕ} → AsciiLine d r line → 0 < length line
line_some {line = []} a =
    let e = only_none a.apart.parted in
    let z : ◌≡◌ {A = ℕ} 1 0 = cc a.spelled.are in
    absurd (omega arith)
line_some {line = b ∷ line} a = omega arith

-- Its stamp lies before day 100,000.
pub line_ticks : {d : DateTime} {r : Record} {line : List ℕ} → AsciiLine d r line → ticks d.time ≤ tick_limit
line_ticks a = let s = a.stamp in let l = s.last in let t = s.exists.time in omega arith
