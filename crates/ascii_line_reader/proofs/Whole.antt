-- A whole line: its stamp, and the frame behind it.
use Prim.Native.Nat.{ℕ}
use mathlib.Core.Path.{◌≡◌, ap, sym, ◌∙◌}
use mathlib.Core.List.{List, ◌∷◌}
use lib.ListN.{drop}
use Rattle.std.specs.Prelude.{Some, None}
use Rattle.clock.specs.declared.DateTime.{DateTime}
use Rattle.record.specs.declared.Record.{Record}
use Rattle.fields.specs.declared.Scan.{Scan}
use Rattle.fields.specs.Parted.{Parted}
use Rattle.fields.specs.inner.Window.{Lined}
use Rattle.fields.proofs.Parts.{parted_one, has_fields}
use Rattle.ascii_line.specs.Line.{date_text, time_text, parts_with}
use Rattle.ascii_line_reader.specs.declared.FrameRead.{FrameRead}
use Rattle.ascii_line_reader.specs.AsciiLine.{AsciiLine}
use Rattle.ascii_line_reader.specs.inner.Frame.{FromType, Leads}
use Rattle.ascii_line_reader.specs.inner.Answer.{StampRead, LineFound}
use Rattle.ascii_line_reader.proofs.Frames.{FrameParts, from_parts, to_parts}

-- The parts behind the stamp of a line.
abbrev frame_parts : {s : DateTime} {r : Record} {line : List ℕ} {gs : List (List ℕ)} (a : AsciiLine s r line) → gs ≡ parts_with r.bus r a.spelled.id a.spelled.bytes
    → FrameParts r gs
frame_parts a e = record { id = a.spelled.id; bytes = a.spelled.bytes; are = e; id_hex = a.spelled.id_hex; byte_digits = a.spelled.byte_digits; fits = a.frame }

pub line_frame : {s : DateTime} {r : Record} {line f g : List ℕ} {fs gs : List (List ℕ)} → AsciiLine s r line → Parted fs line → fs ≡ f ∷ g ∷ gs → FromType r gs
line_frame {s} {r} {f = f} {g = g} {gs = gs} a p e =
    let q : f ∷ g ∷ gs ≡ date_text s.date ∷ time_text s.time ∷ parts_with r.bus r a.spelled.id a.spelled.bytes =
    sym e ∙ parted_one p a.apart.parted ∙ a.spelled.are in
    let t : gs ≡ parts_with r.bus r a.spelled.id a.spelled.bytes = cc in
    from_parts (frame_parts a t)

-- No stamp: no line.
pub unstamped : {line : List ℕ} (w : List ℕ) (at : ℕ) → ((fs : List (List ℕ)) → Parted fs line → StampRead line w at fs None) → LineFound line at None
unstamped w at read d r a = read a.parts a.apart.parted a.apart.first d _ a.spelled.are a.stamp

module _ {line w : List ℕ} {at : ℕ} {s : Scan} (read : (fs : List (List ℕ)) → Parted fs line → StampRead line w at fs (Some s)) where
  -- the line goes on behind it
  pub stamp_lined : Lined (drop s.end w)
  stamp_lined = let x = has_fields line in let l = (read x.0 x.1).left in record { line = l.rest; is = l.here }

  -- no frame there: no line
  pub unframed : Leads FromType w s.end None → LineFound line at None
  unframed g d r a =
      let p = a.apart.parted in
      let h = read a.parts p in
      g line at h.later h.left a.apart.last r (line_frame a p h.parts)

  -- and what the frame is, the line is
  pub whole_line : {f : FrameRead} → Leads FromType w s.end (Some f) → LineFound line at (Some record { end = f.end; ticks = s.value; r = f.r })
  whole_line {f} g =
      let x = has_fields line in
      let h = read x.0 x.1 in
      let y = g line at h.later h.left in
      let k = to_parts y.is in
      record {
        stamp = h.stamp;
        is = record {
          parts = x.0;
          apart = record { parted = x.1; first = h.no_indent; last = y.tight };
          spelled = record {
            id = k.id;
            bytes = k.bytes;
            are = h.parts ∙ ap (λ (m : List (List ℕ)). date_text h.stamp.date ∷ time_text h.stamp.time ∷ m) k.are;
            id_hex = k.id_hex;
            byte_digits = k.byte_digits;
          };
          stamp = h.fits;
          frame = k.fits;
        };
        ticks = h.value;
        end = y.end;
      }
