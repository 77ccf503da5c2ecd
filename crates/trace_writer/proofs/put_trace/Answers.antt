-- `trace_writer::put_trace` measures, sees whether there is room, and writes.
use Prim.Native.Nat.{◌+◌, ◌≤◌}
use mathlib.Core.Path.{◌≡◌, refl, ap, sym}
use native.Mathlib.Omega.{arith}
use lib.ListN.{length, length-append}
use Rattle.trace.specs.Trace.{trace_of}
use Rattle.trace.specs.House.{version_line_text, start_line_text, trace_text}
use Rattle.std.proofs.lemmas.Result.{err_from_is_err_and}
use Rattle.trace_writer.specs.Promise.{write_done, refused, no_room, done}
use Rattle.trace_writer.specs.inner.Passes.{with_end}
use Rattle.trace_writer.proofs.Whole.{trace_length, writable, rows_few, unfit_stopped, all_written}
use Rattle.trace_writer.proofs.put_trace.Goals as goal

pub overflow_add-bytes : goal.overflow_add-bytes
overflow_add-bytes c =
    let g = c.in_ok-bytes.ensures in
    let e = c.requires in
    let w = writable e.1 e.2 e.3 g.1 g.2 in
    omega (arith, g.3, rows_few w, c.head_length.ensures.1)

pub returns-then-out-bytes : goal.returns-then-out-bytes
returns-then-out-bytes c =
    let g = c.in_ok-bytes.ensures in
    let a = c.args in
    let e = c.requires in
    let w = writable e.1 e.2 e.3 g.1 g.2 in
    let l = trace_length a.version a.start a.first g.0 in
    rw c.whole.ensures (no_room w g.1.bytes (omega (arith, g.3, l, c.head_length.ensures.0, c.if-out-bytes.true)) refl refl)

pub put_rows-requires : goal.put_rows-requires
put_rows-requires c =
    let g = c.in_ok-bytes.ensures in
    let a = c.args in
    let e = c.requires in
    let w = writable e.1 e.2 e.3 g.1 g.2 in
    let l = length-append (with_end (version_line_text a.version)) (with_end (start_line_text a.start)) in
    record {
      records = g.0;
      packs = g.1;
      carried = g.2;
      numbered = w.numbered;
      room = omega (arith, g.3, l, c.head_length.ensures.0, c.if-out-bytes.false, c.put_version_line-p.ensures.next, c.put_start_line-q.ensures.next);
    }

pub returns : goal.returns
returns c =
    let g = c.in_ok-bytes.ensures in
    let a = c.args in
    let e = c.requires in
    let w = writable e.1 e.2 e.3 g.1 g.2 in
    let t = trace_text (trace_of a.version a.start a.first g.0) in
    let n : length t ≡ c.head_length.result + c.in_ok-bytes.field-0 =
    omega (arith, trace_length a.version a.start a.first g.0, g.3, c.head_length.ensures.0) in
    let l : length t ≤ length a.out.now = omega (arith, c.if-out-bytes.false) in
    done w g.1.bytes l (ap write_done (sym n))
    (all_written a.version a.start a.first g.0 g.1 c.put_version_line-p.ensures c.put_start_line-q.ensures c.put_rows.ensures l)

pub returns-in_err-bytes : goal.returns-in_err-bytes
returns-in_err-bytes c =
    let p = err_from_is_err_and c.from_residual.result c.from_residual.ensures.1 in
    let e = c.requires in
    rw (p.1, p.2) (refused (unfit_stopped e.0 e.1 e.2 e.3 c.in_err-bytes.ensures) refl refl)
