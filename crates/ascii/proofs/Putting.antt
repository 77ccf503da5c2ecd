-- What the second pass keeps: the lines of the records up to `at` are put, and those of the rest are to come.
use Prim.Native.Nat.{ℕ, ◌+◌, ◌≤◌, ◌<◌}
use mathlib.Core.Path.{◌≡◌, refl, ap}
use mathlib.Core.List.{List, [], ◌∷◌, ◌++◌, append-nil}
use native.Mathlib.Omega.{arith}
use lib.ListN.{length, length-append}
use Rattle.base.specs.inner.Wrote.{Wrote}
use Rattle.base.proofs.Lists.{then}
use Rattle.clock.specs.declared.DateTime.{DateTime}
use Rattle.clock.specs.Stamp.{Stamp}
use Rattle.record.specs.declared.Record.{Record}
use Rattle.record.specs.inner.PackedAt.{PackedAt}
use Rattle.records.proofs.Ahead.{Ahead, ahead, later, after_next, ahead_more, all_behind}
use Rattle.ascii.specs.Promise.{line_of, Exports, none}
use Rattle.ascii.specs.inner.Passes.{LinePut, line, left, LinesFit, LinesPut}
use Rattle.ascii.proofs.Exporting.{exports_one, exports_append, exports_line, exports_left, first_line, first_left}

pub record Putting (start channel : ℕ) (s old out : List ℕ) (at p : ℕ) : Type 0 where
  pub records : Ahead s at
  pub done : List ℕ
  pub so_far : Exports start channel records.before done
  pub wrote : Wrote old out 0 p done
  pub text : List ℕ
  pub to_come : Exports start channel records.after text
  pub room : p + length text ≤ length old
  pub same : length out ≡ length old

pub putting : {start channel : ℕ} {s old : List ℕ} → LinesFit start channel s old → Putting start channel s old old 0 0
putting f = record {
  records = ahead f.packs;
  done = [];
  so_far = none;
  wrote = record { next = refl; stored = refl };
  text = f.text;
  to_come = f.exports;
  room = let m = f.room in omega arith;
  same = refl;
}

module _ {start channel : ℕ} {s old out : List ℕ} {at p : ℕ} (f : Putting start channel s old out at p) {r : Record} {z : DateTime} (h : at < length s) (b : PackedAt s at r) (y : Stamp start r.offset z) where
  next : Exports start channel (r ∷ later f.records h b) f.text
  next = rw (after_next f.records h b) at f.to_come

  -- There is room for the next line, if there is one.
  pub next_room : r.kind ≤ 1 → p + length (line_of channel z r) ≤ length out
  next_room k =
      let x = first_line k y next in
      omega (arith, f.room, f.same, ap length x.1, length-append (line_of channel z r) x.0)

  -- It is put.
  pub put_more : {new : List ℕ} {e : ℕ} → LinePut channel out new p e z r → length new ≡ length old → Putting start channel s old new (at + 20) e
  put_more (line k w) l =
      let x = first_line k y next in
      record {
        records = ahead_more f.records h b;
        done = f.done ++ line_of channel z r;
        so_far = exports_append f.so_far (exports_line k y);
        wrote = then f.wrote w;
        text = x.0;
        to_come = x.2;
        room = omega (arith, f.room, w.next, ap length x.1, length-append (line_of channel z r) x.0);
        same = l;
      }
  put_more {new} {e} (left k d n) l = record {
    records = ahead_more f.records h b;
    done = f.done;
    so_far = rw append-nil at (exports_append f.so_far (exports_left {r = r} k));
    wrote = rw (d, n) f.wrote;
    text = f.text;
    to_come = first_left k next;
    room = omega (arith, f.room, n);
    same = l;
  }

pub lines_put : {start channel : ℕ} {s old out : List ℕ} {at p : ℕ} → Putting start channel s old out at p → length s ≤ at → LinesPut start channel s old out
lines_put {p = p} f h = record {
  lines = λ rs text g e.
      let q = exports_one (rw (all_behind f.records h g) at e) f.so_far in
      (p, rw q f.wrote);
}
