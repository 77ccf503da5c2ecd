-- A line read in the window, where CR stands for LF: where it stands in the text, and that none stands there otherwise.
use Prim.Native.Nat.{ℕ, suc, ◌+◌, ◌-◌, ◌≤◌, ◌<◌}
use mathlib.Core.Path.{◌≡◌, refl, ap, sym, ◌∙◌}
use mathlib.Core.Logic.{◌⊎◌, inl, inr}
use mathlib.Core.List.{List, [], ◌∷◌, ◌++◌, append_assoc, append-nil}
use native.Mathlib.Omega.{arith}
use native.Mathlib.Decide.{dec_lt}
use lib.ListN.{length, get_or, take, drop, length-append, length-drop, take-append-drop}
use lib.Seq.{drop_at, drop-drop, take-append-add, get_or-take, get_or-drop, length-take-le}
use Rattle.std.specs.Prelude.{Some, None}
use Rattle.fields.specs.Runs.{All}
use Rattle.fields.specs.inner.Window.{LineBeforeCr}
use Rattle.fields.proofs.Runs.{all_map}
use Rattle.fields.proofs.Window.{head_at}
use Rattle.lines.specs.Lines.{line_limit, Inside}
use Rattle.lines.proofs.Scans.{at_head}
use Rattle.row_reader.proofs.Whole.{framed}
use Rattle.trace.specs.inner.Passes.{Reaches}
use Rattle.trace.proofs.Rows.{View, view}
use Rattle.ascii_line_reader.specs.declared.LineRead.{LineRead}
use Rattle.ascii_line_reader.specs.inner.Answer.{LineHere, LineFound}
use Rattle.ascii_reader.specs.Text.{EndedLine}
use Rattle.ascii_reader.specs.inner.Ends.{cr_for, cr_for_all, cr_all_length, EndHere, feed, return, NoEndHere}
use Rattle.ascii_reader.specs.inner.Passes.{LineThere, LineAt}
use Rattle.ascii_reader.proofs.Ends.{closed, cr_all_drop, cr_all_at, cr_all_line, plain_front}

-- The byte that the window has for one of the text.
pub held_byte : (text : List ℕ) (from n i : ℕ) → from + n ≤ length text → i < n
    → get_or (take n (drop from (cr_for_all text))) i 0 ≡ cr_for (get_or text (from + i) 0)
held_byte text from n i h k =
    get_or-take n (drop from (cr_for_all text)) i 0 k ∙ get_or-drop from (cr_for_all text) i 0 ∙ cr_all_at text (from + i) (omega arith)

pub held_length : (text : List ℕ) (from n : ℕ) → from + n ≤ length text → length (take n (drop from (cr_for_all text))) ≡ n
held_length text from n h = length-take-le n (drop from (cr_for_all text)) (omega (arith, length-drop from (cr_for_all text), cr_all_length text))

-- The end of a line, and of none.

pub ends_feed : (text : List ℕ) (at e : ℕ) → e - at ≤ line_limit → at ≤ e → e < length text → get_or text e 0 ≡ 10 → EndHere text at e (e + 1)
ends_feed text at e h a l b = feed (omega arith) (at_head text e l b) refl (omega arith)

pub ends_return : (text : List ℕ) (at e : ℕ) → e - at ≤ line_limit → at ≤ e → e + 1 < length text → get_or text e 0 ≡ 13 → get_or text (e + 1) 0 ≡ 10
    → EndHere text at e (e + 2)
ends_return text at e h a l b c =
    let n : e + 1 + 1 ≡ e + 2 = omega arith in
    return (omega arith) (at_head text e (omega arith) b ∙ ap (λ (s : List ℕ). 13 ∷ s) (rw n at (at_head text (e + 1) l c))) refl (omega arith)

-- None stands there, if it is not so.
pub no_end : (text : List ℕ) (at e : ℕ) → (e ≤ at + line_limit → e < length text → get_or text e 0 ≡ 10 → ⊥)
    → (e ≤ at + line_limit → e + 1 < length text → get_or text e 0 ≡ 13 → get_or text (e + 1) 0 ≡ 10 → ⊥) → NoEndHere text at e
no_end text at e f g = record {
  feed = λ rest h q. let x = head_at text e q in f h x.0 x.1;
  return = λ rest h q. let x = head_at text e q in let y = head_at text (e + 1) x.2 in g h y.0 x.1 y.1;
}

module _ (text : List ℕ) {w : List ℕ} {at from : ℕ} (reach : Reaches (cr_for_all text) at from w) (inside : at ≤ length text) where
  abbrev n : ℕ
  n = reach.windowed.held - (at - from)

  abbrev front : List ℕ
  front = take n (drop at (cr_for_all text))

  win : View (cr_for_all text) at (drop (at - from) w) n
  win = view reach (rw (cr_all_length text) inside)

  -- An ended line of the text stands in the window too.
  in_window : {line after : List ℕ} → EndedLine line after (drop at text) → LineBeforeCr line (drop (at - from) w)
  in_window {line} {after} l =
      let c = closed l in
      let x = cr_all_line after l.inside c.is in
      let tail = x.0 in
      let d : drop at (cr_for_all text) ≡ line ++ (13 ∷ tail) = cr_all_drop at text ∙ ap cr_for_all c.bytes ∙ x.1 in
      let z : length line + suc (length tail) ≡ length text - at = sym (length-append line (13 ∷ tail)) ∙ ap length (sym d) ∙ length-drop at (cr_for_all text) ∙ rw (cr_all_length text) in
      let h : length line + 1 ≤ n = long (length line) (length tail) l.short z (dec_lt n (line_limit + 2)) in
      let m : n ≡ length line + suc (n - length line - 1) = omega arith in
      let t : front ≡ line ++ (13 ∷ take (n - length line - 1) tail) =
      ap (take n) d ∙ ap (λ (i : ℕ). take i (line ++ (13 ∷ tail))) m ∙ take-append-add line (13 ∷ tail) (suc (n - length line - 1)) in
      record {
        rest = take (n - length line - 1) tail ++ (13 ∷ win.over);
        plain = all_map (λ b p. p.cr) l.inside;
        ended = win.bytes ∙ ap (λ (y : List ℕ). y ++ (13 ∷ win.over)) t ∙ append_assoc line (13 ∷ take (n - length line - 1) tail) (13 ∷ win.over);
      }
    where
      long : (k j : ℕ) → k ≤ line_limit → k + suc j ≡ length text - at → Dec (n < line_limit + 2) → k + 1 ≤ n
      long k j s z (yes h) = let m = win.most h in omega (arith, cr_all_length text)
      long k j s z (no h) = omega arith

  -- No line was read, and none stands there.
  pub not_read : ((line : List ℕ) → LineBeforeCr line (drop (at - from) w) → LineFound line (at - from) None) → LineAt text at None
  not_read read s u = read u.line (in_window u.there) s u.r u.is

  module _ {x : LineRead} (read : (line : List ℕ) → LineBeforeCr line (drop (at - from) w) → LineFound line (at - from) (Some x)) where
    -- The line that was read, in the text.
    record Seen : Type 0 where
      line : List ℕ
      plain : All Inside line
      bytes : drop at text ≡ line ++ drop (at + length line) text
      found : LineHere line (at - from) x

    seen : Seen
    seen = let f = framed front win.over in go f.line f.is f.all
      where
        of : (line more : List ℕ) → LineBeforeCr line (drop (at - from) w) → front ≡ line ++ more → Seen
        of line more b e =
            let d : cr_for_all (drop at text) ≡ line ++ (more ++ drop n (drop at (cr_for_all text))) =
            sym (cr_all_drop at text) ∙ sym (take-append-drop n (drop at (cr_for_all text))) ∙ ap (λ (s : List ℕ). s ++ drop n (drop at (cr_for_all text))) e
            ∙ append_assoc line more (drop n (drop at (cr_for_all text))) in
            let p = plain_front line (more ++ drop n (drop at (cr_for_all text))) (drop at text) b.plain d in
            record {
              line = line;
              plain = p.0;
              bytes = p.1 ∙ ap (λ (s : List ℕ). line ++ s) (drop-drop (length line) at text);
              found = read line b;
            }

        go : (line : List ℕ) → LineBeforeCr line (front ++ (13 ∷ win.over)) → (line ≡ front) ⊎ ((more : List ℕ) × (front ≡ line ++ (13 ∷ more))) → Seen
        go line b (inl e) = of line [] (rw win.bytes b) (sym e ∙ sym (append-nil line))
        go line b (inr (more, e)) = of line (13 ∷ more) (rw win.bytes b) e

    seen_within : (s : Seen) → at + length s.line ≤ length text
    seen_within s = omega (arith, ap length s.bytes ∙ length-append s.line (drop (at + length s.line) text), length-drop at text)

    -- Where what was read ends.
    pub end_near : (at ≤ from + x.end) × (from + x.end ≤ length text)
    end_near = let s = seen in let b = reach.starts in (omega (arith, s.found.end), omega (arith, s.found.end, seen_within s))

    at_end_lem : (line : List ℕ) → x.end ≡ at - from + length line → from + x.end ≡ at + length line
    at_end_lem line e = let b = reach.starts in omega arith

    -- A line was read, and this is its end.
    pub line_here : {next : ℕ} → EndHere text at (from + x.end) next → LineThere text at (record { end = next; ticks = x.ticks; r = x.r })
    line_here {next} end = let s = seen in go s (at_end_lem s.line s.found.end) end
      where
        whole : (s : Seen) {y : List ℕ} → from + x.end ≡ at + length s.line → drop (from + x.end) text ≡ y → drop at text ≡ s.line ++ y
        whole s p q = s.bytes ∙ ap (λ (i : ℕ). s.line ++ drop i text) (sym p) ∙ ap (λ (y : List ℕ). s.line ++ y) q

        go : (s : Seen) → from + x.end ≡ at + length s.line → EndHere text at (from + x.end) next
            → LineThere text at (record { end = next; ticks = x.ticks; r = x.r })
        go s p (feed h q i l) = record {
          stamp = s.found.stamp;
          line = s.line;
          ended = record { inside = s.plain; short = omega arith; ended = inr (whole s p q) };
          is = s.found.is;
          ticks = s.found.ticks;
          later = omega arith;
          within = l;
        }
        go s p (return h q i l) = record {
          stamp = s.found.stamp;
          line = s.line;
          ended = record { inside = s.plain; short = omega arith; ended = inl (whole s p q) };
          is = s.found.is;
          ticks = s.found.ticks;
          later = omega arith;
          within = l;
        }

    -- It has no end there: no line stands there.
    pub not_ended : NoEndHere text at (from + x.end) → LineAt text at None
    not_ended n d u = ends u.there.ended
      where
        p : from + x.end ≡ at + length u.line
        p = at_end_lem u.line (read u.line (in_window u.there)).end

        behind : {r : List ℕ} → drop at text ≡ u.line ++ r → drop (from + x.end) text ≡ r
        behind {r} q =
            ap (λ (i : ℕ). drop i text) p ∙ sym (drop-drop (length u.line) at text) ∙ ap (drop (length u.line)) q ∙ drop_at u.line r (length u.line) refl

        ends : (drop at text ≡ u.line ++ (13 ∷ 10 ∷ u.after)) ⊎ (drop at text ≡ u.line ++ (10 ∷ u.after)) → ⊥
        ends (inl q) = let h = u.there.short in n.return u.after (omega (arith, p)) (behind q)
        ends (inr q) = let h = u.there.short in n.feed u.after (omega (arith, p)) (behind q)
