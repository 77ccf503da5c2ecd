-- A row read in the window: where it stands in the text, and that none stands there otherwise.
use Prim.Native.Nat.{ℕ, suc, ◌+◌, ◌-◌, ◌≤◌, ◌<◌}
use mathlib.Core.Path.{◌≡◌, ap, sym, ◌∙◌}
use mathlib.Core.Logic.{◌⊎◌, inl, inr}
use mathlib.Core.List.{List, ◌∷◌, ◌++◌, append_assoc}
use Rattle.std.specs.Prelude.{Some}
use native.Mathlib.Numerals.{add-one}
use native.Mathlib.Omega.{arith}
use native.Mathlib.Decide.{dec_lt}
use lib.ListN.{length, get_or, take, drop, length-append, length-drop, take-append-drop}
use lib.Seq.{drop_at, drop-cons, drop-drop, drop-append-add, drop-append-le, take-add, take-append-add, length-take-le}
use Rattle.fields.specs.inner.Window.{LineBeforeCr, Lined}
use Rattle.fields.proofs.Runs.{all_map}
use Rattle.record.specs.declared.Record.{Record}
use Rattle.row.specs.Row.{Expected, Row}
use Rattle.row.proofs.Plain.{row_plain}
use Rattle.row_reader.specs.inner.Answer.{RowFound, NumberOf}
use Rattle.lines.specs.Lines.{line_limit}
use Rattle.lines.proofs.Scans.{at_head}
use Rattle.row_reader.proofs.Numbers.{number_of}
use Rattle.row_reader.proofs.Whole.{framed}
use Rattle.trace.specs.Trace.{Line}
use Rattle.trace.specs.inner.Passes.{most_held, Reaches, NoRow, RowHere}

-- What stands behind CR is the rest of the text.
behind : (text line more : List ℕ) (at feed : ℕ) → drop at text ≡ line ++ (13 ∷ more) → feed ≡ at + suc (length line) → more ≡ drop feed text
behind text line more at feed d z =
    let a : drop (length line + 1) (line ++ (13 ∷ more)) ≡ more = drop-append-add line (13 ∷ more) 1 in
    let n : at + (length line + 1) ≡ feed = omega arith in
    sym a ∙ ap (drop (length line + 1)) (sym d) ∙ drop-drop (length line + 1) at text ∙ ap (λ (i : ℕ). drop i text) n

-- The window as a row at `at` sees it: the next n bytes of the text, and CR. They are all that is left, or as many as a line within the limit and its
-- end have.
pub record View (text : List ℕ) (at : ℕ) (s : List ℕ) (n : ℕ) : Type 0 where
  pub over : List ℕ
  pub bytes : s ≡ take n (drop at text) ++ (13 ∷ over)
  pub within : at + n ≤ length text
  pub most : n < line_limit + 2 → at + n ≡ length text

-- What is left of bytes that were taken.
drop_taken : (s : List ℕ) (i n : ℕ) → i ≤ n → n ≤ length s → drop i (take n s) ≡ take (n - i) (drop i s)
drop_taken s i n h k =
    let m : n ≡ i + (n - i) = omega arith in
    ap (λ (x : ℕ). drop i (take x s)) m ∙ ap (drop i) (take-add i (n - i) s) ∙ drop_at (take i s) (take (n - i) (drop i s)) i (length-take-le i s (omega arith))

pub view : {text w : List ℕ} {at from : ℕ} (reach : Reaches text at from w) → at ≤ length text
    → View text at (drop (at - from) w) (reach.windowed.held - (at - from))
view {text} {w} {at} {from} reach inside =
    let h = reach.windowed in
    let n = h.held in
    let i = at - from in
    let a = h.within in
    let b = reach.starts in
    let c = reach.room in
    let r : i ≤ n = by (dec_lt n most_held) in
    let z : n ≤ length (drop from text) = omega (arith, length-drop from text) in
    let f : from + i ≡ at = omega arith in
    record {
      over = h.behind;
      bytes =
          ap (drop i) h.bytes ∙ drop-append-le i (take n (drop from text)) (13 ∷ h.behind) (omega (arith, length-take-le n (drop from text) z))
          ∙ ap (λ (x : List ℕ). x ++ (13 ∷ h.behind)) (drop_taken (drop from text) i n r z ∙ ap (take (n - i)) (drop-drop i from text ∙ ap (λ (x : ℕ). drop x text) f));
      within = omega arith;
      most = λ l. let m = h.most (omega arith) in omega arith;
    }
  where
    by : Dec (reach.windowed.held < most_held) → at - from ≤ reach.windowed.held
    by (yes l) = let m = reach.windowed.most l in omega arith
    by (no l) = let c = reach.room in omega arith

-- A CR stands in the window.
pub lined : {text w : List ℕ} {at from : ℕ} → Reaches text at from w → at ≤ length text → Lined (drop (at - from) w)
lined {text} {at = at} {from = from} reach inside =
    let v = view reach inside in
    let x = framed (take (reach.windowed.held - (at - from)) (drop at text)) v.over in
    record { line = x.line; is = rw v.bytes x.is }

-- A line without CR that is short and ended stands in the window too.
module _ {text s : List ℕ} {at n : ℕ} (win : View text at s n) {line after : List ℕ} (l : Line line after (drop at text)) where
  size : length (drop at text) ≡ length line + suc (suc (length after))
  size = ap length l.first.ended ∙ length-append line (13 ∷ 10 ∷ after)

  long : length line + 2 ≤ n
  long = by (dec_lt n (line_limit + 2))
    where
      by : Dec (n < line_limit + 2) → length line + 2 ≤ n
      by (yes h) = let m = win.most h in omega (arith, size, length-drop at text)
      by (no h) = let s = l.short in omega arith

  abbrev rest : List ℕ
  rest = take (n - length line - 1) (10 ∷ after)

  framed_line : s ≡ line ++ (13 ∷ (rest ++ (13 ∷ win.over)))
  framed_line =
      let h = long in
      let m : n ≡ length line + suc (n - length line - 1) = omega arith in
      let t : take n (drop at text) ≡ line ++ (13 ∷ rest) =
      ap (take n) l.first.ended ∙ ap (λ (i : ℕ). take i (line ++ (13 ∷ 10 ∷ after))) m ∙ take-append-add line (13 ∷ 10 ∷ after) (suc (n - length line - 1)) in
      win.bytes ∙ ap (λ (x : List ℕ). x ++ (13 ∷ win.over)) t ∙ append_assoc line (13 ∷ rest) (13 ∷ win.over)

  in_window : LineBeforeCr line s
  in_window = record { rest = _; plain = all_map (λ b p. p.cr) l.first.inside; ended = framed_line }

-- Behind the CR of a line stand LF and the next line.
next_byte : (text : List ℕ) (at : ℕ) {feed : ℕ} {line after : List ℕ} → Line line after (drop at text) → feed ≡ at + suc (length line)
    → (feed < length text) × (get_or text feed 0 ≡ 10)
next_byte text at {feed} {line} {after} l y =
    let b : 10 ∷ after ≡ drop feed text = behind text line (10 ∷ after) at feed l.first.ended y in
    let h : feed < length text = omega (arith, ap length b, length-drop feed text) in
    let c : 10 ∷ after ≡ get_or text feed 0 ∷ drop (feed + 1) text = b ∙ drop-cons text feed 0 h ∙ rw add-one in
    (h, cc)

-- Where a row is read to its end in the window, at the place e of its CR.
module _ {text w : List ℕ} {at from version k e : ℕ} {out : Record} (reach : Reaches text at from w) (inside : at ≤ length text)
    (read : (line : List ℕ) → LineBeforeCr line (drop (at - from) w) → RowFound version k (at - from) line out (Some e)) where
  abbrev n : ℕ
  n = reach.windowed.held - (at - from)

  abbrev front : List ℕ
  front = take n (drop at text)

  -- Where its LF is to stand.
  abbrev feed : ℕ
  feed = from + e + 1

  win : View text at (drop (at - from) w) n
  win = view reach inside

  front_length : length front ≡ n
  front_length = let a = win.within in length-take-le n (drop at text) (omega (arith, length-drop at text))

  -- What was read ends in the text, or right behind it.
  pub feed_near : from + e ≤ length text
  feed_near = let x = framed front win.over in go x.all (read x.line (rw win.bytes x.is)).1
    where
      go : {line : List ℕ} → (line ≡ front) ⊎ ((more : List ℕ) × (front ≡ line ++ (13 ∷ more))) → e ≡ at - from + length line
          → from + e ≤ length text
      go (inl c) y = let s = reach.starts in let a = win.within in omega (arith, front_length, ap length c)
      go {line} (inr (more, c)) y =
          let s = reach.starts in
          let a = win.within in
          omega (arith, front_length, ap length c ∙ length-append line (13 ∷ more))

  -- It is within the limit, and LF stands behind its CR.
  pub row_here : feed ≤ at + (line_limit + 1) → feed < length text → get_or text feed 0 ≡ 10 → RowHere text at version k out (feed + 1)
  row_here h m f = let x = framed front win.over in let q = read x.line (rw win.bytes x.is) in go x.all q.0 q.1
    where
      stands : (line more : List ℕ) → feed ≡ at + suc (length line) → front ≡ line ++ (13 ∷ more)
          → drop at text ≡ line ++ (13 ∷ 10 ∷ drop (feed + 1) text)
      stands line more q c =
          let d : drop at text ≡ line ++ (13 ∷ (more ++ drop n (drop at text))) =
          sym (take-append-drop n (drop at text)) ∙ ap (λ (x : List ℕ). x ++ drop n (drop at text)) c ∙ append_assoc line (13 ∷ more) (drop n (drop at text)) in
          let b = behind text line (more ++ drop n (drop at text)) at feed d q in
          let g : drop feed text ≡ 10 ∷ drop (feed + 1) text = at_head text feed m f in
          d ∙ ap (λ (x : List ℕ). line ++ (13 ∷ x)) (b ∙ g)

      go : {line : List ℕ} → (line ≡ front) ⊎ ((more : List ℕ) × (front ≡ line ++ (13 ∷ more))) → Row version k out line
          → e ≡ at - from + length line → RowHere text at version k out (feed + 1)
      go (inl c) u y = absurd (full (dec_lt n (line_limit + 2)))
        where
          full : Dec (n < line_limit + 2) → ⊥
          full (yes l) = let t = win.most l in let s = reach.starts in omega (arith, front_length, ap length c)
          full (no l) = let s = reach.starts in omega (arith, front_length, ap length c)
      go {line} (inr (more, c)) u y =
          let s = reach.starts in
          let q : feed ≡ at + suc (length line) = omega arith in
          record {
            line = line;
            there = record {
              is = record { first = record { inside = all_map (λ b p. record { cr = p.0; lf = p.1 }) (row_plain u); ended = stands line more q c }; short = omega arith };
              later = omega arith;
              within = omega arith;
            };
            row = u;
          }

  -- Or it is no row of the text.
  pub no_row_here : (feed ≤ at + (line_limit + 1) → feed < length text → get_or text feed 0 ≡ 10 → ⊥) → NoRow text at version k
  no_row_here not r line after l u =
      let q = (read line (in_window win l)).1 in
      let a = reach.starts in
      let s = l.short in
      let x = next_byte text at {feed = feed} l (omega arith) in
      not (omega arith) x.0 x.1

-- Where none is, none stands in the text.
pub never_here : {text w : List ℕ} {at from version k : ℕ} → Reaches text at from w → at ≤ length text
    → ((line : List ℕ) → LineBeforeCr line (drop (at - from) w) → (r : Record) → Row version k r line → ⊥) → NoRow text at version k
never_here reach inside read r line after l u = read line (in_window (view reach inside) l) r u

-- The number k of the row at `at`, where row e is expected: k is one that is expected, and if no row k stands there, none of those does.
module _ {text w : List ℕ} {at from e k : ℕ} (reach : Reaches text at from w) (inside : at ≤ length text)
    (read : (line : List ℕ) → LineBeforeCr line (drop (at - from) w) → NumberOf e line k) where
  pub number_expected : Expected e k
  number_expected = let l = lined reach inside in (read l.line l.is).expected

  pub none_expected : {version : ℕ} → NoRow text at version k → (j : ℕ) → Expected e j → NoRow text at version j
  none_expected none j x r line after l u =
      let q = number_of (read line (in_window (view reach inside) l)) u x in
      none r line after l (rw q at u)

-- Row k stands at `at`.
pub record Rowed (text : List ℕ) (at version k : ℕ) : Type 0 where
  pub r : Record
  pub line : List ℕ
  pub after : List ℕ
  pub is : Line line after (drop at text)
  pub row : Row version k r line
