-- Texts read up to some line: one line more, and two readings of one text side by side.
use Prim.Native.Nat.{ℕ, suc, ◌+◌, ◌*◌, ◌≤◌, ◌<◌}
use mathlib.Core.Path.{◌≡◌, refl, ap, sym, ◌∙◌}
use mathlib.Core.Logic.{◌≢◌}
use mathlib.Core.List.{List, [], ◌∷◌, ◌++◌, append_assoc, append-nil}
use native.Mathlib.Omega.{arith}
use lib.ListN.{length}
use Rattle.base.specs.Limits.{offset_limit}
use Rattle.clock.specs.declared.DateTime.{DateTime}
use Rattle.record.specs.declared.Record.{Record}
use Rattle.fields.specs.Runs.{All}
use Rattle.lines.specs.Lines.{Inside}
use Rattle.ascii_line_reader.specs.AsciiLine.{instant, AsciiLine}
use Rattle.ascii_line_reader.proofs.Theorems.{line_one}
use Rattle.ascii_reader.specs.Text.{EndedLine, Lines, over, line, FirstStart, no_lines, cut, SpellsAscii}
use Rattle.ascii_reader.specs.Promise.{ReadUpTo, NextStamp}
use Rattle.ascii_reader.proofs.Ends.{LineEnd, ended_by, closed, closed_one, ended_one, ended_none, ended_more}
use Rattle.ascii_reader.proofs.One.{first_start}

-- The next line can stand behind this start.
pub record NextLine (start : ℕ) (rest : List ℕ) : Type 0 where
  pub s : DateTime
  pub r : Record
  pub this : List ℕ
  pub after : List ℕ
  pub there : EndedLine this after rest
  pub is : AsciiLine s r this
  pub stamp : instant s ≡ start * 1000 + r.offset
  pub within : r.offset ≤ offset_limit

-- It is a line with a stamp.
pub next_stamp : {start : ℕ} {rest : List ℕ} (n : NextLine start rest) → NextStamp n.s rest
next_stamp n = record { line = n.this; after = n.after; there = n.there; r = n.r; is = n.is }

-- The next line has one stamp.
pub stamp_one : {rest : List ℕ} {s d : DateTime} → NextStamp s rest → NextStamp d rest → s ≡ d
stamp_one x y = (line_one (rw (ended_one x.there y.there).0 at x.is) y.is).0

-- However it is ended, and whatever stands behind it, it is the same line.
pub next_same : {start : ℕ} {l e d rest : List ℕ} (more after : List ℕ) → All Inside l → LineEnd e → LineEnd d → NextLine start (l ++ (e ++ more))
    → rest ≡ l ++ (d ++ after) → NextLine start rest
next_same more after a e d n q =
    let z = (closed_one a e refl n.there).0 in
    record { s = n.s; r = n.r; this = _; after = after; there = ended_by a (rw z at n.there.short) d q; is = rw z at n.is; stamp = n.stamp; within = n.within }

-- Lines behind lines.
pub lines_append : {start : ℕ} {rs qs : List Record} {front rest : List ℕ} → Lines start rs front → Lines start qs rest
    → Lines start (rs ++ qs) (front ++ rest)
lines_append over g = g
lines_append {rest = rest} (line l a e h f) g = line (ended_more rest l) a e h (lines_append f g)

-- One line more, with which the lines spell something still.
pub read_more : {start next : ℕ} {r : Record} {rs : List Record} {s : DateTime} {l after rest text : List ℕ} (u : ReadUpTo start rs rest text)
    → EndedLine l after rest → AsciiLine s r l → instant s ≡ next * 1000 + r.offset → r.offset ≤ offset_limit
    → Lines next rs u.front → FirstStart next (rs ++ (r ∷ [])) → ReadUpTo next (rs ++ (r ∷ [])) after text
read_more {l = l} {after = after} u e a q h ls f =
    let c = closed e in
    let this = l ++ c.end in
    let n : this ≡ l ++ (c.end ++ []) = ap (λ (x : List ℕ). l ++ x) (sym (append-nil c.end)) in
    record {
      front = u.front ++ this;
      whole = u.whole ∙ ap (λ (x : List ℕ). u.front ++ x) (c.bytes ∙ sym (append_assoc l c.end after)) ∙ sym (append_assoc u.front this after);
      spelled = record { first = f; lines = lines_append ls (line (ended_by e.inside e.short c.is n) a q h over) };
    }

-- Two readings of one text, by the numbers of their lines: they end at the same place, or behind the shorter one stands a line of the other.
pub data Meets (a b n m : ℕ) (rest other : List ℕ) : Type 0 where
  same : n ≡ m → rest ≡ other → Meets a b n m rest other
  shorter : n < m → NextLine b rest → Meets a b n m rest other
  longer : m < n → NextLine a other → Meets a b n m rest other

one_more : {a b n m : ℕ} {rest other : List ℕ} → Meets a b n m rest other → Meets a b (suc n) (suc m) rest other
one_more (same q e) = same (omega arith) e
one_more (shorter q x) = shorter (omega arith) x
one_more (longer q x) = longer (omega arith) x

pub meets : {a b : ℕ} {rs qs : List Record} {front front' : List ℕ} (rest other : List ℕ) → Lines a rs front → Lines b qs front'
    → front ++ rest ≡ front' ++ other → Meets a b (length rs) (length qs) rest other
meets rest other over over e = same refl e
meets rest other over (line l x q h g) e =
    shorter (omega arith) (record { s = _; r = _; this = _; after = _; there = rw (← e) at (ended_more other l); is = x; stamp = q; within = h })
meets rest other (line l x q h f) over e =
    longer (omega arith) (record { s = _; r = _; this = _; after = _; there = rw e at (ended_more rest l); is = x; stamp = q; within = h })
meets rest other (line l x q h f) (line k y p i g) e =
    let z = ended_one (ended_more rest l) (rw (← e) at (ended_more other k)) in
    one_more (meets rest other f g z.1)

-- Where both have some line, their start is the same: the first stamp, cut.
pub same_start : {a b : ℕ} {rs qs : List Record} {front front' : List ℕ} (rest other : List ℕ) → SpellsAscii a rs front → SpellsAscii b qs front'
    → front ++ rest ≡ front' ++ other → 0 < length rs → 0 < length qs → a ≡ b
same_start {a} {b} rest other f g = go f.first f.lines g.first g.lines
  where
    go : {rs qs : List Record} {front front' : List ℕ} → FirstStart a rs → Lines a rs front → FirstStart b qs → Lines b qs front'
        → front ++ rest ≡ front' ++ other → 0 < length rs → 0 < length qs → a ≡ b
    go (no_lines z) x (no_lines w) y e n m = absurd (omega arith)
    go (no_lines z) x (cut w) y e n m = absurd (omega arith)
    go (cut z) x (no_lines w) y e n m = absurd (omega arith)
    go (cut z) (line l x q h f) (cut w) (line k y p i g) e n m =
        let o = (ended_one (ended_more rest l) (rw (← e) at (ended_more other k))).0 in
        first_start (rw o at x) q z y p w

-- A text that spells something and begins with lines that do goes on with a line that can stand behind their start, or it is those lines.
pub spelled_next : {a b : ℕ} {rs qs : List Record} {front text : List ℕ} (rest : List ℕ) → SpellsAscii a rs front → SpellsAscii b qs text
    → text ≡ front ++ rest → rest ≢ [] → NextLine b rest × (0 < length rs → a ≡ b)
spelled_next {a} {b} {rs} {qs} {front} {text} rest f g e n = go (meets rest [] f.lines g.lines q)
  where
    q : front ++ rest ≡ text ++ []
    q = sym e ∙ sym (append-nil text)

    go : Meets a b (length rs) (length qs) rest [] → NextLine b rest × (0 < length rs → a ≡ b)
    go (same c d) = absurd (n d)
    go (shorter c x) = (x, λ h. same_start rest [] f g q h (omega arith))
    go (longer c x) = absurd (ended_none x.there refl)
