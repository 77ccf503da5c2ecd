-- From field to field: what a gap and a field add to the fields before them, and the answers at a field that no row goes on with and at the line's end.
use Prim.Native.Nat.{ℕ, ◌+◌, ◌-◌, ◌≤◌, ◌<◌}
use Rattle.std.specs.Prelude.{Err}
use mathlib.Core.Path.{◌≡◌, refl, sym, ◌∙◌}
use mathlib.Core.Logic.{◌≢◌}
use mathlib.Core.List.{List, [], ◌∷◌, ◌++◌, append_assoc, append-nil}
use native.Mathlib.Omega.{arith}
use native.Mathlib.Decide.{ℕ_discrete}
use lib.ListN.{length, take, drop, length-append, take-append-drop, drop_of_length-le}
use lib.Seq.{slice, drop-cons, length-slice, take_at}
use Rattle.base.specs.declared.refusal.Refusal.TheVariants as refusal
use Rattle.record.specs.declared.Record.{Record}
use Rattle.fields.specs.Parted.{NoBlank, Parted, none}
use Rattle.fields.specs.Runs.{All, empty, more, Stops, over, halt}
use Rattle.fields.specs.inner.Window.{Solid}
use Rattle.fields.proofs.Parts.{blanks, first, has_fields}
use Rattle.fields.proofs.Runs.{all_left, all_right}
use Rattle.lines.specs.Lines.{Inside}
use Rattle.lines.specs.inner.Parts.{IsBlank, Ran}
use Rattle.lines.proofs.Scans.{split, part}
use Rattle.row.specs.declared.Part.{Part}
use Rattle.row.specs.inner.Stages.{Continues}
use Rattle.row.proofs.CanEnd.{CanEnd}
use Rattle.explain.specs.Explain.{ExpectedFields, BeginsRow, WrongField, EndedEarly}
use Rattle.explain.specs.inner.Steps.{Field, Moved, FieldsBefore, FoundIn}

-- A gap, and the field after it.
module _ {line : List ℕ} {at a e : ℕ} (g : Ran IsBlank line at a) (n : a ≢ length line) (h : Ran NoBlank line a e) where
  inside : a < length line
  inside = omega (arith, g.within)

  -- there is a field
  pub later : a < e
  later = go (ℕ_discrete a e)
    where
      no_blank : {b : ℕ} {s t : List ℕ} → s ≡ b ∷ t → Stops IsBlank s → b ≢ 32
      no_blank q over = let z : ◌≡◌ {A = ℕ} 0 1 = cc in absurd (omega arith)
      no_blank {b} q (halt {b = c} m) = let z : c ≡ b = cc in λ x. m (z ∙ x)

      dark : {b : ℕ} {s t : List ℕ} → s ≡ b ∷ t → Stops NoBlank s → NoBlank b → ⊥
      dark q over m = let z : ◌≡◌ {A = ℕ} 0 1 = cc in omega arith
      dark {b} q (halt {b = c} k) m = let z : c ≡ b = cc in k (λ x. m (sym z ∙ x))

      go : Dec (a ≡ e) → a < e
      go (yes z) =
          let q = drop-cons line a 0 inside in
          absurd (dark q (rw (← z) at h.stops) (no_blank q g.stops))
      go (no m) = omega (arith, h.from)

  pub some : 0 < length (slice a e line)
  some = omega (arith, later, length-slice a e line h.within)

  -- it has no blank, and, in a line, no CR
  is_field : All Inside line → Field (slice a e line)
  is_field i = record { some = some; solid = both h.all (all_left (slice a e line) (drop e line) (rw (← (split h)) (rest i))) }
    where
      rest : All Inside line → All Inside (drop a line)
      rest i = all_right (take a line) (drop a line) (rw take-append-drop i)

      both : {f : List ℕ} → All NoBlank f → All Inside f → All Solid f
      both empty empty = empty
      both (more p u) (more q v) = more (record { blank = p; end = q.cr }) (both u v)

  -- as the code lends it
  pub lent : All Inside line → Field (take (e - a) (drop a line))
  lent i = rw (part h) (is_field i)

  -- the fields from the gap on are it and those after it
  pub fields_here : {fs : List (List ℕ)} → Parted fs (drop e line) → Parted (slice a e line ∷ fs) (drop at line)
  fields_here p = rw (split g) (blanks g.all (first some h.all h.stops p (split h)))

  module _ {v k i : ℕ} {C : List (List ℕ) → Record → Type 0} (x : FieldsBefore v k line C at i) where
    abbrev f : List ℕ
    f = slice a e line

    -- one field more
    longer : (fs : List (List ℕ)) → (x.front ++ (f ∷ [])) ++ fs ≡ x.front ++ (f ∷ fs)
    longer fs = append_assoc x.front (f ∷ []) fs

    counted : length (x.front ++ (f ∷ [])) ≡ i + 1
    counted = omega (arith, length-append x.front (f ∷ []), x.count)

    pub fields_next : {p : Part} → Moved C f p → FieldsBefore v k line (Continues p) e (i + 1)
    fields_next m = record {
      front = x.front ++ (f ∷ []);
      count = counted;
      parted = λ fs p. rw (longer fs) (x.parted (f ∷ fs) (fields_here p));
      onto = λ fs r c. m.onto fs r (x.onto (f ∷ fs) r (rw (longer fs) at c));
      back = λ fs r c. rw (longer fs) (x.back (f ∷ fs) r (m.back fs r c));
    }

    pub found_wrong : CanEnd C → ((fs : List (List ℕ)) (r : Record) → C (f ∷ fs) r → ⊥) → WrongField v k line (i + 1)
    found_wrong o u =
        let y = has_fields (drop e line) in
        let gs = y.0 in
        let z : i + 1 - 1 ≡ i = omega arith in
        record {
          fields = x.front ++ (f ∷ gs);
          parted = x.parted (f ∷ gs) (fields_here y.1);
          low = omega arith;
          high = omega (arith, length-append x.front (f ∷ gs), x.count);
          before = rw (z, take_at x.front (f ∷ gs) i x.count) (record { further = o.fields; r = o.r; row = x.back o.fields o.r o.ends });
          none = λ b.
              let q : take (i + 1) (x.front ++ (f ∷ gs)) ≡ x.front ++ (f ∷ []) = rw (← (longer gs)) (take_at (x.front ++ (f ∷ [])) gs (i + 1) counted) in
              let c : BeginsRow v k (x.front ++ (f ∷ [])) = rw q at b in
              u c.further c.r (x.onto (f ∷ c.further) c.r (rw (longer c.further) at c.row));
        }

-- The line's end.
module _ {v k : ℕ} {line : List ℕ} {at a i : ℕ} {C : List (List ℕ) → Record → Type 0} (x : FieldsBefore v k line C at i) (g : Ran IsBlank line at a) (n : a ≡ length line) where
  ended : Parted x.front line
  ended =
      let l : length line ≤ a = omega arith in
      let p : Parted [] (drop at line) = rw (split g, drop_of_length-le line l) (blanks g.all none) in
      rw append-nil at (x.parted [] p)

  pub found_early : CanEnd C → ((r : Record) → C [] r → ⊥) → EndedEarly v k line i
  found_early o u = record {
    fields = x.front;
    parted = ended;
    count = x.count;
    begins = record { further = o.fields; r = o.r; row = x.back o.fields o.r o.ends };
    none = λ r c. u r (x.onto [] r (rw append-nil c));
  }

  pub found_row : {r : Record} → C [] r → FoundIn v k line (Err refusal.NothingToExplain)
  found_row {r} c =
      let q : ExpectedFields v k r x.front = rw append-nil at (x.back [] r c) in
      (refl, (q.k, r, q.expected, record { fields = x.front; parted = ended; row = q.row }))

-- Before the first field.
pub fields_none : (v k : ℕ) (line : List ℕ) → FieldsBefore v k line (λ fs r. ExpectedFields v k r fs) 0 0
fields_none v k line = record { front = []; count = refl; parted = λ fs p. p; onto = λ fs r c. c; back = λ fs r c. c }
