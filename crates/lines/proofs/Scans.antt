-- Laws on the scans of a line: a run of bytes, bytes that stand at a place, and the place behind `;` and blanks.
use Prim.Native.Nat.{ℕ, ◌+◌, ◌-◌, ◌≤◌, ◌<◌}
use Rattle.std.specs.Prelude.{nat_eq}
use Rattle.std.specs.List.{starts_with}
use Rattle.std.proofs.lemmas.Bool.Decides.{Decides-eqb}
use Rattle.std.proofs.lemmas.List.{take_all}
use Rattle.std.proofs.lemmas.Slice.Eq.{starts_is}
use mathlib.Core.Path.{◌≡◌, refl, ap, sym, ◌∙◌}
use mathlib.Core.Bool.{Bool, true, false}
use mathlib.Core.Logic.{◌≢◌}
use mathlib.Core.List.{List, [], ◌∷◌, ◌++◌, append-nil}
use native.Mathlib.Numerals.{add-one}
use native.Mathlib.Omega.{arith}
use lib.ListN.{length, get_or, take, drop, length-drop, drop_of_length-le}
use lib.Seq.{slice, slice_empty, drop-cons, drop-drop, drop-append_seam, take_at, length-slice}
use Rattle.base.specs.inner.Decides.{Decides}
use Rattle.base.proofs.Lists.{slice_snoc}
use Rattle.fields.specs.Runs.{All, empty, more, Stops, over, halt}
use Rattle.fields.proofs.Runs.{cut, all_map, all_append}
use Rattle.fields.proofs.Window.{slice_drop}
use Rattle.lines.specs.Lines.{Blanks}
use Rattle.lines.specs.inner.Parts.{IsBlank, Digit, Between, Ran, Opened, StandsAt}

-- What a loop over a run keeps: the bytes passed have P.
pub record Passed (P : ℕ → Type 0) (s : List ℕ) (i e : ℕ) : Type 0 where
  pub from : i ≤ e
  pub within : e ≤ length s
  pub all : All P (slice i e s)

module _ {P : ℕ → Type 0} where
  pub none_passed : (s : List ℕ) (i : ℕ) → i ≤ length s → Passed P s i i
  none_passed s i h = record { from = omega arith; within = h; all = rw (slice_empty i s) empty }

  module _ {s : List ℕ} {i e : ℕ} (p : Passed P s i e) where
    pub one_passed : e < length s → P (get_or s e 0) → Passed P s i (e + 1)
    one_passed h q = record {
      from = let f = p.from in omega arith;
      within = omega arith;
      all = rw (add-one, slice_snoc i e s p.from h) (all_append p.all (more q empty));
    }

    pub stopped : e < length s → (P (get_or s e 0) → ⊥) → Ran P s i e
    stopped h n = record { from = p.from; within = p.within; all = p.all; stops = rw (drop-cons s e 0 h) (halt n) }

    pub all_passed : length s ≤ e → Ran P s i e
    all_passed h = record { from = p.from; within = p.within; all = p.all; stops = rw (drop_of_length-le s h) over }

-- What a loop over a run needs.
pub ruleset passing = (none_passed, one_passed, stopped, all_passed)

module _ {P : ℕ → Type 0} where
  module _ {s : List ℕ} {i e : ℕ} (r : Ran P s i e) where
    pub split : drop i s ≡ slice i e s ++ drop e s
    split = slice_drop i e s r.from r.within

    -- The run, as the code lends it.
    pub part : take (e - i) (drop i s) ≡ slice i e s
    part = rw split (take_at (slice i e s) (drop e s) (e - i) (length-slice i e s r.within))

    -- The run is the only one.
    pub run_one : {f : List ℕ} (t : List ℕ) → All P f → Stops P t → drop i s ≡ f ++ t → (f ≡ slice i e s) × (t ≡ drop e s)
    run_one t a h b = cut a r.all h r.stops (sym b ∙ split)

    -- It ends at one place.
    pub ran_one : {d : ℕ} → Ran P s i d → d ≡ e
    ran_one {d} q =
        let a = r.within in
        let b = q.within in
        let x = run_one (drop d s) q.all q.stops (slice_drop i d s q.from q.within) in
        omega (arith, ap length x.1, length-drop d s, length-drop e s)

    -- It goes to the end exactly if every byte has P.
    pub to_end : e ≡ length s → All P (drop i s)
    to_end h =
        let l : length s ≤ e = omega arith in
        let z : drop i s ≡ slice i e s = split ∙ rw (drop_of_length-le s l) (append-nil (slice i e s)) in
        rw z r.all

    pub not_end : e ≢ length s → All P (drop i s) → ⊥
    not_end n a =
        let z = (run_one [] a over (sym (append-nil (drop i s)))).1 in
        let w = r.within in
        n (omega (arith, ap length z, length-drop e s))

-- A run of bytes with P is one of bytes with Q, where they are the same.
same_run : {P Q : ℕ → Type 0} {s : List ℕ} {i e : ℕ} → ((b : ℕ) → P b → Q b) → ((b : ℕ) → Q b → P b) → Ran P s i e → Ran Q s i e
same_run {P} {Q} f g r = record { from = r.from; within = r.within; all = all_map f r.all; stops = go r.stops }
  where
    go : {t : List ℕ} → Stops P t → Stops Q t
    go over = over
    go (halt {b = b} n) = halt (λ q. n (g b q))

pub blanks_ran : {s : List ℕ} {i e : ℕ} → Ran (Between 32 32) s i e → Ran IsBlank s i e
blanks_ran = same_run (λ b p. omega arith) (λ b q. record { low = omega arith; high = omega arith })

pub digits_ran : {s : List ℕ} {i e : ℕ} → Ran (Between 48 57) s i e → Ran Digit s i e
digits_ran = same_run (λ b p. (b - 48, record { value = omega arith; byte = omega arith }))
    (λ b (d, q). record { low = omega (arith, q.byte); high = omega (arith, q.byte, q.value) })

-- A byte that stands behind a place.
pub at_head : (s : List ℕ) (i : ℕ) {b : ℕ} → i < length s → get_or s i 0 ≡ b → drop i s ≡ b ∷ drop (i + 1) s
at_head s i h e = drop-cons s i 0 h ∙ rw (e, add-one)

-- Bytes that stand at a place.
module _ {t s : List ℕ} {at : ℕ} where
  -- what is behind them
  pub behind : StandsAt t s at → drop at s ≡ t ++ drop (at + length t) s
  behind p =
      let d = ap (drop (length t)) (sym p.bytes) in
      let e : p.rest ≡ drop (at + length t) s = sym (drop-append_seam t p.rest) ∙ d ∙ drop-drop (length t) at s in
      p.bytes ∙ ap (λ (l : List ℕ). t ++ l) e

-- What the code's test of them says: it compares them with the rest of the line, which it lends.
pub starts : (t s : List ℕ) (at : ℕ) (r : Bool) → r ≡ starts_with nat_eq (take (length s - at) (drop at s)) t → Decides (StandsAt t s at) r
starts t s at r e = go r (starts_is Decides-eqb (drop at s) t r (rw (take_all (length s - at) (drop at s) (omega (arith, length-drop at s))) at e))
  where
    go : (r : Bool) → (r ≡ true → drop at s ≡ t ++ drop (length t) (drop at s)) × ((rest : List ℕ) → drop at s ≡ t ++ rest → r ≡ true)
        → Decides (StandsAt t s at) r
    go true h = record { rest = drop (length t) (drop at s); bytes = h.0 refl }
    go false h = λ p. let z : false ≡ true = h.1 p.rest p.bytes in absurd (cc)

-- The place behind `;` and blanks.
pub opens : {line : List ℕ} {e : ℕ} → 0 < length line → get_or line 0 0 ≡ 59 → Ran IsBlank line 1 e → Opened line e
opens {line} {e} h b r = record {
  low = r.from;
  within = r.within;
  before = slice 1 e line;
  bytes = at_head line 0 h b ∙ ap (λ (l : List ℕ). 59 ∷ l) (split r);
  blanks = r.all;
  stops = r.stops;
}

-- It is the only one.
pub opened_one : {line before : List ℕ} {at : ℕ} (rest : List ℕ) → Opened line at → Blanks before → Stops IsBlank rest
    → line ≡ 59 ∷ (before ++ rest) → rest ≡ drop at line
opened_one {line} {before} {at} rest o b s e =
    let d : 59 ∷ (before ++ rest) ≡ 59 ∷ (o.before ++ drop at line) = sym e ∙ o.bytes in
    let c : before ++ rest ≡ o.before ++ drop at line = cc in
    (cut b o.blanks s o.stops c).1

-- A byte below `0` is no digit.
pub below_zero : {b : ℕ} → b < 48 → Digit b → ⊥
below_zero h (d, p) = omega (arith, p.byte)
