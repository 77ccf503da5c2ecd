-- The first two lines: what each answer of their readers makes of the text.
use Prim.Native.Nat.{ℕ, ◌≤◌, ◌<◌}
use mathlib.Core.Path.{◌≡◌, refl, ap, sym, ◌∙◌}
use mathlib.Core.List.{List, [], ◌∷◌, ◌++◌}
use native.Mathlib.Omega.{arith}
use lib.ListN.{length, take, drop, length-drop, take-append-drop, drop_of_length-le}
use Rattle.lines.specs.Lines.{line_limit, FirstLine, VersionLine, StartLine}
use Rattle.trace.specs.Trace.{size_limit, no_rows, Line, over}
use Rattle.trace.specs.Promise.{RefusedAtLine}
use Rattle.trace.specs.inner.Passes.{There, Versioned, Headed}
use Rattle.trace.proofs.Cuts.{ended_line, first_alone, first_there, lines_alone, lines_append}
use Rattle.trace.proofs.Fails
use Rattle.trace.proofs.Fails.{RightSoFar, at_first, at_second, unended, long, no_first, no_version, no_second, no_start, stopped_refused}
use Rattle.trace.proofs.Judging.{up_to}

empty : (s : List ℕ) → length s ≡ 0 → s ≡ []
empty [] e = refl
empty (b ∷ s) e = absurd (omega arith)

module _ (text : List ℕ) (size : length text ≤ size_limit) where
  pub absent_first : length text ≡ 0 → RefusedAtLine text 4 1
  absent_first e = stopped_refused {rest = []} at_first (empty text e) size no_first

  pub open_first : (length text ≡ 0 → ⊥) → ((line rest : List ℕ) → FirstLine line rest text → ⊥) → RefusedAtLine text 2 1
  open_first n f = stopped_refused at_first refl size (unended (λ e. n (ap length e)) f)

  pub long_first : {line rest : List ℕ} → FirstLine line rest text → line_limit < length line → RefusedAtLine text 3 1
  long_first f l = stopped_refused at_first refl size (long f l)

  pub other_first : {line rest : List ℕ} → Line line rest text → ((v : ℕ) → VersionLine v line → ⊥) → RefusedAtLine text 4 1
  other_first l f = stopped_refused at_first refl size (no_version l f)

  module _ {at v : ℕ} (h : Versioned text at v) where
    front : take at text ≡ ended_line h.line
    front = up_to h.there

    stands : RightSoFar 1 (take at text) (Fails.second v)
    stands =
        let l : Line h.line [] (take at text) = rw front (record { first = first_alone h.there.is.first.inside; short = h.there.is.short }) in
        at_second l h.is

    whole : text ≡ take at text ++ drop at text
    whole = sym (take-append-drop at text)

    pub absent_second : length text ≤ at → RefusedAtLine text 5 2
    absent_second l = stopped_refused stands (whole ∙ ap (λ (s : List ℕ). take at text ++ s) (drop_of_length-le text l)) size no_second

    pub open_second : at < length text → ((line rest : List ℕ) → FirstLine line rest (drop at text) → ⊥) → RefusedAtLine text 2 2
    open_second l f = stopped_refused stands whole size (unended {rest = drop at text} (λ e. omega (arith, ap length e, length-drop at text)) f)

    pub long_second : {line rest : List ℕ} → FirstLine line rest (drop at text) → line_limit < length line → RefusedAtLine text 3 2
    long_second f l = stopped_refused stands whole size (long f l)

    pub other_second : {line rest : List ℕ} → Line line rest (drop at text) → ((s : ℕ) → StartLine s line → ⊥) → RefusedAtLine text 5 2
    other_second l f = stopped_refused stands whole size (no_start l f)

    pub both_lines : {next s : ℕ} {line : List ℕ} → There text at next line → StartLine s line → Headed text next v s
    both_lines {next} {line = line} t w =
        let e : take next text ≡ ended_line h.line ++ ended_line line = up_to t ∙ ap (λ (x : List ℕ). x ++ ended_line line) front in
        record {
          within = t.within;
          lines = rw e (lines_append (lines_alone h.there.is.first.inside) (lines_alone t.is.first.inside));
          spelled = rw e (record {
            first = h.line;
            after_first = ended_line line;
            one = record { first = first_there (ended_line line) h.there.is.first.inside; short = h.there.is.short };
            version = h.is;
            second = line;
            after_second = [];
            two = record { first = first_alone t.is.first.inside; short = t.is.short };
            start = w;
            body = over;
            numbered = no_rows refl refl;
          });
        }
