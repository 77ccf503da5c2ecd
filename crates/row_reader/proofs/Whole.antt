-- A line on its own: framed by a CR, read, and taken only if it is read to its end.
use Prim.Native.Nat.{ℕ, suc, ◌+◌, ◌≤◌, ◌<◌}
use Rattle.std.specs.Prelude.{Some}
use mathlib.Core.Path.{◌≡◌, refl, ap, sym, ◌∙◌}
use mathlib.Core.Logic.{◌⊎◌, inl, inr}
use mathlib.Core.List.{List, [], ◌∷◌, ◌++◌}
use native.Mathlib.Numerals.{add-one}
use native.Mathlib.Omega.{arith}
use native.Mathlib.Decide.{ℕ_discrete}
use lib.ListN.{length, get_or, take, drop, set, length-append}
use lib.Seq.{take-suc, take-length, drop-cons, set_at, append_snoc, length-take-le}
use Rattle.fields.specs.Runs.{empty, more}
use Rattle.fields.specs.inner.Window.{LineBeforeCr}
use Rattle.record.specs.declared.Record.{Record}
use Rattle.row.specs.Row.{Row}
use Rattle.row.proofs.Plain.{row_plain}
use Rattle.row_reader.specs.inner.Answer.{RowFound}
use Rattle.fields.proofs.Runs.{all_map}

-- The line that stands before the first CR: all of s, or less of it, and then a CR stands behind it in s.
pub record Framed (s rest : List ℕ) : Type 0 where
  pub line : List ℕ
  pub is : LineBeforeCr line (s ++ (13 ∷ rest))
  pub all : (line ≡ s) ⊎ ((more : List ℕ) × (s ≡ line ++ (13 ∷ more)))

pub framed : (s rest : List ℕ) → Framed s rest
framed [] rest = record { line = []; is = record { rest = rest; plain = empty; ended = refl }; all = inl refl }
framed (b ∷ s) rest = go (ℕ_discrete b 13) (framed s rest)
  where
    longer : {l : List ℕ} → (l ≡ s) ⊎ ((more : List ℕ) × (s ≡ l ++ (13 ∷ more)))
        → (b ∷ l ≡ b ∷ s) ⊎ ((more : List ℕ) × (b ∷ s ≡ b ∷ (l ++ (13 ∷ more))))
    longer (inl e) = inl (ap (λ (x : List ℕ). b ∷ x) e)
    longer (inr (m, e)) = inr (m, ap (λ (x : List ℕ). b ∷ x) e)

    go : Dec (b ≡ 13) → Framed s rest → Framed (b ∷ s) rest
    go (yes e) x = record {
      line = [];
      is = record { rest = s ++ (13 ∷ rest); plain = empty; ended = ap (λ (y : ℕ). y ∷ (s ++ (13 ∷ rest))) e };
      all = inr (s, ap (λ (y : ℕ). y ∷ s) e);
    }
    go (no n) x = record {
      line = b ∷ x.line;
      is = record { rest = x.is.rest; plain = more n x.is.plain; ended = ap (λ (y : List ℕ). b ∷ y) x.is.ended };
      all = longer x.all;
    }

-- One byte more is in the window.
pub one_more : (s w : List ℕ) (i : ℕ) → i < length s → i < length w
    → set (take i s ++ drop i w) i (get_or s i 0) ≡ take (i + 1) s ++ drop (i + 1) w
one_more s w i h k =
    rw (add-one, drop-cons w i 0 k, take-suc s i 0 h, set_at (take i s) (get_or w i 0) (drop (suc i) w) (get_or s i 0) i (length-take-le i s (omega arith)))
    (sym (append_snoc (take i s) (get_or s i 0) (drop (suc i) w)))

-- All bytes are, and CR behind them.
pub closed : (s w : List ℕ) → length s < length w
    → set (take (length s) s ++ drop (length s) w) (length s) 13 ≡ s ++ (13 ∷ drop (length s + 1) w)
closed s w h = rw (take-length, drop-cons w (length s) 0 h, set_at s (get_or w (length s) 0) (drop (suc (length s)) w) 13 (length s) refl, add-one)

-- What the window loop keeps.
pub record Filled (s before now : List ℕ) (n i : ℕ) : Type 0 where
  pub within : i ≤ length s
  pub size : n ≡ length s
  pub room : length s < length before
  pub bytes : now ≡ take i s ++ drop i before

-- A line that is a row is framed whole.
pub row_framed : {v k : ℕ} {r : Record} {s : List ℕ} (rest : List ℕ) → Row v k r s → LineBeforeCr s (s ++ (13 ∷ rest))
row_framed rest w = record { rest = rest; plain = all_map (λ b p. p.0) (row_plain w); ended = refl }

-- A line that is read to its end is the row that was found.
pub is_read : {v k e : ℕ} {s : List ℕ} {out : Record} (rest : List ℕ)
    → ((line : List ℕ) → LineBeforeCr line (s ++ (13 ∷ rest)) → RowFound v k 0 line out (Some e)) → e ≡ length s → Row v k out s
is_read {v} {k} {e} {s} {out} rest f z = let x = framed s rest in go x.all (f x.line x.is)
  where
    go : {line : List ℕ} → (line ≡ s) ⊎ ((more : List ℕ) × (s ≡ line ++ (13 ∷ more))) → RowFound v k 0 line out (Some e) → Row v k out s
    go (inl q) a = rw q at a.0
    go {line} (inr (m, q)) a = absurd (omega (arith, a.1, ap length q ∙ length-append line (13 ∷ m)))
