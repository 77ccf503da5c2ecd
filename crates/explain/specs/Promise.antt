-- What `explain` promises for every line, version and number. In words: docs/FORMAT.md, section 14.
use Rattle.std.specs.Prelude.{Result, Ok, Err, ℕ, ◌≡◌, List, [], ◌∷◌}
use Rattle.row.specs.Versions.{Version}
use Rattle.explain.specs.declared.Explained.{Explained}
use Rattle.explain.specs.declared.Explained.TheVariants as explained
use Rattle.base.specs.declared.refusal.Refusal.{Refusal}
use Rattle.base.specs.Refusal.{number_of}
use Rattle.explain.specs.Explain.{WrongField, EndedEarly, Unexplained}

-- Number, place, reason (1 wrong field, 2 ended early) and field for each answer.
abbrev pub explain_wrong : ℕ → List ℕ
explain_wrong field = 0 ∷ 0 ∷ 1 ∷ field ∷ []

abbrev pub explain_early : ℕ → List ℕ
explain_early fields = 0 ∷ 0 ∷ 2 ∷ fields ∷ []

abbrev pub explain_refused : ℕ → List ℕ
explain_refused number = number ∷ 0 ∷ 0 ∷ 0 ∷ []

abbrev pub explain_numbers : Result Explained Refusal → List ℕ
explain_numbers (Ok (explained.Wrong i)) = explain_wrong i
explain_numbers (Ok (explained.Early i)) = explain_early i
explain_numbers (Err reason) = explain_refused (number_of reason)

-- `explain` of a line as the row with this number in this version, or with any where the number is 0, gives the numbers a.
pub data ExplainPromise (line : List ℕ) (version number : ℕ) (a : List ℕ) : Type 0 where
  -- the version is none
  no_version : (Version version → ⊥) → a ≡ explain_refused 21 → ExplainPromise line version number a
  -- nothing is to be explained
  unexplained : Version version → Unexplained version number line → a ≡ explain_refused 30
      → ExplainPromise line version number a
  -- a field is wrong
  wrong : {i : ℕ} → Version version → (Unexplained version number line → ⊥) → WrongField version number line i
      → a ≡ explain_wrong i → ExplainPromise line version number a
  -- the line ended early
  early : {i : ℕ} → Version version → (Unexplained version number line → ⊥) → EndedEarly version number line i
      → a ≡ explain_early i → ExplainPromise line version number a
