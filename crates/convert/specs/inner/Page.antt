-- What is put on the page, as `put_refusal` promises it.
use Rattle.std.specs.Prelude.{Option, Some, None, ℕ, ◌≤◌, ◌<◌, ◌≡◌, List, ◌++◌, length, drop}

-- A text stands at the start of what the page then holds, and behind it what was there; where it has no room the page is untouched.
pub data PutOnPage (text before : List ℕ) (r : Option ℕ) (after : List ℕ) : Type 0 where
  put : length text ≤ length before → r ≡ Some (length text) → after ≡ text ++ drop (length text) before → PutOnPage text before r after
  no_room : length before < length text → r ≡ None → after ≡ before → PutOnPage text before r after
