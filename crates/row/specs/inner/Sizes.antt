-- How many bytes fields and rows have at most. They follow from the digits of an offset.
use Rattle.std.specs.Prelude.{ℕ, ◌+◌}
use Rattle.base.specs.Limits.{offset_digits}

-- The longest field that is no word of a warning: an offset, with its point and three digits behind it.
abbrev pub longest_field : ℕ
longest_field = offset_digits + 4

-- So many bytes are a word, if they are any field.
abbrev pub word_bytes : ℕ
word_bytes = longest_field + 1

-- The longest row of the house: `999999) `, the offset, ` 16 Rx 1FFFFFFF 8` and eight bytes.
abbrev pub longest_row : ℕ
longest_row = 8 + longest_field + 41

-- The same with its end.
abbrev pub longest_ended : ℕ
longest_ended = longest_row + 2
