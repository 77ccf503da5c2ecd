-- What `words_at` gives.
use Rattle.std.specs.Prelude.{ℕ, ◌+◌, ◌*◌, ◌^◌, ◌<◌, ◌≡◌, List, take, drop}
use Rattle.record.specs.Bytes.{bytes}

-- The twenty bytes of s at a position are 32 bits h, 64 bits m and 64 bits l.
pub record Words (s : List ℕ) (at h m l : ℕ) : Type 0 where
  pub are : take 20 (drop at s) ≡ bytes 20 ((h * 256 ^ 8 + m) * 256 ^ 8 + l)
  pub high : h < 256 ^ 4
  pub middle : m < 256 ^ 8
  pub low : l < 256 ^ 8
