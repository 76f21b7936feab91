-- The root by longhand, one binary digit a draw.
use Rattle.std.specs.Prelude.{◌≡◌, ℕ, ◌+◌, ◌*◌, ◌^◌, ◌<◌, ◌≤◌}

-- After j draws from the word M, in words of range 4 V: the root so far, what its square leaves, and what is left of the word.
pub record Held (V M j root rem word : ℕ) : Type 0 where
  pub total : M * (2 ^ j * 2 ^ j) ≡ (root * root + rem) * (4 * V) + word
  pub fits : word < 4 * V
  pub rest : rem ≤ 2 * root
  pub short : root < 2 ^ j

-- at the end: the root, and what its square leaves, exactly
pub record Exact (X root rem : ℕ) : Type 0 where
  pub sum : X ≡ root * root + rem
  pub rest : rem ≤ 2 * root
