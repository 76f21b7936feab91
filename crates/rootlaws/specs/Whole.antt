-- The nearest whole root.
use Rattle.std.specs.Prelude.{ℕ, ◌+◌, ◌*◌, ◌<◌, ◌≤◌}

-- (m - 1/2)² < X < (m + 1/2)²: m is the whole number nearest to the root of X. Squares of halves are no whole numbers, so there is no tie.
pub record Nearest (X m : ℕ) : Type 0 where
  pub low : m * m < X + m
  pub high : X ≤ m * m + m
