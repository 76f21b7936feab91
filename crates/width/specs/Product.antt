-- The upper half of a product.
use Rattle.std.specs.Prelude.{ℕ, ◌+◌, ◌*◌, ◌/◌, ◌%◌}

-- exact, in words of range 4 V
abbrev pub exact : ℕ → ℕ → ℕ → ℕ
exact V x y = x * y / (4 * V)

-- From halves of range B: the product of the upper halves and the upper halves of the two crossed products. It leaves out the lower
-- halves' product and the carries, so it is at most 2 too low.
abbrev pub halves : ℕ → ℕ → ℕ → ℕ
halves B x y = x / B * (y / B) + x / B * (y % B) / B + x % B * (y / B) / B
