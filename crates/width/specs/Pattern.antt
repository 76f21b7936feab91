-- The pattern of a number.
use Rattle.std.specs.Prelude.{◌≡◌, ℕ, ◌^◌, ◌<◌, false, from_bits, is_nan, to_bits, Float}
use Rattle.std.specs.Float.{Format}
use Rattle.width.specs.Shape.{shape_of, width}

-- n is the pattern, in format f, of v, which is no NaN
pub record PatternOf (f : Format) (v : Float) (n : ℕ) : Type 0 where
  pub number : is_nan v ≡ false
  pub pattern : n ≡ to_bits f v
  pub value : from_bits f n ≡ v
  pub small : n < 2 ^ width (shape_of f)
