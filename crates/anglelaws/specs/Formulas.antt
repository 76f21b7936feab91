-- What several formulas share.
use Rattle.std.specs.Prelude.{ℕ, Bool, false, cond, List, [], ◌∷◌, from_bits, Float}
use Rattle.std.specs.Float.{Format}
use Rattle.std.specs.Float.Ieee.{neg, add, mul}
use Rattle.std.specs.Float as Floats

-- c + w (d + w (..)), over the patterns of the coefficients
abbrev pub horner : Format → Float → ℕ → List ℕ → Float
horner f w c [] = from_bits f c
horner f w c (d ∷ ds) = add f (from_bits f c) (mul f w (horner f w d ds))

-- the size of a number: its sign bit cleared
abbrev pub fabs : Float → Float
fabs x = Floats.float_with_sign false x

-- z, or -z where the sign bit says so
abbrev pub signed : Bool → Float → Float
signed negative z = cond negative (neg z) z
