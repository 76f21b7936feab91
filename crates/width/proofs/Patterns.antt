-- What has a pattern, and which.
use Rattle.std.proofs.Common.{◌≡◌, ◌*◌, ◌^◌, ◌<◌, Bool, true, false, T, refl}
use lib.Ieee.{Float, Format, binary32, binary64, nan, inf, fin, is_nan, fits, to_bits, top}
use lib.Ieee.Bits.{of_bits-to_bits, to_bits-lt}
use Rattle.width.specs.Shape.{shape_of, width, quiet}
use Rattle.width.specs.Pattern.{PatternOf}

pub only_nan : (x : Float) → is_nan x ≡ true → x ≡ nan
unfolding is_nan
only_nan nan h = refl
only_nan (inf s) h = let z : ◌≡◌ {A = Bool} false true = h in cc
only_nan (fin s m e) h = let z : ◌≡◌ {A = Bool} false true = h in cc

pub pattern_of : (f : Format) (x : Float) → T (fits f x) → is_nan x ≡ false → PatternOf f x (to_bits f x)
pattern_of f x k n = record { number = n; pattern = refl; value = of_bits-to_bits f x k; small = small f (to_bits-lt f x k) }
  where
    small : (f : Format) → to_bits f x < 2 * top f → to_bits f x < 2 ^ width (shape_of f)
    small binary32 h = h
    small binary64 h = h

-- the pattern that is written for NaN is the quiet one
pub quiet_nan : (f : Format) → quiet (shape_of f) ≡ to_bits f nan
unfolding to_bits
quiet_nan binary32 = refl
quiet_nan binary64 = refl
