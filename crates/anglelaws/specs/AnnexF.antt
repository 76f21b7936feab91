-- The special values of ISO C's Annex F, each over its whole class of readings. A multiple of π stands for the width's own float.
use Rattle.std.specs.Prelude.{◌≡◌, Bool, true, false, cond, T, pos, ◌≢◌, is_nan, Float}
use Rattle.std.specs.Float.Ieee.{lt}
use Rattle.std.specs.Float.{float_is_finite, is_sign_negative, float_one, Format, nan, inf, fin}
use Rattle.anglelaws.specs.Words.{float}
use Rattle.anglelaws.specs.Formulas.{fabs, signed}

abbrev pub zero : Bool → Float
zero s = fin s 0 (pos 0)

-- ---- multiples of π: π, 3π/4, π/2, π/4; and π/2 as the arctangent has it, which narrow is one last place less

abbrev pub π : Format → Float
π f = float f 0x40490fdb 0x400921fb54442d18

abbrev pub three_quarters : Format → Float
three_quarters f = float f 0x4016cbe4 0x4002d97c7f3321d2

abbrev pub half_π : Format → Float
half_π f = float f 0x3fc90fdb 0x3ff921fb54442d18

abbrev pub quarter : Format → Float
quarter f = float f 0x3f490fdb 0x3fe921fb54442d18

abbrev pub last : Format → Float
last f = float f 0x3fc90fda 0x3ff921fb54442d18

-- ---- r is the arctangent of x

pub record AtanValues (f : Format) (x r : Float) : Type 0 where
  pub of_nan : x ≡ nan → r ≡ nan
  pub of_zero : (s : Bool) → x ≡ zero s → r ≡ zero s
  pub of_infinity : (s : Bool) → x ≡ inf s → r ≡ signed s (last f)

-- ---- r is the arctangent of y / x in the quadrant of (x, y)

pub record Atan2Values (f : Format) (y x r : Float) : Type 0 where
  pub nan_y : y ≡ nan → r ≡ nan
  pub nan_x : x ≡ nan → r ≡ nan
  -- y is a zero: by the sign of x, that of a zero among them
  pub east : (s : Bool) → y ≡ zero s → is_nan x ≡ false → is_sign_negative x ≡ false → r ≡ zero s
  pub west : (s : Bool) → y ≡ zero s → is_nan x ≡ false → is_sign_negative x ≡ true → r ≡ signed s (π f)
  -- x is a zero, and y is not
  pub upright : (t : Bool) → x ≡ zero t → T (lt (zero false) (fabs y)) → r ≡ signed (is_sign_negative y) (half_π f)
  -- x is infinite, and y is finite
  pub far_east : T (float_is_finite y) → x ≡ inf false → r ≡ signed (is_sign_negative y) (zero false)
  pub far_west : T (float_is_finite y) → x ≡ inf true → r ≡ signed (is_sign_negative y) (π f)
  -- y is infinite, and x is finite; at x = 1 the answer is the arctangent's
  pub far_up : (s : Bool) → y ≡ inf s → T (float_is_finite x) → (x ≢ float_one) → r ≡ signed s (half_π f)
  pub far_up_one : (s : Bool) → y ≡ inf s → x ≡ float_one → r ≡ signed s (last f)
  -- both are infinite
  pub corner : (s t : Bool) → y ≡ inf s → x ≡ inf t → r ≡ signed s (cond t (three_quarters f) (quarter f))

-- ---- r is the arcsine of x

pub record AsinValues (f : Format) (x r : Float) : Type 0 where
  pub of_nan : x ≡ nan → r ≡ nan
  pub of_zero : (s : Bool) → x ≡ zero s → r ≡ zero s
  pub of_one : (s : Bool) → x ≡ fin s 1 (pos 0) → r ≡ signed s (half_π f)
  pub outside : T (lt float_one (fabs x)) → r ≡ nan

-- ---- r is the arccosine of x; that of -1, π, is narrow one last place less than above

pub record AcosValues (f : Format) (x r : Float) : Type 0 where
  pub of_nan : x ≡ nan → r ≡ nan
  pub of_one : x ≡ float_one → r ≡ zero false
  pub of_minus_one : x ≡ fin true 1 (pos 0) → r ≡ float f 0x40490fda 0x400921fb54442d18
  pub outside : T (lt float_one (fabs x)) → r ≡ nan
