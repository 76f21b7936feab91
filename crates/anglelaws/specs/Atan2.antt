-- The arctangent of y / x in the quadrant of (x, y): the float that libm's branches and operations give, each rounded once.
use Rattle.std.specs.Prelude.{ℕ, ◌+◌, Bool, cond, not, ◌&&◌, ◌||◌, ◌==◌, is_nan, nat_lt, Float}
use Rattle.std.specs.Float.Ieee.{add, sub, mul, div}
use Rattle.std.specs.Float.{is_sign_negative, Format}
use Rattle.anglelaws.specs.Words.{by, float, top_word, is_size, one_word, infinity_word}
use Rattle.anglelaws.specs.Numbers.{zero, two, three, four}
use Rattle.anglelaws.specs.Formulas.{fabs, signed}
use Rattle.anglelaws.specs.Atan.{atan}

-- ---- the constants of a width: π, what that lacks, and from which quotient on a line is upright or level, 2 ^ 64 wide and 2 ^ 26 narrow, in the
-- exponent of a top word

abbrev pub pi : Format → Float
pi f = float f 0x40490fdb 0x400921fb54442d18

abbrev pub pi_lo : Format → Float
pi_lo f = float f 0xb3bbbd2e 0x3ca1a62633145c07

abbrev pub cut : Format → ℕ
cut f = by f 0x0d000000 0x04000000

-- ---- the answers, by the sign bits of y and x

-- y is zero
abbrev pub level : Format → Bool → Bool → Float → Float
level f y- x- y = cond x- (signed y- (pi f)) y

-- x is zero, or small against y
abbrev pub upright : Format → Bool → Float
upright f y- = div f (signed y- (pi f)) (two f)

-- both are infinite
abbrev pub diagonal : Format → Bool → Bool → Float
diagonal f y- x- = cond x- (div f (mul f (signed y- (three f)) (pi f)) (four f)) (div f (signed y- (pi f)) (four f))

-- x is infinite, and y is not
abbrev pub along : Format → Bool → Bool → Float
along f y- x- = cond x- (signed y- (pi f)) (signed y- (zero f))

-- the angle z of the sizes, put into its quadrant
abbrev pub placed : Format → Bool → Bool → Float → Float
placed f y- x- z = cond x- (cond y- (sub f (sub f z (pi_lo f)) (pi f)) (sub f (pi f) (sub f z (pi_lo f)))) (signed y- z)

-- ---- the whole

-- the angle of the sizes, or none
abbrev pub acute : Format → Float → Float → Bool → Float
acute f y x none = cond none (zero f) (atan f (fabs (div f y x)))

-- both are finite and neither is zero, or y is infinite; there is no angle where x is negative and y is small against it
abbrev pub quotient : Format → Float → Float → Float
quotient f y x =
    cond (nat_lt (top_word f x + cut f) (top_word f y) || top_word f y == infinity_word f) (upright f (is_sign_negative y))
    (placed f (is_sign_negative y) (is_sign_negative x) (acute f y x (is_sign_negative x && nat_lt (top_word f y + cut f) (top_word f x))))

-- neither is NaN
abbrev pub of_numbers : Format → Float → Float → Float
of_numbers f y x =
    cond (not (is_sign_negative x) && is_size f (one_word f) x) (atan f y)
    (cond (is_size f 0 y) (level f (is_sign_negative y) (is_sign_negative x) y)
    (cond (is_size f 0 x) (upright f (is_sign_negative y))
    (cond (top_word f x == infinity_word f)
    (cond (top_word f y == infinity_word f) (diagonal f (is_sign_negative y) (is_sign_negative x)) (along f (is_sign_negative y) (is_sign_negative x)))
    (quotient f y x))))

abbrev pub atan2 : Format → Float → Float → Float
atan2 f y x = cond (is_nan x || is_nan y) (add f x y) (of_numbers f y x)
