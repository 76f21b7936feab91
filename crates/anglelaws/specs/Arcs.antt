-- The arcsine and the arccosine: the floats that libm's branches and operations give, each rounded once, with the nearest root where they take one.
use Rattle.std.specs.Prelude.{ℕ, ◌*◌, ◌/◌, ◌^◌, Bool, cond, not, ◌&&◌, [], ◌∷◌, from_bits, is_nan, nat_le, nat_lt, to_bits, Float}
use Rattle.std.specs.Float.Ieee.{add, sub, mul, div}
use Rattle.std.specs.Float.{is_sign_negative as negative, sqrt, round_to_format, Format, binary32, binary64}
use Rattle.anglelaws.specs.Words.{by, float, top_word, is_size, half_word, one_word}
use Rattle.anglelaws.specs.Numbers.{zero, half, one, two}
use Rattle.anglelaws.specs.Formulas.{horner, fabs, signed}

-- ---- what they share

-- π / 2, and what that lacks
abbrev pub pio2_hi : Format → Float
pio2_hi f = float f 0x3fc90fda 0x3ff921fb54442d18

abbrev pub pio2_lo : Format → Float
pio2_lo f = float f 0x33a22168 0x3c91a62633145c07

-- (asin x - x) / x at z = x², as a quotient of polynomials
abbrev pub ratio : Format → Float → Float
ratio binary32 z = div binary32 (mul binary32 z (horner binary32 z 0x3e2aaa75 (0xbd2f13ba ∷ 0xbc0dd36b ∷ []))) (horner binary32 z 0x3f800000 (0xbf34e5ae ∷ []))
ratio binary64 z =
    div binary64
    (mul binary64 z (horner binary64 z 0x3fc5555555555555 (0xbfd4d61203eb6f7d ∷ 0x3fc9c1550e884455 ∷ 0xbfa48228b5688f3b ∷ 0x3f49efe07501b288 ∷ 0x3f023de10dfdf709 ∷ [])))
    (horner binary64 z 0x3ff0000000000000 (0xc0033a271c8a2d4b ∷ 0x40002ae59c598ac8 ∷ 0xbfe6066c1b8d0159 ∷ 0x3fb3b8c5b12e9282 ∷ []))

-- how many low bits of a root's pattern its high part has clear
abbrev pub low_bits : Format → ℕ
low_bits f = by f 12 32

unfoldable pub high_part : Format → Float → Float
high_part f s = cond (is_nan s) s (from_bits f (to_bits f s / 2 ^ low_bits f * 2 ^ low_bits f))

-- what the high part h lacks of the root s of z
abbrev pub low_part : Format → Float → Float → Float → Float
low_part f z s h = div f (sub f z (mul f h h)) (add f s h)

-- a size above 1: not a number
abbrev pub outside : Format → Float → Float
outside f x = div f (zero f) (sub f x x)

-- one half ≤ |x| < 1: there a root is taken
abbrev pub asks : Format → Float → Bool
asks f x = not (is_nan x) && (nat_le (half_word f) (top_word f x) && nat_lt (top_word f x) (one_word f))

-- ---- the arccosine

-- up to this top word, 2 ^ -57 wide and 2 ^ -26 narrow, the answer is π / 2
abbrev pub tiny : Format → ℕ
tiny f = by f 0x32800000 0x3c600000

-- doubled
abbrev pub twice : Format → Float → Float
twice f z = mul f (two f) z

abbrev pub acos_of_one : Format → Bool → Float
acos_of_one f negative = cond negative (twice f (pio2_hi f)) (zero f)

abbrev pub acos_small : Format → Float → Float
acos_small f x = sub f (pio2_hi f) (sub f x (sub f (pio2_lo f) (mul f x (ratio f (mul f x x)))))

-- half the answer for -1 < x ≤ -1/2, by the root s of z = (1 + x) / 2
abbrev pub acos_below : Format → Float → Float → Float
acos_below f z s = sub f (pio2_hi f) (add f s (sub f (mul f (ratio f z) s) (pio2_lo f)))

-- half the answer for 1/2 ≤ x < 1, by the root s of z = (1 - x) / 2
abbrev pub acos_above : Format → Float → Float → Float
acos_above f z s = add f (high_part f s) (add f (mul f (ratio f z) s) (low_part f z s (high_part f s)))

abbrev pub halved_sum : Format → Float → Float
halved_sum f x = mul f (add f (one f) x) (half f)

abbrev pub halved_rest : Format → Float → Float
halved_rest f x = mul f (sub f (one f) x) (half f)

abbrev pub acos : Format → Float → Float
acos f x =
    cond (is_nan x) x
    (cond (nat_le (one_word f) (top_word f x)) (cond (is_size f (one_word f) x) (acos_of_one f (negative x)) (outside f x))
    (cond (nat_lt (top_word f x) (half_word f)) (cond (nat_le (top_word f x) (tiny f)) (pio2_hi f) (acos_small f x))
    (cond (negative x) (twice f (acos_below f (halved_sum f x) (sqrt f (halved_sum f x)))) (twice f (acos_above f (halved_rest f x) (sqrt f (halved_rest f x)))))))

-- ---- the arcsine

-- between these top words the answer is the argument: from the least normal number to 2 ^ -26 wide and 2 ^ -12 narrow
abbrev pub kept : Format → Float → Bool
kept f x = nat_le (by f 0x00800000 0x00100000) (top_word f x) && nat_lt (top_word f x) (by f 0x39800000 0x3e500000)

abbrev pub asin_small : Format → Float → Float
asin_small f x = cond (kept f x) x (add f x (mul f x (ratio f (mul f x x))))

-- wide, from 0.975 on, by the root s of z = (1 - |x|) / 2
abbrev pub asin_near_one : Float → Float → Float
asin_near_one z s =
    let f = binary64 in
    sub f (pio2_hi f) (sub f (mul f (two f) (add f s (mul f s (ratio f z)))) (pio2_lo f))

-- wide, below that
abbrev pub asin_split : Float → Float → Float
asin_split z s =
    let f = binary64 in
    let h = high_part f s in
    sub f (mul f (half f) (pio2_hi f))
    (sub f (sub f (mul f (mul f (two f) s) (ratio f z)) (sub f (pio2_lo f) (mul f (two f) (low_part f z s h)))) (sub f (mul f (half f) (pio2_hi f)) (mul f (two f) h)))

-- narrow: the root and the last line are wide, and rounded to narrow once
abbrev pub asinf_large : Float → Float → Float
asinf_large z s =
    let f = binary64 in
    round_to_format binary32 (sub f (pio2_hi f) (mul f (two f) (add f s (mul f s (ratio binary32 z)))))

abbrev pub asin_of_one : Format → Float → Float
asin_of_one binary32 x = round_to_format binary32 (mul binary64 x (pio2_hi binary64))
asin_of_one binary64 x = mul binary64 x (pio2_hi binary64)

-- 0x3fef3333 is the top word of 0.975, or near it
abbrev pub asin_large : Format → Float → Float
asin_large binary32 x = asinf_large (halved_rest binary32 (fabs x)) (sqrt binary64 (halved_rest binary32 (fabs x)))
asin_large binary64 x =
    cond (nat_le 0x3fef3333 (top_word binary64 x))
    (asin_near_one (halved_rest binary64 (fabs x)) (sqrt binary64 (halved_rest binary64 (fabs x))))
    (asin_split (halved_rest binary64 (fabs x)) (sqrt binary64 (halved_rest binary64 (fabs x))))

abbrev pub asin : Format → Float → Float
asin f x =
    cond (is_nan x) x
    (cond (nat_le (one_word f) (top_word f x)) (cond (is_size f (one_word f) x) (asin_of_one f x) (outside f x))
    (cond (nat_lt (top_word f x) (half_word f)) (asin_small f x) (signed (negative x) (asin_large f x))))
