-- The arctangent: the float that libm's branches and operations give, each rounded once.
use Rattle.std.specs.Prelude.{ℕ, cond, [], ◌∷◌, is_nan, nat_le, nat_lt, Float}
use Rattle.std.specs.Float.Ieee.{neg, add, sub, mul, div}
use Rattle.std.specs.Float.{is_sign_negative, Format, binary32, binary64}
use Rattle.anglelaws.specs.Words.{by, float, top_word}
use Rattle.anglelaws.specs.Numbers.{one, three_halves, two}
use Rattle.anglelaws.specs.Formulas.{horner, fabs, signed}

-- ---- the cuts, as top words

-- 2 ^ -27 wide, 2 ^ -12 narrow: below it the answer is the argument
abbrev pub tiny : Format → ℕ
tiny f = by f 0x39800000 0x3e400000

-- 0.4375: below it the argument is taken as it is
abbrev pub straight : Format → ℕ
straight f = by f 0x3ee00000 0x3fdc0000

-- 0.6875, 1.1875 and 2.4375: below each it is taken about 1/2, 1 and 3/2
abbrev pub about_half : Format → ℕ
about_half f = by f 0x3f300000 0x3fe60000

abbrev pub about_one : Format → ℕ
about_one f = by f 0x3f980000 0x3ff30000

abbrev pub about_three_halves : Format → ℕ
about_three_halves f = by f 0x401c0000 0x40038000

-- 2 ^ 66 wide, 2 ^ 26 narrow: from it on the answer is that of infinity
abbrev pub large : Format → ℕ
large f = by f 0x4c800000 0x44100000

-- ---- the tables: the arctangents of 1/2, 1, 3/2 and infinity, each as a float and what that lacks

abbrev pub atanhi : Format → ℕ → Float
atanhi f id =
    cond (nat_lt id 1) (float f 0x3eed6338 0x3fddac670561bb4f)
    (cond (nat_lt id 2) (float f 0x3f490fda 0x3fe921fb54442d18)
    (cond (nat_lt id 3) (float f 0x3f7b985e 0x3fef730bd281f69b) (float f 0x3fc90fda 0x3ff921fb54442d18)))

abbrev pub atanlo : Format → ℕ → Float
atanlo f id =
    cond (nat_lt id 1) (float f 0x31ac3769 0x3c7a2b7f222f65e2)
    (cond (nat_lt id 2) (float f 0x33222168 0x3c81a62633145c07)
    (cond (nat_lt id 3) (float f 0x33140fb4 0x3c7007887af0cbbd) (float f 0x33a22168 0x3c91a62633145c07)))

-- ---- the polynomial: 1 - atan t / t, in two sums over t ^ 4

abbrev pub series : Format → Float → Float
series binary32 t =
    let z = mul binary32 t t in
    let w = mul binary32 z z in
    add binary32 (mul binary32 z (horner binary32 w 0x3eaaaaa9 (0x3e11f50d ∷ 0x3d7cac25 ∷ []))) (mul binary32 w (horner binary32 w 0xbe4cca98 (0xbdda1247 ∷ [])))
series binary64 t =
    let z = mul binary64 t t in
    let w = mul binary64 z z in
    add binary64
    (mul binary64 z (horner binary64 w 0x3fd555555555550d (0x3fc24924920083ff ∷ 0x3fb745cdc54c206e ∷ 0x3fb10d66a0d03d51 ∷ 0x3fa97b4b24760deb ∷ 0x3f90ad3ae322da11 ∷ [])))
    (mul binary64 w (horner binary64 w 0xbfc999999998ebc4 (0xbfbc71c6fe231671 ∷ 0xbfb3b0f2af749a6d ∷ 0xbfadde2d52defd9a ∷ 0xbfa2b4442c6a6c2f ∷ [])))

-- t is small itself
abbrev pub near : Format → Float → Float
near f t = sub f t (mul f t (series f t))

-- ---- the reduction, by the top word ix of the size a: which entry of the tables is added, and the small t whose arctangent it is added to

abbrev pub centre : Format → ℕ → ℕ
centre f ix = cond (nat_lt ix (about_one f)) (cond (nat_lt ix (about_half f)) 0 1) (cond (nat_lt ix (about_three_halves f)) 2 3)

abbrev pub reduced : Format → ℕ → Float → Float
reduced f ix a =
    cond (nat_lt ix (about_one f))
    (cond (nat_lt ix (about_half f)) (div f (sub f (mul f (two f) a) (one f)) (add f (two f) a)) (div f (sub f a (one f)) (add f a (one f))))
    (cond (nat_lt ix (about_three_halves f)) (div f (sub f a (three_halves f)) (add f (one f) (mul f (three_halves f) a))) (div f (neg (one f)) a))

abbrev pub turned : Format → ℕ → Float → Float
turned f id t = sub f (atanhi f id) (sub f (sub f (mul f t (series f t)) (atanlo f id)) t)

-- ---- the whole

abbrev pub atan : Format → Float → Float
atan f x =
    cond (is_nan x) x
    (cond (nat_le (large f) (top_word f x)) (signed (is_sign_negative x) (atanhi f 3))
    (cond (nat_lt (top_word f x) (straight f)) (cond (nat_lt (top_word f x) (tiny f)) x (near f x))
    (signed (is_sign_negative x) (turned f (centre f (top_word f x)) (reduced f (top_word f x) (fabs x))))))
