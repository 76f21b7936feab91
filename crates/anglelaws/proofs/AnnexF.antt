-- The functions have the special values of Annex F.
use Rattle.std.proofs.Common.{◌≡◌, ℕ, suc, ◌+◌, ◌-◌, ◌*◌, ◌^◌, ◌<◌, Bool, true, false, cond, not, ◌&&◌, ◌||◌, T, ltb, pos, sym, refl, ap, ◌∙◌, subst, ap₂, true≢false, mul-pos, zero-mul, arith}
use mathlib.Core.Bool.{beq}
use lib.Ieee.{Float, Format, binary32, binary64, nan, inf, fin, up, down, prec, emax, low, round, neg, sum, add, sub, mul, div, lt, fits, is_nan, of_bits, to_bits}
use lib.Ieee.Exact.{HasValue, round_exact}
use lib.Ieee.Fits.{up_pos, down_pos}
use Rattle.std.specs.Float.{float_is_finite, is_sign_negative, round_to_format, float_one}
use Rattle.std.proofs.lemmas.Nat.{pow_pos}
use Rattle.std.proofs.lemmas.Bool.{le-ltb, eq-eqb}
use Rattle.rootlaws.proofs.Square.{ways}
use Rattle.anglelaws.specs.Words.{top_word, low_word, is_size, one_word, float}
use Rattle.anglelaws.specs.Numbers as Numbers
use Rattle.anglelaws.specs.Formulas.{fabs, signed}
use Rattle.anglelaws.specs.Atan.{atan}
use Rattle.anglelaws.specs.Atan2 as Atan2
use Rattle.anglelaws.specs.Atan2.{atan2}
use Rattle.anglelaws.specs.Arcs as Arcs
use Rattle.anglelaws.specs.Arcs.{asin, acos}
use Rattle.anglelaws.specs.AnnexF.{AtanValues, Atan2Values, AsinValues, AcosValues, zero, π, three_quarters, half_π, quarter, last}
use Rattle.anglelaws.proofs.Classes.{infinity_has_word, finite_number, finite_word, is_zero, not_one, above_zero, above_one}

-- ---- the arctangent

atan_zero : (f : Format) (s : Bool) → atan f (zero s) ≡ zero s
unfolding is_nan top_word to_bits
atan_zero binary32 true = refl
atan_zero binary32 false = refl
atan_zero binary64 true = refl
atan_zero binary64 false = refl

atan_infinity : (f : Format) (s : Bool) → atan f (inf s) ≡ signed s (last f)
unfolding is_nan top_word to_bits is_sign_negative
atan_infinity binary32 true = refl
atan_infinity binary32 false = refl
atan_infinity binary64 true = refl
atan_infinity binary64 false = refl

pub atan_values : (f : Format) (x : Float) → T (fits f x) → AtanValues f x (atan f x)
unfolding is_nan
atan_values f x t = record {
  of_nan = λ e. ap (atan f) e;
  of_zero = λ s e. ap (atan f) e ∙ atan_zero f s;
  of_infinity = λ s e. ap (atan f) e ∙ atan_infinity f s;
}

-- ---- above one: 0 / 0

zero_is : (f : Format) → Numbers.zero f ≡ zero false
unfolding of_bits
zero_is binary32 = refl
zero_is binary64 = refl

-- 0 / x, where x is 0 in size
none_over_none : (f : Format) (x : Float) (s : Bool) (c : ℕ) → 0 < c → HasValue x s 0 c → div f (zero false) x ≡ nan
unfolding div
none_over_none f nan s c h v = absurd v
none_over_none f (inf t) s c h v = absurd v
none_over_none f (fin t m e) s c h v = rw (eq-eqb m 0 (none m (up e) (down e) (up_pos e) v.1))
  where
    none : (m u d : ℕ) → 0 < u → m * u * c ≡ 0 * d → m ≡ 0
    none m u d p i = ways 0 m (m ≡ 0) (λ g. let q = mul-pos (mul-pos g p) h in absurd (omega (arith, zero-mul d))) (λ g. omega arith)

round_none : (f : Format) (c : ℕ) → 0 < c → HasValue (round f false 0 c) false 0 c
round_none f c h = round_exact f false 0 c 0 0 h (pow_pos (prec f)) (pow_pos (low f + suc (emax f))) (zero-mul (2 ^ low f) ∙ sym (zero-mul c))

-- a / c less itself
less_itself : (f : Format) (s : Bool) (a c : ℕ) → 0 < c → HasValue (sum f s a (not s) a c) false 0 c
unfolding sum
less_itself f s a c h = go s (ltb a a) (a - a) (le-ltb a a (omega arith)) (omega arith)
  where
    go : (s b : Bool) (n : ℕ) → b ≡ false → n ≡ 0 → HasValue (cond (beq s (not s)) (round f s (a + a) c) (cond b (round f (not s) n c) (round f (s && b) n c))) false 0 c
    go s true n i j = absurd (true≢false i)
    go true false n i j = subst (λ k. HasValue (round f false k c) false 0 c) (sym j) (round_none f c h)
    go false false n i j = subst (λ k. HasValue (round f false k c) false 0 c) (sym j) (round_none f c h)

outside_nan : (f : Format) (x : Float) → Arcs.outside f x ≡ nan
unfolding div sub
outside_nan f x = ap (λ z. div f z (sub f x x)) (zero_is f) ∙ go x
  where
    go : (x : Float) → div f (zero false) (sub f x x) ≡ nan
    go nan = refl
    go (inf true) = refl
    go (inf false) = refl
    go (fin s m e) =
        let p = mul-pos (down_pos e) (down_pos e) in
        none_over_none f (sub f (fin s m e) (fin s m e)) false (down e * down e) p (less_itself f s (m * up e * down e) (down e * down e) p)

-- ---- the arcsine

asin_zero : (f : Format) (s : Bool) → asin f (zero s) ≡ zero s
unfolding is_nan top_word low_word to_bits of_bits mul div add sub
asin_zero binary32 true = refl
asin_zero binary32 false = refl
asin_zero binary64 true = refl
asin_zero binary64 false = refl

asin_one : (f : Format) (s : Bool) → asin f (fin s 1 (pos 0)) ≡ signed s (half_π f)
unfolding is_nan top_word low_word to_bits of_bits mul neg round_to_format
asin_one binary32 true = refl
asin_one binary32 false = refl
asin_one binary64 true = refl
asin_one binary64 false = refl

pub asin_values : (f : Format) (x : Float) → T (fits f x) → AsinValues f x (asin f x)
unfolding is_nan
asin_values f x t = record {
  of_nan = λ e. ap (asin f) e;
  of_zero = λ s e. ap (asin f) e ∙ asin_zero f s;
  of_one = λ s e. ap (asin f) e ∙ asin_one f s;
  outside = λ h. let p = above_one f x t h in rw (p.0, p.1, p.2) (outside_nan f x);
}

-- ---- the arccosine

acos_one : (f : Format) → acos f float_one ≡ zero false
unfolding is_nan top_word low_word to_bits of_bits is_sign_negative
acos_one binary32 = refl
acos_one binary64 = refl

acos_minus_one : (f : Format) → acos f (fin true 1 (pos 0)) ≡ float f 0x40490fda 0x400921fb54442d18
unfolding is_nan top_word low_word to_bits of_bits mul is_sign_negative
acos_minus_one binary32 = refl
acos_minus_one binary64 = refl

pub acos_values : (f : Format) (x : Float) → T (fits f x) → AcosValues f x (acos f x)
unfolding is_nan
acos_values f x t = record {
  of_nan = λ e. ap (acos f) e;
  of_one = λ e. ap (acos f) e ∙ acos_one f;
  of_minus_one = λ e. ap (acos f) e ∙ acos_minus_one f;
  outside = λ h. let p = above_one f x t h in rw (p.0, p.1, p.2) (outside_nan f x);
}

-- ---- the arctangent in its quadrant: what computes

zero_size : (f : Format) (s : Bool) → is_size f 0 (zero s) ≡ true
unfolding top_word low_word to_bits
zero_size binary32 true = refl
zero_size binary32 false = refl
zero_size binary64 true = refl
zero_size binary64 false = refl

zero_not_one : (f : Format) (t : Bool) → (not t && is_size f (one_word f) (zero t)) ≡ false
unfolding top_word low_word to_bits
zero_not_one f true = refl
zero_not_one binary32 false = refl
zero_not_one binary64 false = refl

infinity_not_one : (f : Format) (t : Bool) → (not t && is_size f (one_word f) (inf t)) ≡ false
unfolding top_word low_word to_bits
infinity_not_one f true = refl
infinity_not_one binary32 false = refl
infinity_not_one binary64 false = refl

infinity_not_zero : (f : Format) (s : Bool) → is_size f 0 (inf s) ≡ false
unfolding top_word low_word to_bits
infinity_not_zero binary32 true = refl
infinity_not_zero binary32 false = refl
infinity_not_zero binary64 true = refl
infinity_not_zero binary64 false = refl

half_turn : (f : Format) (s : Bool) → div f (signed s (Atan2.pi f)) (Numbers.two f) ≡ signed s (half_π f)
unfolding of_bits div neg
half_turn binary32 true = refl
half_turn binary32 false = refl
half_turn binary64 true = refl
half_turn binary64 false = refl

corners : (f : Format) (s t : Bool) → atan2 f (inf s) (inf t) ≡ signed s (cond t (three_quarters f) (quarter f))
unfolding is_nan is_sign_negative top_word low_word to_bits of_bits mul div neg
corners binary32 true true = refl
corners binary32 true false = refl
corners binary32 false true = refl
corners binary32 false false = refl
corners binary64 true true = refl
corners binary64 true false = refl
corners binary64 false true = refl
corners binary64 false false = refl

over_one : (f : Format) (s : Bool) → atan2 f (inf s) float_one ≡ atan f (inf s)
unfolding is_nan is_sign_negative top_word low_word to_bits
over_one binary32 s = refl
over_one binary64 s = refl

nan_above : (f : Format) (x : Float) → atan2 f nan x ≡ nan
unfolding is_nan add
nan_above f nan = refl
nan_above f (inf s) = refl
nan_above f (fin s m e) = refl

nan_below : (f : Format) (y : Float) → atan2 f y nan ≡ nan
unfolding is_nan add
nan_below f y = refl

-- ---- and what goes by the class of the other number

-- y is a zero
zero_east : (f : Format) (s : Bool) (x : Float) → is_nan x ≡ false → is_sign_negative x ≡ false → atan2 f (zero s) x ≡ zero s
unfolding is_nan
zero_east f s x n g = rw (n, g, zero_size f s) (go (is_size f (one_word f) x))
  where
    go : (b : Bool) → cond b (atan f (zero s)) (zero s) ≡ zero s
    go true = atan_zero f s
    go false = refl

zero_west : (f : Format) (s : Bool) (x : Float) → is_nan x ≡ false → is_sign_negative x ≡ true → atan2 f (zero s) x ≡ signed s (π f)
unfolding is_nan is_sign_negative
zero_west f s x n g = rw (n, g, zero_size f s)

-- x is a zero
zero_below : (f : Format) (t : Bool) (y : Float) → T (fits f y) → T (lt (zero false) (fabs y)) → atan2 f y (zero t) ≡ signed (is_sign_negative y) (half_π f)
unfolding is_nan is_sign_negative
zero_below f t y k h = let p = above_zero f y k h in rw (p.0, zero_not_one f t, p.2, zero_size f t) (half_turn f (is_sign_negative y))

signed_zero : (s : Bool) → zero s ≡ signed s (zero false)
unfolding neg
signed_zero true = refl
signed_zero false = refl

-- x is infinite
far_along : (f : Format) (t : Bool) (y : Float) → T (fits f y) → T (float_is_finite y) → atan2 f y (inf t) ≡ cond t (signed (is_sign_negative y) (π f)) (signed (is_sign_negative y) (zero false))
unfolding is_nan is_sign_negative
far_along f t y k h =
    rw (finite_number y h, infinity_not_one f t, infinity_not_zero f t, infinity_has_word f t, finite_word f y k h, zero_is f)
    (go (is_size f 0 y) (λ e. is_zero f y k e ∙ signed_zero (is_sign_negative y)))
  where
    go : (b : Bool) → (b ≡ true → y ≡ signed (is_sign_negative y) (zero false))
        → cond b (cond t (signed (is_sign_negative y) (π f)) y) (cond t (signed (is_sign_negative y) (π f)) (signed (is_sign_negative y) (zero false))) ≡ cond t (signed (is_sign_negative y) (π f)) (signed (is_sign_negative y) (zero false))
    go true e = ap (λ z. cond t (signed (is_sign_negative y) (π f)) z) (e refl)
    go false e = refl

-- y is infinite
far_up : (f : Format) (s : Bool) (x : Float) → T (fits f x) → T (float_is_finite x) → (x ≡ float_one → ⊥) → atan2 f (inf s) x ≡ signed s (half_π f)
unfolding is_nan is_sign_negative
far_up f s x k h o =
    rw (finite_number x h, not_one f x k o, infinity_not_zero f s, finite_word f x k h, infinity_has_word f s, or_true (ltb (top_word f x + Atan2.cut f) (top_word f (inf s))))
    (either (is_size f 0 x) (Atan2.upright f s) ∙ half_turn f s)
  where
    or_true : (b : Bool) → (b || true) ≡ true
    or_true true = refl
    or_true false = refl

    either : (b : Bool) (z : Float) → cond b z z ≡ z
    either true z = refl
    either false z = refl

pub atan2_values : (f : Format) (y x : Float) → T (fits f y) → T (fits f x) → Atan2Values f y x (atan2 f y x)
atan2_values f y x k t = record {
  nan_y = λ e. ap (λ v. atan2 f v x) e ∙ nan_above f x;
  nan_x = λ e. ap (atan2 f y) e ∙ nan_below f y;
  east = λ s e n g. ap (λ v. atan2 f v x) e ∙ zero_east f s x n g;
  west = λ s e n g. ap (λ v. atan2 f v x) e ∙ zero_west f s x n g;
  upright = λ s e h. ap (atan2 f y) e ∙ zero_below f s y k h;
  far_east = λ h e. ap (atan2 f y) e ∙ far_along f false y k h;
  far_west = λ h e. ap (atan2 f y) e ∙ far_along f true y k h;
  far_up = λ s e h o. ap (λ v. atan2 f v x) e ∙ far_up f s x t h o;
  far_up_one = λ s e i. ap₂ (atan2 f) e i ∙ over_one f s ∙ atan_infinity f s;
  corner = λ s r e i. ap₂ (atan2 f) e i ∙ corners f s r;
}

pub atan_special : (f : Format) (x r : Float) → T (fits f x) → r ≡ atan f x → AtanValues f x r
atan_special f x r k e = subst (λ v. AtanValues f x v) (sym e) (atan_values f x k)

pub asin_special : (f : Format) (x r : Float) → T (fits f x) → r ≡ asin f x → AsinValues f x r
asin_special f x r k e = subst (λ v. AsinValues f x v) (sym e) (asin_values f x k)

pub acos_special : (f : Format) (x r : Float) → T (fits f x) → r ≡ acos f x → AcosValues f x r
acos_special f x r k e = subst (λ v. AcosValues f x v) (sym e) (acos_values f x k)

pub atan2_special : (f : Format) (y x r : Float) → T (fits f y) → T (fits f x) → r ≡ atan2 f y x → Atan2Values f y x r
atan2_special f y x r j k e = subst (λ v. Atan2Values f y x v) (sym e) (atan2_values f y x j k)
