-- The sign bit: what it says, and what is left without it.
use Rattle.std.proofs.Common.{◌≡◌, ℕ, zero, suc, ◌+◌, ◌-◌, ◌^◌, ◌/◌, ◌%◌, ◌<◌, Bool, true, false, cond, not, T, eqb, leb, sym, refl, ap, ◌∙◌, subst, ap₂, true≢false, mod-lt, mod-eq_of_lt, arith}
use lib.Ieee.{neg, Float, Format, binary32, binary64, nan, inf, fin, odd, prec, low, hid, ones, top, fits, is_nan, nan_bits, of_fields, of_bits, to_bits}
use lib.Ieee.Bits.{nan_bits_is}
use Rattle.std.specs.Float.{is_sign_negative, float_with_sign}
use lib.Bits.{bit_and}
use Rattle.std.proofs.lemmas.Bool.{lt-leb}
use Rattle.std.proofs.lemmas.Nat.{and_mask}
use Rattle.rootlaws.proofs.Floats.{low_digits}
use Rattle.width.specs.Pattern.{PatternOf}
use Rattle.width.proofs.Patterns.{only_nan, pattern_of}
use Rattle.anglelaws.specs.Formulas.{fabs}
use Rattle.anglelaws.specs.Atan2.{pi_lo}

odd_sign : (d : ℕ) (s : Bool) (q k l : ℕ) → is_sign_negative (odd d s q k l) ≡ s
unfolding odd is_sign_negative
odd_sign d s zero k l = refl
odd_sign d s (suc q) k l = refl

odd_size : (d : ℕ) (s : Bool) (q k l : ℕ) → float_with_sign false (odd d s q k l) ≡ odd d false q k l
unfolding odd float_with_sign
odd_size d s zero k l = refl
odd_size d s (suc q) k l = refl

fields_sign : (f : Format) (s : Bool) (x t : ℕ) → is_nan (of_fields f s x t) ≡ false → is_sign_negative (of_fields f s x t) ≡ s
unfolding of_fields is_sign_negative is_nan
fields_sign f s zero t n = odd_sign (prec f) s t 0 (low f)
fields_sign f s (suc x) t n = go (eqb (suc x) (ones f)) (eqb t 0) n
  where
    go : (a b : Bool) → is_nan (cond a (cond b (inf s) nan) (odd (prec f) s (hid f + t) x (low f))) ≡ false → is_sign_negative (cond a (cond b (inf s) nan) (odd (prec f) s (hid f + t) x (low f))) ≡ s
    go true true n = refl
    go true false n = absurd (true≢false n)
    go false b n = odd_sign (prec f) s (hid f + t) x (low f)

fields_size : (f : Format) (s : Bool) (x t : ℕ) → float_with_sign false (of_fields f s x t) ≡ of_fields f false x t
unfolding of_fields float_with_sign
fields_size f s zero t = odd_size (prec f) s t 0 (low f)
fields_size f s (suc x) t = go (eqb (suc x) (ones f)) (eqb t 0)
  where
    go : (a b : Bool) → float_with_sign false (cond a (cond b (inf s) nan) (odd (prec f) s (hid f + t) x (low f))) ≡ cond a (cond b (inf false) nan) (odd (prec f) false (hid f + t) x (low f))
    go true true = refl
    go true false = refl
    go false b = odd_size (prec f) s (hid f + t) x (low f)

top_pos : (f : Format) → 0 < top f
top_pos binary32 = omega arith
top_pos binary64 = omega arith

-- a number is negative where its sign bit is set
pub sign_bit : (f : Format) (v : Float) (n : ℕ) → PatternOf f v n → is_sign_negative v ≡ leb (top f) n
unfolding of_bits
sign_bit f v n p = ap is_sign_negative (sym p.value) ∙ fields_sign f (leb (top f) n) (n % top f / hid f) (n % hid f) (ap is_nan p.value ∙ p.number)

-- without its sign bit a pattern is that of the size
pub size_bits : (f : Format) (v : Float) (n : ℕ) → PatternOf f v n → fabs v ≡ of_bits f (n % top f)
unfolding of_bits
size_bits f v n p =
    let m = n % top f in
    let l : m < top f = mod-lt n (top_pos f) in
    let a : leb (top f) m ≡ false = lt-leb (top f) m l in
    let b : m % top f ≡ m = mod-eq_of_lt l in
    ap (float_with_sign false) (sym p.value) ∙ fields_size f (leb (top f) n) (m / hid f) (n % hid f)
    ∙ sym (ap (λ s. of_fields f s (m % top f / hid f) (m % hid f)) a ∙ ap₂ (λ x t. of_fields f false (x / hid f) t) b (low_digits f n))

pub nan_size : (v : Float) → is_nan v ≡ true → v ≡ fabs v
unfolding float_with_sign
nan_size v n = let e = only_nan v n in e ∙ sym (ap (float_with_sign false) e)

size_number : (v : Float) → is_nan (fabs v) ≡ is_nan v
unfolding is_nan float_with_sign
size_number nan = refl
size_number (inf s) = refl
size_number (fin s m e) = refl

-- the same for code that clears the bit of a number v
module _ (f : Format) (v : Float) (k : T (fits f v)) (n : is_nan v ≡ false) (m : ℕ) (i : m ≡ to_bits f v % top f) where
  pub cleared_size : of_bits f m ≡ fabs v
  cleared_size = ap (of_bits f) i ∙ sym (size_bits f v (to_bits f v) (pattern_of f v k n))

  pub cleared_number : T (not (nan_bits f m))
  cleared_number = subst (λ b. T (not b)) (sym (nan_bits_is f m ∙ ap is_nan cleared_size ∙ size_number v ∙ n)) tt

-- and by a mask
masked : (f : Format) (n mask : ℕ) → suc mask ≡ top f → bit_and n mask ≡ n % top f
masked binary32 n mask i = let e : mask ≡ 2 ^ 31 - 1 = omega arith in ap (bit_and n) e ∙ and_mask n 31
masked binary64 n mask i = let e : mask ≡ 2 ^ 63 - 1 = omega arith in ap (bit_and n) e ∙ and_mask n 63

pub masked_size : (f : Format) (v : Float) (mask : ℕ) → T (fits f v) → is_nan v ≡ false → suc mask ≡ top f → of_bits f (bit_and (to_bits f v) mask) ≡ fabs v
masked_size f v mask k n i = cleared_size f v k n (bit_and (to_bits f v) mask) (masked f (to_bits f v) mask i)

pub masked_number : (f : Format) (v : Float) (mask : ℕ) → T (fits f v) → is_nan v ≡ false → suc mask ≡ top f → T (not (nan_bits f (bit_and (to_bits f v) mask)))
masked_number f v mask k n i = cleared_number f v k n (bit_and (to_bits f v) mask) (masked f (to_bits f v) mask i)

-- the narrow constant below zero, as code writes it
pub narrow_pi_lo : neg (of_bits binary32 0x33bbbd2e) ≡ pi_lo binary32
unfolding neg of_bits
narrow_pi_lo = refl
