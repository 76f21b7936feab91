-- The high part of a root.
use Rattle.std.proofs.Common.{◌≡◌, ℕ, ◌*◌, ◌/◌, ◌%◌, ◌^◌, ◌<◌, ◌≤◌, false, cond, not, T, ltb, sym, ap, ap₂, ◌∙◌, subst, le_trans, arith}
use lib.Ieee.{Float, Format, binary32, binary64, nan, ones, hid, top, fits, mul, is_nan, nan_bits, of_bits, to_bits}
use lib.Ieee.Bits.{of_bits-to_bits, nan_bits_is, nan_bits_above}
use lib.Ieee.Fits.{mul-fits}
use Rattle.std.proofs.lemmas.Bool.{le-ltb, ltb-false}
use Rattle.width.specs.Shape.{shape_of, width}
use Rattle.width.specs.Pattern.{PatternOf}
use Rattle.anglelaws.specs.Arcs.{low_bits, high_part}

pub nan_high : (f : Format) (s : Float) → s ≡ nan → s ≡ high_part f s
unfolding high_part is_nan
nan_high f s e = e ∙ ap (high_part f) (sym e)

-- the pattern n with its low bits shifted out and back
abbrev cut : Format → ℕ → ℕ
cut f n = n / 2 ^ low_bits f * 2 ^ low_bits f % 2 ^ width (shape_of f)

cut_is : (f : Format) (n : ℕ) → n < 2 ^ width (shape_of f) → cut f n ≡ n / 2 ^ low_bits f * 2 ^ low_bits f
cut_is binary32 n l = omega arith
cut_is binary64 n l = omega arith

pub high_is : (f : Format) (s : Float) (n bits low : ℕ) → PatternOf f s n → bits ≡ width (shape_of f) → low ≡ low_bits f → of_bits f (n / 2 ^ low * 2 ^ low % 2 ^ bits) ≡ high_part f s
unfolding high_part
high_is f s n bits low p e i =
    ap₂ (λ b l. of_bits f (n / 2 ^ l * 2 ^ l % 2 ^ b)) e i ∙ ap (of_bits f) (cut_is f n p.small) ∙ ap (λ m. of_bits f (m / 2 ^ low_bits f * 2 ^ low_bits f)) p.pattern
    ∙ sym (ap (λ b. cond b s (of_bits f (to_bits f s / 2 ^ low_bits f * 2 ^ low_bits f))) p.number)

-- its size is no larger
cut_less : (f : Format) (n : ℕ) → cut f n % top f ≤ n % top f
cut_less binary32 n = omega arith
cut_less binary64 n = omega arith

-- so the high part of a number is one
pub high_number : (f : Format) (s : Float) → T (fits f s) → is_nan s ≡ false → T (not (nan_bits f (cut f (to_bits f s))))
high_number f s k n =
    let b = to_bits f s in
    let none : ltb (ones f * hid f) (b % top f) ≡ false = sym (nan_bits_above f b) ∙ nan_bits_is f b ∙ ap is_nan (of_bits-to_bits f s k) ∙ n in
    subst (λ z. T (not z)) (sym (nan_bits_above f (cut f b) ∙ le-ltb _ _ (le_trans (cut_less f b) (ltb-false _ _ none)))) tt

-- what is rounded fits, so its root is the nearest one
pub product_fits : (f : Format) (x y z : Float) → z ≡ mul f x y → T (fits f z)
product_fits f x y z e = subst (λ v. T (fits f v)) (sym e) (mul-fits f x y)
