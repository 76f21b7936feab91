-- What code reads of a pattern is the number's words.
use Rattle.std.proofs.Common.{◌≡◌, ℕ, ◌/◌, ◌%◌, ◌^◌, ◌<◌, true, not, T, eqb, leb, sym, ap, ◌∙◌, subst, arith}
use lib.Bits.{bit_and}
use lib.Ieee.{Float, Format, binary32, binary64, nan, fits, is_nan, top}
use Rattle.std.specs.Float.{is_sign_negative}
use Rattle.std.proofs.lemmas.Nat.{and_mask}
use Rattle.std.proofs.lemmas.Bool.{le-leb, lt-leb, ne_eqb, eq-eqb}
use Rattle.width.specs.Shape.{shape_of, width}
use Rattle.width.specs.Pattern.{PatternOf}
use Rattle.rootlaws.proofs.Square.{ways}
use Rattle.anglelaws.specs.Words.{weight, top_word, low_word}
use Rattle.anglelaws.proofs.Signs.{sign_bit}

-- the sign bit of the top word is that of the pattern
top_sign : (f : Format) (n : ℕ) → n < 2 ^ width (shape_of f) → leb (top f) n ≡ not (eqb (n / weight f % 2 ^ 32 / 2 ^ 31) 0)
top_sign binary32 n l =
    ways n 2147483648 _
    (λ h. lt-leb 2147483648 n h ∙ sym (ap not (eq-eqb (n / 1 % 4294967296 / 2147483648) 0 (omega arith))))
    (λ h. le-leb 2147483648 n h ∙ sym (ap not (ne_eqb (n / 1 % 4294967296 / 2147483648) 0 (λ e. omega arith))))
top_sign binary64 n l =
    ways n 9223372036854775808 _
    (λ h. lt-leb 9223372036854775808 n h ∙ sym (ap not (eq-eqb (n / 4294967296 % 4294967296 / 2147483648) 0 (omega arith))))
    (λ h. le-leb 9223372036854775808 n h ∙ sym (ap not (ne_eqb (n / 4294967296 % 4294967296 / 2147483648) 0 (λ e. omega arith))))

-- of the number v with the pattern n, whose top word is hx
module _ (f : Format) (v : Float) (n : ℕ) (p : PatternOf f v n) (hx : ℕ) (i : hx ≡ n / weight f % 2 ^ 32) where
  pub sign_is : not (eqb (hx / 2 ^ 31) 0) ≡ is_sign_negative v
  sign_is = ap (λ h. not (eqb (h / 2 ^ 31) 0)) i ∙ sym (sign_bit f v n p ∙ top_sign f n p.small)

  pub top_is : bit_and hx 2147483647 ≡ top_word f v
  unfolding top_word
  top_is = and_mask hx 31 ∙ ap (λ h. h % 2147483648) i ∙ cut (n / weight f) ∙ ap (λ m. m / weight f % 2147483648) p.pattern
    where
      cut : (m : ℕ) → m % 4294967296 % 2147483648 ≡ m % 2147483648
      cut m = omega arith

-- what lies below its top word
pub low_is : (f : Format) (v : Float) (n lx : ℕ) → PatternOf f v n → lx ≡ n % weight f → lx ≡ low_word f v
unfolding low_word
low_is f v n lx p i = i ∙ ap (λ m. m % weight f) p.pattern

-- NaN, as code learns it
pub nan_is : (v : Float) → v ≡ nan → is_nan v ≡ true
unfolding is_nan
nan_is v e = ap is_nan e

pub nan_fits : (f : Format) (v : Float) → v ≡ nan → T (fits f v)
unfolding fits
nan_fits f v e = subst (λ x. T (fits f x)) (sym e) tt
