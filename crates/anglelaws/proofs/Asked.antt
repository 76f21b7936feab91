-- A root unit is asked for sizes from one half up to, not including, 1.
use Rattle.std.proofs.Common.{◌≡◌, ℕ, ◌*◌, Bool, true, false, not, ◌&&◌, ◌||◌, T, eqb, ltb, leb, sym, refl, ap, ◌∙◌, ap₂, true≢false, arith}
use lib.Ieee.{Float, Format, binary32, binary64, nan, inf, fin, up, down, lt, le, eq, fits, is_nan, of_bits, to_bits}
use lib.Ieee.Bits.{of_bits-fits}
use Rattle.std.specs.Float.{float_with_sign}
use Rattle.std.proofs.lemmas.Bool.Decides.{nat_tests}
use Rattle.anglelaws.specs.Words.{top_word, low_word, half_word, one_word}
use Rattle.anglelaws.specs.Numbers.{half, one}
use Rattle.anglelaws.specs.Formulas.{fabs}
use Rattle.anglelaws.specs.Asked.{FromHalf}
use Rattle.anglelaws.proofs.Classes.{below_cut}

-- of two sizes the one is at least the other, or below it
flip : (a b : ℕ) → (ltb a b || (eqb a b && true)) ≡ not (ltb b a)
flip a b = grind (arith, nat_tests)

not_below : (f : Format) (x : Float) → is_nan x ≡ false → le (half f) (fabs x) ≡ not (lt (fabs x) (half f))
unfolding is_nan le lt eq float_with_sign of_bits
not_below binary32 nan n = absurd (true≢false n)
not_below binary64 nan n = absurd (true≢false n)
not_below binary32 (inf s) n = refl
not_below binary64 (inf s) n = refl
not_below binary32 (fin s m e) n = flip (1 * 1 * down e) (m * up e * 2)
not_below binary64 (fin s m e) n = flip (1 * 1 * down e) (m * up e * 2)

-- the cuts at one half and at 1, by their top words
half_cut : (f : Format) → (is_nan (half f) ≡ false) × (low_word f (half f) ≡ 0) × (top_word f (half f) ≡ half_word f) × (fabs (half f) ≡ half f)
unfolding is_nan low_word top_word to_bits of_bits float_with_sign
half_cut binary32 = (refl, refl, refl, refl)
half_cut binary64 = (refl, refl, refl, refl)

one_cut : (f : Format) → (is_nan (one f) ≡ false) × (low_word f (one f) ≡ 0) × (top_word f (one f) ≡ one_word f) × (fabs (one f) ≡ one f)
unfolding is_nan low_word top_word to_bits of_bits float_with_sign
one_cut binary32 = (refl, refl, refl, refl)
one_cut binary64 = (refl, refl, refl, refl)

turned : (a b : ℕ) → leb a b ≡ not (ltb b a)
turned a b = grind (arith, nat_tests)

of_number : (f : Format) (x : Float) → T (fits f x) → is_nan x ≡ false
    → (leb (half_word f) (top_word f x) && ltb (top_word f x) (one_word f)) ≡ (le (half f) (fabs x) && lt (fabs x) (one f))
of_number f x k n =
    let h = half_cut f in
    let o = one_cut f in
    let a = ap (ltb (top_word f x)) (sym h.2) ∙ below_cut f x (half f) k (of_bits-fits f _) n h.0 h.1 ∙ ap (lt (fabs x)) h.3 in
    let b = ap (ltb (top_word f x)) (sym o.2) ∙ below_cut f x (one f) k (of_bits-fits f _) n o.0 o.1 ∙ ap (lt (fabs x)) o.3 in
    ap₂ (λ p q. p && q) (turned (half_word f) (top_word f x) ∙ ap not a ∙ sym (not_below f x n)) b

pub from_half : FromHalf
unfolding is_nan le lt eq float_with_sign
from_half f nan k = none (le (half f) nan)
  where
    none : (b : Bool) → false ≡ (b && false)
    none true = refl
    none false = refl
from_half f (inf s) k = of_number f (inf s) k refl
from_half f (fin s m e) k = of_number f (fin s m e) k refl
