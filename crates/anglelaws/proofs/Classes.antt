-- What the words of a pattern tell: a number's class, and the order of sizes.
use Rattle.std.proofs.Common.{◌≡◌, ℕ, zero, suc, ◌+◌, ◌-◌, ◌*◌, ◌/◌, ◌%◌, ◌^◌, ◌<◌, ◌≤◌, Bool, true, false, cond, not, ◌&&◌, T, eqb, ltb, leb, ℤ, pos, sym, refl, ap, ◌∙◌, subst, ap₂, true≢false, mul-le-mul_right, le_antisymm, lt_of_mul-lt-mul_right, mul-lt-mul_of_pos_right, mul-pos, arith}
use lib.Ieee.{Float, Format, binary32, binary64, nan, inf, fin, up, down, size, prec, low, hid, ones, top, is_nan, lt, fits, of_bits, to_bits}
use lib.Ieee.Bits.{of_bits-to_bits, is_true}
use lib.Ieee.Exact.{HasValue}
use lib.Ieee.Order.{transfer}
use lib.Ieee.Fits.{down_pos}
use Rattle.std.specs.Float.{float_is_finite, is_sign_negative, float_with_sign, float_one}
use Rattle.std.proofs.lemmas.Nat.{pow_pos}
use Rattle.std.proofs.lemmas.Bool.{lt-ltb, le-ltb, le-leb, ne_eqb, ltb-true, eqb-true}
use Rattle.std.proofs.lemmas.Bool.Decides.{nat_tests}
use Rattle.width.specs.Shape.{reading}
use Rattle.rootlaws.proofs.Square.{ways}
use Rattle.rootlaws.proofs.Floats.{clear_value, finite_bits, hid_pos}
use Rattle.rootlaws.proofs.Readings.{monotone}
use Rattle.rootlaws.proofs.Rounded.{one_value}
use Rattle.anglelaws.specs.Words.{weight, top_word, low_word, is_size, one_word, infinity_word}
use Rattle.anglelaws.specs.Formulas.{fabs}

-- ---- the pattern of the size

-- the format holds a number of either sign
pub fits_size : (f : Format) (v : Float) → T (fits f v) → T (fits f (fabs v))
unfolding fits float_with_sign
fits_size f nan t = t
fits_size f (inf s) t = t
fits_size f (fin s zero e) t = t
fits_size f (fin s (suc m) e) t = t

signed_bits : (f : Format) (s : Bool) (m : ℕ) (e : ℤ) → to_bits f (fin s m e) ≡ cond s (top f) 0 + to_bits f (fin false m e)
unfolding to_bits
signed_bits f s m e =
    let n = m * up e * 2 ^ low f / down e in
    let k = size n - prec f in
    regroup (cond s (top f) 0) (k * hid f) (n / 2 ^ k)
  where
    regroup : (a b c : ℕ) → a + b + c ≡ a + (0 + b + c)
    regroup a b c = omega arith

-- a finite number's is below that of infinity
pub finite_size : (f : Format) (v : Float) → T (fits f v) → T (float_is_finite v) → to_bits f (fabs v) < ones f * hid f
unfolding float_is_finite float_with_sign
finite_size f nan t h = absurd h
finite_size f (inf s) t h = absurd h
finite_size f (fin s m e) t h = finite_bits f m e (fits_size f (fin s m e) t)

-- ---- the words are those of the size

signed_top : (f : Format) (s : Bool) (n : ℕ) → n < ones f * hid f → (cond s (top f) 0 + n) / weight f % 2147483648 ≡ n / weight f
signed_top binary32 true n h = omega arith
signed_top binary32 false n h = omega arith
signed_top binary64 true n h = omega arith
signed_top binary64 false n h = omega arith

signed_low : (f : Format) (s : Bool) (n : ℕ) → (cond s (top f) 0 + n) % weight f ≡ n % weight f
signed_low binary32 true n = omega arith
signed_low binary32 false n = omega arith
signed_low binary64 true n = omega arith
signed_low binary64 false n = omega arith

nan_top : (f : Format) → to_bits f nan / weight f % 2147483648 ≡ to_bits f nan / weight f
unfolding to_bits
nan_top binary32 = refl
nan_top binary64 = refl

infinite_words : (f : Format) (s : Bool) → (to_bits f (inf s) / weight f % 2147483648 ≡ to_bits f (inf false) / weight f) × (to_bits f (inf s) % weight f ≡ to_bits f (inf false) % weight f)
unfolding to_bits
infinite_words binary32 true = (refl, refl)
infinite_words binary32 false = (refl, refl)
infinite_words binary64 true = (refl, refl)
infinite_words binary64 false = (refl, refl)

pub top_size : (f : Format) (v : Float) → T (fits f v) → top_word f v ≡ to_bits f (fabs v) / weight f
unfolding top_word float_with_sign
top_size f nan t = nan_top f
top_size f (inf s) t = (infinite_words f s).0
top_size f (fin s m e) t = ap (λ n. n / weight f % 2147483648) (signed_bits f s m e) ∙ signed_top f s (to_bits f (fin false m e)) (finite_bits f m e (fits_size f (fin s m e) t))

pub low_size : (f : Format) (v : Float) → low_word f v ≡ to_bits f (fabs v) % weight f
unfolding low_word float_with_sign
low_size f nan = refl
low_size f (inf s) = (infinite_words f s).1
low_size f (fin s m e) = ap (λ n. n % weight f) (signed_bits f s m e) ∙ signed_low f s (to_bits f (fin false m e))

-- both words at once
both_words : (f : Format) (n t : ℕ) → (eqb (n / weight f) t && eqb (n % weight f) 0) ≡ eqb n (t * weight f)
both_words binary32 n t = grind (arith, nat_tests)
both_words binary64 n t = grind (arith, nat_tests)

pub size_is : (f : Format) (v : Float) (t : ℕ) → T (fits f v) → is_size f t v ≡ eqb (to_bits f (fabs v)) (t * weight f)
size_is f v t h = ap₂ (λ a b. eqb a t && eqb b 0) (top_size f v h) (low_size f v) ∙ both_words f (to_bits f (fabs v)) t

-- ---- patterns without a sign are in the order of their numbers

-- a finite number in units of the least subnormal
size_value : (f : Format) (m : ℕ) (e : ℤ) → T (fits f (fin false m e)) → HasValue (fin false m e) false (reading (hid f) (to_bits f (fin false m e))) (2 ^ low f)
size_value f m e t =
    let n = to_bits f (fin false m e) in
    subst (λ x. HasValue x false (reading (hid f) n) (2 ^ low f)) (of_bits-to_bits f (fin false m e) t) (clear_value f n (finite_bits f m e t))

finite_order : (f : Format) (m : ℕ) (e : ℤ) (n : ℕ) (d : ℤ) → T (fits f (fin false m e)) → T (fits f (fin false n d))
    → ltb (m * up e * down d) (n * up d * down e) ≡ ltb (to_bits f (fin false m e)) (to_bits f (fin false n d))
finite_order f m e n d t u =
    ways a b (ltb (x * down d) (y * down e) ≡ ltb a b)
    (λ h. lt-ltb (x * down d) (y * down e) (less x y (down e) (down d) (reading (hid f) a) (reading (hid f) b) (2 ^ low f) (down_pos e) (down_pos d) v.1 w.1 (read_less h)) ∙ sym (lt-ltb a b h))
    (λ h. let r : reading (hid f) b * 2 ^ low f ≤ reading (hid f) a * 2 ^ low f = mul-le-mul_right (2 ^ low f) (monotone (hid f) b a (hid_pos f) h) in
    le-ltb (x * down d) (y * down e) (transfer y x (down d) (down e) (reading (hid f) b) (reading (hid f) a) (2 ^ low f) (2 ^ low f) (pow_pos (low f)) (pow_pos (low f)) w.1 v.1 r) ∙ sym (le-ltb a b h))
  where
    x : ℕ
    x = m * up e

    y : ℕ
    y = n * up d

    a : ℕ
    a = to_bits f (fin false m e)

    b : ℕ
    b = to_bits f (fin false n d)

    v : HasValue (fin false m e) false (reading (hid f) a) (2 ^ low f)
    v = size_value f m e t

    w : HasValue (fin false n d) false (reading (hid f) b) (2 ^ low f)
    w = size_value f n d u

    -- one value has one pattern
    read_less : a < b → reading (hid f) a < reading (hid f) b
    read_less h =
        ways (reading (hid f) a) (reading (hid f) b) (reading (hid f) a < reading (hid f) b) (λ l. l)
        (λ g. let i : reading (hid f) b ≡ reading (hid f) a = le_antisymm g (monotone (hid f) a b (hid_pos f) (omega arith)) in
        let j : a ≡ b = ap (to_bits f) (one_value f (fin false m e) (fin false n d) false (reading (hid f) a) t u v (subst (λ r. HasValue (fin false n d) false r (2 ^ low f)) i w)) in
        absurd (omega arith))

    less : (x y p q r s L : ℕ) → 0 < p → 0 < q → x * L ≡ r * p → y * L ≡ s * q → r < s → x * q < y * p
    less x y p q r s L P Q i j h =
        lt_of_mul-lt-mul_right L (omega (arith, ap (λ z. z * q) i, ap (λ z. z * p) j, mul-lt-mul_of_pos_right h (mul-pos P Q)))

infinity_bits : (f : Format) → to_bits f (inf false) ≡ ones f * hid f
unfolding to_bits
infinity_bits binary32 = refl
infinity_bits binary64 = refl

under_infinity : (f : Format) (m : ℕ) (e : ℤ) → T (fits f (fin false m e)) → to_bits f (fin false m e) < to_bits f (inf false)
under_infinity f m e t = subst (λ n. to_bits f (fin false m e) < n) (sym (infinity_bits f)) (finite_bits f m e t)

-- of what is no NaN: an infinity is above all else
pub size_order : (f : Format) (v w : Float) → T (fits f v) → T (fits f w) → is_nan v ≡ false → is_nan w ≡ false → lt (fabs v) (fabs w) ≡ ltb (to_bits f (fabs v)) (to_bits f (fabs w))
unfolding is_nan float_with_sign lt
size_order f nan w t u i j = absurd (true≢false i)
size_order f (inf s) nan t u i j = absurd (true≢false j)
size_order f (inf s) (inf s') t u i j = sym (le-ltb (to_bits f (inf false)) (to_bits f (inf false)) (omega arith))
size_order f (inf s) (fin s' n d) t u i j =
    let h = under_infinity f n d (fits_size f (fin s' n d) u) in
    sym (le-ltb (to_bits f (inf false)) (to_bits f (fin false n d)) (omega arith))
size_order f (fin s m e) nan t u i j = absurd (true≢false j)
size_order f (fin s m e) (inf s') t u i j = sym (lt-ltb (to_bits f (fin false m e)) (to_bits f (inf false)) (under_infinity f m e (fits_size f (fin s m e) t)))
size_order f (fin s m e) (fin s' n d) t u i j = finite_order f m e n d (fits_size f (fin s m e) t) (fits_size f (fin s' n d) u)

-- where w has nothing below its top word, the top words tell the order
pub below_cut : (f : Format) (v w : Float) → T (fits f v) → T (fits f w) → is_nan v ≡ false → is_nan w ≡ false → low_word f w ≡ 0 → ltb (top_word f v) (top_word f w) ≡ lt (fabs v) (fabs w)
below_cut f v w t u i j z =
    ap₂ ltb (top_size f v t) (top_size f w u) ∙ cut f (to_bits f (fabs v)) (to_bits f (fabs w)) (sym (low_size f w) ∙ z) ∙ sym (size_order f v w t u i j)
  where
    cut : (f : Format) (a b : ℕ) → b % weight f ≡ 0 → ltb (a / weight f) (b / weight f) ≡ ltb a b
    cut binary32 a b z = grind (arith, nat_tests)
    cut binary64 a b z = grind (arith, nat_tests)

-- ---- infinities and finite numbers

pub infinity_has_word : (f : Format) (s : Bool) → eqb (top_word f (inf s)) (infinity_word f) ≡ true
unfolding top_word to_bits
infinity_has_word binary32 true = refl
infinity_has_word binary32 false = refl
infinity_has_word binary64 true = refl
infinity_has_word binary64 false = refl

pub finite_number : (v : Float) → T (float_is_finite v) → is_nan v ≡ false
unfolding float_is_finite is_nan
finite_number nan h = absurd h
finite_number (inf s) h = absurd h
finite_number (fin s m e) h = refl

pub finite_word : (f : Format) (v : Float) → T (fits f v) → T (float_is_finite v) → eqb (top_word f v) (infinity_word f) ≡ false
finite_word f v t h = ap (λ a. eqb a (infinity_word f)) (top_size f v t) ∙ under f (to_bits f (fabs v)) (finite_size f v t h)
  where
    under : (f : Format) (n : ℕ) → n < ones f * hid f → eqb (n / weight f) (infinity_word f) ≡ false
    under binary32 n l = ne_eqb (n / 1) 0x7f800000 (λ e. omega arith)
    under binary64 n l = ne_eqb (n / 4294967296) 0x7ff00000 (λ e. omega arith)

-- ---- zeros and ones

by_sign : (v : Float) → v ≡ float_with_sign (is_sign_negative v) (fabs v)
unfolding is_sign_negative float_with_sign
by_sign nan = refl
by_sign (inf s) = refl
by_sign (fin s m e) = refl

-- the number whose size has the top word t and nothing below it
of_size : (f : Format) (v : Float) (t : ℕ) → T (fits f v) → is_size f t v ≡ true → v ≡ float_with_sign (is_sign_negative v) (of_bits f (t * weight f))
of_size f v t h e =
    by_sign v
    ∙ ap (float_with_sign (is_sign_negative v)) (sym (of_bits-to_bits f (fabs v) (fits_size f v h)) ∙ ap (of_bits f) (eqb-true (to_bits f (fabs v)) (t * weight f) (sym (size_is f v t h) ∙ e)))

pub is_zero : (f : Format) (v : Float) → T (fits f v) → is_size f 0 v ≡ true → v ≡ fin (is_sign_negative v) 0 (pos 0)
unfolding of_bits float_with_sign
is_zero f v t e = of_size f v 0 t e ∙ at f
  where
    at : (f : Format) → float_with_sign (is_sign_negative v) (of_bits f (0 * weight f)) ≡ fin (is_sign_negative v) 0 (pos 0)
    at binary32 = refl
    at binary64 = refl

is_one : (f : Format) (v : Float) → T (fits f v) → is_size f (one_word f) v ≡ true → is_sign_negative v ≡ false → v ≡ float_one
unfolding of_bits float_with_sign
is_one f v t e n = of_size f v (one_word f) t e ∙ ap (λ s. float_with_sign s (of_bits f (one_word f * weight f))) n ∙ at f
  where
    at : (f : Format) → float_with_sign false (of_bits f (one_word f * weight f)) ≡ float_one
    at binary32 = refl
    at binary64 = refl

pub not_one : (f : Format) (v : Float) → T (fits f v) → (v ≡ float_one → ⊥) → (not (is_sign_negative v) && is_size f (one_word f) v) ≡ false
not_one f v t h = go (is_sign_negative v) (is_size f (one_word f) v) (is_one f v t)
  where
    go : (a b : Bool) → (b ≡ true → a ≡ false → v ≡ float_one) → (not a && b) ≡ false
    go true b k = refl
    go false true k = absurd (h (k refl refl))
    go false false k = refl

-- ---- sizes above zero, and above one

abbrev pub Above : Format → Float → ℕ → Type 0
Above f v t = (is_nan v ≡ false) × (leb t (top_word f v) ≡ true) × (is_size f t v ≡ false)

-- of a size above the number m * 2 ^ e, which has the top word t and nothing below it
above : (f : Format) (v : Float) (m : ℕ) (e : ℤ) (t : ℕ) → T (fits f v) → T (fits f (fin false m e)) → to_bits f (fin false m e) ≡ t * weight f → T (lt (fin false m e) (fabs v)) → Above f v t
unfolding is_nan float_with_sign lt
above f v m e t h k b l =
    (number v l, ap (leb t) (top_size f v h) ∙ le-leb t (to_bits f (fabs v) / weight f) (over f (to_bits f (fabs v)) past), size_is f v t h ∙ ne_eqb (to_bits f (fabs v)) (t * weight f) (apart past))
  where
    number : (v : Float) → T (lt (fin false m e) (fabs v)) → is_nan v ≡ false
    number nan l = absurd l
    number (inf s) l = refl
    number (fin s n d) l = refl

    past : t * weight f < to_bits f (fabs v)
    past =
        subst (λ n. n < to_bits f (fabs v)) b
        (ltb-true (to_bits f (fin false m e)) (to_bits f (fabs v)) (sym (size_order f (fin false m e) v k h refl (number v l)) ∙ is_true (lt (fin false m e) (fabs v)) l))

    over : (f : Format) (n : ℕ) → t * weight f < n → t ≤ n / weight f
    over binary32 n g = omega arith
    over binary64 n g = omega arith

    apart : {a b : ℕ} → b < a → a ≡ b → ⊥
    apart g i = omega arith

pub above_zero : (f : Format) (v : Float) → T (fits f v) → T (lt (fin false 0 (pos 0)) (fabs v)) → Above f v 0
unfolding to_bits fits
above_zero f v t l = above f v 0 (pos 0) 0 t tt (at f) l
  where
    at : (f : Format) → to_bits f (fin false 0 (pos 0)) ≡ 0 * weight f
    at binary32 = refl
    at binary64 = refl

pub above_one : (f : Format) (v : Float) → T (fits f v) → T (lt float_one (fabs v)) → Above f v (one_word f)
unfolding to_bits fits
above_one f v t l = above f v 1 (pos 0) (one_word f) t (held f) (at f) l
  where
    held : (f : Format) → T (fits f float_one)
    held binary32 = tt
    held binary64 = tt

    at : (f : Format) → to_bits f float_one ≡ one_word f * weight f
    at binary32 = refl
    at binary64 = refl
