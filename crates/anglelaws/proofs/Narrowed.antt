-- A wide number rounded to the narrow format by whole-number arithmetic on its pattern.
use Rattle.std.proofs.Common.{◌≡◌, ℕ, suc, ◌+◌, ◌-◌, ◌*◌, ◌/◌, ◌%◌, ◌^◌, ◌<◌, ◌≤◌, Bool, true, false, cond, not, T, eqb, sym, refl, ap, ◌∙◌, subst, le_of_eq, lt_of_le_of_lt, mul-le-mul_right, div-lt_iff_lt-mul, mul-le-mul, mul-lt-mul_of_pos_right, mul-pos, mul-one, arith, eqb→eq, leb→le, pow_mono}
use Prim.Native.Nat.{compare, Ordering}
use native.Mathlib.Nat.{eq_of_mul-eq-mul_right}
use lib.Dec.{is_le, compare_is_eq, nleb→lt, eqb_refl}
use lib.Ieee.{Float, binary32, binary64, nan, inf, fin, up, down, low, top, size, nearest, round, of_bits, nan_bits}
use lib.Ieee.Bits.{of_bits-fits, nan_bits_above}
use lib.Ieee.Digits.{size-le}
use lib.Ieee.Exact.{HasValue, units_val}
use lib.Ieee.Fits.{down_pos, round_is, round-fits}
use lib.Ieee.Nearest.{closest, closest_same}
use lib.Ieee.Order.{drop, kept}
use lib.Ieee.Scale.{grid, grid_scale, normal_of_fraction, overflow, round_same}
use Rattle.std.specs.Float.{round_to_format}
use Rattle.std.proofs.lemmas.Nat.{pow_pos, pow-add, pow_below}
use Rattle.std.proofs.lemmas.Bool.{le-ltb}
use Rattle.width.specs.Shape.{reading}
use Rattle.rootlaws.proofs.Square.{ways}
use Rattle.rootlaws.proofs.Readings.{reading_field, reading_next}
use Rattle.rootlaws.proofs.Floats.{bits_value}
use Rattle.rootlaws.proofs.Rounded.{one_value}

-- ---- the last 29 digits rounded off

-- To the nearest, a tie to the even number: what is added is one less than half of what the last kept digit weighs, and one more where that digit is odd.
abbrev pub rounded : ℕ → ℕ
rounded u = (u + 0x0fff_ffff + u / 2 ^ 29 % 2) / 2 ^ 29

closest_rounded : (u : ℕ) → closest u (2 ^ 29) ≡ rounded u
closest_rounded u = go (compare (u % 2 ^ 29 * 2) (2 ^ 29)) (leb→le (u % 2 ^ 29 * 2) (2 ^ 29)) (nleb→lt (u % 2 ^ 29 * 2) (2 ^ 29)) (eqb→eq (u % 2 ^ 29 * 2) (2 ^ 29)) (λ e. subst (λ x. T (eqb (u % 2 ^ 29 * 2) x)) e (eqb_refl (u % 2 ^ 29 * 2)))
  where
    go : (o : Ordering) → (T (is_le o) → u % 2 ^ 29 * 2 ≤ 2 ^ 29) → (T (not (is_le o)) → 2 ^ 29 < u % 2 ^ 29 * 2) → (T (compare_is_eq o) → u % 2 ^ 29 * 2 ≡ 2 ^ 29) → (u % 2 ^ 29 * 2 ≡ 2 ^ 29 → T (compare_is_eq o)) → nearest (u / 2 ^ 29) o ≡ rounded u
    go Ordering.lt l g e n = ways (u % 2 ^ 29 * 2) (2 ^ 29) (u / 2 ^ 29 ≡ rounded u) (λ h. omega arith) (λ h. absurd (n (omega (arith, l tt))))
    go Ordering.eq l g e n = omega (arith, e tt)
    go Ordering.gt l g e n = omega (arith, g tt)

-- ---- the number as a fraction

-- The number of a wide pattern with the field 897 + j and the digits u, the leading one counted. The narrow format's least number is 2 ^ -149, so it is
-- u * 2 ^ j / 2 ^ 29 of that.
nearest_fraction : (v : Float) (s : Bool) (u j : ℕ) → HasValue v s (u * 2 ^ (896 + j)) (2 ^ low binary64) → round_to_format binary32 v ≡ round binary32 s (u * 2 ^ j) (2 ^ 178)
unfolding round_to_format
nearest_fraction nan s u j v = elim v [ ]
nearest_fraction (inf t) s u j v = elim v [ ]
nearest_fraction (fin t m e) s u j v =
    ap (λ b. round binary32 b (m * up e) (down e)) v.0
    ∙ round_same binary32 s (m * up e) (down e) (u * 2 ^ j) (2 ^ 178) (down_pos e) (pow_pos 178)
    (fewer (m * up e) (down e) (2 ^ j) (2 ^ 178) (2 ^ 896) (2 ^ (896 + j)) (pow_pos 896) (pow-add 2 896 j) v.1)
  where
    fewer : (a d J P C K : ℕ) → 0 < C → K ≡ C * J → a * (P * C) ≡ u * K * d → a * P ≡ u * J * d
    fewer a d J P C K c k h = eq_of_mul-eq-mul_right C c (a * P) (u * J * d) (omega (arith, ap (λ x. u * x * d) k))

module _ (u j : ℕ) (l : 2 ^ 52 ≤ u) (h : u < 2 ^ 53) where
  kept_all : kept 24 (u * 2 ^ 149) (2 ^ 178) * 2 ^ drop 24 (u * 2 ^ 149) (2 ^ 178) ≡ closest u (2 ^ 29)
  kept_all =
      let few = size-le (u * 2 ^ 149 / 2 ^ 178) 24 ((div-lt_iff_lt-mul (pow_pos 178)).1 (mul-lt-mul_of_pos_right h (pow_pos 149))) in
      ap (λ z. closest (u * 2 ^ 149) (2 ^ 178 * 2 ^ z) * 2 ^ z) (none (size (u * 2 ^ 149 / 2 ^ 178)) few)
      ∙ mul-one (closest (u * 2 ^ 149) (2 ^ 178 * 2 ^ 0))
      ∙ closest_same (u * 2 ^ 149) (2 ^ 178 * 2 ^ 0) u (2 ^ 29) (mul-pos (pow_pos 178) (pow_pos 0)) (pow_pos 29) (turn (2 ^ 149) (2 ^ 29) (2 ^ 178 * 2 ^ 0) refl)
    where
      none : (z : ℕ) → z ≤ 24 → z - 24 ≡ 0
      none z g = omega arith

      turn : (a b c : ℕ) → a * b ≡ c → u * a * b ≡ u * c
      turn a b c e = omega (arith, ap (λ x. u * x) e)

  grid_is : grid binary32 (u * 2 ^ j) (2 ^ 178) ≡ rounded u * 2 ^ j
  grid_is =
      grid_scale binary32 u (2 ^ 178) j (pow_pos 178) (normal_of_fraction binary32 u (2 ^ 178) (pow_pos 178) (mul-le-mul_right (2 ^ 149) l))
      ∙ ap (λ z. z * 2 ^ j) (kept_all ∙ closest_rounded u)

  grid_small : j ≤ 252 → grid binary32 (u * 2 ^ j) (2 ^ 178) < overflow binary32
  grid_small g =
      let q : rounded u ≤ 2 ^ 24 = omega arith in
      lt_of_le_of_lt (le_of_eq grid_is) (lt_of_le_of_lt (mul-le-mul q (pow_mono g)) (pow_below 276 277 (omega arith)))

  round_value : (s : Bool) → j ≤ 252 → HasValue (round binary32 s (u * 2 ^ j) (2 ^ 178)) s (rounded u * 2 ^ j) (2 ^ low binary32)
  round_value s g =
      subst (λ x. HasValue (round binary32 s (u * 2 ^ j) (2 ^ 178)) s x (2 ^ low binary32)) grid_is
      (subst (λ x. HasValue x s (grid binary32 (u * 2 ^ j) (2 ^ 178)) (2 ^ low binary32)) (sym (round_is binary32 s (u * 2 ^ j) (2 ^ 178)))
      (units_val binary32 s (kept 24 (u * 2 ^ j * 2 ^ 149) (2 ^ 178)) (drop 24 (u * 2 ^ j * 2 ^ 149) (2 ^ 178)) (grid_small g)))

-- ---- the narrow pattern

-- of the field j + 1 and the digits q; where q has grown by a digit, the sum carries into the field
narrow_reading : (j q : ℕ) → 2 ^ 23 ≤ q → q ≤ 2 ^ 24 → reading (2 ^ 23) (j * 2 ^ 23 + q) ≡ q * 2 ^ j
narrow_reading j q a b =
    ways q (2 ^ 24) (reading (2 ^ 23) (j * 2 ^ 23 + q) ≡ q * 2 ^ j)
    (λ h. let i : j * 2 ^ 23 + q ≡ suc j * 2 ^ 23 + (q - 2 ^ 23) = omega arith in
    let k : 2 ^ 23 + (q - 2 ^ 23) ≡ q = omega arith in
    ap (λ x. reading (2 ^ 23) x) i ∙ reading_field (2 ^ 23) j (q - 2 ^ 23) (omega arith) ∙ ap (λ x. x * 2 ^ j) k)
    (λ h. let i : j * 2 ^ 23 + q ≡ suc (suc j * 2 ^ 23 + (2 ^ 23 - 1)) = omega arith in
    let k : 2 ^ 23 + (2 ^ 23 - 1) + 1 ≡ q = omega arith in
    ap (λ x. reading (2 ^ 23) x) i ∙ reading_next (2 ^ 23) j (2 ^ 23 - 1) (omega arith) ∙ ap (λ x. x * 2 ^ j) k)

-- the narrow pattern of a size, from its wide one: the bias is 1023 there and 127 here
abbrev pub narrow : ℕ → ℕ
narrow n = rounded n - 896 * 2 ^ 23

-- what stands above the digits is carried along
rebiased : (j u : ℕ) → narrow ((896 + j) * 2 ^ 52 + u) ≡ j * 2 ^ 23 + rounded u
rebiased j u =
    let i : ((896 + j) * 2 ^ 52 + u) / 2 ^ 29 ≡ (896 + j) * 2 ^ 23 + u / 2 ^ 29 = omega arith in
    let k : ((896 + j) * 2 ^ 52 + u) / 2 ^ 29 % 2 ≡ u / 2 ^ 29 % 2 = omega arith in
    ap (λ x. ((896 + j) * 2 ^ 52 + u + 0x0fff_ffff + x) / 2 ^ 29 - 896 * 2 ^ 23) k ∙ over (u / 2 ^ 29 % 2)
  where
    over : (x : ℕ) → ((896 + j) * 2 ^ 52 + u + 0x0fff_ffff + x) / 2 ^ 29 - 896 * 2 ^ 23 ≡ j * 2 ^ 23 + (u + 0x0fff_ffff + x) / 2 ^ 29
    over x = omega arith

-- of a wide size from 2 ^ -126 to below 2 ^ 127, with a sign
module _ (s : Bool) (n : ℕ) (l : 0x3810_0000_0000_0000 ≤ n) (h : n < 0x47e0_0000_0000_0000) where
  abbrev u : ℕ
  u = 2 ^ 52 + n % 2 ^ 52

  abbrev j : ℕ
  j = n / 2 ^ 52 - 897

  wide_reading : reading (2 ^ 52) n ≡ u * 2 ^ (896 + j)
  wide_reading =
      let i : n ≡ suc (896 + j) * 2 ^ 52 + n % 2 ^ 52 = omega arith in
      ap (λ x. reading (2 ^ 52) x) i ∙ reading_field (2 ^ 52) (896 + j) (n % 2 ^ 52) (omega arith)

  narrow_is : reading (2 ^ 23) (narrow n) ≡ rounded u * 2 ^ j
  narrow_is =
      let i : n ≡ (896 + j) * 2 ^ 52 + u = omega arith in
      ap (λ x. reading (2 ^ 23) (rounded x - 896 * 2 ^ 23)) i
      ∙ ap (λ x. reading (2 ^ 23) x) (rebiased j u) ∙ narrow_reading j (rounded u) (omega arith) (omega arith)

  signed_narrow : round_to_format binary32 (of_bits binary64 (cond s (top binary64) 0 + n)) ≡ of_bits binary32 (cond s (top binary32) 0 + narrow n)
  signed_narrow =
      let v = of_bits binary64 (cond s (top binary64) 0 + n) in
      let r = of_bits binary32 (cond s (top binary32) 0 + narrow n) in
      nearest_fraction v s u j (subst (λ x. HasValue v s x (2 ^ low binary64)) wide_reading (bits_value binary64 s n (omega arith)))
      ∙ one_value binary32 (round binary32 s (u * 2 ^ j) (2 ^ 178)) r s (rounded u * 2 ^ j) (round-fits binary32 s (u * 2 ^ j) (2 ^ 178)) (of_bits-fits binary32 (cond s (top binary32) 0 + narrow n))
      (round_value u j (omega arith) (omega arith) s (omega arith))
      (subst (λ x. HasValue r s x (2 ^ low binary32)) narrow_is (bits_value binary32 s (narrow n) (omega arith)))

-- ---- with the sign's bit at its place

abbrev pub narrow_bits : ℕ → ℕ
narrow_bits b = b / 2 ^ 63 * 2 ^ 31 + narrow (b % 2 ^ 63)

module _ (b : ℕ) (w : b < 2 ^ 64) (l : 0x3810_0000_0000_0000 ≤ b % 2 ^ 63) (h : b % 2 ^ 63 < 0x47e0_0000_0000_0000) where
  pub nearest_narrow : round_to_format binary32 (of_bits binary64 b) ≡ of_bits binary32 (narrow_bits b)
  nearest_narrow =
      ways b (2 ^ 63) (round_to_format binary32 (of_bits binary64 b) ≡ of_bits binary32 (narrow_bits b))
      (λ g. at false (omega arith) (omega arith))
      (λ g. at true (omega arith) (omega arith))
    where
      at : (s : Bool) → b ≡ cond s (2 ^ 63) 0 + b % 2 ^ 63 → narrow_bits b ≡ cond s (2 ^ 31) 0 + narrow (b % 2 ^ 63) → round_to_format binary32 (of_bits binary64 b) ≡ of_bits binary32 (narrow_bits b)
      at s i k = ap (λ x. round_to_format binary32 (of_bits binary64 x)) i ∙ signed_narrow s (b % 2 ^ 63) l h ∙ ap (of_bits binary32) (sym k)

  -- it is no NaN's
  pub narrow_number : T (not (nan_bits binary32 (narrow_bits b)))
  narrow_number = subst (λ x. T (not x)) (sym (nan_bits_above binary32 (narrow_bits b) ∙ le-ltb 0x7f80_0000 (narrow_bits b % 2 ^ 31) (omega arith))) tt
