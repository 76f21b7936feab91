-- The library's exact root, rounded once, is the nearest root.
-- On the way: a fraction that lies strictly between the two points halfway to a float's neighbours is rounded to that float.
use Rattle.std.proofs.Common.{◌≡◌, ℕ, zero, suc, ◌+◌, ◌-◌, ◌*◌, ◌/◌, ◌%◌, ◌^◌, ◌<◌, ◌≤◌, Bool, true, false, cond, not, T, eqb, leb, ℤ, pos, negsuc, sym, refl, ap, ◌∙◌, subst, ap₂, le_trans, le_of_eq, lt_of_lt_of_le, mul-le-mul_right, div-lt_iff_lt-mul, mul-le-mul, mul-lt-mul_of_pos_right, mul-pos, lt_of_not-le, div-add-mod', le-div_iff_mul-le, mul-one, not-le_of_lt, mul-div_cancel, arith, eqb→eq, leb→le, pow_mono}
use Prim.Native.Nat.{compare, Ordering}
use native.Mathlib.Nat.{div-eq_of_lt-le, pow-succ'}
use lib.Dec.{is_le, compare_is_eq, nleb→lt}
use lib.Ieee.{Float, Format, binary32, binary64, nan, inf, fin, up, down, low, prec, hid, ones, top, size, nearest, round, fits, of_bits, to_bits}
use lib.Ieee.Bits.{of_bits-to_bits, of_bits-fits}
use lib.Ieee.Digits.{size-lt, size-le}
use lib.Ieee.Exact.{HasValue}
use lib.Ieee.Fits.{down_pos, round-fits, two, two-le_pos}
use lib.Ieee.Nearest.{closest}
use lib.Ieee.Order.{drop, kept}
use lib.Ieee.Scale.{grid, overflow, round_val}
use Rattle.std.specs.Float as Floats
use lib.Ieee as Ieee
use Rattle.std.proofs.lemmas.Nat.{pow_pos, pow-add}
use Rattle.std.proofs.lemmas.Bool.{leb-true, leb-false, eqb-true}
use Rattle.width.specs.Shape.{reading}
use Rattle.rootlaws.specs.Roots.{Between, units, NearestRoot}
use Rattle.rootlaws.proofs.Square.{ways}
use Rattle.rootlaws.proofs.Readings.{reading_low, reading_field, reading_next, split, monotone}
use Rattle.rootlaws.proofs.Floats.{value_units, clear_value, hid_pos, finite_bits, halfway_bits}

-- ---- a fraction to the nearest whole number

less_stays : (q a b : ℕ) → a < b → nearest q (compare a b) ≡ q
less_stays q a b h = go (compare a b) (nleb→lt a b) (eqb→eq a b)
  where
    go : (o : Ordering) → (T (not (is_le o)) → b < a) → (T (compare_is_eq o) → a ≡ b) → nearest q o ≡ q
    go Ordering.lt n e = refl
    go Ordering.eq n e = absurd (omega (arith, e tt))
    go Ordering.gt n e = absurd (omega (arith, n tt))

more_moves : (q a b : ℕ) → b < a → nearest q (compare a b) ≡ suc q
more_moves q a b h = go (compare a b) (leb→le a b)
  where
    go : (o : Ordering) → (T (is_le o) → a ≤ b) → nearest q o ≡ suc q
    go Ordering.lt l = absurd (omega (arith, l tt))
    go Ordering.eq l = absurd (omega (arith, l tt))
    go Ordering.gt l = refl

closest_down : (N U q : ℕ) → q * U ≤ N → 2 * N < (2 * q + 1) * U → closest N U ≡ q
closest_down N U q a b =
    let d : N / U ≡ q = div-eq_of_lt-le U a (omega arith) in
    let r : q * U + N % U ≡ N = ap (λ x. x * U + N % U) (sym d) ∙ div-add-mod' N U in
    ap (λ x. nearest x (compare (N % U * 2) U)) d ∙ less_stays q (N % U * 2) U (omega arith)

closest_up : (N U q : ℕ) → N < (q + 1) * U → (2 * q + 1) * U < 2 * N → closest N U ≡ suc q
closest_up N U q a b =
    let d : N / U ≡ q = div-eq_of_lt-le U (omega arith) a in
    let r : q * U + N % U ≡ N = ap (λ x. x * U + N % U) (sym d) ∙ div-add-mod' N U in
    ap (λ x. nearest x (compare (N % U * 2) U)) d ∙ more_moves q (N % U * 2) U (omega arith)

-- ---- the steps between patterns

-- Pattern n and the next read s and s + 1 steps of 2 ^ k. Where a step is more than the least, s has all its digits.
record Step (Q n s k : ℕ) : Type 0 where
  here : reading Q n ≡ s * 2 ^ k
  next : reading Q (suc n) ≡ (s + 1) * 2 ^ k
  few : s < 2 * Q
  full : 0 < k → Q ≤ s

step : (Q n : ℕ) (G : Type 0) → 0 < Q → ((s k : ℕ) → Step Q n s k → G) → G
step Q n G q c =
    split Q n G q
    (λ h. c n 0 (record {
      here = reading_low Q n h ∙ sym (mul-one n);
      next = ways (suc n) Q (reading Q (suc n) ≡ (n + 1) * 1)
          (λ g. reading_low Q (suc n) g ∙ one_more n)
          (λ g. let i : suc n ≡ 1 * Q + 0 = omega arith in ap (λ x. reading Q x) i ∙ reading_field Q 0 0 q ∙ first g h);
      few = omega arith;
      full = λ z. absurd (omega arith);
    }))
    (λ e f h i. c (Q + f) e (record {
      here = ap (λ x. reading Q x) i ∙ reading_field Q e f h;
      next = ap (λ x. reading Q (suc x)) i ∙ reading_next Q e f h;
      few = omega arith;
      full = λ z. omega arith;
    }))
  where
    one_more : (n : ℕ) → suc n ≡ (n + 1) * 1
    one_more n = omega arith

    first : Q ≤ suc n → n < Q → (Q + 0) * 1 ≡ (n + 1) * 1
    first g h = omega arith

-- a finite number is below the overflow
under_overflow : (f : Format) (n : ℕ) → n < ones f * hid f → reading (hid f) n < overflow f
under_overflow f n h = lt_of_lt_of_le (step (hid f) n (reading (hid f) n < reading (hid f) (suc n)) (hid_pos f) grown) (le_trans (monotone (hid f) (suc n) (ones f * hid f) (hid_pos f) h) (le_of_eq (past f)))
  where
    more : (x y s K : ℕ) → 0 < K → x ≡ s * K → y ≡ (s + 1) * K → x < y
    more x y s K k a b = omega arith

    grown : (s k : ℕ) → Step (hid f) n s k → reading (hid f) n < reading (hid f) (suc n)
    grown s k t = more (reading (hid f) n) (reading (hid f) (suc n)) s (2 ^ k) (pow_pos k) t.here t.next

    past : (f : Format) → reading (hid f) (ones f * hid f) ≡ overflow f
    past binary32 = refl
    past binary64 = refl

-- ---- what the rounding keeps

-- of a whole part between s and s + 1 steps of 2 ^ k it drops k digits
dropped : (p s k w : ℕ) → 0 < p → s * 2 ^ k ≤ w → w < (s + 1) * 2 ^ k → s < 2 ^ p → (0 < k → 2 ^ (p - 1) ≤ s) → size w - p ≡ k
dropped p s k w P a b c d =
    let i : s + 1 ≤ 2 ^ p = omega arith in
    let u = size-le w (p + k) (lt_of_lt_of_le b (le_trans (mul-le-mul_right (2 ^ k) i) (le_of_eq (sym (pow-add 2 p k))))) in
    ways 0 k (size w - p ≡ k)
    (λ g. let l : p - 1 + k < size w = reached (p - 1 + k) (le_trans (le_of_eq (pow-add 2 (p - 1) k)) (le_trans (mul-le-mul_right (2 ^ k) (d g)) a)) in omega arith)
    (λ g. omega arith)
  where
    reached : (j : ℕ) → 2 ^ j ≤ w → j < size w
    reached j h = lt_of_not-le (λ (g : size w ≤ j). not-le_of_lt (lt_of_lt_of_le (size-lt w) (pow_mono g)) h)

module _ (p N den : ℕ) (P : 0 < p) (D : 0 < den) where
  abbrev Q : ℕ
  Q = 2 ^ (p - 1)

  kept_step : (n s k c : ℕ) → Step Q n s k → reading Q n * den ≤ N → N < reading Q (suc n) * den → closest N (den * 2 ^ k) ≡ c → kept p N den * 2 ^ drop p N den ≡ c * 2 ^ k
  kept_step n s k c t a b e =
      let i : drop p N den ≡ k =
      dropped p s k (N / den) P ((le-div_iff_mul-le D).1 (subst (λ x. x * den ≤ N) t.here a)) ((div-lt_iff_lt-mul D).1 (subst (λ x. N < x * den) t.next b))
      (lt_of_lt_of_le t.few (le_of_eq (sym (pow-succ' 2 (p - 1)) ∙ ap (λ x. 2 ^ x) (back P)))) t.full in
      ap (λ z. closest N (den * 2 ^ z) * 2 ^ z) i ∙ ap (λ z. z * 2 ^ k) e
    where
      back : 0 < p → suc (p - 1) ≡ p
      back h = omega arith

  -- at or above the number of n, and nearer to it than to the next
  from_above : (n : ℕ) → reading Q n * den ≤ N → 2 * N < (reading Q n + reading Q (suc n)) * den → kept p N den * 2 ^ drop p N den ≡ reading Q n
  from_above n a b =
      step Q n (kept p N den * 2 ^ drop p N den ≡ reading Q n) (pow_pos (p - 1))
      (λ s k t. let z = sized (reading Q n) (reading Q (suc n)) s (2 ^ k) t.here t.next a b in
      kept_step n s k s t a z.0 (closest_down N (den * 2 ^ k) s z.1 z.2) ∙ sym t.here)
    where
      sized : (x y s K : ℕ) → x ≡ s * K → y ≡ (s + 1) * K → x * den ≤ N → 2 * N < (x + y) * den → (N < y * den) × (s * (den * K) ≤ N) × (2 * N < (2 * s + 1) * (den * K))
      sized x y s K i j a b =
          let u : x * den ≡ s * (den * K) = omega (arith, ap (λ z. z * den) i) in
          let v : y * den ≡ (s + 1) * (den * K) = omega (arith, ap (λ z. z * den) j) in
          omega arith

  -- below the number of n + 1, and nearer to it than to that of n
  from_below : (n : ℕ) → N < reading Q (suc n) * den → (reading Q n + reading Q (suc n)) * den < 2 * N → kept p N den * 2 ^ drop p N den ≡ reading Q (suc n)
  from_below n a b =
      step Q n (kept p N den * 2 ^ drop p N den ≡ reading Q (suc n)) (pow_pos (p - 1))
      (λ s k t. let z = sized (reading Q n) (reading Q (suc n)) s (2 ^ k) t.here t.next a b in
      kept_step n s k (suc s) t z.0 a (closest_up N (den * 2 ^ k) s z.1 z.2) ∙ ap (λ x. x * 2 ^ k) (one_more s) ∙ sym t.next)
    where
      one_more : (s : ℕ) → suc s ≡ s + 1
      one_more s = omega arith

      sized : (x y s K : ℕ) → x ≡ s * K → y ≡ (s + 1) * K → N < y * den → (x + y) * den < 2 * N → (x * den ≤ N) × (N < (s + 1) * (den * K)) × ((2 * s + 1) * (den * K) < 2 * N)
      sized x y s K i j a b =
          let u : x * den ≡ s * (den * K) = omega (arith, ap (λ z. z * den) i) in
          let v : y * den ≡ (s + 1) * (den * K) = omega (arith, ap (λ z. z * den) j) in
          omega arith

  kept_nearest : (n : ℕ) → (reading Q (n - 1) + reading Q n) * den < 2 * N → 2 * N < (reading Q n + reading Q (suc n)) * den → kept p N den * 2 ^ drop p N den ≡ reading Q n
  kept_nearest zero a b = from_above zero (le_trans (le_of_eq (ap (λ x. x * den) (reading_low Q 0 (pow_pos (p - 1))))) (none den)) b
    where
      none : (d : ℕ) → 0 * d ≤ N
      none d = omega arith
  kept_nearest (suc n) a b =
      ways N (reading Q (suc n) * den) (kept p N den * 2 ^ drop p N den ≡ reading Q (suc n))
      (λ g. from_below n g (subst (λ x. (reading Q x + reading Q (suc n)) * den < 2 * N) (before n) a))
      (λ g. from_above (suc n) g b)
    where
      before : (n : ℕ) → suc n - 1 ≡ n
      before n = omega arith

-- ---- floats of one value

-- the pattern of a sign and a size
abbrev code : Format → Bool → ℕ → ℕ
code f s u = cond s (top f) 0 + (size u - prec f) * hid f + u / 2 ^ (size u - prec f)

value_bits : (f : Format) (x : Float) (s : Bool) (a : ℕ) → HasValue x s a (2 ^ low f) → to_bits f x ≡ code f s a
unfolding to_bits
value_bits f nan s a v = elim v [ ]
value_bits f (inf t) s a v = elim v [ ]
value_bits f (fin t m e) s a v = ap₂ (code f) v.0 (value_units f (fin t m e) s a v)

pub one_value : (f : Format) (x y : Float) (s : Bool) (a : ℕ) → T (fits f x) → T (fits f y) → HasValue x s a (2 ^ low f) → HasValue y s a (2 ^ low f) → x ≡ y
one_value f x y s a p q v w = sym (of_bits-to_bits f x p) ∙ ap (of_bits f) (value_bits f x s a v ∙ sym (value_bits f y s a w)) ∙ of_bits-to_bits f y q

-- A fraction strictly between the points halfway to the neighbours of a finite pattern is rounded to that pattern's float. Each side is twice
-- its number, in units of the least subnormal and times den. After the greatest finite pattern the next reading is the overflow.
pub nearest_round : (f : Format) (n num den : ℕ) → n < ones f * hid f → 0 < den → (reading (hid f) (n - 1) + reading (hid f) n) * den < 2 * (num * 2 ^ low f)
    → 2 * (num * 2 ^ low f) < (reading (hid f) n + reading (hid f) (suc n)) * den → round f false num den ≡ of_bits f n
nearest_round f n num den h d a b =
    let g : grid f num den ≡ reading (hid f) n = kept_nearest (prec f) (num * 2 ^ low f) den (two-le_pos (prec f) (two f)) d n a b in
    one_value f (round f false num den) (of_bits f n) false (reading (hid f) n) (round-fits f false num den) (of_bits-fits f n)
    (subst (λ x. HasValue (round f false num den) false x (2 ^ low f)) g (round_val f num den (subst (λ x. x < overflow f) (sym g) (under_overflow f n h)))) (clear_value f n h)

-- ---- the library's root

abbrev Root : ℕ → ℕ → Type 0
Root r n = (r * r ≤ n) × (n < (r + 1) * (r + 1))

root_digit : (r n : ℕ) (b : Bool) → Root r (n / 4) → leb ((2 * r + 1) * (2 * r + 1)) n ≡ b → Root (cond b (2 * r + 1) (2 * r)) n
root_digit r n true h e = (leb-true ((2 * r + 1) * (2 * r + 1)) n e, omega arith)
root_digit r n false h e = (omega arith, leb-false ((2 * r + 1) * (2 * r + 1)) n e)

root_below : (k n : ℕ) → n < 2 ^ k → Root (Ieee.root_below k n) n
unfolding Ieee.root_below
root_below zero n h = omega arith
root_below (suc k) n h = root_digit (Ieee.root_below k (n / 4)) n (leb ((2 * Ieee.root_below k (n / 4) + 1) * (2 * Ieee.root_below k (n / 4) + 1)) n) (root_below k (n / 4) (omega (arith, pow-succ' 2 k))) refl

lt_of_squares : (a b : ℕ) → a * a < b * b → a < b
lt_of_squares a b h = lt_of_not-le (λ (g : b ≤ a). omega (arith, mul-le-mul g g))

-- the root of n lies between h and k, so twice the root, made odd where it is not whole, lies between their doubles
twice_between : (n h k : ℕ) → h * h < n → n < k * k → (2 * h < Ieee.root_twice n) × (Ieee.root_twice n < 2 * k)
unfolding Ieee.root_twice
twice_between n h k a b = go (Ieee.root_below (size n) n) (root_below (size n) n (size-lt n))
  where
    go : (r : ℕ) → Root r n → (2 * h < 2 * r + cond (eqb (r * r) n) 0 1) × (2 * r + cond (eqb (r * r) n) 0 1 < 2 * k)
    go r w = at (eqb (r * r) n) (eqb-true (r * r) n)
      where
        over : r < k
        over = lt_of_squares r k (omega arith)

        at : (t : Bool) → (t ≡ true → r * r ≡ n) → (2 * h < 2 * r + cond t 0 1) × (2 * r + cond t 0 1 < 2 * k)
        at true e = let i : h < r = lt_of_squares h r (omega (arith, e refl)) in omega (arith, over)
        at false e = let i : h < r + 1 = lt_of_squares h (r + 1) (omega arith) in omega (arith, over)

-- how many units of the library's root a unit of the format has, but for a factor of 4
abbrev finer : Format → ℕ
finer f = 2 ^ (2270 - low f)

finer_square : (f : Format) → 2 ^ 4542 ≡ 2 ^ low f * (2 ^ low f * (4 * (finer f * finer f)))
finer_square binary32 = refl
finer_square binary64 = refl

finer_once : (f : Format) → 2 ^ 2272 ≡ 4 * (finer f * 2 ^ low f)
finer_once binary32 = refl
finer_once binary64 = refl

-- what is rooted, of a number a / d that is V units
radicand : (a d V L C P : ℕ) → 0 < d → a * L ≡ V * d → P ≡ L * (L * (4 * (C * C))) → a * P / d ≡ V * L * (4 * (C * C))
radicand a d V L C P p h e = ap (λ x. a * x / d) e ∙ ap (λ x. x / d) (turn (4 * (C * C))) ∙ mul-div_cancel (V * L * (4 * (C * C))) p
  where
    turn : (W : ℕ) → a * (L * (L * W)) ≡ V * L * W * d
    turn W = omega (arith, ap (λ x. x * (L * W)) h)

-- a float is a whole number of units
whole_units : (f : Format) (m : ℕ) (e : ℤ) → T (fits f (fin false m e)) → m * up e * 2 ^ low f ≡ units f (fin false m e) * down e
whole_units f m e t =
    let x = fin false m e in
    let n = to_bits f x in
    let v = subst (λ y. HasValue y false (reading (hid f) n) (2 ^ low f)) (of_bits-to_bits f x t) (clear_value f n (finite_bits f m e t)) in
    v.1 ∙ ap (λ y. y * down e) (sym (value_units f x false (reading (hid f) n) v))

-- halfway points, in the units of the library's root
module _ (W C L D num : ℕ) (c : 0 < C) (l : 0 < L) (d : D ≡ 4 * (C * L)) (all : (h k : ℕ) → h * h < W * (4 * (C * C)) → W * (4 * (C * C)) < k * k → (2 * h < num) × (num < 2 * k)) where
  scaled : (H K : ℕ) → H * H < 4 * W → 4 * W < K * K → (H * D < 2 * (num * L)) × (2 * (num * L) < K * D)
  scaled H K a b =
      let s = mul-pos c c in
      let z = all (H * C) (K * C) (omega (arith, mul-lt-mul_of_pos_right a s)) (omega (arith, mul-lt-mul_of_pos_right b s)) in
      let i = ap (λ x. H * x) d in
      let j = ap (λ x. K * x) d in
      let u = mul-lt-mul_of_pos_right z.0 l in
      let w = mul-lt-mul_of_pos_right z.1 l in
      omega arith

exact_root : (f : Format) (m : ℕ) (e : ℤ) (n : ℕ) → T (fits f (fin false (suc m) e)) → n < ones f * hid f → Between (hid f) (units f (fin false (suc m) e) * 2 ^ low f) n → of_bits f n ≡ Floats.sqrt f (fin false (suc m) e)
unfolding Floats.sqrt
exact_root f m e n t h b =
    let V = units f (fin false (suc m) e) in
    let N = V * 2 ^ low f * (4 * (finer f * finer f)) in
    let i : suc m * up e * 2 ^ 4542 / down e ≡ N = radicand (suc m * up e) (down e) V (2 ^ low f) (finer f) (2 ^ 4542) (down_pos e) (whole_units f (suc m) e t) (finer_square f) in
    let z = scaled (V * 2 ^ low f) (finer f) (2 ^ low f) (2 ^ 2272) (Ieee.root_twice N) (pow_pos (2270 - low f)) (pow_pos (low f)) (finer_once f) (twice_between N)
    (reading (hid f) (n - 1) + reading (hid f) n) (reading (hid f) n + reading (hid f) (suc n)) b.below b.above in
    sym (ap (λ x. round f false (Ieee.root_twice x) (2 ^ 2272)) i ∙ nearest_round f n (Ieee.root_twice N) (2 ^ 2272) h (pow_pos 2272) z.0 z.1)

-- a zero that a format holds is written in one way
zero_exponent : (e : ℤ) → up e * down e ≡ 1 → e ≡ pos 0
zero_exponent (pos zero) h = refl
zero_exponent (pos (suc k)) h = absurd (omega (arith, pow-succ' 2 k))
zero_exponent (negsuc k) h = absurd (omega (arith, pow-succ' 2 k))

zero_written : (f : Format) (s : Bool) (e : ℤ) → T (fits f (fin s zero e)) → fin s zero e ≡ fin s zero (pos 0)
unfolding fits
zero_written f s e t = ap (fin s zero) (zero_exponent e (eqb→eq (up e * down e) 1 t))

-- the nearest root of a float is what the library's root is defined to be
pub root_is : (f : Format) (v r : Float) → T (fits f v) → NearestRoot f v r → r ≡ Floats.sqrt f v
unfolding Floats.sqrt
root_is f nan r t h = h
root_is f (inf true) r t h = h
root_is f (inf false) r t h = h
root_is f (fin s zero e) r t h = h ∙ zero_written f s e t
root_is f (fin true (suc m) e) r t h = h
root_is f (fin false (suc m) e) r t h =
    let b = halfway_bits f (fin false (suc m) e) r h in
    sym (of_bits-to_bits f r h.held) ∙ exact_root f m e (to_bits f r) t b.0 b.1
