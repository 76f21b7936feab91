-- From patterns to floats: the root of a pattern is the nearest root of its float, and a float has one.
use Rattle.std.proofs.Common.{◌≡◌, ℕ, zero, suc, ◌+◌, ◌-◌, ◌*◌, ◌/◌, ◌%◌, ◌^◌, ◌<◌, ◌≤◌, Bool, true, false, cond, not, T, eqb, ltb, leb, ℤ, pos, sym, refl, ap, ◌∙◌, subst, ap₂, subst₂, true≢false, mod-lt, mod-eq_of_lt, zero-lt-suc, mul_assoc, mul-le-mul, mul-pos, div-add-mod', zero-mul, mul-one, mul-div_cancel, arith, lt→ltb}
use mathlib.Core.Bool.{false≢true}
use native.Mathlib.Nat.{mul-add-mod_self_left, div-add-mod}
use lib.Ieee.{Float, Format, binary32, binary64, nan, inf, fin, up, down, low, prec, emax, hid, ones, top, odd, lt, fits, is_nan, of_fields, of_bits, to_bits}
use lib.Ieee.Bits.{of_bits-to_bits, to_bits-lt, of_bits-fits, to_bits-of_bits, nan_bits_is, nan_bits_above}
use lib.Ieee.Exact.{HasValue, odd_sign}
use lib.Ieee.Fits.{down_pos}
use Rattle.std.specs.Float as Floats
use Rattle.std.proofs.lemmas.Nat.{pow_pos, mod-mul-add, div_below}
use Rattle.std.proofs.lemmas.Bool.{lt-ltb, le-ltb, le-leb, lt-leb, ne_eqb}
use Rattle.width.specs.Shape.{shape_of, width, reading, quiet}
use Rattle.width.proofs.Patterns.{only_nan}
use Rattle.rootlaws.specs.Roots.{Between, RootBits, units, before, after, Halfway, NearestRoot, OneRoot}
use Rattle.rootlaws.proofs.Square.{ways}
use Rattle.rootlaws.proofs.Readings.{reading_field, one_nearest}

-- ---- the number of a finite pattern

-- of a sign's bit and the rest
sign_bit : (c : ℕ) (s : Bool) (n : ℕ) → n < c → leb c (cond s c 0 + n) ≡ s
sign_bit c true n h = le-leb c (c + n) (omega arith)
sign_bit c false n h = lt-leb c (0 + n) (omega arith)

sign_rest : (c : ℕ) (s : Bool) (n : ℕ) → n < c → (cond s c 0 + n) % c ≡ n
sign_rest c true n h = ap (λ y. (y + n) % c) (sym (one c)) ∙ mod-mul-add 1 c n h
  where
    one : (c : ℕ) → 1 * c ≡ c
    one c = omega arith
sign_rest c false n h = mod-eq_of_lt {n = 0 + n} {m = c} (omega arith) ∙ zero_plus n
  where
    zero_plus : (n : ℕ) → 0 + n ≡ n
    zero_plus n = omega arith

fields_value : (f : Format) (s : Bool) (n : ℕ) → n < ones f * hid f → HasValue (of_fields f s (n / hid f) (n % hid f)) s (reading (hid f) n) (2 ^ low f)
unfolding of_fields
fields_value f s n h = go (n / hid f) (n % hid f) (mod-lt n hid_pos) (div-add-mod' n (hid f)) (div_below n (hid f) (ones f) hid_pos h)
  where
    hid_pos : 0 < hid f
    hid_pos = pow_pos (prec f - 1)

    go : (x t : ℕ) → t < hid f → x * hid f + t ≡ n → x < ones f → HasValue (of_fields f s x t) s (reading (hid f) n) (2 ^ low f)
    go zero t p e l =
        let i : n ≡ t = omega arith in
        let a : reading (hid f) n ≡ t * 2 ^ 0 = rw (lt-ltb n (hid f) (omega arith)) (i ∙ sym (mul-one t)) in
        subst (λ a. HasValue (odd (prec f) s t 0 (low f)) s a (2 ^ low f)) (sym a) (odd_sign (prec f) s t 0 (low f))
    go (suc x) t p e l =
        let b : eqb (suc x) (ones f) ≡ false = ne_eqb (suc x) (ones f) (λ z. omega arith) in
        let a : reading (hid f) n ≡ (hid f + t) * 2 ^ x = ap (λ y. reading (hid f) y) (sym e) ∙ reading_field (hid f) x t p in
        subst (λ c. HasValue (cond c (cond (eqb t 0) (inf s) nan) (odd (prec f) s (hid f + t) x (low f))) s (reading (hid f) n) (2 ^ low f)) (sym b)
        (subst (λ a. HasValue (odd (prec f) s (hid f + t) x (low f)) s a (2 ^ low f)) (sym a) (odd_sign (prec f) s (hid f + t) x (low f)))

-- the sign's weight is a whole number of the exponent's
pub low_digits : (f : Format) (b : ℕ) → b % top f % hid f ≡ b % hid f
low_digits f b = nested b (hid f) (suc (ones f))
  where
    nested : (y h k : ℕ) → y % (h * k) % h ≡ y % h
    nested y h k =
        let d = y / (h * k) in
        let i : h * (k * d) + y % (h * k) ≡ h * k * d + y % (h * k) = ap (λ z. z + y % (h * k)) (sym (mul_assoc h k d)) in
        sym (mul-add-mod_self_left h (k * d) (y % (h * k))) ∙ ap (λ z. z % h) (i ∙ div-add-mod y (h * k))

small_rest : (f : Format) (n : ℕ) → n < ones f * hid f → n < top f
small_rest f n h = room (hid f) (ones f) h
  where
    room : (c o : ℕ) → n < o * c → n < c * suc o
    room c o h = omega arith

pub bits_value : (f : Format) (s : Bool) (n : ℕ) → n < ones f * hid f → HasValue (of_bits f (cond s (top f) 0 + n)) s (reading (hid f) n) (2 ^ low f)
unfolding of_bits
bits_value f s n h =
    let c = top f in
    let b = cond s c 0 + n in
    let u = small_rest f n h in
    let i = sign_bit c s n u in
    let j = sign_rest c s n u in
    let k : b % hid f ≡ n % hid f = sym (low_digits f b) ∙ ap (λ y. y % hid f) j in
    subst (λ x. HasValue x s (reading (hid f) n) (2 ^ low f))
    (sym (ap (λ y. of_fields f y (b % c / hid f) (b % hid f)) i ∙ ap₂ (λ y z. of_fields f s (y / hid f) z) j k)) (fields_value f s n h)

-- what a value says of the size
pub value_units : (f : Format) (x : Float) (s : Bool) (a : ℕ) → HasValue x s a (2 ^ low f) → units f x ≡ a
value_units f nan s a v = elim v [ ]
value_units f (inf t) s a v = elim v [ ]
value_units f (fin t m e) s a v = ap (λ y. y / down e) v.1 ∙ mul-div_cancel a (down_pos e)

plus_none : (n : ℕ) → 0 + n ≡ n
plus_none n = omega arith

pub clear_value : (f : Format) (n : ℕ) → n < ones f * hid f → HasValue (of_bits f n) false (reading (hid f) n) (2 ^ low f)
clear_value f n h = subst (λ y. HasValue (of_bits f y) false (reading (hid f) n) (2 ^ low f)) (plus_none n) (bits_value f false n h)

pub bits_units : (f : Format) (n : ℕ) → n < ones f * hid f → units f (of_bits f n) ≡ reading (hid f) n
bits_units f n h = value_units f (of_bits f n) false (reading (hid f) n) (clear_value f n h)

-- ---- a finite pattern's float

-- a number above zero lies above the float zero
value_positive : (x : Float) (a c : ℕ) → 0 < a → HasValue x false a c → T (lt Floats.float_zero x)
unfolding lt
value_positive nan a c p v = elim v [ ]
value_positive (inf t) a c p v = elim v [ ]
value_positive (fin true m e) a c p v = absurd (true≢false v.0)
value_positive (fin false m e) a c p v =
    lt→ltb (0 * 1 * down e) (m * up e * 1) (some (m * up e) v.1)
  where
    some : (y : ℕ) → y * c ≡ a * down e → 0 * 1 * down e < y * 1
    some zero h = absurd (none (sym h ∙ zero-mul c))
      where
        none : a * down e ≡ 0 → ⊥
        none z = let q = mul-pos p (down_pos e) in omega arith
    some (suc y) h = omega (arith, zero-mul (down e))

reading_some : (Q n : ℕ) → 0 < Q → 0 < n → 0 < reading Q n
reading_some Q n q h =
    ways n Q (0 < reading Q n)
    (λ g. rw (lt-ltb n Q g) h)
    (λ g. rw (le-ltb n Q g) (mul-pos (more (n % Q)) (pow_pos (n / Q - 1))))
  where
    more : (y : ℕ) → 0 < Q + y
    more y = omega arith

pub hid_pos : (f : Format) → 0 < hid f
hid_pos f = pow_pos (prec f - 1)

bits_positive : (f : Format) (n : ℕ) → 0 < n → n < ones f * hid f → T (lt Floats.float_zero (of_bits f n))
bits_positive f n p h =
    value_positive (of_bits f n) (reading (hid f) n) (2 ^ low f) (reading_some (hid f) n (hid_pos f) p) (clear_value f n h)

value_number : (x : Float) (s : Bool) (a c : ℕ) → HasValue x s a c → T (not (is_nan x))
unfolding is_nan
value_number nan s a c v = elim v [ ]
value_number (inf t) s a c v = elim v [ ]
value_number (fin t m e) s a c v = tt

bits_back : (f : Format) (n : ℕ) → n < ones f * hid f → to_bits f (of_bits f n) ≡ n
bits_back f n h =
    to_bits-of_bits f n (twice (small_rest f n h))
    (value_number (of_bits f n) false (reading (hid f) n) (2 ^ low f) (clear_value f n h))
  where
    twice : n < top f → n < 2 * top f
    twice h = omega arith

-- ---- the nearest float, from the nearest pattern

between_some : (Q v n : ℕ) → 0 < Q → 0 < v → Between Q v n → 0 < n
between_some Q v zero q p h = absurd (none h.above)
  where
    one : reading Q 1 ≤ 1
    one = ways 1 Q (reading Q 1 ≤ 1) (λ g. rw (lt-ltb 1 Q g) (omega arith)) (λ g. let i : Q ≡ 1 = omega arith in rw i (omega arith))

    none : 4 * v < (reading Q 0 + reading Q 1) * (reading Q 0 + reading Q 1) → ⊥
    none g =
        let z : reading Q 0 ≡ 0 = rw (lt-ltb 0 Q q) in
        let o : reading Q 0 + reading Q 1 ≤ 1 = let u = one in omega arith in
        let m = mul-le-mul o o in
        omega arith
between_some Q v (suc n) q p h = omega arith

pub halfway : (f : Format) (v : Float) (n : ℕ) → 0 < n → suc n < ones f * hid f → Between (hid f) (units f v * 2 ^ low f) n → Halfway f v (of_bits f n)
halfway f v n p h b =
    let l : n < ones f * hid f = omega arith in
    let m : n - 1 < ones f * hid f = omega arith in
    let i = bits_back f n l in
    let here = bits_units f n l in
    let under : units f (before f (of_bits f n)) ≡ reading (hid f) (n - 1) = ap (λ y. units f (of_bits f (y - 1))) i ∙ bits_units f (n - 1) m in
    let over : units f (after f (of_bits f n)) ≡ reading (hid f) (suc n) = ap (λ y. units f (of_bits f (suc y))) i ∙ bits_units f (suc n) h in
    record {
      held = of_bits-fits f n;
      positive = bits_positive f n p l;
      below = subst₂ (λ x y. (x + y) * (x + y) < 4 * (units f v * 2 ^ low f)) (sym under) (sym here) b.below;
      above = subst₂ (λ x y. 4 * (units f v * 2 ^ low f) < (x + y) * (x + y)) (sym here) (sym over) b.above;
    }

-- ---- every pattern, by its class

zero_bits : (f : Format) (s : Bool) → of_bits f (cond s (top f) 0 + 0) ≡ fin s 0 (pos 0)
unfolding of_bits of_fields odd
zero_bits binary32 true = refl
zero_bits binary32 false = refl
zero_bits binary64 true = refl
zero_bits binary64 false = refl

infinity_bits : (f : Format) (s : Bool) → of_bits f (cond s (top f) 0 + ones f * hid f) ≡ inf s
unfolding of_bits of_fields
infinity_bits binary32 true = refl
infinity_bits binary32 false = refl
infinity_bits binary64 true = refl
infinity_bits binary64 false = refl

quiet_bits : (f : Format) → of_bits f (quiet (shape_of f)) ≡ nan
unfolding of_bits of_fields
quiet_bits binary32 = refl
quiet_bits binary64 = refl

-- the root of a pattern, in the words of the format
record Meets (f : Format) (b r : ℕ) : Type 0 where
  of_zero : b % top f ≡ 0 → r ≡ b
  of_infinity : b ≡ ones f * hid f → r ≡ b
  of_none : 0 < b % top f → ones f * hid f < b → of_bits f r ≡ nan
  finite : 0 < b → b < ones f * hid f → suc r < ones f * hid f
  between : 0 < b → b < ones f * hid f → Between (hid f) (reading (hid f) b * 2 ^ low f) r

meets : (f : Format) (b r : ℕ) → RootBits (shape_of f) b r → Meets f b r
meets binary32 b r h = record {
  of_zero = h.of_zero;
  of_infinity = h.of_infinity;
  of_none = λ p q. ap (of_bits binary32) (h.of_none p q) ∙ quiet_bits binary32;
  finite = h.finite;
  between = h.between;
}
meets binary64 b r h = record {
  of_zero = h.of_zero;
  of_infinity = h.of_infinity;
  of_none = λ p q. ap (of_bits binary64) (h.of_none p q) ∙ quiet_bits binary64;
  finite = h.finite;
  between = h.between;
}

module _ (f : Format) (s : Bool) (n r : ℕ) (u : n < top f) (h : Meets f (cond s (top f) 0 + n) r) where
  abbrev b : ℕ
  b = cond s (top f) 0 + n

  rest : b % top f ≡ n
  rest = sign_rest (top f) s n u

  -- a pattern above the infinity's, or with the sign set
  none : 0 < n → ones f * hid f < b → of_bits f r ≡ nan
  none p q = h.of_none (subst (λ y. 0 < y) (sym rest) p) q

  of_nan : ones f * hid f < n → NearestRoot f (of_bits f b) (of_bits f r)
  of_nan g =
      let t : is_nan (of_bits f b) ≡ true = sym (nan_bits_is f b) ∙ nan_bits_above f b ∙ lt-ltb (ones f * hid f) (b % top f) (subst (λ y. ones f * hid f < y) (sym rest) g) in
      subst (λ x. NearestRoot f x (of_bits f r)) (sym (only_nan (of_bits f b) t)) (none (positive g) (past s))
    where
      positive : ones f * hid f < n → 0 < n
      positive g = omega arith

      past : (s : Bool) → ones f * hid f < cond s (top f) 0 + n
      past true = omega arith
      past false = omega arith

  of_inf : n ≡ ones f * hid f → NearestRoot f (of_bits f b) (of_bits f r)
  of_inf e = go s (λ i. h.of_infinity i) none
    where
      at : (t : Bool) → of_bits f (cond t (top f) 0 + n) ≡ inf t
      at t = ap (λ y. of_bits f (cond t (top f) 0 + y)) e ∙ infinity_bits f t

      some : 0 < n
      some = subst (λ y. 0 < y) (sym e) (mul-pos (ones_pos (emax f)) (hid_pos f))
        where
          ones_pos : (k : ℕ) → 0 < 2 * k + 1
          ones_pos k = omega arith

      go : (t : Bool) → (cond t (top f) 0 + n ≡ ones f * hid f → r ≡ cond t (top f) 0 + n) → (0 < n → ones f * hid f < cond t (top f) 0 + n → of_bits f r ≡ nan)
          → NearestRoot f (of_bits f (cond t (top f) 0 + n)) (of_bits f r)
      go true a c = subst (λ x. NearestRoot f x (of_bits f r)) (sym (at true)) (c some (omega arith))
      go false a c = subst (λ x. NearestRoot f x (of_bits f r)) (sym (at false)) (ap (of_bits f) (a (plus_none n ∙ e)) ∙ at false)

  of_zero_bits : n ≡ 0 → NearestRoot f (of_bits f b) (of_bits f r)
  of_zero_bits e =
      let z = ap (λ y. of_bits f (cond s (top f) 0 + y)) e ∙ zero_bits f s in
      subst (λ x. NearestRoot f x (of_bits f r)) (sym z) (ap (of_bits f) (h.of_zero (rest ∙ e)) ∙ z)

  of_number : 0 < n → n < ones f * hid f → NearestRoot f (of_bits f b) (of_bits f r)
  of_number p l = go (of_bits f b) s (bits_value f s n l) h none
    where
      go : (x : Float) (t : Bool) → HasValue x t (reading (hid f) n) (2 ^ low f) → Meets f (cond t (top f) 0 + n) r → (0 < n → ones f * hid f < cond t (top f) 0 + n → of_bits f r ≡ nan) → NearestRoot f x (of_bits f r)
      go nan t v m c = elim v [ ]
      go (inf d) t v m c = elim v [ ]
      go (fin d zero e) t v m c = absurd (no (reading (hid f) n) (reading_some (hid f) n (hid_pos f) p) (sym v.1 ∙ ap (λ y. y * 2 ^ low f) (zero-mul (up e)) ∙ zero-mul (2 ^ low f)))
        where
          no : (a : ℕ) → 0 < a → a * down e ≡ 0 → ⊥
          no a q z = let y = mul-pos q (down_pos e) in omega arith
      go (fin true (suc k) e) true v m c = c p (omega (arith, small_rest f n l))
      go (fin true (suc k) e) false v m c = absurd (true≢false v.0)
      go (fin false (suc k) e) true v m c = absurd (false≢true v.0)
      go (fin false (suc k) e) false v m c =
          let i = plus_none n in
          let w = value_units f (fin false (suc k) e) false (reading (hid f) n) v in
          let p' = subst (λ y. 0 < y) (sym i) p in
          let l' = subst (λ y. y < ones f * hid f) (sym i) l in
          let bt = subst (λ y. Between (hid f) (y * 2 ^ low f) r) (ap (λ y. reading (hid f) y) i ∙ sym w) (m.between p' l') in
          halfway f (fin false (suc k) e) r (between_some (hid f) (units f (fin false (suc k) e) * 2 ^ low f) r (hid_pos f) (subst (λ y. 0 < y * 2 ^ low f) (sym w) (mul-pos (reading_some (hid f) n (hid_pos f) p) (pow_pos (low f)))) bt) (m.finite p' l') bt

  class : NearestRoot f (of_bits f b) (of_bits f r)
  class =
      ways n (ones f * hid f) (NearestRoot f (of_bits f b) (of_bits f r))
      (λ l. ways 0 n (NearestRoot f (of_bits f b) (of_bits f r)) (λ p. of_number p l) (λ z. of_zero_bits (omega arith)))
      (λ g. ways (ones f * hid f) n (NearestRoot f (of_bits f b) (of_bits f r)) of_nan (λ z. of_inf (omega arith)))

sign_and_rest : (c b : ℕ) → b < 2 * c → cond (leb c b) c 0 + b % c ≡ b
sign_and_rest c b h =
    ways b c (cond (leb c b) c 0 + b % c ≡ b)
    (λ l. rw (lt-leb c b l) (plus_none (b % c) ∙ mod-eq_of_lt l))
    (λ g. rw (le-leb c b g) (let i : b ≡ 1 * c + (b - c) = omega arith in ap (λ y. c + y) (ap (λ y. y % c) i ∙ mod-mul-add 1 c (b - c) (omega arith)) ∙ (let j : c + (b - c) ≡ b = omega arith in j)))

-- the float of the root of a pattern is the nearest root of the pattern's float
pub bits_root : (f : Format) (b r : ℕ) → b < 2 ^ width (shape_of f) → RootBits (shape_of f) b r → NearestRoot f (of_bits f b) (of_bits f r)
bits_root f b r u h =
    let i = sign_and_rest (top f) b (two_tops f u) in
    subst (λ y. NearestRoot f (of_bits f y) (of_bits f r)) i
    (class f (leb (top f) b) (b % top f) r (mod-lt b (top_pos f)) (subst (λ y. Meets f y r) (sym i) (meets f b r h)))
  where
    two_tops : (f : Format) → b < 2 ^ width (shape_of f) → b < 2 * top f
    two_tops binary32 u = u
    two_tops binary64 u = u

    top_pos : (f : Format) → 0 < top f
    top_pos f = mul-pos (hid_pos f) (zero-lt-suc (ones f))

-- ---- one root

-- a positive finite float has a pattern below the infinity's
pub finite_bits : (f : Format) (m : ℕ) (e : ℤ) → T (fits f (fin false m e)) → to_bits f (fin false m e) < ones f * hid f
unfolding is_nan
finite_bits f m e t =
    let n = to_bits f (fin false m e) in
    go (leb (top f) n) (n % top f) refl (mod-lt n (mul-pos (hid_pos f) (zero-lt-suc (ones f)))) (sign_and_rest (top f) n small)
  where
    small : to_bits f (fin false m e) < 2 * top f
    small = to_bits-lt f (fin false m e) t

    back : of_bits f (to_bits f (fin false m e)) ≡ fin false m e
    back = of_bits-to_bits f (fin false m e) t

    go : (s : Bool) (k : ℕ) → to_bits f (fin false m e) % top f ≡ k → k < top f → cond s (top f) 0 + k ≡ to_bits f (fin false m e) → to_bits f (fin false m e) < ones f * hid f
    go s k j u q =
        ways k (ones f * hid f) (to_bits f (fin false m e) < ones f * hid f)
        (λ l. sound s l (subst (λ x. HasValue x s (reading (hid f) k) (2 ^ low f)) (ap (of_bits f) q ∙ back) (bits_value f s k l)) q)
        (λ g. ways (ones f * hid f) k (to_bits f (fin false m e) < ones f * hid f)
        (λ o. absurd (not_nan (sym (ap is_nan back) ∙ sym (nan_bits_is f (to_bits f (fin false m e))) ∙ nan_bits_above f (to_bits f (fin false m e)) ∙ ap (λ y. ltb (ones f * hid f) y) j ∙ lt-ltb (ones f * hid f) k o)))
        (λ o. let z : k ≡ ones f * hid f = omega arith in absurd (not_inf s (sym back ∙ ap (of_bits f) (sym q ∙ ap (λ y. cond s (top f) 0 + y) z) ∙ infinity_bits f s))))
      where
        sound : (s : Bool) → k < ones f * hid f → HasValue (fin false m e) s (reading (hid f) k) (2 ^ low f) → cond s (top f) 0 + k ≡ to_bits f (fin false m e) → to_bits f (fin false m e) < ones f * hid f
        sound true l v q = absurd (false≢true v.0)
        sound false l v q = subst (λ y. y < ones f * hid f) q (subst (λ y. y < ones f * hid f) (sym (plus_none k)) l)

        not_nan : false ≡ true → ⊥
        not_nan z = false≢true z

        not_inf : (s : Bool) → fin false m e ≡ inf s → ⊥
        not_inf s z = let y : ◌≡◌ {A = ℕ} 0 1 = cc in omega arith

-- the number after the greatest finite float is none
past_bits : (f : Format) → units f (of_bits f (ones f * hid f)) ≡ 0
past_bits f = ap (λ y. units f (of_bits f y)) (sym (plus_none (ones f * hid f))) ∙ ap (units f) (infinity_bits f false)

past_infinity : (f : Format) → units f (after f (inf false)) ≡ 0
unfolding to_bits of_bits of_fields
past_infinity binary32 = refl
past_infinity binary64 = refl

pub halfway_bits : (f : Format) (v r : Float) → Halfway f v r → (to_bits f r < ones f * hid f) × Between (hid f) (units f v * 2 ^ low f) (to_bits f r)
unfolding lt
halfway_bits f v nan h = absurd h.positive
halfway_bits f v (inf true) h = absurd h.positive
halfway_bits f v (inf false) h = absurd (none (units f (after f (inf false))) (past_infinity f) h.above)
  where
    none : (y : ℕ) → y ≡ 0 → 4 * (units f v * 2 ^ low f) < (0 + y) * (0 + y) → ⊥
    none y e g = let z : (0 + y) * (0 + y) ≡ 0 = ap (λ x. (0 + x) * (0 + x)) e in omega arith
halfway_bits f v (fin true m e) h = absurd h.positive
halfway_bits f v (fin false m e) h = let l = finite_bits f m e h.held in (l, go (to_bits f (fin false m e)) refl l h.below h.above)
  where
    go : (n : ℕ) → to_bits f (fin false m e) ≡ n → n < ones f * hid f
        → (units f (of_bits f (to_bits f (fin false m e) - 1)) + units f (fin false m e)) * (units f (of_bits f (to_bits f (fin false m e) - 1)) + units f (fin false m e)) < 4 * (units f v * 2 ^ low f)
        → 4 * (units f v * 2 ^ low f) < (units f (fin false m e) + units f (of_bits f (suc (to_bits f (fin false m e))))) * (units f (fin false m e) + units f (of_bits f (suc (to_bits f (fin false m e)))))
        → Between (hid f) (units f v * 2 ^ low f) (to_bits f (fin false m e))
    go n i l a b =
        let own : units f (fin false m e) ≡ reading (hid f) n = ap (units f) (sym (of_bits-to_bits f (fin false m e) h.held)) ∙ ap (λ y. units f (of_bits f y)) i ∙ bits_units f n l in
        let under : units f (of_bits f (to_bits f (fin false m e) - 1)) ≡ reading (hid f) (n - 1) = ap (λ y. units f (of_bits f (y - 1))) i ∙ bits_units f (n - 1) (omega arith) in
        let over : units f (of_bits f (suc (to_bits f (fin false m e)))) ≡ units f (of_bits f (suc n)) = ap (λ y. units f (of_bits f (suc y))) i in
        ways (suc n) (ones f * hid f) (Between (hid f) (units f v * 2 ^ low f) (to_bits f (fin false m e)))
        (λ g. subst (λ y. Between (hid f) (units f v * 2 ^ low f) y) (sym i) (record {
          below = subst₂ (λ x y. (x + y) * (x + y) < 4 * (units f v * 2 ^ low f)) under own a;
          above = subst₂ (λ x y. 4 * (units f v * 2 ^ low f) < (x + y) * (x + y)) own (over ∙ bits_units f (suc n) g) b;
        }))
        (λ g. let z : suc n ≡ ones f * hid f = omega arith in
        absurd (none (units f (of_bits f (to_bits f (fin false m e) - 1))) (units f (fin false m e)) (units f (of_bits f (suc (to_bits f (fin false m e))))) (over ∙ ap (λ y. units f (of_bits f y)) z ∙ past_bits f) a b))
      where
        none : (x y w : ℕ) → w ≡ 0 → (x + y) * (x + y) < 4 * (units f v * 2 ^ low f) → 4 * (units f v * 2 ^ low f) < (y + w) * (y + w) → ⊥
        none x y w e a b =
            let o : y + w ≤ x + y = omega arith in
            let q = mul-le-mul o o in
            omega arith

pub one_root : OneRoot
one_root f nan r r' a b = a ∙ sym b
one_root f (inf true) r r' a b = a ∙ sym b
one_root f (inf false) r r' a b = a ∙ sym b
one_root f (fin s zero e) r r' a b = a ∙ sym b
one_root f (fin true (suc m) e) r r' a b = a ∙ sym b
one_root f (fin false (suc m) e) r r' a b =
    sym (of_bits-to_bits f r a.held)
    ∙ ap (of_bits f) (one_nearest (hid f) _ (to_bits f r) (to_bits f r') (hid_pos f) (halfway_bits f (fin false (suc m) e) r a).1 (halfway_bits f (fin false (suc m) e) r' b).1)
    ∙ of_bits-to_bits f r' b.held
