-- What the code's shifts and masks come to, on a stored word X Q + f: Q = 2^p, f the fraction, X the exponent field
-- (of a subnormal, the exponent that it would have, in words of K = 2^(eb + 2) fields).
use Rattle.std.proofs.Common.{◌≡◌, ℕ, suc, ◌+◌, ◌-◌, ◌*◌, ◌/◌, ◌%◌, ◌^◌, ◌<◌, ◌≤◌, max, sym, ap, ◌∙◌, subst, ap₂, add-zero, mul-le-mul_right, mod-eq_of_lt, one-mul, arith}
use native.Mathlib.Nat.{div-add-mod, div-eq_of_lt, mul-add-mod_self_left, add-mod_right, div-div-eq-div-mul, mul-add-div_right, pow-succ', mod_self}
use lib.Bits.{bit_and, bit_or, or_block, or_step, or_zero_r, or_shifted_r, and_mask, and_high}
use Rattle.std.proofs.lemmas.Nat.{pow_pos, pow-add, mod-mul-add}
use Rattle.rootlaws.proofs.Square.{ways}

-- a subnormal's word: (ix << n) - (n << p), where ix 2^n = Q + f
pub stored : (Q K f n : ℕ) → 0 < Q → f < Q → 1 ≤ n → n ≤ K → (Q + f + K * Q - n * Q) % (K * Q) ≡ (1 + K - n) % K * Q + f
stored Q K f n q u l h =
    ways 1 n ((Q + f + K * Q - n * Q) % (K * Q) ≡ (1 + K - n) % K * Q + f)
    (λ g. more (K - n) g (omega arith))
    (λ g. let e : n ≡ 1 = omega arith in subst (λ y. (Q + f + K * Q - y * Q) % (K * Q) ≡ (1 + K - y) % K * Q + f) (sym e) (only (le_one e)))
  where
    le_one : n ≡ 1 → 1 ≤ K
    le_one e = omega arith

    only : 1 ≤ K → (Q + f + K * Q - 1 * Q) % (K * Q) ≡ (1 + K - 1) % K * Q + f
    only k =
        let a : Q + f + K * Q - 1 * Q ≡ f + K * Q = omega arith in
        let b : 1 + K - 1 ≡ K = omega arith in
        let c : f < K * Q = omega (arith, mul-le-mul_right Q k) in
        let d : 0 * Q + f ≡ f = omega arith in
        ap (λ y. y % (K * Q)) a ∙ add-mod_right f (K * Q) ∙ mod-eq_of_lt c ∙ sym (ap (λ y. y % K * Q + f) b ∙ ap (λ y. y * Q + f) (mod_self K) ∙ d)

    more : (d : ℕ) → 1 < n → d + n ≡ K → (Q + f + K * Q - n * Q) % (K * Q) ≡ (1 + K - n) % K * Q + f
    more d g e =
        let a : 1 + K - n ≡ 1 + d = omega arith in
        let a' : (1 + K - n) % K ≡ 1 + d = ap (λ y. y % K) a ∙ mod-eq_of_lt {n = 1 + d} {m = K} (omega arith) in
        let b : Q + f + K * Q - n * Q ≡ (1 + d) * Q + f = diff (ap (λ y. y * Q) e) in
        let c : (1 + d) * Q + f < K * Q = small (1 + d) (omega arith) in
        ap (λ y. y % (K * Q)) b ∙ mod-eq_of_lt c ∙ ap (λ y. y * Q + f) (sym a')
      where
        diff : (d + n) * Q ≡ K * Q → Q + f + K * Q - n * Q ≡ (1 + d) * Q + f
        diff i = omega arith

        small : (x : ℕ) → x < K → x * Q + f < K * Q
        small x k = omega (arith, mul-le-mul_right Q k)

-- the exponent with the bias, in words of 32 bits
pub top_sum : (n bias : ℕ) → n ≤ bias → bias < 2 ^ 31 → ((1 + 2 ^ 32 - n) % 2 ^ 32 + bias) % 2 ^ 32 ≡ 1 + bias - n
top_sum n bias h b = omega arith

-- the bit of the leading 1, set
or_one : (X : ℕ) → bit_or X 1 ≡ 2 * (X / 2) + 1
or_one X = or_step X 1 ∙ ap (λ y. y * 2 + max (X % 2) 1) (or_zero_r (X / 2)) ∙ omega arith

pub lead_set : (p X f : ℕ) → f < 2 ^ p → bit_or (X * 2 ^ p + f) (2 ^ p) ≡ (2 * (X / 2) + 1) * 2 ^ p + f
lead_set p X f u =
    let q = pow_pos p in
    let e : 2 ^ p ≡ 1 * 2 ^ p + 0 = omega arith in
    ap (λ y. bit_or (X * 2 ^ p + f) y) e ∙ or_block p X 1 f 0 u q ∙ ap₂ (λ y z. y * 2 ^ p + z) (or_one X) (or_zero_r f)

module _ (Q A f g : ℕ) (ap' : 0 < A) (u : f < Q) where
  -- an odd field moved to the top
  top_odd : ((2 * g + 1) * Q + f) * (2 * A) % (4 * (Q * A)) ≡ (Q + f) * (2 * A)
  top_odd =
      let e : ((2 * g + 1) * Q + f) * (2 * A) ≡ g * (4 * (Q * A)) + (Q + f) * (2 * A) = omega arith in
      ap (λ y. y % (4 * (Q * A))) e ∙ mod-mul-add g (4 * (Q * A)) ((Q + f) * (2 * A)) (omega (arith, mul-le-mul_right A u))

  -- an even one
  top_even : (2 * g * Q + f) * (2 * A) % (4 * (Q * A)) ≡ f * (2 * A)
  top_even =
      let e : (2 * g * Q + f) * (2 * A) ≡ g * (4 * (Q * A)) + f * (2 * A) = omega arith in
      ap (λ y. y % (4 * (Q * A))) e ∙ mod-mul-add g (4 * (Q * A)) (f * (2 * A)) (omega (arith, mul-le-mul_right A u))

  -- an odd one, moved one less, without the top bit
  below_odd : ((2 * g + 1) * Q + f) * A % (2 * (2 * (Q * A))) % (2 * (Q * A)) ≡ (Q + f) * A
  below_odd =
      let e : ((2 * g + 1) * Q + f) * A ≡ g * (2 * (Q * A)) + (Q + f) * A = omega arith in
      twice (((2 * g + 1) * Q + f) * A) (2 * (Q * A)) ∙ ap (λ y. y % (2 * (Q * A))) e ∙ mod-mul-add g (2 * (Q * A)) ((Q + f) * A) (omega (arith, mul-le-mul_right A u))
    where
      twice : (y B : ℕ) → y % (2 * B) % B ≡ y % B
      twice y B =
          let d = div-add-mod y (2 * B) in
          let i : B * (2 * (y / (2 * B))) + y % (2 * B) ≡ 2 * B * (y / (2 * B)) + y % (2 * B) = omega arith in
          sym (mul-add-mod_self_left B (2 * (y / (2 * B))) (y % (2 * B))) ∙ ap (λ z. z % B) (i ∙ d)

pow_word : (p eb : ℕ) → 2 ^ (p + eb + 2) ≡ 4 * (2 ^ p * 2 ^ eb)
pow_word p eb = pow-add 2 (p + eb) 2 ∙ ap (λ y. y * 4) (pow-add 2 p eb) ∙ omega arith

pow_sign : (p eb : ℕ) → 2 ^ (p + eb + 1) ≡ 2 * (2 ^ p * 2 ^ eb)
pow_sign p eb = pow-add 2 (p + eb) 1 ∙ ap (λ y. y * 2) (pow-add 2 p eb) ∙ omega arith

module _ (p eb f : ℕ) (u : f < 2 ^ p) where
  abbrev Q : ℕ
  Q = 2 ^ p

  abbrev W : ℕ
  W = 2 ^ (p + eb + 2)

  -- shifted form: (ix | 1 << p) << (eb + 1) is the significand at the top
  pub shifted : (X : ℕ) → bit_or (X * Q + f) Q * 2 ^ suc eb % W ≡ (Q + f) * 2 ^ suc eb
  shifted X =
      rw (lead_set p X f u, pow_word p eb, pow-succ' 2 eb) (top_odd Q (2 ^ eb) f (X / 2) (pow_pos eb) u)

  -- the other form, at an even field: (ix << (eb + 1)) | sign
  pub unshifted_even : (g : ℕ) → bit_or ((2 * g * Q + f) * 2 ^ suc eb % W) (2 ^ (p + eb + 1)) ≡ (Q + f) * 2 ^ suc eb
  unshifted_even g =
      let a : (2 * g * Q + f) * 2 ^ suc eb % W ≡ f * (2 * 2 ^ eb) = rw (pow_word p eb, pow-succ' 2 eb) (top_even Q (2 ^ eb) f g (pow_pos eb) u) in
      let s = pow_sign p eb in
      let l : f * (2 * 2 ^ eb) < 2 ^ (p + eb + 1) = rw s (less (2 ^ eb) (pow_pos eb)) in
      ap₂ (λ y z. bit_or y z) a (sym (one-mul (2 ^ (p + eb + 1)))) ∙ or_shifted_r 1 (p + eb + 1) (f * (2 * 2 ^ eb)) l
      ∙ ap (λ y. 1 * y + f * (2 * 2 ^ eb)) s ∙ join (2 ^ eb) ∙ ap (λ y. (Q + f) * y) (sym (pow-succ' 2 eb))
    where
      less : (A : ℕ) → 0 < A → f * (2 * A) < 2 * (Q * A)
      less A q = omega (arith, mul-le-mul_right A u)

      join : (A : ℕ) → 1 * (2 * (Q * A)) + f * (2 * A) ≡ (Q + f) * (2 * A)
      join A = omega arith

  -- and at an odd field: (ix << eb) & !sign
  pub unshifted_odd : (g : ℕ) → bit_and (((2 * g + 1) * Q + f) * 2 ^ eb % W) (2 ^ (p + eb + 1) - 1) ≡ (Q + f) * 2 ^ eb
  unshifted_odd g =
      and_mask (((2 * g + 1) * Q + f) * 2 ^ eb % W) (p + eb + 1)
      ∙ ap₂ (λ y z. ((2 * g + 1) * Q + f) * 2 ^ eb % y % z) (pow_word p eb ∙ four (Q * 2 ^ eb)) (pow_sign p eb)
      ∙ below_odd Q (2 ^ eb) f g (pow_pos eb) u
    where
      four : (x : ℕ) → 4 * x ≡ 2 * (2 * x)
      four x = omega arith

-- the exponent of the root, in place: ((ix >> 1) + (bias << (p - 1))) & mask, where Q = 2 H, H = 2^(p - 1)
pub exponent : (r eb X f bias : ℕ) → f < 2 ^ suc r
    → bit_and ((X * 2 ^ suc r + f) / 2 + bias * 2 ^ r) (2 ^ (suc eb + suc r) - 2 ^ suc r) ≡ (X + bias) / 2 % 2 ^ suc eb * 2 ^ suc r
exponent r eb X f bias u =
    let pr = pow-succ' 2 r in
    and_high ((X * 2 ^ suc r + f) / 2 + bias * 2 ^ r) (suc eb) (suc r)
    ∙ ap (λ y. y % 2 ^ suc eb * 2 ^ suc r) (rw pr (go (2 ^ r) (pow_pos r) (rw pr at u)))
  where
    go : (H : ℕ) → 0 < H → f < 2 * H → ((X * (2 * H) + f) / 2 + bias * H) / (2 * H) ≡ (X + bias) / 2
    go H h u =
        let a : (X * (2 * H) + f) / 2 + bias * H ≡ (X + bias) * H + f / 2 = half (X * H) (sum H) in
        let b = mul-add-div_right h (X + bias) (f / 2) in
        let c : f / 2 / H ≡ 0 = none (f / 2) (omega arith) in
        let d = div-div-eq-div-mul ((X + bias) * H + f / 2) H 2 in
        let e : H * 2 ≡ 2 * H = omega arith in
        ap (λ y. y / (2 * H)) a ∙ ap (λ y. ((X + bias) * H + f / 2) / y) (sym e) ∙ sym d ∙ ap (λ y. y / 2) (b ∙ ap (λ y. X + bias + y) c ∙ add-zero (X + bias))
      where
        sum : (H : ℕ) → X * (2 * H) ≡ 2 * (X * H)
        sum H = omega arith

        half : (y : ℕ) → X * (2 * H) ≡ 2 * y → (X * (2 * H) + f) / 2 + bias * H ≡ (X + bias) * H + f / 2
        half y e = omega arith

        none : (x : ℕ) → x < H → x / H ≡ 0
        none x l = div-eq_of_lt l

-- the field of a subnormal has K too many; half of K goes with the mask
pub exponent_wraps : (t B : ℕ) → t / 2 < B → (t + 2 * B) / 2 % B ≡ t / 2
exponent_wraps t B h =
    let a : (t + 2 * B) / 2 ≡ t / 2 + B = omega arith in
    ap (λ y. y % B) a ∙ add-mod_right (t / 2) B ∙ mod-eq_of_lt h
