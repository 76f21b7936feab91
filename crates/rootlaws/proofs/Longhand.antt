-- The root by longhand: what one draw keeps, and what is held at the end.
use Rattle.std.proofs.Common.{◌≡◌, ℕ, zero, suc, ◌+◌, ◌-◌, ◌*◌, ◌/◌, ◌%◌, ◌^◌, ◌<◌, ◌≤◌, sym, ap, ◌∙◌, subst, ap₂, mod-lt, mod-eq_of_lt, arith}
use native.Mathlib.Nat.{div-add-mod, add-mod_left, mul-add-mod_self_left, eq_of_mul-eq-mul_right, pow-succ'}
use Rattle.std.proofs.lemmas.Nat.{pow_pos}
use Rattle.rootlaws.specs.Whole.{Nearest}
use Rattle.rootlaws.specs.Longhand.{Held, Exact}
use Rattle.rootlaws.proofs.Square.{cancel<}
use Rattle.rootlaws.proofs.Digits.{same_mod}

pub held_none : (V M : ℕ) → M < 4 * V → Held V M 0 0 0 M
held_none V M h = record { total = omega arith; fits = h; rest = omega arith; short = omega arith }

-- what a word gives and keeps
word_split : (V μ : ℕ) → 0 < V → μ * 4 % (4 * V) ≡ 4 * (μ % V)
word_split V μ v =
    let l = mod-lt μ v in
    let e = div-add-mod μ V in
    let a = mul-add-mod_self_left (4 * V) (μ / V) (4 * (μ % V)) in
    let b = mod-eq_of_lt {n = 4 * (μ % V)} {m = 4 * V} (omega arith) in
    let c : μ * 4 ≡ 4 * V * (μ / V) + 4 * (μ % V) = omega arith in
    ap (λ x. x % (4 * V)) c ∙ a ∙ b

-- one draw, over plain variables: the word is V d + μ, p = 2^j
module _ (V M p r e d μ : ℕ) (total : M * (p * p) ≡ (r * r + e) * (4 * V) + (V * d + μ)) where
  taken_total : (y : ℕ) → 4 * r + 1 + y ≡ 4 * e + d → M * (2 * p * (2 * p)) ≡ ((2 * r + 1) * (2 * r + 1) + y) * (4 * V) + 4 * μ
  taken_total y h = omega (arith, ap (λ x. x * (4 * V)) h)

  left_total : M * (2 * p * (2 * p)) ≡ (2 * r * (2 * r) + (4 * e + d)) * (4 * V) + 4 * μ
  left_total = omega arith

module _ (V M j root rem word : ℕ) (v : 0 < V) (h : Held V M j root rem word) where
  pub digit : word / V < 4
  digit = let hf = h.fits in cancel< V (word / V) 4 (small (div-add-mod word V) hf)
    where
      small : V * (word / V) + word % V ≡ word → word < 4 * V → V * (word / V) < V * 4
      small e l = omega arith

  total_split : M * (2 ^ j * 2 ^ j) ≡ (root * root + rem) * (4 * V) + (V * (word / V) + word % V)
  total_split = h.total ∙ ap (λ x. (root * root + rem) * (4 * V) + x) (sym (div-add-mod word V))

  power : M * (2 ^ suc j * 2 ^ suc j) ≡ M * (2 * 2 ^ j * (2 * 2 ^ j))
  power = let p = pow-succ' 2 j in ap (λ x. M * x) (ap₂ (λ x y. x * y) p p)

  -- nothing overflows: what is drawn is below 2^(j + 3)
  pub drawn_small : 4 * rem + word / V < 8 * 2 ^ j
  drawn_small =
      let hr = h.rest in
      let hs = h.short in
      let d = digit in
      omega arith

  -- the digit is 1
  pub held_taken : 4 * root + 1 ≤ 4 * rem + word / V → Held V M (suc j) (2 * root + 1) (4 * rem + word / V - (4 * root + 1)) (word * 4 % (4 * V))
  held_taken g =
      let w = word_split V word v in
      let hr = h.rest in
      let hs = h.short in
      let d = digit in
      let p = pow-succ' 2 j in
      let y = 4 * rem + word / V - (4 * root + 1) in
      record {
        total = power ∙ taken_total V M (2 ^ j) root rem (word / V) (word % V) total_split y (omega arith) ∙ ap (λ x. ((2 * root + 1) * (2 * root + 1) + y) * (4 * V) + x) (sym w);
        fits = mod-lt (word * 4) (omega arith);
        rest = omega arith;
        short = omega arith;
      }

  -- the digit is 0
  pub held_left : 4 * rem + word / V < 4 * root + 1 → Held V M (suc j) (2 * root) (4 * rem + word / V) (word * 4 % (4 * V))
  held_left g =
      let w = word_split V word v in
      let hs = h.short in
      let p = pow-succ' 2 j in
      record {
        total = power ∙ left_total V M (2 ^ j) root rem (word / V) (word % V) total_split ∙ ap (λ x. (2 * root * (2 * root) + (4 * rem + word / V)) * (4 * V) + x) (sym w);
        fits = mod-lt (word * 4) (omega arith);
        rest = omega arith;
        short = omega arith;
      }

  -- the end: M 4^j = X W
  pub held_end : (X : ℕ) → M * (2 ^ j * 2 ^ j) ≡ X * (4 * V) → Exact X root rem
  held_end X e =
      let z : 0 ≡ word = same_mod (4 * V) 0 word X (root * root + rem) (omega arith) h.fits (turned (root * root + rem) word h.total) in
      let q : X * (4 * V) ≡ (root * root + rem) * (4 * V) = sym e ∙ h.total ∙ ap (λ x. (root * root + rem) * (4 * V) + x) (sym z) ∙ plain ((root * root + rem) * (4 * V)) in
      record { sum = eq_of_mul-eq-mul_right (4 * V) (omega arith) X (root * root + rem) q; rest = h.rest }
    where
      turned : (y w : ℕ) → M * (2 ^ j * 2 ^ j) ≡ y * (4 * V) + w → 0 + 4 * V * X ≡ w + 4 * V * y
      turned y w t = over (M * (2 ^ j * 2 ^ j)) e t
        where
          over : (a : ℕ) → a ≡ X * (4 * V) → a ≡ y * (4 * V) + w → 0 + 4 * V * X ≡ w + 4 * V * y
          over a b c = omega arith

      plain : (x : ℕ) → x + 0 ≡ x
      plain x = omega arith

-- the rounding: one more where the rest is past the root
pub rounded_up : (X r e : ℕ) → Exact X r e → r < e → Nearest X (r + 1)
rounded_up X r e h g =
    let hs = h.sum in
    let hr = h.rest in
    record { low = omega arith; high = omega arith }

pub rounded_down : (X r e : ℕ) → 0 < X → Exact X r e → e ≤ r → Nearest X r
rounded_down X r e x h g =
    let hs = h.sum in
    record { low = positive r e hs g; high = omega arith }
  where
    positive : (r e : ℕ) → X ≡ r * r + e → e ≤ r → r * r < X + r
    positive zero e f g = omega arith
    positive (suc r) e f g = omega arith

-- A draw in words of range W = 4 V, which nothing leaves: d is what is drawn, t what a digit 1 takes, r twice the root, and w the word that is left.
module _ (V W M j root rem word : ℕ) (i : W ≡ 4 * V) (v : 0 < V) (room : 8 * 2 ^ j ≤ W) (h : Held V M j root rem word) (d t r w : ℕ)
    (di : d ≡ (rem * 4 % W + word / V) % W) (ti : t ≡ (root * 4 % W + 1 % W) % W) (ri : r ≡ root * 2 % W) (wi : w ≡ word * 4 % W) where
  p : 0 < 2 ^ j
  p = pow_pos j

  drawn_is : d ≡ 4 * rem + word / V
  drawn_is =
      let s = drawn_small V M j root rem word v h in
      let a : rem * 4 % W ≡ 4 * rem = mod-eq_of_lt {n = rem * 4} {m = W} (omega arith) ∙ (let o : rem * 4 ≡ 4 * rem = omega arith in o) in
      di ∙ ap (λ x. (x + word / V) % W) a ∙ mod-eq_of_lt {n = 4 * rem + word / V} {m = W} (omega arith)

  taken_is : t ≡ 4 * root + 1
  taken_is =
      let s = h.short in
      let q = p in
      let a : root * 4 % W ≡ 4 * root = mod-eq_of_lt {n = root * 4} {m = W} (omega arith) ∙ (let o : root * 4 ≡ 4 * root = omega arith in o) in
      let b = mod-eq_of_lt {n = 1} {m = W} (omega arith) in
      ti ∙ ap₂ (λ x y. (x + y) % W) a b ∙ mod-eq_of_lt {n = 4 * root + 1} {m = W} (omega arith)

  root_is : r ≡ 2 * root
  root_is =
      let s = h.short in
      let q = p in
      ri ∙ mod-eq_of_lt {n = root * 2} {m = W} (omega arith) ∙ (let o : root * 2 ≡ 2 * root = omega arith in o)

  word_is : w ≡ word * 4 % (4 * V)
  word_is = wi ∙ ap (λ x. word * 4 % x) i

  pub drawn_left : d < t → Held V M (suc j) r d w
  drawn_left g =
      let a = drawn_is in
      let b = taken_is in
      let k = held_left V M j root rem word v h (omega arith) in
      subst (λ x. Held V M (suc j) x d w) (sym root_is) (subst (λ x. Held V M (suc j) (2 * root) x w) (sym a) (subst (λ x. Held V M (suc j) (2 * root) (4 * rem + word / V) x) (sym word_is) k))

  pub drawn_taken : t ≤ d → (r' d' : ℕ) → r' ≡ (r + 1 % W) % W → d' ≡ (d + W - t) % W → Held V M (suc j) r' d' w
  drawn_taken g r' d' r'i d'i =
      let a = drawn_is in
      let b = taken_is in
      let c = root_is in
      let s = drawn_small V M j root rem word v h in
      let hs = h.short in
      let q = p in
      let o = mod-eq_of_lt {n = 1} {m = W} (omega arith) in
      let x : r' ≡ 2 * root + 1 = r'i ∙ ap₂ (λ y z. (y + z) % W) c o ∙ mod-eq_of_lt {n = 2 * root + 1} {m = W} (omega arith) in
      let y : d' ≡ 4 * rem + word / V - (4 * root + 1) =
      let e : d + W - t ≡ W + (4 * rem + word / V - (4 * root + 1)) = omega arith in
      d'i ∙ ap (λ z. z % W) e ∙ add-mod_left W (4 * rem + word / V - (4 * root + 1)) ∙ mod-eq_of_lt {n = 4 * rem + word / V - (4 * root + 1)} {m = W} (omega arith) in
      let k = held_taken V M j root rem word v h (omega arith) in
      subst (λ z. Held V M (suc j) z d' w) (sym x)
      (subst (λ z. Held V M (suc j) (2 * root + 1) z w) (sym y) (subst (λ z. Held V M (suc j) (2 * root + 1) (4 * rem + word / V - (4 * root + 1)) z) (sym word_is) k))
