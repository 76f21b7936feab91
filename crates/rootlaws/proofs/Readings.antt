-- From the nearest whole root to the nearest float, and that there is only one.
use Rattle.std.proofs.Common.{◌≡◌, ℕ, zero, suc, ◌+◌, ◌-◌, ◌*◌, ◌/◌, ◌%◌, ◌^◌, ◌<◌, ◌≤◌, sym, ap, ◌∙◌, subst, ap₂, le_trans, le_refl, mul-le-mul_right, mod-lt, mul-le-mul, le_antisymm, mul-le-mul_left, mul-pos, div-add-mod', arith}
use native.Mathlib.Omega.{by_contra}
use native.Mathlib.Decide.{le_ind}
use native.Mathlib.Nat.{pow-succ'}
use Rattle.std.proofs.lemmas.Nat.{pow_pos, div-mul-add, mod-mul-add}
use Rattle.std.proofs.lemmas.Bool.{lt-ltb, le-ltb}
use Rattle.width.specs.Shape.{reading}
use Rattle.rootlaws.specs.Whole.{Nearest}
use Rattle.rootlaws.specs.Roots.{Between}
use Rattle.rootlaws.proofs.Square.{ways}

pub reading_low : (Q n : ℕ) → n < Q → reading Q n ≡ n
reading_low Q n h = rw (lt-ltb n Q h)

pub reading_field : (Q e f : ℕ) → f < Q → reading Q (suc e * Q + f) ≡ (Q + f) * 2 ^ e
reading_field Q e f h =
    let l : Q ≤ suc e * Q + f = omega arith in
    let o : suc e - 1 ≡ e = omega arith in
    rw (le-ltb (suc e * Q + f) Q l, mod-mul-add (suc e) Q f h, div-mul-add (suc e) Q f h, o)

pub reading_next : (Q e f : ℕ) → f < Q → reading Q (suc (suc e * Q + f)) ≡ (Q + f + 1) * 2 ^ e
reading_next Q e f h =
    ways (suc f) Q (reading Q (suc (suc e * Q + f)) ≡ (Q + f + 1) * 2 ^ e)
    (λ g. let i : suc (suc e * Q + f) ≡ suc e * Q + suc f = omega arith in
    ap (λ x. reading Q x) i ∙ reading_field Q e (suc f) g ∙ ap (λ x. x * 2 ^ e) (plus_one Q f))
    (λ g. let i : suc (suc e * Q + f) ≡ suc (suc e) * Q + 0 = omega arith in
    let q : Q ≡ suc f = omega arith in
    let z : 0 < Q = omega arith in
    ap (λ x. reading Q x) i ∙ reading_field Q (suc e) 0 z ∙ ap (λ x. (Q + 0) * x) (pow-succ' 2 e) ∙ grown (2 ^ e) q)
  where
    plus_one : (Q f : ℕ) → Q + suc f ≡ Q + f + 1
    plus_one Q f = omega arith

    grown : (p : ℕ) → Q ≡ suc f → (Q + 0) * (2 * p) ≡ (Q + f + 1) * p
    grown p q = omega (arith, ap (λ x. x * p) q)

-- a pattern is below the first field, or has a field and the digits below it
pub split : (Q n : ℕ) (G : Type 0) → 0 < Q → (n < Q → G) → ((e f : ℕ) → f < Q → n ≡ suc e * Q + f → G) → G
split Q n G q a b = ways n Q G a (λ h. go (n / Q) (n % Q) (mod-lt n q) (sym (div-add-mod' n Q)) h)
  where
    go : (d f : ℕ) → f < Q → n ≡ d * Q + f → Q ≤ n → G
    go zero f p e h = absurd (none p e h)
      where
        none : f < Q → n ≡ 0 * Q + f → Q ≤ n → ⊥
        none p e h = omega arith
    go (suc d) f p e h = b d f p e

-- the readings grow
grows : (Q n : ℕ) → 0 < Q → reading Q n ≤ reading Q (suc n)
grows Q n q =
    split Q n (reading Q n ≤ reading Q (suc n)) q
    (λ h. ways (suc n) Q (reading Q n ≤ reading Q (suc n))
    (λ g. let a = reading_low Q n h in let b = reading_low Q (suc n) g in omega arith)
    (λ g. let i : suc n ≡ 1 * Q + 0 = omega arith in
    let a = reading_low Q n h in
    let b = ap (λ x. reading Q x) i ∙ reading_field Q 0 0 q in
    omega arith))
    (λ e f h i.
    let a = ap (λ x. reading Q x) i ∙ reading_field Q e f h in
    let b = ap (λ x. reading Q (suc x)) i ∙ reading_next Q e f h in
    small (reading Q n) (reading Q (suc n)) (2 ^ e) (Q + f) a b)
  where
    small : (x y p g : ℕ) → x ≡ g * p → y ≡ (g + 1) * p → x ≤ y
    small x y p g a b = omega arith

pub monotone : (Q n n' : ℕ) → 0 < Q → n ≤ n' → reading Q n ≤ reading Q n'
monotone Q n n' q h = le_ind {n = n} (λ m. reading Q n ≤ reading Q m) (le_refl (reading Q n)) (λ m _ g. le_trans g (grows Q m q)) n' h

-- at most one float is nearest
apart : (Q v n n' : ℕ) → 0 < Q → Between Q v n → Between Q v n' → n < n' → ⊥
apart Q v n n' q r r' h =
    let a = monotone Q n (n' - 1) q (omega arith) in
    let b = monotone Q (suc n) n' q h in
    no (reading Q n + reading Q (suc n)) (reading Q (n' - 1) + reading Q n') (omega arith) r.above r'.below
  where
    no : (x y : ℕ) → x ≤ y → 4 * v < x * x → y * y < 4 * v → ⊥
    no x y h a b = omega (arith, mul-le-mul h h)

pub one_nearest : (Q v n n' : ℕ) → 0 < Q → Between Q v n → Between Q v n' → n ≡ n'
one_nearest Q v n n' q r r' =
    le_antisymm (by_contra n n' (λ g. apart Q v n' n q r' r g)) (by_contra n' n (λ g. apart Q v n n' q r r' g))

-- the squares
above_square : (X m P : ℕ) → 0 < P → X ≤ m * m + m → 4 * (X * (P * P)) < (m * P + (m + 1) * P) * (m * P + (m + 1) * P)
above_square X m P p h = omega (arith, mul-le-mul_right (P * P) h, mul-pos p p)

below_square : (X n P : ℕ) → 0 < P → suc n * suc n < X + suc n → (n * P + suc n * P) * (n * P + suc n * P) < 4 * (X * (P * P))
below_square X n P p h = omega (arith, mul-le-mul_right (P * P) h, mul-pos p p)

edge_square : (X C p : ℕ) → 0 < p → suc C * suc C ≤ X → ((suc C + C) * p + suc C * (2 * p)) * ((suc C + C) * p + suc C * (2 * p)) < 4 * (X * (2 * p * (2 * p)))
edge_square X C p q h = omega (arith, mul-le-mul_right (p * p) h, mul-pos q q, mul-le-mul_left C (mul-pos q q))

-- The answer: field e + 2, significand m.
module _ (Q X m e v : ℕ) (q : 0 < Q) (l : Q ≤ m) (u : m < 2 * Q) (x : Q * Q ≤ X) (n : Nearest X m) (s : v ≡ X * (2 ^ suc e * 2 ^ suc e)) where
  the_root : ℕ
  the_root = suc (suc e) * Q + (m - Q)

  here : reading Q the_root ≡ m * 2 ^ suc e
  unfolding the_root
  here =
      let i : Q + (m - Q) ≡ m = omega arith in
      reading_field Q (suc e) (m - Q) (omega arith) ∙ ap (λ x. x * 2 ^ suc e) i

  after : reading Q (suc the_root) ≡ (m + 1) * 2 ^ suc e
  unfolding the_root
  after =
      let i : Q + (m - Q) + 1 ≡ m + 1 = omega arith in
      reading_next Q (suc e) (m - Q) (omega arith) ∙ ap (λ x. x * 2 ^ suc e) i

  before_inside : (k : ℕ) → Q + suc k ≡ m → reading Q (the_root - 1) ≡ (Q + k) * 2 ^ suc e
  unfolding the_root
  before_inside k i =
      let j : suc (suc e) * Q + (m - Q) - 1 ≡ suc (suc e) * Q + k = omega arith in
      ap (λ x. reading Q x) j ∙ reading_field Q (suc e) k (omega arith)

  before_edge : (C : ℕ) → suc C ≡ Q → Q ≡ m → reading Q (the_root - 1) ≡ (Q + C) * 2 ^ e
  unfolding the_root
  before_edge C i k =
      let j : suc (suc e) * Q + (m - Q) - 1 ≡ suc e * Q + C = omega arith in
      ap (λ x. reading Q x) j ∙ reading_field Q e C (omega arith)

  pub nearest_root : Between Q v (suc (suc e) * Q + (m - Q))
  unfolding the_root
  nearest_root =
      record {
        below = ways Q m ((reading Q (the_root - 1) + reading Q the_root) * (reading Q (the_root - 1) + reading Q the_root) < 4 * v)
            (λ g. let k = m - suc Q in
            let i : Q + suc k ≡ m = omega arith in
            let j : m ≡ suc (Q + k) = omega arith in
            inside (Q + k) j (before_inside k i))
            (λ g. let C = Q - 1 in
            let i : suc C ≡ Q = omega arith in
            let k : Q ≡ m = omega arith in
            edge C i k (before_edge C i k));
        above =
            subst (λ z. 4 * z < (reading Q the_root + reading Q (suc the_root)) * (reading Q the_root + reading Q (suc the_root))) (sym s)
            (subst (λ z. 4 * (X * (2 ^ suc e * 2 ^ suc e)) < (z + reading Q (suc the_root)) * (z + reading Q (suc the_root))) (sym here)
            (subst (λ z. 4 * (X * (2 ^ suc e * 2 ^ suc e)) < (m * 2 ^ suc e + z) * (m * 2 ^ suc e + z)) (sym after)
            (above_square X m (2 ^ suc e) (pow_pos (suc e)) n.high)));
      }
    where
      put : (a b : ℕ) → reading Q (the_root - 1) ≡ a → m * 2 ^ suc e ≡ b → (a + b) * (a + b) < 4 * v → (reading Q (the_root - 1) + reading Q the_root) * (reading Q (the_root - 1) + reading Q the_root) < 4 * v
      put a b i j h = subst (λ z. z * z < 4 * v) (sym (ap₂ (λ y z. y + z) i (here ∙ j))) h

      inside : (k : ℕ) → m ≡ suc k → reading Q (the_root - 1) ≡ k * 2 ^ suc e → (reading Q (the_root - 1) + reading Q the_root) * (reading Q (the_root - 1) + reading Q the_root) < 4 * v
      inside k i j =
          put (k * 2 ^ suc e) (suc k * 2 ^ suc e) j (ap (λ x. x * 2 ^ suc e) i)
          (subst (λ z. (k * 2 ^ suc e + suc k * 2 ^ suc e) * (k * 2 ^ suc e + suc k * 2 ^ suc e) < 4 * z) (sym s)
          (below_square X k (2 ^ suc e) (pow_pos (suc e)) (rw i at n.low)))

      edge : (C : ℕ) → suc C ≡ Q → Q ≡ m → reading Q (the_root - 1) ≡ (Q + C) * 2 ^ e → (reading Q (the_root - 1) + reading Q the_root) * (reading Q (the_root - 1) + reading Q the_root) < 4 * v
      edge C i k j =
          let p = pow-succ' 2 e in
          put ((suc C + C) * 2 ^ e) (suc C * (2 * 2 ^ e)) (j ∙ ap (λ x. (x + C) * 2 ^ e) (sym i)) (ap₂ (λ y z. y * z) (sym (i ∙ k)) p)
          (subst (λ z. ((suc C + C) * 2 ^ e + suc C * (2 * 2 ^ e)) * ((suc C + C) * 2 ^ e + suc C * (2 * 2 ^ e)) < 4 * z) (sym (s ∙ ap (λ z. X * (z * z)) p))
          (edge_square X C (2 ^ e) (pow_pos e) (subst (λ z. z * z ≤ X) (sym i) x)))
