-- How many digits a nearest whole root has.
use Rattle.std.proofs.Common.{◌≡◌, ℕ, suc, ◌+◌, ◌-◌, ◌*◌, ◌%◌, ◌<◌, ◌≤◌, ◌⊎◌, ap, ⊎_elim, mul-le-mul_right, mod-eq_of_lt, mul-le-mul_left, arith}
use native.Mathlib.Omega.{by_contra}
use native.Mathlib.Nat.{add-mul-mod_self_left}
use Rattle.rootlaws.specs.Whole.{Nearest}

-- two numbers below W that differ by a multiple of W are one
pub same_mod : (W x y A B : ℕ) → x < W → y < W → x + W * A ≡ y + W * B → x ≡ y
same_mod W x y A B p q e =
    let l = add-mul-mod_self_left x W A in
    let r = add-mul-mod_self_left y W B in
    let i = mod-eq_of_lt p in
    let j = mod-eq_of_lt q in
    let k = ap (λ z. z % W) e in
    cc

-- the answer has p + 1 digits
pub digits_low : (X m Q : ℕ) → 0 < Q → Q * Q ≤ X → Nearest X m → Q ≤ m
digits_low X m Q q x n =
    let h = n.high in
    by_contra Q m (λ g. let a = mul-le-mul_left m g in let b = mul-le-mul_right Q g in omega arith)

pub digits_high : (X m Q : ℕ) → 0 < Q → X + 2 * Q ≤ 4 * (Q * Q) → Nearest X m → m < 2 * Q
digits_high X m Q q x n = by_contra (suc m) (2 * Q) (λ g. no (m - 2 * Q) (omega arith))
  where
    all : (d : ℕ) → (d + 2 * Q) * (d + 2 * Q) < X + (d + 2 * Q) → ⊥
    all d g = omega (arith, mul-le-mul_right d q)

    no : (d : ℕ) → d + 2 * Q ≡ m → ⊥
    no d e = all d (rw e n.low)

-- X = sig 2^p or sig 2^(p + 1), where sig has p + 1 digits
pub digits : (sig X m Q : ℕ) → 0 < Q → Q ≤ sig → sig < 2 * Q → (X ≡ sig * Q) ⊎ (X ≡ sig * (2 * Q)) → Nearest X m → (Q ≤ m) × (m < 2 * Q)
digits sig X m Q q l h e n = (
  digits_low X m Q q (⊎_elim (λ (f : X ≡ sig * Q). omega (arith, mul-le-mul_right Q l)) (λ (f : X ≡ sig * (2 * Q)). omega (arith, mul-le-mul_right Q l)) e) n,
  digits_high X m Q q (⊎_elim (λ (f : X ≡ sig * Q). omega (arith, mul-le-mul_right Q h)) (λ (f : X ≡ sig * (2 * Q)). omega (arith, mul-le-mul_right Q h)) e) n,
)
