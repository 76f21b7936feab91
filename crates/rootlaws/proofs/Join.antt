-- The fields of a pattern, put together by masks.
use Rattle.std.proofs.Common.{◌≡◌, ℕ, ◌+◌, ◌-◌, ◌*◌, ◌%◌, ◌^◌, ◌<◌, ◌≤◌, ap, ◌∙◌, mod-lt, one-mul, arith}
use lib.Bits.{bit_and, bit_or, and_mask, or_shifted_r}
use Rattle.std.proofs.lemmas.Nat.{pow_pos, mod-mul-add}

-- (m & mask) | (e << p), where m has p + 1 digits
pub together : (p e m : ℕ) → 2 ^ p ≤ m → m < 2 * 2 ^ p → bit_or (bit_and m (2 ^ p - 1)) (e * 2 ^ p) ≡ e * 2 ^ p + (m - 2 ^ p)
together p e m l u =
    let a : bit_and m (2 ^ p - 1) ≡ m - 2 ^ p = and_mask m p ∙ rest (2 ^ p) l u in
    ap (λ y. bit_or y (e * 2 ^ p)) a ∙ or_shifted_r e p (m - 2 ^ p) (omega arith)
  where
    rest : (Q : ℕ) → Q ≤ m → m < 2 * Q → m % Q ≡ m - Q
    rest Q l u =
        let i : m ≡ 1 * Q + (m - Q) = omega arith in
        ap (λ y. y % Q) i ∙ mod-mul-add 1 Q (m - Q) (omega arith)

-- the leading one over the stored bits
pub leading : (p b : ℕ) → bit_or (bit_and b (2 ^ p - 1)) (2 ^ p) ≡ 2 ^ p + b % 2 ^ p
leading p b =
    let e : 2 ^ p ≡ 1 * 2 ^ p = omega arith in
    ap (λ y. bit_or y (2 ^ p)) (and_mask b p) ∙ ap (λ y. bit_or (b % 2 ^ p) y) e ∙ or_shifted_r 1 p (b % 2 ^ p) (mod-lt b (pow_pos p)) ∙ ap (λ y. y + b % 2 ^ p) (one-mul (2 ^ p))
