-- A shift by the whole width or more leaves nothing.
use Rattle.std.proofs.Common.{◌≡◌, ℕ, ◌+◌, ◌-◌, ◌*◌, ◌/◌, ◌%◌, ◌^◌, ◌<◌, ◌≤◌, sym, ap, ◌∙◌, lt_of_lt_of_le, mul_assoc, arith}
use native.Mathlib.Nat.{mul-mod_left, div-eq_of_lt, pow-le-pow_right}
use Rattle.std.proofs.lemmas.Nat.{pow-add}

pub left_out : (w x k : ℕ) → w ≤ k → x * 2 ^ k % 2 ^ w ≡ 0
left_out w x k h =
    let i : k ≡ (k - w) + w = omega arith in
    ap (λ j. x * 2 ^ j % 2 ^ w) i ∙ ap (λ y. x * y % 2 ^ w) (pow-add 2 (k - w) w)
    ∙ ap (λ y. y % 2 ^ w) (sym (mul_assoc x (2 ^ (k - w)) (2 ^ w))) ∙ mul-mod_left (x * 2 ^ (k - w)) (2 ^ w)

pub right_out : (w x k : ℕ) → x < 2 ^ w → w ≤ k → x / 2 ^ k ≡ 0
right_out w x k u h = div-eq_of_lt (lt_of_lt_of_le u (pow-le-pow_right {n = 2} (omega arith) {i = w} {j = k} h))
