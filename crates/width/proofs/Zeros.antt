-- Doubling a pattern loses its sign and nothing else, so it tells the zeros.
use Rattle.std.proofs.Common.{◌≡◌, ℕ, suc, ◌+◌, ◌*◌, ◌/◌, ◌%◌, ◌^◌, eqb, ap, ap₂, ◌∙◌, mod-lt, mod-eq_of_lt, arith}
use native.Mathlib.Nat.{zero-mod, div-add-mod, mul-add-mod_self_left, pow-succ'}
use Rattle.std.proofs.lemmas.Nat.{pow_pos}
use Rattle.std.proofs.lemmas.Bool.Decides.{nat_tests}
use Rattle.width.specs.Shape.{Shape, width, sign}

pub doubled : (S : Shape) (b bits : ℕ) → bits ≡ width S → b * 2 % 2 ^ bits ≡ 2 * (b % sign S)
doubled S b bits e =
    let c = sign S in
    let l = mod-lt b (pow_pos (S.sig + S.half + 1)) in
    let w : width S ≡ suc (S.sig + S.half + 1) = omega arith in
    let i = twice c (b / c) (b % c) (div-add-mod b c) in
    ap₂ (λ x y. x % 2 ^ y) i (e ∙ w) ∙ ap (λ y. (2 * c * (b / c) + 2 * (b % c)) % y) (pow-succ' 2 (S.sig + S.half + 1))
    ∙ mul-add-mod_self_left (2 * c) (b / c) (2 * (b % c)) ∙ mod-eq_of_lt {n = 2 * (b % c)} {m = 2 * c} (omega arith)
  where
    twice : (c q r : ℕ) → c * q + r ≡ b → b * 2 ≡ 2 * c * q + 2 * r
    twice c q r e = omega arith

pub zero_test : (S : Shape) (b bits : ℕ) → bits ≡ width S → eqb (b * 2 % 2 ^ bits) (0 % 2 ^ bits) ≡ eqb (b % sign S) 0
zero_test S b bits e = ap₂ eqb (doubled S b bits e) (zero-mod (2 ^ bits)) ∙ half (b % sign S)
  where
    half : (k : ℕ) → eqb (2 * k) 0 ≡ eqb k 0
    half k = grind (arith, nat_tests)
