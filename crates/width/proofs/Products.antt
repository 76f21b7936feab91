-- The product from halves fits a word.
use Rattle.std.proofs.Common.{◌≡◌, ℕ, ◌+◌, ◌*◌, ◌/◌, ◌%◌, ◌^◌, ◌<◌, sym, ap, ◌∙◌, add-mul, mul-add, arith}
use Rattle.std.proofs.lemmas.Nat.{mul-le, div-add-mod'}
use Rattle.width.specs.Product.{halves}

-- (hB + l)(kB + m) at B = 2^32
expand : (h l k m : ℕ) → (h * 4294967296 + l) * (k * 4294967296 + m) ≡ h * k * 18446744073709551616 + (h * m + l * k) * 4294967296 + l * m
expand h l k m =
    omega (arith, add-mul (h * 4294967296) l (k * 4294967296 + m), mul-add (h * 4294967296) (k * 4294967296) m, mul-add l (k * 4294967296) m)

pub halves_fit : (a b : ℕ) → a < 2 ^ 64 → b < 2 ^ 64 → halves (2 ^ 32) a b < 2 ^ 64
halves_fit a b p q =
    let e = expand (a / 4294967296) (a % 4294967296) (b / 4294967296) (b % 4294967296) in
    let f : a * b ≡ (a / 4294967296 * 4294967296 + a % 4294967296) * (b / 4294967296 * 4294967296 + b % 4294967296) =
    sym (ap (λ x. x * (b / 4294967296 * 4294967296 + b % 4294967296)) (div-add-mod' a 4294967296) ∙ ap (λ x. a * x) (div-add-mod' b 4294967296)) in
    let h = mul-le a b 18446744073709551615 18446744073709551615 (omega arith) (omega arith) in
    omega (arith, e, f, h)
