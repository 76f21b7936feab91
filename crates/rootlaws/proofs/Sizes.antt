-- The sizes of a layout's words.
use Rattle.std.proofs.Common.{◌≡◌, ℕ, ◌+◌, ◌*◌, ◌^◌, ◌≤◌, sym, ap, ◌∙◌, mul-le-mul_left, arith}
use native.Mathlib.Nat.{pow-le-pow_right}
use Rattle.std.proofs.lemmas.Nat.{pow-add}
use Rattle.width.specs.Shape.{Shape, Sound, width, sign}

pub word_range : (S : Shape) → 2 ^ width S ≡ 4 * 2 ^ (S.sig + S.half)
word_range S = pow-add 2 (S.sig + S.half) 2 ∙ turn (2 ^ (S.sig + S.half))
  where
    turn : (x : ℕ) → x * 4 ≡ 4 * x
    turn x = omega arith

pub sign_range : (S : Shape) → 2 ^ width S ≡ 2 * sign S
sign_range S = word_range S ∙ four (2 ^ (S.sig + S.half)) ∙ ap (λ y. 2 * y) (sym (pow-add 2 (S.sig + S.half) 1))
  where
    four : (x : ℕ) → 4 * x ≡ 2 * (x * 2)
    four x = omega arith

-- what is drawn up to the last digit fits a word
pub draw_room : (S : Shape) → Sound S → (j : ℕ) → j ≤ S.sig → 8 * 2 ^ j ≤ 2 ^ width S
draw_room S ok j h =
    let d = ok.deep in
    let a = pow-le-pow_right {n = 2} (omega arith) {i = j} {j = S.sig} h in
    let e = word_range S ∙ ap (λ y. 4 * y) (pow-add 2 S.sig S.half) in
    wide (2 ^ j) (2 ^ S.sig) (2 ^ S.half) (2 ^ width S) a (omega arith) e
  where
    wide : (x Q E W : ℕ) → x ≤ Q → 2 ≤ E → W ≡ 4 * (Q * E) → 8 * x ≤ W
    wide x Q E W a b e = omega (arith, mul-le-mul_left Q b)
