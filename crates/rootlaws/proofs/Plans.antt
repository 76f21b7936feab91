-- The plans of the layouts, each from its computed numbers.
use Rattle.std.proofs.Common.{◌≡◌, ℕ, ◌*◌, ◌/◌, ◌%◌, ◌^◌, ◌<◌, true, false, get_or, sym, ap, ◌∙◌, subst, mod-eq_of_lt, arith}
use lib.Ieee.{binary32, binary64}
use Rattle.width.specs.Product.{exact, halves}
use Rattle.width.specs.Shape.{shape_of}
use Rattle.rootlaws.specs.Gold.{turns, gold}
use Rattle.rootlaws.specs.Layouts.{half64}
use Rattle.rootlaws.specs.Plan.{Plan, reciprocal, Keeps}
use Rattle.rootlaws.specs.Table.{guesses, index, guess}
use Rattle.rootlaws.specs.Words.{Kept}
use Rattle.rootlaws.proofs.Layouts.{root32, root64, half_rec}
use Rattle.rootlaws.proofs.Start.{start, index_half}

-- three rounds in the word itself
abbrev pub narrow : Plan
narrow = record { bits = 32; short_bits = 32; mulh = exact (2 ^ 30); short_mulh = exact (2 ^ 30); short_rounds = 0; rounds = 3 }

-- two rounds in the upper 32 bits, then two in the word
abbrev pub wide : Plan
wide = record { bits = 64; short_bits = 32; mulh = halves (2 ^ 32); short_mulh = exact (2 ^ 30); short_rounds = 2; rounds = 2 }

pub narrow_keeps : Keeps narrow (shape_of binary32)
unfolding turns
narrow_keeps M l h =
    let s = start 65536 M (omega arith) l h in
    let e : guess 65536 M * 1 % 2 ^ 32 ≡ guess 65536 M = ap (λ x. x % 2 ^ 32) (one (guess 65536 M)) ∙ mod-eq_of_lt s.1 in
    subst (λ r. Kept (M * 2 ^ 16) ((gold (2 ^ 30) (exact (2 ^ 30)) 3 true r M).root / 64)) (sym e) (root32 M l h).0
  where
    one : (x : ℕ) → x * 1 ≡ x
    one x = omega arith

pub wide_keeps : Keeps wide (shape_of binary64)
wide_keeps M l h =
    let i : get_or guesses (index (2 ^ 48) M) 0 * 2 ^ 16 ≡ guess 65536 (M / 2 ^ 32) = ap (λ x. get_or guesses x 0 * 2 ^ 16) (sym (index_half M)) in
    let r = half_rec (M / 2 ^ 32) (omega arith) (omega arith) in
    let e : reciprocal wide M * 2 ^ 32 % 2 ^ 64 ≡ half64 (M / 2 ^ 32) * 2 ^ 32 =
    ap (λ x. (gold (2 ^ 30) (exact (2 ^ 30)) 2 false x (M / 2 ^ 32)).rec * 2 ^ 32 % 2 ^ 64) i ∙ whole (half64 (M / 2 ^ 32)) r.1 in
    subst (λ x. Kept (M * 2 ^ 42) ((gold (2 ^ 62) (halves (2 ^ 32)) 2 true x M).root / 512)) (sym e) (root64 M l h).0
  where
    whole : (x : ℕ) → x < 2 ^ 32 → x * 2 ^ 32 % 2 ^ 64 ≡ x * 2 ^ 32
    whole x h = omega arith
