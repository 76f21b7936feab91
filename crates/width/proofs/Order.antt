-- Order and equality of words are those of the numbers they stand for.
use Rattle.std.proofs.Common.{◌≡◌, ℕ, ◌<◌, ◌≤◌, Bool, true, false, not, Option, Some, ltb, eqb, ltb-true, ltb-false, eqb-true, eq-eqb, sym, ap, ◌∙◌, arith}
use borrow.Author.Tests.{eqb-false}
use Rattle.std.specs.declared.cmp.Ordering.{Ordering}
use Rattle.std.specs.Ordering.{nat_cmp, is_lt, is_ge, is_some_and, partial_lt, partial_ge}
use Rattle.std.proofs.lemmas.Bool.Decides.{nat_tests}

module _ {I : Type 0} (nat : I → ℕ) (compared : I → I → Option Ordering) (law : (x y : I) → compared x y ≡ Some (nat_cmp (nat x) (nat y))) where
  pub less : (x y : I) → partial_lt compared x y ≡ ltb (nat x) (nat y)
  less x y = ap (λ o. is_some_and is_lt o) (law x y) ∙ told (nat x) (nat y)
    where
      told : (m n : ℕ) → is_lt (nat_cmp m n) ≡ ltb m n
      told m n = grind (arith, nat_tests)

  pub not_less : (x y : I) → partial_ge compared x y ≡ not (ltb (nat x) (nat y))
  not_less x y = ap (λ o. is_some_and is_ge o) (law x y) ∙ told (nat x) (nat y)
    where
      told : (m n : ℕ) → is_ge (nat_cmp m n) ≡ not (ltb m n)
      told m n = grind (arith, nat_tests)

  pub less_true : (x y : I) (b : Bool) → b ≡ partial_lt compared x y → b ≡ true → nat x < nat y
  less_true x y b e t = ltb-true (nat x) (nat y) (sym (e ∙ less x y) ∙ t)

  pub less_false : (x y : I) (b : Bool) → b ≡ partial_lt compared x y → b ≡ false → nat y ≤ nat x
  less_false x y b e t = ltb-false (nat x) (nat y) (sym (e ∙ less x y) ∙ t)

module _ {I : Type 0} (nat : I → ℕ) (equal : I → I → Bool) (law : (x y : I) → equal x y ≡ eqb (nat x) (nat y)) where
  pub same_true : (x y : I) (b : Bool) → b ≡ equal x y → nat x ≡ nat y → b ≡ true
  same_true x y b e i = e ∙ law x y ∙ eq-eqb (nat x) (nat y) i

  pub true_same : (x y : I) (b : Bool) → b ≡ equal x y → b ≡ true → nat x ≡ nat y
  true_same x y b e t = eqb-true (nat x) (nat y) (sym (e ∙ law x y) ∙ t)

  pub false_other : (x y : I) (b : Bool) → b ≡ equal x y → b ≡ false → nat x ≡ nat y → ⊥
  false_other x y b e t = eqb-false (nat x) (nat y) (sym (e ∙ law x y) ∙ t)
