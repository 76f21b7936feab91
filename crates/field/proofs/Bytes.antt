-- What bytes do to a reading.
use Rattle.std.proofs.Common.{◌≡◌, ℕ, ◌-◌, ◌<◌, Bool, true, false, List, ◌∷◌, ◌++◌, fold, ap, ◌∙◌, arith}
use Rattle.std.specs.Char.{is_ascii_digit}
use Rattle.std.specs.List.{AllPass}
use Rattle.std.proofs.lemmas.List.Sums.{fold-append}
use Rattle.std.proofs.lemmas.List.Elements.{All-head, All-tail, All-cons}
use Rattle.std.proofs.lemmas.Bool.Decides.{nat_tests}
use Rattle.field.specs.declared.line.Reading.{Reading}
use Rattle.field.specs.Pair.{is_blank}
use Rattle.field.specs.Lines.{after_blank, after_digit, after_byte}

-- the reading that the bytes cs take r to
abbrev pub after : Reading → List ℕ → Reading
after r cs = fold after_byte r cs

-- the bytes xs take the reading from r to s, and the bytes ys take it on from there
pub after_parts : (r : Reading) {s : Reading} (xs ys : List ℕ) → after r xs ≡ s → after r (xs ++ ys) ≡ after s ys
after_parts r xs ys e = fold-append after_byte r xs ys ∙ ap (λ s. after s ys) e

pub after_byte_blank : (r : Reading) (c : ℕ) → is_blank c ≡ true → after_byte r c ≡ after_blank r
after_byte_blank r c t = rw t

-- a digit is no blank
digit_not_blank : (c : ℕ) → is_ascii_digit c ≡ true → is_blank c ≡ false
digit_not_blank c e = grind (arith, nat_tests)

pub after_byte_digit : (r : Reading) (c : ℕ) → is_ascii_digit c ≡ true → after_byte r c ≡ after_digit r (c - 48)
after_byte_digit r c t = rw (digit_not_blank c t, t)

-- what a digit stands for
pub digit_small : (c : ℕ) → is_ascii_digit c ≡ true → c - 48 < 10
digit_small c t = grind (arith, nat_tests)

-- ---- bytes that pass a test, first and rest

module _ (p : ℕ → Bool) (c : ℕ) (cs : List ℕ) where
  pub pass_head : AllPass p (c ∷ cs) → p c ≡ true
  pass_head = All-head (λ x. p x ≡ true) c cs

  pub pass_tail : AllPass p (c ∷ cs) → AllPass p cs
  pass_tail = All-tail (λ x. p x ≡ true) c cs

  pub pass_cons : p c ≡ true → AllPass p cs → AllPass p (c ∷ cs)
  pass_cons = All-cons (λ x. p x ≡ true) c cs
