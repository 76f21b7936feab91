-- A number past the longest side counts as one above it. That changes no fault, whatever digits come after.
use Rattle.std.proofs.Common.{◌≡◌, ℕ, ◌+◌, ◌*◌, ◌<◌, ◌≤◌, Some, None, arith}
use Rattle.std.proofs.lemmas.Bool.Decides.{nat_tests}
use Rattle.field.specs.declared.refusal.Refusal.TheVariants.{NotPair}
use Rattle.field.specs.Field.{longest, fault_of}
use Rattle.field.specs.Lines.{capped, longer}

-- a digit more makes a number and that number capped the same once capped
pub longer_capped : (n d : ℕ) → longer (capped n) d ≡ capped (n * 10 + d)
longer_capped n d = omega arith

-- a digit is below the cap
pub digit_capped : (d : ℕ) → d < 10 → d ≡ capped (0 * 10 + d)
digit_capped d h = omega arith

-- a number that is no longer than the longest side once capped was so before
pub capped_same : (n m : ℕ) → m ≡ capped n → m ≤ longest → n ≡ m
capped_same n m e h = omega arith

-- two numbers have the same fault once capped
pub fault_capped : (a b : ℕ) → fault_of (capped a) (capped b) ≡ fault_of a b
fault_capped a b = grind (arith, nat_tests)

-- numbers with no fault are no longer than the longest side
pub fault_none : (a b : ℕ) → fault_of a b ≡ None → (a ≤ longest) × (b ≤ longest)
fault_none a b e = grind (arith, nat_tests)

-- two numbers are never refused as no pair
pub fault_pair : (a b : ℕ) → fault_of a b ≡ Some NotPair → ⊥
fault_pair a b e = grind (arith, nat_tests)
