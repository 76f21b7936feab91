-- Which sides are refused.
use Rattle.std.specs.Prelude.{ℕ, if◌then◌else◌, ◌||◌, Some, None, Option, ◌==◌, nat_lt}
use Rattle.field.specs.declared.refusal.Refusal.{Refusal}
use Rattle.field.specs.declared.refusal.Refusal.TheVariants.{NoSide, TooLong}

-- 2 ^ 26 millimetres: the squares of two such sides add up to 2 ^ 53
abbrev pub longest : ℕ
longest = 67108864

abbrev pub fault_of : ℕ → ℕ → Option Refusal
fault_of a b = if a == 0 || b == 0 then Some NoSide else (if nat_lt longest a || nat_lt longest b then Some TooLong else None)
