-- The three layouts: the words of the iteration, the shift, and the answer.
use Rattle.std.specs.Prelude.{ℕ, ◌+◌, ◌*◌, ◌/◌, ◌^◌, ◌<◌, ◌≤◌, true, false}
use Rattle.rootlaws.specs.Whole.{Nearest}
use Rattle.rootlaws.specs.Words.{diff1, Kept}
use Rattle.rootlaws.specs.Table.{guess}
use Rattle.width.specs.Product.{exact}
use Rattle.rootlaws.specs.Gold.{gold}

-- the digits kept of the root of M
abbrev pub kept16 : ℕ → ℕ
kept16 M = (gold (2 ^ 14) (exact (2 ^ 14)) 2 true (guess 1 M) M).root / 8

abbrev pub kept32 : ℕ → ℕ
kept32 M = (gold (2 ^ 30) (exact (2 ^ 30)) 3 true (guess 65536 M) M).root / 64

-- the half set of 64 bits, on the upper word of M
abbrev pub half64 : ℕ → ℕ
half64 M = (gold (2 ^ 30) (exact (2 ^ 30)) 2 false (guess 65536 M) M).rec

abbrev pub kept64 : (ℕ → ℕ → ℕ) → ℕ → ℕ
kept64 m M = (gold (2 ^ 62) m 2 true (half64 (M / 2 ^ 32) * 2 ^ 32) M).root / 512

-- the kept digits, and one more if the bit says so, in words of range 2 H
abbrev pub answer : ℕ → ℕ → ℕ → ℕ
answer H X m = m + diff1 H X m / H

abbrev pub Root16 : Type 0
Root16 = (M : ℕ) → 2 ^ 14 ≤ M → M < 2 ^ 16 → Kept (M * 2 ^ 6) (kept16 M) × Nearest (M * 2 ^ 6) (answer (2 ^ 15) (M * 2 ^ 6) (kept16 M))

abbrev pub Root32 : Type 0
Root32 = (M : ℕ) → 2 ^ 30 ≤ M → M < 2 ^ 32 → Kept (M * 2 ^ 16) (kept32 M) × Nearest (M * 2 ^ 16) (answer (2 ^ 31) (M * 2 ^ 16) (kept32 M))

-- at either product of 64-bit words
abbrev pub Root64 : (ℕ → ℕ → ℕ) → Type 0
Root64 m = (M : ℕ) → 2 ^ 62 ≤ M → M < 2 ^ 64 → Kept (M * 2 ^ 42) (kept64 m M) × Nearest (M * 2 ^ 42) (answer (2 ^ 63) (M * 2 ^ 42) (kept64 m M))
