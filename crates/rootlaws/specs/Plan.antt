-- A root by Goldschmidt's iteration: a set of rounds in a shorter word, then the final set.
use Rattle.std.specs.Prelude.{ℕ, ◌+◌, ◌-◌, ◌*◌, ◌/◌, ◌%◌, ◌^◌, ◌<◌, ◌≤◌, true, false, slice_index}
use Rattle.width.specs.Shape.{Shape}
use Rattle.rootlaws.specs.Gold.{gold}
use Rattle.rootlaws.specs.Split.{lift}
use Rattle.rootlaws.specs.Table.{guesses, index}
use Rattle.rootlaws.specs.Words.{Kept}

-- the bits of the word and of the shorter word, the upper halves of their products, and how many rounds each set has
pub record Plan : Type 0 where
  pub bits : ℕ
  pub short_bits : ℕ
  pub mulh : ℕ → ℕ → ℕ
  pub short_mulh : ℕ → ℕ → ℕ
  pub short_rounds : ℕ
  pub rounds : ℕ

-- the table's entry for the word M, in the shorter word
abbrev pub first : Plan → ℕ → ℕ
first P M = slice_index guesses (index (2 ^ (P.bits - 16)) M) * 2 ^ (P.short_bits - 16)

-- what the set in the shorter word hands back as the reciprocal root
abbrev pub reciprocal : Plan → ℕ → ℕ
reciprocal P M = (gold (2 ^ (P.short_bits - 2)) P.short_mulh P.short_rounds false (first P M) (M / 2 ^ (P.bits - P.short_bits))).rec

-- what is kept of the root after the final set
abbrev pub kept_by : Plan → Shape → ℕ → ℕ
kept_by P S M = (gold (2 ^ (P.bits - 2)) P.mulh P.rounds true (reciprocal P M * 2 ^ (P.bits - P.short_bits) % 2 ^ P.bits) M).root / 2 ^ (S.half - 1)

-- What the plan of a layout must come to: for every word, what is kept is the root, or one less or one more, close enough to be rounded.
abbrev pub Keeps : Plan → Shape → Type 0
Keeps P S = (M : ℕ) → 2 ^ (S.sig + S.half) ≤ M → M < 4 * 2 ^ (S.sig + S.half) → Kept (M * 2 ^ lift S) (kept_by P S M)
