-- A number by the words of its pattern, as the branches read it.
use Rattle.std.specs.Prelude.{ℕ, ◌/◌, ◌%◌, Bool, ◌&&◌, ◌==◌, from_bits, to_bits, Float}
use Rattle.std.specs.Float.{Format, binary32, binary64}

-- a number of either format
abbrev pub by : {A : Type 0} → Format → A → A → A
by binary32 narrow wide = narrow
by binary64 narrow wide = wide

-- a constant, by its two patterns
abbrev pub float : Format → ℕ → ℕ → Float
float f narrow wide = from_bits f (by f narrow wide)

-- the weight of the top word: the upper 32 bits of a wide pattern, and the whole narrow one
abbrev pub weight : Format → ℕ
weight f = by f 1 4294967296

-- the top word with its sign bit cleared
unfoldable pub top_word : Format → Float → ℕ
top_word f x = to_bits f x / weight f % 2147483648

-- what lies below the top word
unfoldable pub low_word : Format → Float → ℕ
low_word f x = to_bits f x % weight f

-- whether the size is the number with the top word t and nothing below it
abbrev pub is_size : Format → ℕ → Float → Bool
is_size f t x = top_word f x == t && low_word f x == 0

-- the top words of 1/2, 1 and infinity
abbrev pub half_word : Format → ℕ
half_word f = by f 0x3f000000 0x3fe00000

abbrev pub one_word : Format → ℕ
one_word f = by f 0x3f800000 0x3ff00000

abbrev pub infinity_word : Format → ℕ
infinity_word f = by f 0x7f800000 0x7ff00000
