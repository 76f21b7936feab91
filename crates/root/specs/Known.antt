-- Roots that are known from elsewhere, by their patterns.
use Rattle.std.specs.Prelude.{◌≡◌, ℕ, List, [], ◌∷◌, from_bits, Float}
use Rattle.std.specs.Float.{Format, binary32, binary64}
use Rattle.rootlaws.specs.Roots.{NearestRoot}

pub record Row : Type 0 where
  pub format : Format
  pub of : ℕ
  pub root : ℕ

-- 4, 2, the least number of each width, the greatest narrow one, and -1, which has none
abbrev pub rows : List Row
rows =
    record { format = binary64; of = 0x4010000000000000; root = 0x4000000000000000 } ∷
    record { format = binary64; of = 0x4000000000000000; root = 0x3ff6a09e667f3bcd } ∷
    record { format = binary64; of = 0x0000000000000001; root = 0x1e60000000000000 } ∷
    record { format = binary32; of = 0x00000001; root = 0x1a3504f3 } ∷
    record { format = binary32; of = 0x7f7fffff; root = 0x5f7fffff } ∷
    record { format = binary64; of = 0xbff0000000000000; root = 0x7ff8000000000000 } ∷ []

-- the row's root is the nearest, and there is no other
pub record Known (w : Row) : Type 0 where
  pub nearest : NearestRoot w.format (from_bits w.format w.of) (from_bits w.format w.root)
  pub only : (r : Float) → NearestRoot w.format (from_bits w.format w.of) r → r ≡ from_bits w.format w.root
