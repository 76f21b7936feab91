-- Answers that are known from elsewhere, by their patterns.
use Rattle.std.specs.Prelude.{◌≡◌, ℕ, List, [], ◌∷◌, from_bits, Float}
use Rattle.std.specs.Float.{Format, binary32, binary64}
use Rattle.std.specs.Float as Floats
use Rattle.anglelaws.specs.Atan as Atan
use Rattle.anglelaws.specs.Atan2 as Atan2
use Rattle.anglelaws.specs.Arcs as Arcs

-- a call, its readings by their patterns
pub data Call : Type 0 where
  sqrt asin acos atan : Format → ℕ → Call
  atan2 : Format → ℕ → ℕ → Call

-- the answer by the definitions
abbrev pub answer : Call → Float
answer (sqrt f x) = Floats.sqrt f (from_bits f x)
answer (asin f x) = Arcs.asin f (from_bits f x)
answer (acos f x) = Arcs.acos f (from_bits f x)
answer (atan f x) = Atan.atan f (from_bits f x)
answer (atan2 f y x) = Atan2.atan2 f (from_bits f y) (from_bits f x)

abbrev pub format : Call → Format
format (sqrt f x) = f
format (asin f x) = f
format (acos f x) = f
format (atan f x) = f
format (atan2 f y x) = f

pub record Row : Type 0 where
  pub call : Call
  pub known : ℕ

abbrev pub rows : List Row
rows =
    -- the roots of 4, of 2, of the least number of each width, of the greatest narrow one, and of -1, which has none
    record { call = sqrt binary64 0x4010000000000000; known = 0x4000000000000000 } ∷
    record { call = sqrt binary64 0x4000000000000000; known = 0x3ff6a09e667f3bcd } ∷
    record { call = sqrt binary64 0x0000000000000001; known = 0x1e60000000000000 } ∷
    record { call = sqrt binary32 0x00000001; known = 0x1a3504f3 } ∷
    record { call = sqrt binary32 0x7f7fffff; known = 0x5f7fffff } ∷
    record { call = sqrt binary64 0xbff0000000000000; known = 0x7ff8000000000000 } ∷
    -- atan2 of +0 and -0, and of the infinities
    record { call = atan2 binary64 0x0000000000000000 0x8000000000000000; known = 0x400921fb54442d18 } ∷
    record { call = atan2 binary64 0x7ff0000000000000 0xfff0000000000000; known = 0x4002d97c7f3321d2 } ∷
    -- asin and acos of 1
    record { call = asin binary64 0x3ff0000000000000; known = 0x3ff921fb54442d18 } ∷
    record { call = acos binary64 0x3ff0000000000000; known = 0x0000000000000000 } ∷
    -- the narrow atan from 2 ^ 26 on, and the narrow atan2 of 1 and 0
    record { call = atan binary32 0x4c800000; known = 0x3fc90fda } ∷
    record { call = atan2 binary32 0x3f800000 0x00000000; known = 0x3fc90fdb } ∷ []

abbrev pub Known : Row → Type 0
Known w = answer w.call ≡ from_bits (format w.call) w.known
