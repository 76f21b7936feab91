-- What a nearest root is.
use Rattle.std.specs.Prelude.{◌≡◌, ℕ, zero, suc, ◌+◌, ◌-◌, ◌*◌, ◌/◌, ◌%◌, ◌^◌, ◌<◌, true, false, T, from_bits, to_bits, Float}
use Rattle.std.specs.Float.{Format, nan, inf, fin}
use Rattle.std.specs.Float.Ieee.{up, down, low, lt, fits}
use Rattle.std.specs.Float as Floats
use Rattle.width.specs.Shape.{Shape, bias, sign, infinity, quiet, reading}

-- ---- of patterns

-- The pattern n is nearest to the root of v: with h halfway to the float below and k halfway to the one above, h² < v < k².
-- Patterns with a clear sign stand in the order of their numbers, so the neighbours are those of n - 1 and n + 1, also at a power of two,
-- where the one below is half as far. The sum of a number and its neighbour is twice the point halfway.
pub record Between (Q v n : ℕ) : Type 0 where
  pub below : (reading Q (n - 1) + reading Q n) * (reading Q (n - 1) + reading Q n) < 4 * v
  pub above : 4 * v < (reading Q n + reading Q (suc n)) * (reading Q n + reading Q (suc n))

-- the number of pattern b in squares of the unit 2 ^ -(bias + sig - 1)
abbrev pub target : Shape → ℕ → ℕ
target S b = reading (2 ^ S.sig) b * 2 ^ (bias S + S.sig - 1)

-- r is the root of the pattern b
pub record RootBits (S : Shape) (b r : ℕ) : Type 0 where
  pub of_zero : b % sign S ≡ 0 → r ≡ b
  pub of_infinity : b ≡ infinity S → r ≡ b
  pub of_none : 0 < b % sign S → infinity S < b → r ≡ quiet S
  pub finite : 0 < b → b < infinity S → suc r < infinity S
  pub between : 0 < b → b < infinity S → Between (2 ^ S.sig) (target S b) r

-- ---- of floats

-- the size of a finite float in units of the least subnormal, 2 ^ -1074 wide and 2 ^ -149 narrow
abbrev pub units : Format → Float → ℕ
units f nan = 0
units f (inf s) = 0
units f (fin s m e) = m * up e * 2 ^ low f / down e

-- the floats next to a positive one
abbrev pub before : Format → Float → Float
before f r = from_bits f (to_bits f r - 1)

abbrev pub after : Format → Float → Float
after f r = from_bits f (suc (to_bits f r))

-- the positive float r is nearest to the root of v: h² < v < k², as above
pub record Halfway (f : Format) (v r : Float) : Type 0 where
  pub held : T (fits f r)
  pub positive : T (lt Floats.float_zero r)
  pub below : (units f (before f r) + units f r) * (units f (before f r) + units f r) < 4 * (units f v * 2 ^ low f)
  pub above : 4 * (units f v * 2 ^ low f) < (units f r + units f (after f r)) * (units f r + units f (after f r))

-- r is the nearest root of v: a zero's is that zero, positive infinity's is itself, and NaN and what lies below zero have none
abbrev pub NearestRoot : Format → Float → Float → Type 0
NearestRoot f nan r = r ≡ nan
NearestRoot f (inf false) r = r ≡ inf false
NearestRoot f (inf true) r = r ≡ nan
NearestRoot f (fin s zero e) r = r ≡ fin s zero e
NearestRoot f (fin true (suc m) e) r = r ≡ nan
NearestRoot f (fin false (suc m) e) r = Halfway f (fin false (suc m) e) r

-- a number has one nearest root
abbrev pub OneRoot : Type 0
OneRoot = (f : Format) (v r r' : Float) → NearestRoot f v r → NearestRoot f v r' → r ≡ r'
