-- The words of the argument on Goldschmidt's iteration. V is a quarter of the word's range W = 4 V, and the scaled target is N = V W².
-- Every error is counted in units of W².
use Rattle.std.specs.Prelude.{ℕ, ◌+◌, ◌-◌, ◌*◌, ◌%◌, ◌<◌, ◌≤◌}

-- N = V W²
abbrev pub top : ℕ → ℕ
top V = V * (4 * V) * (4 * V)

-- h W²
abbrev pub units : ℕ → ℕ → ℕ
units V h = h * (4 * V) * (4 * V)

-- M ρ² is N, give or take h units: ρ / W is about the reciprocal root of M / V
abbrev pub Rec : ℕ → ℕ → ℕ → ℕ → Type 0
Rec V M ρ h = (top V ≤ M * ρ * ρ + units V h) × (M * ρ * ρ ≤ top V + units V h)

-- M ρ - a W ≤ σ W ≤ M ρ + b W
abbrev pub Near : ℕ → ℕ → ℕ → ℕ → ℕ → ℕ → Type 0
Near V M ρ σ a b = (M * ρ ≤ σ * (4 * V) + a * (4 * V)) × (σ * (4 * V) ≤ M * ρ + b * (4 * V))

-- p is the high word of x y, at most k - 1 too low and a rest
abbrev pub High : ℕ → ℕ → ℕ → ℕ → ℕ → Type 0
High V k x y p = (p * (4 * V) ≤ x * y) × (x * y ≤ p * (4 * V) + k * (4 * V))

-- the range of M
abbrev pub Range : ℕ → ℕ → Type 0
Range V M = (V ≤ M) × (M ≤ 4 * V)

-- what one round asks of its numbers
pub record Fits (V k h a b h' a' b' : ℕ) : Type 0 where
  pub wide : 16384 ≤ V
  pub small : 128 * h ≤ V
  pub some : 1 ≤ k
  pub up : a + k ≤ 16
  pub down : b + k ≤ 16
  pub below : 3 * h * h * (4 * V) + 4 * h * h * h + (2 * k + b) * (4 * V) * (4 * V) + 2 * b * h * (4 * V) ≤ units V h'
  pub above : a + k + 1 ≤ h'
  pub drift_up : 33 * a + 64 * k ≤ 32 * a'
  pub drift_down : 33 * b + 64 * k ≤ 32 * b'
  pub narrow : a' + b' ≤ 64

-- what the last round of the final set asks
pub record Final (V G h a b : ℕ) : Type 0 where
  pub some : 0 < G
  pub up : a ≤ G
  pub down : b ≤ G
  pub high : 32 * h < 31 * (G - a)
  pub low : 32 * ((G - b) * (G - b)) < (31 * (G - b) - 32 * h) * V
  pub room : 8 * G ≤ V

-- (m - 1/2)² < X < (m + 3/2)²
pub record Kept (X m : ℕ) : Type 0 where
  pub some : 1 ≤ m
  pub low : m * m + 1 ≤ X + m
  pub high : X ≤ m * m + 3 * m + 2

-- x - y in words of range W
abbrev pub less : ℕ → ℕ → ℕ → ℕ
less W x y = (x + W - y) % W

-- the two differences by which the kept digits are rounded, at W = 2 H
abbrev pub diff0 : ℕ → ℕ → ℕ → ℕ
diff0 H X m = less (2 * H) (X % (2 * H)) (m * m % (2 * H))

abbrev pub diff1 : ℕ → ℕ → ℕ → ℕ
diff1 H X m = less (2 * H) m (diff0 H X m)
