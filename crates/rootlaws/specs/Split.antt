-- A positive pattern taken apart: its significand with a leading one, its exponent, and the word whose root is drawn.
use Rattle.std.specs.Prelude.{◌≡◌, ℕ, suc, ◌+◌, ◌-◌, ◌*◌, ◌/◌, ◌%◌, ◌^◌, ◌<◌, cond, ◌==◌, nat_lt}
use Rattle.std.specs.Int.Count.{count_leading_zeros}
use Rattle.width.specs.Shape.{Shape, width, bias, infinity}

-- by how much a subnormal is shifted to have a leading one
abbrev pub shift_of : Shape → ℕ → ℕ
shift_of S b = count_leading_zeros (width S) b - suc S.half

abbrev pub sig_of : Shape → ℕ → ℕ
sig_of S b = cond (nat_lt b (2 ^ S.sig)) (b * 2 ^ shift_of S b) (2 ^ S.sig + b % 2 ^ S.sig)

-- the exponent, that of a subnormal being 1 less its shift, and the bias
abbrev pub exp_of : Shape → ℕ → ℕ
exp_of S b = cond (nat_lt b (2 ^ S.sig)) (1 + bias S - shift_of S b) (b / 2 ^ S.sig + bias S)

-- The significand at the top of a word, or one below it where the sum t of exponent and bias is even:
-- the number is a power of 4 times this word.
abbrev pub word_of : Shape → ℕ → ℕ → ℕ
word_of S t sig = cond (t % 2 == 0) (sig * 2 ^ S.half) (sig * 2 ^ suc S.half)

-- the pattern with the exponent e and the significand m
abbrev pub joined : Shape → ℕ → ℕ → ℕ
joined S e m = e * 2 ^ S.sig + (m - 2 ^ S.sig)

-- what the root's square is past its word, as a power of 2
abbrev pub lift : Shape → ℕ
lift S = S.sig - S.half

-- A pattern as the port stores it: a subnormal is shifted to its leading one, and the field is what its exponent would be,
-- in words of half + 2 bits. The field, and the stored bits.
abbrev pub field_of : Shape → ℕ → ℕ
field_of S b = cond (nat_lt b (2 ^ S.sig)) ((1 + 2 ^ (S.half + 2) - shift_of S b) % 2 ^ (S.half + 2)) (b / 2 ^ S.sig)

abbrev pub frac_of : Shape → ℕ → ℕ
frac_of S b = sig_of S b - 2 ^ S.sig

-- the word of a stored pattern
abbrev pub word_at : Shape → ℕ → ℕ
word_at S x = cond (x / 2 ^ S.sig % 2 == 0) ((2 ^ S.sig + x % 2 ^ S.sig) * 2 ^ suc S.half) ((2 ^ S.sig + x % 2 ^ S.sig) * 2 ^ S.half)

-- x is the pattern b, which is positive and finite, as the port stores it, and top is its exponent in words of 32 bits
pub record Stored (S : Shape) (b x top : ℕ) : Type 0 where
  pub some : 0 < b
  pub finite : b < infinity S
  pub pattern : x ≡ field_of S b * 2 ^ S.sig + frac_of S b
  pub exponent : (top + bias S) % 2 ^ 32 ≡ exp_of S b
