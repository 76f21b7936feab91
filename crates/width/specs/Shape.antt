-- The shape of a pattern: a sign bit, then the exponent field, then the stored bits of the significand.
use Rattle.std.specs.Prelude.{◌≡◌, ℕ, suc, ◌+◌, ◌-◌, ◌*◌, ◌/◌, ◌%◌, ◌^◌, ◌≤◌, cond, nat_lt}
use Rattle.std.proofs.Common.{lit≤}
use Rattle.std.specs.Float.{Format, binary32, binary64}

-- `sig` bits of the significand are stored; the bias is 2 ^ half - 1, and the exponent field has half + 1 bits
pub record Shape : Type 0 where
  pub sig : ℕ
  pub half : ℕ

abbrev pub shape_of : Format → Shape
shape_of binary32 = record { sig = 23; half = 7 }
shape_of binary64 = record { sig = 52; half = 10 }

-- how many bits a pattern has
abbrev pub width : Shape → ℕ
width S = S.sig + S.half + 2

abbrev pub bias : Shape → ℕ
bias S = 2 ^ S.half - 1

-- the weight of the sign bit
abbrev pub sign : Shape → ℕ
sign S = 2 ^ (S.sig + S.half + 1)

-- the pattern of positive infinity: the exponent field is full, and nothing else is set
abbrev pub infinity : Shape → ℕ
infinity S = (2 * bias S + 1) * 2 ^ S.sig

-- the NaN that is answered: the exponent field is full, and the highest bit of the significand is set
abbrev pub quiet : Shape → ℕ
quiet S = infinity S + 2 ^ (S.sig - 1)

-- the constants of a layout are those of its shape
pub record Fields (S : Shape) (BITS SIG_BITS EXP_BITS EXP_BIAS SIGN_MASK SIG_MASK EXP_MASK IMPLICIT_BIT QUIET_NAN : ℕ) : Type 0 where
  pub bits : BITS ≡ width S
  pub sig_bits : SIG_BITS ≡ S.sig
  pub exp_bits : EXP_BITS ≡ suc S.half
  pub exp_bias : EXP_BIAS ≡ bias S
  pub sign_mask : SIGN_MASK ≡ sign S
  pub sig_mask : SIG_MASK ≡ 2 ^ S.sig - 1
  pub exp_mask : EXP_MASK ≡ infinity S
  pub implicit_bit : IMPLICIT_BIT ≡ 2 ^ S.sig
  pub quiet_nan : QUIET_NAN ≡ quiet S

-- What a pattern with a clear sign stands for, in units of the least subnormal; Q = 2 ^ sig is the weight of the exponent field.
-- Past the largest finite pattern it goes on as if the exponents did.
abbrev pub reading : ℕ → ℕ → ℕ
reading Q n = cond (nat_lt n Q) n ((Q + n % Q) * 2 ^ (n / Q - 1))

-- What a layout must satisfy: the root of its least number is normal, its exponents are numbers of 32 bits, and the table of the root can be
-- read at six stored bits.
pub record Sound (S : Shape) : Type 0 where
  pub wide : S.half ≤ S.sig
  pub deep : S.sig + 3 ≤ bias S
  pub few : S.half ≤ 29
  pub six : 6 ≤ S.sig

pub format_sound : (f : Format) → Sound (shape_of f)
format_sound binary32 = record { wide = lit≤ tt; deep = lit≤ tt; few = lit≤ tt; six = lit≤ tt }
format_sound binary64 = record { wide = lit≤ tt; deep = lit≤ tt; few = lit≤ tt; six = lit≤ tt }
