-- A positive pattern's significand and exponent, as code over the layout works them out.
use Rattle.std.proofs.Common.{◌≡◌, ℕ, suc, ◌+◌, ◌-◌, ◌*◌, ◌/◌, ◌%◌, ◌^◌, ◌<◌, ◌≤◌, sym, ap, ◌∙◌, ap₂, mul-le-mul_right, mod-eq_of_lt, mul-le-mul_left, arith}
use native.Mathlib.Nat.{pow-le-pow_right, pow-succ'}
use lib.Bits.{bit_and, bit_or}
use lib.Count.{count_leading_zeros}
use Rattle.std.proofs.lemmas.Nat.{pow_pos, pow-add, div_below}
use Rattle.std.proofs.lemmas.Bool.{lt-ltb, le-ltb, eq-eqb, ne_eqb}
use Rattle.width.specs.Shape.{Shape, Sound, width, bias, infinity}
use Rattle.rootlaws.specs.Split.{shift_of, sig_of, exp_of, word_of}
use Rattle.rootlaws.proofs.Join.{leading}
use Rattle.rootlaws.proofs.Sizes.{word_range}
use Rattle.rootlaws.proofs.Split.{sig_range, shift_range}

-- the bias is a number of 30 bits
pub bias_small : (S : Shape) → Sound S → bias S < 2 ^ 29
bias_small S ok = let p = pow-le-pow_right {n = 2} (omega arith) {i = S.half} {j = 29} ok.few in let q = pow_pos S.half in omega arith

-- a significand fits a word, at its top as well
pub high_fits : (S : Shape) (sig : ℕ) → sig < 2 * 2 ^ S.sig → sig * 2 ^ suc S.half < 2 ^ width S
high_fits S sig u =
    let w = word_range S ∙ ap (λ y. 4 * y) (pow-add 2 S.sig S.half) in
    below (2 ^ S.sig) (2 ^ S.half) (2 ^ suc S.half) (2 ^ width S) w (pow-succ' 2 S.half) (pow_pos S.half) u
  where
    below : (Q E F W : ℕ) → W ≡ 4 * (Q * E) → F ≡ 2 * E → 0 < E → sig < 2 * Q → sig * F < W
    below Q E F W w f p u = omega (arith, ap (λ y. sig * y) f, mul-le-mul_right E u)

pub half_fits : (S : Shape) (sig : ℕ) → sig < 2 * 2 ^ S.sig → sig * 2 ^ S.half < 2 ^ width S
half_fits S sig u = let p = pow-succ' 2 S.half in below (2 ^ S.half) (2 ^ suc S.half) p (high_fits S sig u)
  where
    below : (E F : ℕ) → F ≡ 2 * E → sig * F < 2 ^ width S → sig * E < 2 ^ width S
    below E F f h = omega (arith, ap (λ y. sig * y) f)

pub whole_word : (S : Shape) (sig : ℕ) → sig < 2 * 2 ^ S.sig → sig < 2 ^ width S
whole_word S sig u = below (2 ^ suc S.half) (pow_pos (suc S.half)) (high_fits S sig u)
  where
    below : (F : ℕ) → 0 < F → sig * F < 2 ^ width S → sig < 2 ^ width S
    below F p h = omega (arith, mul-le-mul_left sig p)

-- The names of the code's numbers: its word has `bits` bits, and the fields read `eb` and so on.
module _ (S : Shape) (ok : Sound S) (ix : ℕ) (z : 0 < ix) (bits : ℕ) (bi : bits ≡ width S) where
  module _ (h : ix < 2 ^ S.sig) (lz eb bb : ℕ) (li : lz ≡ count_leading_zeros bits ix) (ei : eb ≡ suc S.half) (ci : bb ≡ bias S) where
    zeros : lz ≡ count_leading_zeros (width S) ix
    zeros = li ∙ ap (λ y. count_leading_zeros y ix) bi

    pub shift_is : lz - eb ≡ shift_of S ix
    shift_is = ap₂ (λ x y. x - y) zeros ei

    pub zeros_enough : eb ≤ lz
    zeros_enough = let r = shift_range S ix z h ok.deep in let r2 = r.2 in let a = zeros in omega arith

    pub shift_enough : lz - eb ≤ 1 + bb
    shift_enough = let r = shift_range S ix z h ok.deep in let r1 = r.1 in let a = shift_is in let d = ok.deep in omega arith

    pub sig_small : ix * 2 ^ (lz - eb) % 2 ^ bits ≡ sig_of S ix
    sig_small =
        let a : sig_of S ix ≡ ix * 2 ^ shift_of S ix = rw (lt-ltb ix (2 ^ S.sig) h) in
        let r = sig_range S ix z ok.deep in
        ap₂ (λ x y. ix * 2 ^ x % 2 ^ y) shift_is bi ∙ ap (λ y. y % 2 ^ width S) (sym a) ∙ mod-eq_of_lt (whole_word S (sig_of S ix) r.1)

    pub exp_small_is : 1 + bb - (lz - eb) ≡ exp_of S ix
    exp_small_is = rw (lt-ltb ix (2 ^ S.sig) h) (ap₂ (λ x y. 1 + x - y) ci shift_is)

  module _ (h : 2 ^ S.sig ≤ ix) where
    pub sig_large : (mask one : ℕ) → mask ≡ 2 ^ S.sig - 1 → one ≡ 2 ^ S.sig → bit_or (bit_and ix mask) one ≡ sig_of S ix
    sig_large mask one mi oi = rw (le-ltb ix (2 ^ S.sig) h) (ap₂ (λ x y. bit_or (bit_and ix x) y) mi oi ∙ leading S.sig ix)

    pub field_small : ix < infinity S → ix / 2 ^ S.sig < 2 ^ 30
    field_small l =
        let b = bias_small S ok in
        let x = div_below ix (2 ^ S.sig) (2 * bias S + 1) (pow_pos S.sig) l in
        omega arith

    pub exp_large_is : ix < infinity S → (sb bb : ℕ) → sb ≡ S.sig → bb ≡ bias S → ix / 2 ^ sb % 2 ^ 32 + bb ≡ exp_of S ix
    exp_large_is l sb bb si ci =
        let f = field_small l in
        rw (le-ltb ix (2 ^ S.sig) h) (ap₂ (λ x y. ix / 2 ^ x % 2 ^ 32 + y) si ci ∙ ap (λ y. y + bias S) (mod-eq_of_lt {n = ix / 2 ^ S.sig} {m = 2 ^ 32} (omega arith)))

-- the word of a significand, as it is shifted by the parity of t
module _ (S : Shape) (sig : ℕ) (u : sig < 2 * 2 ^ S.sig) (bits eb t : ℕ) (bi : bits ≡ width S) (ei : eb ≡ suc S.half) where
  pub word_even : t % 2 ≡ 0 → sig * 2 ^ (eb - 1) % 2 ^ bits ≡ word_of S t sig
  word_even e =
      let i : eb - 1 ≡ S.half = omega arith in
      rw (eq-eqb (t % 2) 0 e) (ap₂ (λ x y. sig * 2 ^ x % 2 ^ y) i bi ∙ mod-eq_of_lt (half_fits S sig u))

  pub word_odd : (t % 2 ≡ 0 → ⊥) → sig * 2 ^ eb % 2 ^ bits ≡ word_of S t sig
  word_odd e = rw (ne_eqb (t % 2) 0 e) (ap₂ (λ x y. sig * 2 ^ x % 2 ^ y) ei bi ∙ mod-eq_of_lt (high_fits S sig u))
