-- The known answers: the roots by the roots' own rows, the angles by computing them.
use Rattle.std.proofs.Common.{◌≡◌, ℕ, Bool, true, eqb, sym, refl, ap, ◌∙◌}
use lib.Ieee.{Float, Format, binary32, binary64, is_nan, of_bits, to_bits, mul, div}
use lib.Ieee.Bits.{of_bits-fits}
use Rattle.std.specs.Float.{sqrt, is_sign_negative}
use Rattle.std.specs.List.{AllByRecursion}
use Rattle.std.proofs.lemmas.Bool.{eq-eqb}
use Rattle.root.specs.Known as Roots
use Rattle.root.proofs.Rows as RootsKnown
use Rattle.rootlaws.proofs.Rounded.{root_is}
use Rattle.anglelaws.specs.Words.{top_word, low_word}
use Rattle.anglelaws.specs.Atan as Atan
use Rattle.anglelaws.specs.Atan2 as Atan2
use Rattle.anglelaws.specs.Arcs as Arcs
use Rattle.anglelaws.specs.Known.{rows, Known}

-- a root's row
root : (w : Roots.Row) → Roots.Known w → sqrt w.format (of_bits w.format w.of) ≡ of_bits w.format w.root
root w k = sym (root_is w.format _ _ (of_bits-fits w.format w.of) k.nearest)

pub opposite_zeros : Atan2.atan2 binary64 (of_bits binary64 0x0000000000000000) (of_bits binary64 0x8000000000000000) ≡ of_bits binary64 0x400921fb54442d18
unfolding is_nan is_sign_negative top_word low_word to_bits of_bits
opposite_zeros = refl

pub opposite_infinities : Atan2.atan2 binary64 (of_bits binary64 0x7ff0000000000000) (of_bits binary64 0xfff0000000000000) ≡ of_bits binary64 0x4002d97c7f3321d2
unfolding is_nan is_sign_negative top_word low_word to_bits of_bits mul div
opposite_infinities = refl

pub sine_of_one : Arcs.asin binary64 (of_bits binary64 0x3ff0000000000000) ≡ of_bits binary64 0x3ff921fb54442d18
unfolding is_nan top_word low_word to_bits of_bits mul
sine_of_one = refl

pub cosine_of_one : Arcs.acos binary64 (of_bits binary64 0x3ff0000000000000) ≡ of_bits binary64 0x0000000000000000
unfolding is_nan is_sign_negative top_word low_word to_bits of_bits
cosine_of_one = refl

pub narrow_large : Atan.atan binary32 (of_bits binary32 0x4c800000) ≡ of_bits binary32 0x3fc90fda
unfolding is_nan is_sign_negative top_word to_bits of_bits
narrow_large = refl

pub narrow_upright : Atan2.atan2 binary32 (of_bits binary32 0x3f800000) (of_bits binary32 0x00000000) ≡ of_bits binary32 0x3fc90fdb
unfolding is_nan is_sign_negative top_word low_word to_bits of_bits div
narrow_upright = refl

pub known_rows : AllByRecursion Known rows
known_rows =
    let k = RootsKnown.known_rows in (
      root _ k.0,
      (
        root _ k.1.0,
        (
          root _ k.1.1.0,
          (
            root _ k.1.1.1.0,
            (
              root _ k.1.1.1.1.0,
              (
                root _ k.1.1.1.1.1.0,
                (opposite_zeros, (opposite_infinities, (sine_of_one, (cosine_of_one, (narrow_large, (narrow_upright, tt)))))),
              ),
            ),
          ),
        ),
      ),
    )

-- an answer that comes has its row's pattern
pub told : (f : Format) (x a : Float) (n : ℕ) (b : Bool) → b ≡ eqb (to_bits f x) n → x ≡ a → a ≡ of_bits f n → to_bits f (of_bits f n) ≡ n → b ≡ true
told f x a n b i e k back = i ∙ eq-eqb (to_bits f x) n (ap (to_bits f) (e ∙ k) ∙ back)
