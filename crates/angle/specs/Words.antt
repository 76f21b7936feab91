-- The words that code reads a number by.
use Rattle.std.specs.Prelude.{◌≡◌, false, is_nan, Float}
use Rattle.std.specs.Float.{Format, is_sign_negative}
use Rattle.anglelaws.specs.Words.{top_word, low_word}
use Rattle.angle.specs.declared.words.Words.{Words}

-- w has the words of v, which is no NaN
pub record WordsOf (f : Format) (v : Float) (w : Words) : Type 0 where
  pub number : is_nan v ≡ false
  pub sign : w.negative ≡ is_sign_negative v
  pub top : w.ix ≡ top_word f v
  pub low : w.lx ≡ low_word f v
