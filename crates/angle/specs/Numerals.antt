-- The small numbers of a width and the top words of some are those that the definitions name.
use Rattle.std.specs.Prelude.{◌≡◌, ℕ, Float}
use Rattle.std.specs.Float.{Format}
use Rattle.anglelaws.specs.Numbers as Numbers
use Rattle.anglelaws.specs.Words as Words

pub record Small (f : Format) (ZERO HALF ONE THREE_HALVES TWO THREE FOUR : Float) (HALF_WORD ONE_WORD INFINITY_WORD : ℕ) : Type 0 where
  pub zero : ZERO ≡ Numbers.zero f
  pub half : HALF ≡ Numbers.half f
  pub one : ONE ≡ Numbers.one f
  pub three_halves : THREE_HALVES ≡ Numbers.three_halves f
  pub two : TWO ≡ Numbers.two f
  pub three : THREE ≡ Numbers.three f
  pub four : FOUR ≡ Numbers.four f
  pub half_word : HALF_WORD ≡ Words.half_word f
  pub one_word : ONE_WORD ≡ Words.one_word f
  pub infinity_word : INFINITY_WORD ≡ Words.infinity_word f
