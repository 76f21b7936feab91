-- Small numbers that the formulas have, by their patterns.
use Rattle.std.specs.Prelude.{Float}
use Rattle.std.specs.Float.{Format}
use Rattle.anglelaws.specs.Words.{float}

abbrev pub zero : Format → Float
zero f = float f 0 0

abbrev pub half : Format → Float
half f = float f 0x3f000000 0x3fe0000000000000

abbrev pub one : Format → Float
one f = float f 0x3f800000 0x3ff0000000000000

abbrev pub three_halves : Format → Float
three_halves f = float f 0x3fc00000 0x3ff8000000000000

abbrev pub two : Format → Float
two f = float f 0x40000000 0x4000000000000000

abbrev pub three : Format → Float
three f = float f 0x40400000 0x4008000000000000

abbrev pub four : Format → Float
four f = float f 0x40800000 0x4010000000000000
