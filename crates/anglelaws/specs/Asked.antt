-- When a root unit is asked, in numbers.
use Rattle.std.specs.Prelude.{◌≡◌, ◌&&◌, T, Float}
use Rattle.std.specs.Float.{Format}
use Rattle.std.specs.Float.Ieee.{lt, le, fits}
use Rattle.anglelaws.specs.Numbers.{half, one}
use Rattle.anglelaws.specs.Formulas.{fabs}
use Rattle.anglelaws.specs.Arcs.{asks}

-- one half ≤ |x| < 1
abbrev pub FromHalf : Type 0
FromHalf = (f : Format) (x : Float) → T (fits f x) → asks f x ≡ (le (half f) (fabs x) && lt (fabs x) (one f))
