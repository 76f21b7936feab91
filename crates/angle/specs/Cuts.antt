-- The cuts of a width are those that the arctangent's definition names.
use Rattle.std.specs.Prelude.{◌≡◌}
use Rattle.std.specs.Float.{Format}
use Rattle.anglelaws.specs.Atan as Atan
use Rattle.angle.specs.declared.generic.atan.Cuts.{Cuts}

pub record CutsOf (f : Format) (c : Cuts) : Type 0 where
  pub tiny : c.tiny ≡ Atan.tiny f
  pub straight : c.straight ≡ Atan.straight f
  pub about_half : c.about_half ≡ Atan.about_half f
  pub about_one : c.about_one ≡ Atan.about_one f
  pub about_three_halves : c.about_three_halves ≡ Atan.about_three_halves f
  pub large : c.large ≡ Atan.large f
