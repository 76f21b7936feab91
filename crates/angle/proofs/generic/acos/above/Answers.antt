use Rattle.anglelaws.proofs.Roots.{product_fits}
use Rattle.angle.proofs.generic.acos.above.Goals as goal

pub root-s-requires : goal.root-s-requires
root-s-requires g c = product_fits g.W.Width.fmt _ _ _ (g.met.W.Width.muls _ _ _ c.mul-z.ensures)
