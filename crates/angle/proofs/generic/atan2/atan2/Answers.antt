use Rattle.std.proofs.Common.{◌≡◌, rules}
use Rattle.anglelaws.specs.Atan2 as Atan2
use Rattle.anglelaws.proofs.AnnexF.{atan2_special}
use Rattle.angle.proofs.generic.atan2.atan2.Goals as goal

pub returns-in_default-None-clause-special : goal.returns-in_default-None-clause-special
returns-in_default-None-clause-special g c =
    let sum = g.met.W.Width.adds _ _ _ c.add-in_default-None.ensures in
    let is : g.W.Width.val c.add-in_default-None.result ≡ Atan2.atan2 g.W.Width.fmt (g.W.Width.val c.args.y) (g.W.Width.val c.args.x) = search rules in
    atan2_special _ _ _ _ c.read.ensures.fits c.read-2.ensures.fits is

pub returns-in-None-default-clause-special : goal.returns-in-None-default-clause-special
returns-in-None-default-clause-special g c =
    let sum = g.met.W.Width.adds _ _ _ c.add.ensures in
    let is : g.W.Width.val c.add.result ≡ Atan2.atan2 g.W.Width.fmt (g.W.Width.val c.args.y) (g.W.Width.val c.args.x) = search rules in
    atan2_special _ _ _ _ c.read.ensures.fits c.read-2.ensures.fits is
