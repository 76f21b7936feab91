use Rattle.std.proofs.Common.{sym, subst, subst₂}
use Rattle.width.specs.Pattern.{PatternOf}
use Rattle.rootlaws.specs.Roots.{RootBits, NearestRoot}
use Rattle.rootlaws.proofs.Floats.{bits_root}
use Rattle.root.proofs.floats.float_root.Goals as goal

pub returns-in-Some : goal.returns-in-Some
returns-in-Some g c =
    let f = g.W.Width.fmt in
    let n = g.W.Int.Int.nat c.in-Some.ix in
    let r = g.W.Int.Int.nat c.root.result in
    let p : PatternOf f (g.W.Width.val c.args.x) n = c.in-Some.ensures in
    let root = c.requires.roots c.in-Some.ix c.root.result c.root.ensures in
    subst₂ (λ v w. NearestRoot f v w) p.value (sym c.from_pattern.ensures) (bits_root f n r p.small (subst (λ S. RootBits S n r) g.met.W.Width.shaped root))
