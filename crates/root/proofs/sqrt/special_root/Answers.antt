use Rattle.std.proofs.Common.{sym, ◌∙◌, subst, eqb-true}
use Rattle.rootlaws.specs.Roots.{RootBits}
use Rattle.root.proofs.Classes.{zero_root}
use Rattle.root.proofs.sqrt.special_root.Goals as goal

pub returns-then-is_zero-clause-root : goal.returns-then-is_zero-clause-root
returns-then-is_zero-clause-root g c =
    let S = g.F.Layout.shape in
    let b = g.F.Int.Int.nat c.args.ix in
    subst (λ y. RootBits S b (g.F.Int.Int.nat y)) (sym c.ok.ensures.val) (zero_root S b (eqb-true _ _ (sym c.is_zero.ensures ∙ c.if-is_zero.true)))
