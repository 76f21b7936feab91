use Rattle.std.proofs.Common.{◌/◌, ◌%◌, ◌^◌, ltb, leb, sym, ap, ◌∙◌, subst, ltb-true, leb-true}
use Rattle.width.specs.Shape.{infinity}
use Rattle.rootlaws.specs.Roots.{RootBits}
use Rattle.root.proofs.Ported.{stored_normal, normal_lower, normal_upper}
use Rattle.root.proofs.sqrt.sqrt_round.Goals as goal

pub returns-else-special_case-clause-root : goal.returns-else-special_case-clause-root
returns-else-special_case-clause-root g c =
    let S = g.F.Layout.shape in
    let x = g.F.Int.Int.nat c.args.ix in
    let shr = c.shr.ensures in
    let top = c.low_u32-top.ensures ∙ ap (λ y. y % 2 ^ 32) (shr.value ∙ ap (λ y. x / 2 ^ y) (c.SIG_BITS.ensures ∙ g.met.F.Layout.fields.sig_bits)) in
    let n = sym (c.special_case.ensures shr.within) ∙ c.if-special_case.false in
    let l = leb-true _ _ (normal_lower (leb (2 ^ S.sig) x) (ltb x (infinity S)) n) in
    let h = ltb-true _ _ (normal_upper (leb (2 ^ S.sig) x) (ltb x (infinity S)) n) in
    subst (λ y. RootBits S x (g.F.Int.Int.nat y)) (sym c.ok.ensures.val) (c.root_at.ensures x (stored_normal S g.F.Layout.sound x _ l h top))
