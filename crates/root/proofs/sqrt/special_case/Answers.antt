use Rattle.std.proofs.Common.{◌%◌, ◌^◌, refl, ap, ◌∙◌}
use Rattle.width.proofs.Order.{not_less}
use Rattle.root.proofs.Ported.{special_in_place, special_shifted}
use Rattle.root.proofs.sqrt.special_case.Goals as goal

pub returns-then-BITS-le32 : goal.returns-then-BITS-le32
returns-then-BITS-le32 g c u =
    let f = g.met.F.Layout.fields in
    let n = g.F.Int.Int.nat in
    c.ge.ensures ∙ not_less n _ g.met.F.Int.Int.cmps _ _
    ∙ special_in_place g.F.Layout.shape g.F.Layout.sound (n c.args.ix) _ _ _ _ _ _ g.met.F.Layout.whole u (ap n c.IMPLICIT_BIT-exp_lsb.ensures ∙ f.implicit_bit) (ap n c.EXP_MASK.ensures ∙ f.exp_mask)
    c.wrapping_sub.ensures c.wrapping_sub-then-BITS-le32.ensures refl

pub returns-else-BITS-le32 : goal.returns-else-BITS-le32
returns-else-BITS-le32 g c u =
    let f = g.met.F.Layout.fields in
    special_shifted g.F.Layout.shape g.F.Layout.sound (g.F.Int.Int.nat c.args.ix) _ _ _ _ _ g.met.F.Layout.whole u (c.SIG_BITS.ensures ∙ f.sig_bits) (c.EXP_BIAS.ensures ∙ f.exp_bias)
    (c.low_u32-top.ensures ∙ ap (λ x. x % 2 ^ 32) c.shr.ensures.value) refl
