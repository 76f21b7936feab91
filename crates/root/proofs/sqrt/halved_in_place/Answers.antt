use Rattle.std.proofs.Common.{◌+◌, ◌-◌, ◌*◌, ◌%◌, ◌^◌, ap, ◌∙◌}
use lib.Bits.{bit_and}
use Rattle.root.proofs.Ported.{half_bias, exp_in_place}
use Rattle.root.proofs.sqrt.halved_in_place.Goals as goal

pub returns : goal.returns
returns g c =
    let S = g.F.Layout.shape in
    let ok = g.F.Layout.sound in
    let whole = g.met.F.Layout.whole in
    let x = g.F.Int.Int.nat c.args.ix in
    let W = 2 ^ g.F.Int.Int.BITS in
    let f = g.met.F.Layout.fields in
    let hb = c.shl-half_bias.ensures ∙ ap (λ y. y * 2 ^ (c.SIG_BITS.result - 1) % W) c.from_u32.ensures ∙ half_bias S ok _ whole x _ _ (c.EXP_BIAS.ensures ∙ f.exp_bias) (c.SIG_BITS.ensures ∙ f.sig_bits) in
    let e = c.bitand.ensures ∙ ap (λ y. bit_and y (g.F.Int.Int.nat c.EXP_MASK.result)) (c.wrapping_add.ensures ∙ ap (λ y. (y + g.F.Int.Int.nat c.shl-half_bias.result) % W) c.shr.ensures.value) in
    exp_in_place S ok _ whole x _ _ _ c.shr.ensures.within hb (ap g.F.Int.Int.nat c.EXP_MASK.ensures ∙ f.exp_mask) e
