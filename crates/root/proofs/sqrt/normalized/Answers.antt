use Rattle.std.proofs.Common.{◌+◌, ◌-◌, ◌*◌, ◌%◌, ◌^◌, refl, ap, ◌∙◌}
use Rattle.root.proofs.Normal.{zeros_enough, shift_is}
use Rattle.root.proofs.Ported.{stored_subnormal}
use Rattle.root.proofs.sqrt.normalized.Goals as goal

pub overflow_sub-n : goal.overflow_sub-n
overflow_sub-n g c =
    let f = g.met.F.Layout.fields in
    zeros_enough g.F.Layout.shape g.F.Layout.sound _ c.requires.0 _ g.met.F.Layout.whole c.requires.1 _ _ _ c.leading_zeros.ensures (c.EXP_BITS.ensures ∙ f.exp_bits) f.exp_bias

pub returns : goal.returns
returns g c =
    let S = g.F.Layout.shape in
    let W = 2 ^ g.F.Int.Int.BITS in
    let f = g.met.F.Layout.fields in
    let n = shift_is S g.F.Layout.sound _ c.requires.0 _ g.met.F.Layout.whole c.requires.1 _ _ _ c.leading_zeros.ensures (c.EXP_BITS.ensures ∙ f.exp_bits) f.exp_bias in
    stored_subnormal S g.F.Layout.sound _ _ c.requires.0 c.requires.1 g.met.F.Layout.whole (c.leading_zeros.result - c.EXP_BITS.result) (g.F.Int.Int.nat c.shl-2.result) (g.F.Int.Int.nat c.wrapping_sub.result) _ _ n (c.SIG_BITS.ensures ∙ f.sig_bits)
    (c.shl-2.ensures ∙ ap (λ x. x * 2 ^ c.SIG_BITS.result % W) c.from_u32.ensures)
    (c.wrapping_sub.ensures ∙ ap (λ x. (x + W - g.F.Int.Int.nat c.shl-2.result) % W) c.shl.ensures) refl
