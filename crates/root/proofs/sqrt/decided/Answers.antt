use Rattle.std.proofs.Common.{◌≡◌, ◌+◌, ◌-◌, ◌*◌, ◌/◌, ◌%◌, ◌^◌, ap, ◌∙◌, arith}
use Rattle.rootlaws.specs.Split.{lift}
use Rattle.root.proofs.Ported.{decided_nearest}
use Rattle.root.proofs.sqrt.decided.Goals as goal

pub returns : goal.returns
returns g c u k =
    let S = g.F.Layout.shape in
    let n = g.F.Int.Int.nat in
    let W = 2 ^ g.F.Int.Int.BITS in
    let M = n c.args.m_u2 in
    let m = n c.args.m in
    let fb = c.BITS.ensures ∙ g.met.F.Layout.fields.bits in
    let fs = c.SIG_BITS.ensures ∙ g.met.F.Layout.fields.sig_bits in
    let wide = g.F.Layout.sound.wide in
    let shift : 2 * c.SIG_BITS.result - (c.BITS.result - 2) ≡ lift S = omega arith in
    decided_nearest S g.F.Layout.sound g.F.Int.Int.BITS g.met.F.Layout.whole M m (n c.wrapping_add.result) u k
    (c.wrapping_add.ensures ∙ ap (λ x. (m + x) % W) (c.past_half.ensures ∙ ap (λ x. (m + W - (M * 2 ^ x % W + W - m * m % W) % W) % W / 2 ^ (g.F.Int.Int.BITS - 1)) shift))
