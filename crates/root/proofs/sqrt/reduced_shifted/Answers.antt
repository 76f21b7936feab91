use Rattle.std.proofs.Common.{◌*◌, ◌%◌, ◌^◌, ap, ◌∙◌}
use Rattle.root.proofs.Ported.{word_even_shifted, word_odd_shifted}
use Rattle.root.proofs.sqrt.reduced_shifted.Goals as goal

pub returns-then-top-eq1-clause-word : goal.returns-then-top-eq1-clause-word
returns-then-top-eq1-clause-word g c =
    let f = g.met.F.Layout.fields in
    let W = 2 ^ g.F.Int.Int.BITS in
    let m = c.shl-m_u2.ensures ∙ ap (λ y. y * 2 ^ c.EXP_BITS.result % W) c.bitor.ensures in
    λ p. word_odd_shifted g.F.Layout.shape g.F.Layout.sound _ g.met.F.Layout.whole _ c.args.top _ _ _ _ (ap g.F.Int.Int.nat c.IMPLICIT_BIT.ensures ∙ f.implicit_bit) (c.EXP_BITS.ensures ∙ f.exp_bits) m c.shr.ensures.value c.if-top-eq1.true p

pub returns-else-top-eq1-clause-word : goal.returns-else-top-eq1-clause-word
returns-else-top-eq1-clause-word g c =
    let f = g.met.F.Layout.fields in
    let W = 2 ^ g.F.Int.Int.BITS in
    let m = c.shl-m_u2.ensures ∙ ap (λ y. y * 2 ^ c.EXP_BITS.result % W) c.bitor.ensures in
    λ p. word_even_shifted g.F.Layout.shape g.F.Layout.sound _ g.met.F.Layout.whole _ c.args.top _ _ _ (ap g.F.Int.Int.nat c.IMPLICIT_BIT.ensures ∙ f.implicit_bit) (c.EXP_BITS.ensures ∙ f.exp_bits) m c.if-top-eq1.false p
