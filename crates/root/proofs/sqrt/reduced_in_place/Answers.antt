use Rattle.std.proofs.Common.{◌-◌, ◌^◌, sym, ap, ◌∙◌}
use Rattle.width.proofs.Order.{true_same, false_other}
use native.Mathlib.Nat.{zero-mod}
use lib.Bits.{bit_and, bit_or}
use Rattle.root.proofs.Ported.{word_even_place, word_odd_place}
use Rattle.root.proofs.sqrt.reduced_in_place.Goals as goal

pub returns-then-even-clause-word : goal.returns-then-even-clause-word
returns-then-even-clause-word g c =
    let f = g.met.F.Layout.fields in
    let n = g.F.Int.Int.nat in
    let even = sym c.bitand.ensures ∙ true_same n _ g.met.F.Int.Int.eqs _ _ _ c.eq-even.ensures c.if-even.true ∙ c.from_u32.ensures ∙ zero-mod _ in
    c.bitor.ensures ∙ ap (λ y. bit_or y (n c.SIGN_MASK.result)) c.shl.ensures
    ∙ word_even_place g.F.Layout.shape g.F.Layout.sound _ g.met.F.Layout.whole (n c.args.ix) _ _ _ even (ap n c.IMPLICIT_BIT.ensures ∙ f.implicit_bit) (ap n c.SIGN_MASK.ensures ∙ f.sign_mask) (c.EXP_BITS.ensures ∙ f.exp_bits)

pub returns-else-even-clause-word : goal.returns-else-even-clause-word
returns-else-even-clause-word g c =
    let f = g.met.F.Layout.fields in
    let n = g.F.Int.Int.nat in
    let odd = false_other n _ g.met.F.Int.Int.eqs _ _ _ c.eq-even.ensures c.if-even.false in
    let rest = c.not.ensures ∙ ap (λ y. 2 ^ g.F.Int.Int.BITS - 1 - y) (ap n c.SIGN_MASK-else-even.ensures ∙ f.sign_mask) in
    c.bitand-else-even.ensures ∙ ap (λ y. bit_and y (n c.not.result)) c.shl-else-even.ensures
    ∙ word_odd_place g.F.Layout.shape g.F.Layout.sound _ g.met.F.Layout.whole (n c.args.ix) _ _ _ (λ z. odd (c.bitand.ensures ∙ z ∙ sym (c.from_u32.ensures ∙ zero-mod _))) (ap n c.IMPLICIT_BIT.ensures ∙ f.implicit_bit) rest (c.EXP_BITS-else-even.ensures ∙ f.exp_bits)
