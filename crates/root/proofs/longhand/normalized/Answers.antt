use Rattle.std.proofs.Common.{◌+◌, ◌/◌, ◌%◌, ◌^◌, ◌<◌, ◌≤◌, ap, ◌∙◌, subst, arith}
use lib.Bits.{bit_or}
use Rattle.width.proofs.Order.{less_true, less_false}
use Rattle.root.proofs.Normal.{bias_small, zeros_enough, sig_small, sig_large, field_small, exp_large_is}
use Rattle.root.proofs.longhand.normalized.Goals as goal

pub overflow_sub-n : goal.overflow_sub-n
overflow_sub-n g c =
    let f = g.met.L.Layout.fields in
    let h = subst (λ x. g.L.Int.Int.nat c.args.ix < x) (ap g.L.Int.Int.nat c.IMPLICIT_BIT.ensures ∙ f.implicit_bit) (less_true g.L.Int.Int.nat _ g.met.L.Int.Int.cmps _ _ _ c.lt.ensures c.if-lt.true) in
    zeros_enough g.L.Layout.shape g.L.Layout.sound _ c.requires.0 _ g.met.L.Layout.whole h _ _ _ c.leading_zeros.ensures (c.EXP_BITS.ensures ∙ f.exp_bits) f.exp_bias

pub returns-then-lt-clause-sig : goal.returns-then-lt-clause-sig
returns-then-lt-clause-sig g c =
    let f = g.met.L.Layout.fields in
    let h = subst (λ x. g.L.Int.Int.nat c.args.ix < x) (ap g.L.Int.Int.nat c.IMPLICIT_BIT.ensures ∙ f.implicit_bit) (less_true g.L.Int.Int.nat _ g.met.L.Int.Int.cmps _ _ _ c.lt.ensures c.if-lt.true) in
    c.shl.ensures ∙ sig_small g.L.Layout.shape g.L.Layout.sound _ c.requires.0 _ g.met.L.Layout.whole h _ _ _ c.leading_zeros.ensures (c.EXP_BITS.ensures ∙ f.exp_bits) (c.EXP_BIAS.ensures ∙ f.exp_bias)

pub overflow_add-result-else-lt : goal.overflow_add-result-else-lt
overflow_add-result-else-lt g c =
    let S = g.L.Layout.shape in
    let f = g.met.L.Layout.fields in
    let b = bias_small S g.L.Layout.sound in
    let h = subst (λ x. x ≤ g.L.Int.Int.nat c.args.ix) (ap g.L.Int.Int.nat c.IMPLICIT_BIT.ensures ∙ f.implicit_bit) (less_false g.L.Int.Int.nat _ g.met.L.Int.Int.cmps _ _ _ c.lt.ensures c.if-lt.false) in
    let e = field_small S g.L.Layout.sound _ c.requires.0 _ g.met.L.Layout.whole h c.requires.1 in
    let q = c.low_u32.ensures ∙ ap (λ x. x % 2 ^ 32) (c.shr.ensures.value ∙ ap (λ x. g.L.Int.Int.nat c.args.ix / 2 ^ x) (c.SIG_BITS.ensures ∙ f.sig_bits)) in
    let k = c.EXP_BIAS-else-lt.ensures ∙ f.exp_bias in
    omega arith

pub returns-else-lt : goal.returns-else-lt
returns-else-lt g c =
    let S = g.L.Layout.shape in
    let ok = g.L.Layout.sound in
    let whole = g.met.L.Layout.whole in
    let f = g.met.L.Layout.fields in
    let n = g.L.Int.Int.nat in
    let h = subst (λ x. x ≤ n c.args.ix) (ap n c.IMPLICIT_BIT.ensures ∙ f.implicit_bit) (less_false n _ g.met.L.Int.Int.cmps _ _ _ c.lt.ensures c.if-lt.false) in
    record {
      sig = c.bitor-sig.ensures ∙ ap (λ x. bit_or x (n c.IMPLICIT_BIT-else-lt.result)) c.bitand.ensures
          ∙ sig_large S ok _ c.requires.0 _ whole h _ _ (ap n c.SIG_MASK.ensures ∙ f.sig_mask) (ap n c.IMPLICIT_BIT-else-lt.ensures ∙ f.implicit_bit);
      exp = ap (λ x. x + c.EXP_BIAS-else-lt.result) (c.low_u32.ensures ∙ ap (λ x. x % 2 ^ 32) c.shr.ensures.value)
          ∙ exp_large_is S ok _ c.requires.0 _ whole h c.requires.1 _ _ (c.SIG_BITS.ensures ∙ f.sig_bits) (c.EXP_BIAS-else-lt.ensures ∙ f.exp_bias);
    }
