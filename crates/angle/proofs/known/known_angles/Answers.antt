use Rattle.std.proofs.Common.{refl, ap, ◌∙◌, ap₂}
use lib.Ieee.{binary32, binary64, of_bits, to_bits}
use Rattle.anglelaws.specs.Atan.{atan}
use Rattle.anglelaws.specs.Atan2.{atan2}
use Rattle.anglelaws.specs.Arcs.{asin, acos}
use Rattle.angle.proofs.Rows.{told, opposite_zeros, opposite_infinities, sine_of_one, cosine_of_one, narrow_large, narrow_upright}
use Rattle.angle.proofs.known.known_angles.Goals as goal

pub returns : goal.returns
unfolding to_bits of_bits
returns c =
    let a = told binary64 _ _ _ _ c.answer_is.ensures (c.atan2.ensures.value ∙ ap₂ (atan2 binary64) c.from_pattern-zero.ensures c.from_pattern-minus_zero.ensures) opposite_zeros refl in
    let b = told binary64 _ _ _ _ c.answer_is-2.ensures (c.atan2-2.ensures.value ∙ ap₂ (atan2 binary64) c.from_pattern-infinity.ensures c.from_pattern-minus_infinity.ensures) opposite_infinities refl in
    let d = told binary64 _ _ _ _ c.answer_is-3.ensures (c.asin.ensures.value ∙ ap (asin binary64) c.from_pattern-one.ensures) sine_of_one refl in
    let e = told binary64 _ _ _ _ c.answer_is-4.ensures (c.acos.ensures.value ∙ ap (acos binary64) c.from_pattern-one.ensures) cosine_of_one refl in
    let h = told binary32 _ _ _ _ c.answer_is-5.ensures (c.atanf.ensures.value ∙ ap (atan binary32) c.from_pattern-narrow_large.ensures) narrow_large refl in
    let i = told binary32 _ _ _ _ c.answer_is-6.ensures (c.atan2f.ensures.value ∙ ap₂ (atan2 binary32) c.from_pattern-narrow_one.ensures c.from_pattern-narrow_zero.ensures) narrow_upright refl in
    simp (a, b, d, e, h, i)
