use Rattle.std.proofs.Common.{◌-◌, ◌^◌, true, false, ◌∙◌, ap₂}
use Rattle.rootlaws.specs.Gold.{gold}
use Rattle.rootlaws.specs.Plan.{Plan}
use Rattle.root.proofs.Ported.{kept_word}
use Rattle.root.proofs.sqrt.kept.Goals as goal

pub returns : goal.returns
returns g c mi =
    let b = g.F.Int.Int.BITS in
    let a = g.F.ISet2.Int.BITS in
    let W = 2 ^ b in
    let M = g.F.Int.Int.nat c.args.m_u2 in
    let P : Plan = record { bits = b; short_bits = a; mulh = g.F.Int.HInt.mulh; short_mulh = g.F.ISet2.HInt.mulh; short_rounds = g.F.SqrtHelper.SET2_ROUNDS; rounds = g.F.SqrtHelper.FINAL_ROUNDS } in
    let rec = c.goldschmidt-r2_u0.ensures.rec
    ∙ ap₂ (λ x y. (gold (2 ^ (a - 2)) g.F.ISet2.HInt.mulh x false (g.F.ISet2.Int.nat c.first_guess.result) y).rec) c.SET2_ROUNDS.ensures c.upper.ensures in
    let root = c.goldschmidt-s_u2.ensures.root ∙ ap₂ (λ x y. (gold (2 ^ (b - 2)) g.F.Int.HInt.mulh x true y M).root) c.FINAL_ROUNDS.ensures c.widened.ensures in
    kept_word g.F.Layout.shape g.F.Layout.sound P g.met.F.SqrtHelper.keeps g.met.F.Layout.whole g.met.F.Int.Int.wide (g.F.Int.Int.nat c.args.ix) M mi
    (g.F.ISet2.Int.nat c.first_guess.result) (g.F.ISet2.Int.nat c.goldschmidt-r2_u0.result.0) (g.F.Int.Int.nat c.goldschmidt-s_u2.result.1) (g.F.Int.Int.nat c.shr.result) c.EXP_BITS.result
    c.first_guess.ensures rec root (c.EXP_BITS.ensures ∙ g.met.F.Layout.fields.exp_bits) c.shr.ensures.value
