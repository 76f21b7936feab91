use Rattle.std.proofs.Common.{◌-◌, ◌*◌, ◌%◌, ◌^◌, cond, sym, refl, ap, ◌∙◌, subst, ap₂}
use Rattle.std.proofs.lemmas.Nat.{pow_pos}
use Rattle.rootlaws.specs.Gold.{Turn, doubles, begin}
use Rattle.root.proofs.Turns.{Holds, quarters, turn_holds, turns_none, turns_more}
use Rattle.root.proofs.goldschmidt.goldschmidt.Goals as goal

pub loop-i-init : goal.loop-i-init
loop-i-init g c =
    let n = g.I.Int.nat in
    let t : Turn = begin (n c.args.r_u0) (n c.args.s_u2) in
    subst (λ x. Holds x (n c.args.r_u0) (n c.args.s_u2) (n c.args.r_u0)) (sym (turns_none (2 ^ (g.I.Int.BITS - 2)) g.I.HInt.mulh c.args.count c.args.final_set t))
    (record { rec = refl; root = refl; fac = refl })

pub loop-i-preserved : goal.loop-i-preserved
loop-i-preserved g c =
    let n = g.I.Int.nat in
    let m = g.I.HInt.mulh in
    let V = 2 ^ (g.I.Int.BITS - 2) in
    let W = 2 ^ g.I.Int.BITS in
    let h = doubles c.args.count c.args.final_set c.loop-i.i in
    let t : Turn = begin (n c.args.r_u0) (n c.args.s_u2) in
    let three = c.shl-three_u2.ensures ∙ ap₂ (λ x y. x * 2 ^ (y - 2) % W) c.from_u32.ensures c.BITS.ensures in
    subst (λ x. Holds x (n c.shl-r_u0.result) (n c.doubled-s_u2.result) (n c.wrapping_sub-u_u0.result)) (sym (turns_more V m c.args.count c.args.final_set t c.loop-i.i))
    (turn_holds V W (quarters g.I.Int.BITS g.met.I.Int.wide) (pow_pos (g.I.Int.BITS - 2)) m (n c.shl-three_u2.result) three h _ (n c.loop-i.r_u0) (n c.loop-i.s_u2) (n c.loop-i.u_u0) _ _ _ _ c.loop-i.invariant
    (c.doubled-s_u2.ensures ∙ ap (λ x. cond h (x * 2 % W) x) c.wmulh.ensures) c.wmulh-d_u2.ensures c.wrapping_sub-u_u0.ensures
    (c.shl-r_u0.ensures ∙ ap (λ x. x * 2 % W) c.wmulh-in-loop-i.ensures))
