use Rattle.std.proofs.Common.{◌+◌, ◌%◌, ◌^◌, ap, ◌∙◌}
use Rattle.std.proofs.lemmas.Nat.{pow_pos}
use Rattle.width.proofs.Order.{less_true, less_false}
use Rattle.rootlaws.proofs.Longhand.{drawn_left, drawn_taken}
use Rattle.root.proofs.Words.{range_is, room_is}
use Rattle.root.proofs.longhand.draw.Goals as goal

pub returns-then-lt : goal.returns-then-lt
returns-then-lt g c M j k h =
    let S = g.L.Layout.shape in
    let t = c.trial.ensures in
    drawn_left (2 ^ (S.sig + S.half)) (2 ^ g.L.Int.Int.BITS) M j _ _ _ (range_is S _ g.met.L.Layout.whole) (pow_pos (S.sig + S.half))
    (room_is S _ g.L.Layout.sound g.met.L.Layout.whole j k) h _ _ _ _ t.drawn t.taken c.shl-root.ensures c.shl-word.ensures
    (less_true g.L.Int.Int.nat _ g.met.L.Int.Int.cmps _ _ _ c.lt.ensures c.if-lt.true)

pub returns-else-lt : goal.returns-else-lt
returns-else-lt g c M j k h =
    let S = g.L.Layout.shape in
    let t = c.trial.ensures in
    let one = c.from_u32.ensures in
    drawn_taken (2 ^ (S.sig + S.half)) (2 ^ g.L.Int.Int.BITS) M j _ _ _ (range_is S _ g.met.L.Layout.whole) (pow_pos (S.sig + S.half))
    (room_is S _ g.L.Layout.sound g.met.L.Layout.whole j k) h _ _ _ _ t.drawn t.taken c.shl-root.ensures c.shl-word.ensures
    (less_false g.L.Int.Int.nat _ g.met.L.Int.Int.cmps _ _ _ c.lt.ensures c.if-lt.false) _ _ (c.wrapping_add-root.ensures ∙ ap (λ x. (g.L.Int.Int.nat c.shl-root.result + x) % 2 ^ g.L.Int.Int.BITS) one) c.wrapping_sub.ensures
