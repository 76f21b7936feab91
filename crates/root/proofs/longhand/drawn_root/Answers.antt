use Rattle.std.proofs.Common.{◌≡◌, ◌-◌, ◌≤◌, false, is_some, ◌∙◌, subst, arith}
use Rattle.rootlaws.specs.Longhand.{Held}
use Rattle.root.proofs.Drawn.{quarter, no_place, drawn_nearest}
use Rattle.root.proofs.longhand.drawn_root.Goals as goal

pub returns : goal.returns
returns g c =
    let S = g.L.Layout.shape in
    let n = g.L.Int.Int.nat in
    let h = c.draw-hand.result in
    let left = c.loop-places.places.end - c.loop-places.places.start in
    let none : is_some c.next.result ≡ false = c.is_none.ensures ∙ (let e = c.if-is_none.true in rw e) in
    let z = no_place _ _ _ _ _ c.next.ensures.steps none in
    let k : S.sig - left ≤ S.sig = omega arith in
    let e : S.sig - left ≡ S.sig = omega arith in
    drawn_nearest S g.L.Layout.sound _ g.met.L.Layout.whole _ _ _ _ _ c.requires.0
    (subst (λ x. Held (quarter S) (n c.args.word) (Prim.Native.Nat.suc x) (n h.root) (n h.rem) (n h.word)) e (c.draw-hand.ensures _ _ k c.loop-places.invariant.1))
    c.rounded.ensures.up c.rounded.ensures.down
