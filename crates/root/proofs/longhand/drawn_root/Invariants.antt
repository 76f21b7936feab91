use Rattle.std.proofs.Common.{◌-◌}
use Rattle.root.proofs.Drawn.{Kept}
use Rattle.root.proofs.longhand.drawn_root.Given as goal

abbrev pub invariant-loop-places : goal.invariant-loop-places
invariant-loop-places g l =
    let n = g.L.Int.Int.nat in
    Kept g.L.Layout.shape (n l.initial.hand.word) (l.places.end - l.places.start) (n l.hand.root) (n l.hand.rem) (n l.hand.word)

abbrev pub decreases-loop-places : goal.decreases-loop-places
decreases-loop-places g l = l.places.end - l.places.start
