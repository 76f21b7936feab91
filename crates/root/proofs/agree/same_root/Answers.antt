use Rattle.std.proofs.Common.{sym, ap, ◌∙◌}
use lib.Ieee.{to_bits}
use Rattle.width.proofs.Order.{same_true}
use Rattle.rootlaws.proofs.Floats.{one_root}
use Rattle.root.proofs.agree.same_root.Goals as goal

-- Both answers are nearest roots of one reading, so they are one float, with one pattern.
pub returns-clause-same : goal.returns-clause-same
returns-clause-same g c =
    let f = g.W.Width.fmt in
    let one = one_root f (g.W.Width.val c.args.v) _ _ c.root_from.ensures.nearest c.root_from-2.ensures.nearest in
    same_true g.W.Int.Int.nat _ g.met.W.Int.Int.eqs _ _ _ c.eq.ensures (c.to_pattern.ensures ∙ ap (to_bits f) one ∙ sym c.to_pattern-2.ensures)
