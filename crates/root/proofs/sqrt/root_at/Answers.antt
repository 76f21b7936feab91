use Rattle.std.proofs.Common.{◌+◌, ◌*◌, ◌^◌, ◌<◌, sym, ap, ◌∙◌, subst}
use lib.Bits.{bit_or}
use Rattle.rootlaws.specs.Split.{lift}
use Rattle.rootlaws.specs.Whole.{Nearest}
use Rattle.root.proofs.Classes.{joined_at, word_root}
use Rattle.root.proofs.Ported.{word_at_range}
use Rattle.root.proofs.sqrt.root_at.Goals as goal

pub returns : goal.returns
returns g c b s =
    let S = g.F.Layout.shape in
    let ok = g.F.Layout.sound in
    let whole = g.met.F.Layout.whole in
    let r = c.reduced.ensures b s in
    let m = g.F.Int.Int.nat c.decided-m.result in
    let u = subst (λ y. y < 4 * 2 ^ (S.sig + S.half)) (sym r.1) (word_at_range S (g.F.Int.Int.nat c.args.x.ix)).1 in
    let near = subst (λ y. Nearest (y * 2 ^ lift S) m) r.0 (c.decided-m.ensures u (c.kept.ensures r.1)) in
    word_root S ok b s.some s.finite g.F.Int.Int.BITS whole m near _
    (c.bitor.ensures ∙ ap (λ y. bit_or y (g.F.Int.Int.nat c.reduced.result.1)) c.bitand.ensures ∙ joined_at S ok b s.some s.finite g.F.Int.Int.BITS whole m near _ _ (ap g.F.Int.Int.nat c.SIG_MASK.ensures ∙ g.met.F.Layout.fields.sig_mask) r.2)
