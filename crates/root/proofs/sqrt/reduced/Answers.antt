use Rattle.std.proofs.Common.{◌∙◌}
use Rattle.root.proofs.Ported.{stored_word, stored_parity, exp_place, exp_shifted}
use Rattle.root.proofs.sqrt.reduced.Goals as goal

pub returns-then-BITS-le32 : goal.returns-then-BITS-le32
returns-then-BITS-le32 g c b s =
    let S = g.F.Layout.shape in
    let ok = g.F.Layout.sound in
    let r = c.reduced_in_place.ensures in
    (r.word ∙ stored_word S ok b _ _ s, r.word, exp_place S ok b _ _ s _ r.exp)

pub returns-else-BITS-le32 : goal.returns-else-BITS-le32
returns-else-BITS-le32 g c b s =
    let S = g.F.Layout.shape in
    let ok = g.F.Layout.sound in
    let r = c.reduced_shifted.ensures in
    let w = r.word (stored_parity S ok b _ _ s) in
    (w ∙ stored_word S ok b _ _ s, w, exp_shifted S ok b _ _ s _ _ g.met.F.Layout.whole r.exp)
