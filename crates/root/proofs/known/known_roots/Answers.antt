use Rattle.std.proofs.Common.{ap, ◌∙◌}
use Rattle.rootlaws.proofs.Floats.{one_root}
use Rattle.root.specs.Count.{raised, raised_by}
use Rattle.root.proofs.Rows.{known_rows, told_rows}
use Rattle.root.proofs.known.known_roots.Goals as goal

pub returns : goal.returns
unfolding raised_by
returns g c =
    let t = told_rows in
    let a = c.root_is.ensures.root t.0 in
    let b = c.root_is-2.ensures.root t.1.0 in
    let d = c.root_is-3.ensures.root t.1.1.0 in
    let e = c.root_is-4.ensures.root t.1.1.1.0 in
    let f = c.root_is-5.ensures.root t.1.1.1.1.0 in
    let h = c.root_is-6.ensures.root t.1.1.1.1.1.0 in
    let n1 = c.root_is.ensures.counted in
    let n2 = c.root_is-2.ensures.counted ∙ ap raised n1 in
    let n3 = c.root_is-3.ensures.counted ∙ ap raised n2 in
    let n4 = c.root_is-4.ensures.counted ∙ ap raised n3 in
    let n5 = c.root_is-5.ensures.counted ∙ ap raised n4 in
    let n6 = c.root_is-6.ensures.counted ∙ ap raised n5 in
    record { rows = known_rows; one = one_root; come = simp (a, b, d, e, f, h); counted = n6 }
