use Rattle.std.proofs.Common.{ℕ, sym, refl, ap, ◌∙◌, add-one}
use Rattle.root.specs.Count.{raised, raised_by}
use Rattle.root.proofs.agree.agree.Goals as goal

pub loop-reading-init : goal.loop-reading-init
unfolding raised_by
loop-reading-init g c = (refl, refl)

-- a count that was raised k times and once more was raised k + 1 times
pub loop-reading-preserved : goal.loop-reading-preserved
unfolding raised_by
loop-reading-preserved g c =
    let step = λ (n : ℕ). ap (λ x. raised_by x n) (sym (add-one c.loop-reading.reading-index)) in
    let inv = c.loop-reading.invariant in
    let both = c.same_answer.ensures in
    (both.first ∙ ap raised inv.0 ∙ step _, both.second ∙ ap raised inv.1 ∙ step _)
