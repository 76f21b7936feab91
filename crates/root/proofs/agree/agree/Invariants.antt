use Rattle.std.proofs.Common.{◌≡◌}
use Rattle.root.specs.Count.{raised_by}
use Rattle.root.proofs.agree.agree.Given as goal

-- each unit has counted the readings before this one
abbrev pub invariant-loop-reading : goal.invariant-loop-reading
invariant-loop-reading g l =
    (g.P.RootUnit.count l.first ≡ raised_by l.reading-index (g.P.RootUnit.count l.initial.first))
    × (g.Q.RootUnit.count l.second ≡ raised_by l.reading-index (g.Q.RootUnit.count l.initial.second))
