use Rattle.std.proofs.Common.{◌-◌, ◌^◌}
use Rattle.rootlaws.specs.Gold.{begin, turns}
use Rattle.root.proofs.Turns.{Holds}
use Rattle.root.proofs.goldschmidt.goldschmidt.Given as goal

abbrev pub invariant-loop-i : goal.invariant-loop-i
invariant-loop-i g l =
    let n = g.I.Int.nat in
    Holds (turns (2 ^ (g.I.Int.BITS - 2)) g.I.HInt.mulh l.count l.final_set (begin (n l.initial.r_u0) (n l.initial.s_u2)) l.i) (n l.r_u0) (n l.s_u2) (n l.u_u0)
