use Rattle.std.proofs.Common.{sym, arith}
use Rattle.width.proofs.Shifts.{right_out}
use Rattle.width.proofs.wide.U64Int.shr.Goals as goal

pub returns-else-by-lt64 : goal.returns-else-by-lt64
returns-else-by-lt64 c = record { value = sym (right_out 64 c.args.self c.args.by (omega arith) c.if-by-lt64.false); within = omega arith }
