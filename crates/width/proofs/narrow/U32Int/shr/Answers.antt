use Rattle.std.proofs.Common.{sym, arith}
use Rattle.width.proofs.Shifts.{right_out}
use Rattle.width.proofs.narrow.U32Int.shr.Goals as goal

pub returns-else-by-lt32 : goal.returns-else-by-lt32
returns-else-by-lt32 c = record { value = sym (right_out 32 c.args.self c.args.by (omega arith) c.if-by-lt32.false); within = omega arith }
