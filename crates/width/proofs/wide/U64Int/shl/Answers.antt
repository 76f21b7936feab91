use Rattle.std.proofs.Common.{sym}
use Rattle.width.proofs.Shifts.{left_out}
use Rattle.width.proofs.wide.U64Int.shl.Goals as goal

pub returns-else-by-lt64 : goal.returns-else-by-lt64
returns-else-by-lt64 c = sym (left_out 64 c.args.self c.args.by c.if-by-lt64.false)
