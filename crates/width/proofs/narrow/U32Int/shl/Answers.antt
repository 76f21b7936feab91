use Rattle.std.proofs.Common.{sym}
use Rattle.width.proofs.Shifts.{left_out}
use Rattle.width.proofs.narrow.U32Int.shl.Goals as goal

pub returns-else-by-lt32 : goal.returns-else-by-lt32
returns-else-by-lt32 c = sym (left_out 32 c.args.self c.args.by c.if-by-lt32.false)
