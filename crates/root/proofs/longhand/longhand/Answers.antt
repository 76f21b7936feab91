use Rattle.std.proofs.Common.{sym, ◌∙◌, eqb-true}
use Rattle.root.proofs.Classes.{zero_root}
use Rattle.root.proofs.longhand.longhand.Goals as goal

pub returns-then-is_zero : goal.returns-then-is_zero
returns-then-is_zero g c = zero_root g.L.Layout.shape _ (eqb-true _ _ (sym c.is_zero.ensures ∙ c.if-is_zero.true))
