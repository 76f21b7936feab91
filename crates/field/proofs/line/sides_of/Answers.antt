use Rattle.std.proofs.Common.{◌≡◌, Some, Err}
use Rattle.std.specs.Option.{ok_or}
use Rattle.std.proofs.lemmas.Result.{err_from_is_err_and}
use Rattle.field.specs.declared.refusal.Refusal.TheVariants.{NotPair}
use Rattle.field.specs.Lines.{read}
use Rattle.field.proofs.Outcome.{none_refused, sides_outcome}
use Rattle.field.proofs.line.sides_of.Goals as goal

pub returns-in_err-length : goal.returns-in_err-length
returns-in_err-length c =
    let none : ok_or (read c.args.line.now) NotPair ≡ Err c.in_err-length.field-0.0 = cc c.in_err-length.was in
    let err = err_from_is_err_and c.from_residual.result c.from_residual.ensures.1 in
    rw (err.1, err.2) (none_refused c.args.line.now _ none)

pub returns : goal.returns
returns c =
    let some : read c.args.line.now ≡ Some (c.in_ok-length.length, c.in_ok-length.breadth) = cc c.in_ok-length.ensures.ok_part in
    sides_outcome c.args.line.now _ _ c.new.result some c.new.ensures
