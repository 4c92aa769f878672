-- The laws of `Rounds` at the answer.
use Rattle.std.proofs.Common.{length}
use Rattle.records.specs.Values.{value_of}
use Rattle.records.proofs.Rounds.{write_laws}
use Rattle.records.proofs.writer.write.Goals as goal

pub returns-clause-laws : goal.returns-clause-laws
returns-clause-laws c = write_laws (value_of c.args.given.now) (length c.args.out.now) _ c.write_checked.ensures.answer
