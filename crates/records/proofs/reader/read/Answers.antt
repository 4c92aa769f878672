-- The laws of `Rounds` at the answer.
use Rattle.records.proofs.Rounds.{slice_read_laws}
use Rattle.records.proofs.reader.read.Goals as goal

pub returns-clause-laws : goal.returns-clause-laws
returns-clause-laws c = slice_read_laws c.args.input.now c.type_inv.input _ c.read_checked.ensures
