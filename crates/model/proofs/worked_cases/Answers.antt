-- The worked cases.
use Rattle.model.proofs.WorkedCases.{worked}
use Rattle.model.proofs.worked_cases.Goals as goal

pub returns : goal.returns
returns c = worked
