-- What a tally keeps.
use Rattle.model.proofs.TallyLaws.{tally_keeps}
use Rattle.model.proofs.tally_laws.Goals as goal

pub returns : goal.returns
returns c = tally_keeps
