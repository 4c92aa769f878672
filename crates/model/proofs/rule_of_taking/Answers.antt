-- The sketch's rule in words.
use Rattle.model.proofs.Words.{ruled}
use Rattle.model.proofs.rule_of_taking.Goals as goal

pub returns : goal.returns
returns g c = ruled
