-- Handing over, of neighbours and of runs.
use Rattle.model.proofs.Handing.{hands_over, runs_hand_over}
use Rattle.model.proofs.handing_over.Goals as goal

pub returns : goal.returns
returns g c = record { neighbours = hands_over; runs = runs_hand_over }
