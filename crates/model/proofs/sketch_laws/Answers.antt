-- What a sketch keeps.
use Rattle.model.proofs.SketchLaws.{sketch_keeps}
use Rattle.model.proofs.sketch_laws.Goals as goal

pub returns : goal.returns
returns g c = sketch_keeps
