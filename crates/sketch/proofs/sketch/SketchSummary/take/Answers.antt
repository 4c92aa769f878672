-- How the trees lie is part of the invariant.
use Rattle.std.proofs.Common.{subst}
use Rattle.sketch.specs.Sketches.{Laid}
use Rattle.sketch.proofs.Steps.{sketch_laid}
use Rattle.sketch.proofs.sketch.SketchSummary.take.Goals as goal

pub returns-then-self-clause-laid : goal.returns-then-self-clause-laid
returns-then-self-clause-laid g c = subst (λ s. Laid g.K.Kind.less s) c.self.view_is (sketch_laid _ _ c.self.invariant)
