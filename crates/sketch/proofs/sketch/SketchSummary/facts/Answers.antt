-- The laws are part of the invariant.
use Rattle.std.proofs.Common.{subst}
use Rattle.summaries.specs.Calls.{Stands}
use Rattle.sketch.specs.Sketches.{content_of}
use Rattle.sketch.proofs.Steps.{sketch_stands}
use Rattle.sketch.proofs.sketch.SketchSummary.facts.Goals as goal

pub returns-clause-stands : goal.returns-clause-stands
returns-clause-stands g c = subst (λ s. Stands g.K.Kind.less (content_of s)) c.self.view_is (sketch_stands _ _ c.self.invariant)
