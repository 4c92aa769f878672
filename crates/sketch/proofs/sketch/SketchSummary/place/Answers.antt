-- What the tree by key answers is what is asked of the content.
use Rattle.std.proofs.Common.{sym, ap, ◌∙◌}
use Rattle.std.specs.Prelude.{slice_get}
use Rattle.sketch.specs.Sketches.{content_of}
use Rattle.sketch.proofs.Contents.{places_answer}
use Rattle.sketch.proofs.Steps.{placed_least}
use Rattle.sketch.proofs.sketch.SketchSummary.place.Goals as goal

pub place-requires : goal.place-requires
place-requires g c = λ x m e. placed_least _ _ c.self.invariant c.args.j x m e

pub returns : goal.returns
returns g c =
    c.place.ensures ∙ sym (places_answer (record { facts = c.self.inside.facts; orders = record { keys = c.self.inside.keys; ranks = c.self.inside.ranks } }) c.args.j)
    ∙ ap (λ s. slice_get (content_of s).held c.args.j) c.self.view_is
