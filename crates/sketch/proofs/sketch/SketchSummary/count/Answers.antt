-- What the tree by key answers is what is asked of the content.
use Rattle.std.proofs.Common.{sym, ap, ◌∙◌}
use Rattle.keys.specs.declared.held.Held.TheVariants.{Real}
use Rattle.summaries.specs.Calls.{count_answer}
use Rattle.sketch.specs.Sketches.{content_of}
use Rattle.sketch.proofs.Contents.{counts_answer}
use Rattle.sketch.proofs.Steps.{stored_least}
use Rattle.sketch.proofs.sketch.SketchSummary.count.Goals as goal

pub count-requires : goal.count-requires
count-requires g c = λ m e. stored_least _ _ c.self.invariant (Real c.args.key.now) m e

pub returns : goal.returns
returns g c =
    c.count.ensures ∙ sym (counts_answer g.K.Kind.less (record { facts = c.self.inside.facts; orders = record { keys = c.self.inside.keys; ranks = c.self.inside.ranks } }) c.args.key.now)
    ∙ ap (λ s. count_answer g.K.Kind.less (content_of s) c.args.key.now) c.self.view_is
