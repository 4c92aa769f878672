-- No number passes 32 bits, and what is not found is not held.
use Rattle.std.proofs.Common.{rules, arith, sym, ◌∙◌}
use Rattle.keys.specs.declared.held.Held.TheVariants.{Real}
use Rattle.sketch.proofs.Contents.{stored_few}
use Rattle.sketch.proofs.Tying.{is_unheld}
use Rattle.sketch.proofs.Steps.{sketch_stands}
use Rattle.sketch.proofs.taking.take_key.Goals as goal

pub raise-requires-clause-room : goal.raise-requires-clause-room
raise-requires-clause-room g c =
    omega (
      arith,
      c.requires.room,
      stored_few g.K.Kind.less (record { facts = c.args.facts.now; orders = record { keys = c.args.keys.now; ranks = c.args.ranks.now } }) (Real c.args.key) _
          (sketch_stands _ _ c.requires.sketch) (sym c.find.ensures ∙ c.in-Some.is),
    )

pub take_new-requires-clause-new : goal.take_new-requires-clause-new
take_new-requires-clause-new g c = is_unheld _ _ _ (sym c.find.ensures ∙ search rules)
