-- No number passes 32 bits, and the key that leaves is the least.
use Rattle.std.proofs.Common.{rules, arith}
use Rattle.sketch.proofs.Contents.{lowerings_few}
use Rattle.sketch.proofs.Tying.{first_least, unheld_is}
use Rattle.sketch.proofs.Steps.{sketch_stands, took_replaced}
use Rattle.sketch.proofs.taking.take_new.Goals as goal

pub overflow_add-facts-in_default : goal.overflow_add-facts-in_default
overflow_add-facts-in_default g c =
    omega (
      arith,
      c.requires.room,
      lowerings_few g.K.Kind.less (record { facts = c.args.facts.now; orders = record { keys = c.args.keys.now; ranks = c.args.ranks.now } })
          (sketch_stands _ _ c.requires.sketch),
    )

pub overflow_add-coming : goal.overflow_add-coming
overflow_add-coming g c =
    omega (
      arith,
      c.requires.room,
      lowerings_few g.K.Kind.less (record { facts = c.args.facts.now; orders = record { keys = c.args.keys.now; ranks = c.args.ranks.now } })
          (sketch_stands _ _ c.requires.sketch),
    )

pub replace-requires-clause-least : goal.replace-requires-clause-least
replace-requires-clause-least g c = first_least _ _ c.requires.tied _ _ (search rules)

pub replace-requires-clause-other : goal.replace-requires-clause-other
replace-requires-clause-other g c = unheld_is _ _ _ c.requires.new

pub returns : goal.returns
returns g c = search (rules, took_replaced)
