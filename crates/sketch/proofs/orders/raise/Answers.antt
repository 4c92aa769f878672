-- A key's stored count grows by 1 in both trees.
use Rattle.sketch.proofs.Tying.{ranks_arranged, rank_there, rank_raised, has_raised}
use Rattle.sketch.proofs.orders.raise.Goals as goal

pub exchange-requires-clause-arranged : goal.exchange-requires-clause-arranged
exchange-requires-clause-arranged g c = ranks_arranged _ _ c.requires.tied

pub exchange-requires-clause-there : goal.exchange-requires-clause-there
exchange-requires-clause-there g c = rank_there _ _ c.requires.tied _ _ c.requires.there

pub exchange-requires-clause-other : goal.exchange-requires-clause-other
exchange-requires-clause-other g c = rank_raised _ _ c.requires.tied _ _ c.requires.there

pub returns : goal.returns
returns g c =
    has_raised _ _ _ _ _ _ c.args.count c.requires.tied c.requires.there c.change.ensures.entries c.change.ensures.others c.change.ensures.arranged c.exchange.ensures
