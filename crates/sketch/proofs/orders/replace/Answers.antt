-- One key comes in for another in both trees.
use Rattle.sketch.proofs.Tying.{keys_arranged, ranks_arranged, rank_there, rank_absent, key_there, key_absent, has_replaced}
use Rattle.sketch.proofs.orders.replace.Goals as goal

pub exchange-requires-clause-arranged : goal.exchange-requires-clause-arranged
exchange-requires-clause-arranged g c = ranks_arranged _ _ c.requires.tied

pub exchange-requires-clause-there : goal.exchange-requires-clause-there
exchange-requires-clause-there g c = rank_there _ _ c.requires.tied _ _ c.requires.least.there

pub exchange-requires-clause-other : goal.exchange-requires-clause-other
exchange-requires-clause-other g c = rank_absent _ _ c.requires.tied _ _ c.requires.other

pub exchange-requires-2-clause-arranged : goal.exchange-requires-2-clause-arranged
exchange-requires-2-clause-arranged g c = keys_arranged _ _ c.requires.tied

pub exchange-requires-2-clause-there : goal.exchange-requires-2-clause-there
exchange-requires-2-clause-there g c = key_there _ _ c.requires.tied _ _ c.requires.least.there

pub exchange-requires-2-clause-other : goal.exchange-requires-2-clause-other
exchange-requires-2-clause-other g c = key_absent _ _ c.requires.tied _ c.requires.other

pub returns : goal.returns
returns g c = has_replaced _ _ _ _ _ c.args.old c.args.new c.requires.tied c.requires.least c.requires.other c.exchange-2.ensures c.exchange.ensures
