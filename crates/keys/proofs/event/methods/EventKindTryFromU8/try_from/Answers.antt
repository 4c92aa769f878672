-- The value made is the event kind of its number.
use Rattle.std.proofs.Common.{ap}
use Rattle.keys.specs.Values.{asked}
use Rattle.keys.proofs.Making.{event_made}
use Rattle.keys.proofs.event.methods.EventKindTryFromU8.try_from.Goals as goal

pub returns : goal.returns
returns c = ap asked (event_made _)
