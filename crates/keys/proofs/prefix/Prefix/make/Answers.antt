-- The value made is the prefix of its address and length.
use Rattle.std.proofs.Common.{ap}
use Rattle.keys.specs.Values.{asked}
use Rattle.keys.proofs.Making.{prefix_made}
use Rattle.keys.proofs.prefix.Prefix.make.Goals as goal

pub returns : goal.returns
returns c = ap asked (prefix_made _)
