-- The value made is the lens of its bits.
use Rattle.lenses.proofs.Making.{lens_made}
use Rattle.lenses.proofs.prefix.PrefixLens.make.Goals as goal

pub returns : goal.returns
returns c = lens_made _
