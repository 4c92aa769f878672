-- The listing rule in words.
use Rattle.model.proofs.ListingWords.{one_list}
use Rattle.model.proofs.listing_rule.Goals as goal

pub returns : goal.returns
returns g c = one_list
