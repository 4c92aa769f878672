-- The list of a summary with noise added, as it is written, and what its entries say of the content.
use Rattle.std.specs.Prelude.{◌≡◌, ℕ, Bool, List, ◌++◌, map, length, drop, ℤ, pos}
use Rattle.model.specs.Contents.{Content}
use Rattle.model.specs.Listing.{listed, IsList}
use Rattle.release.specs.declared.entry.Entry.{Entry}

module _ {K : Type 0} where
  -- a key with its value, as it is written
  abbrev pub entry_of : K × ℤ → Entry K
  entry_of e = record { key = e.0; value = e.1 }

  -- the list of the listing rule, as it is written
  abbrev pub list_of : Content K → (shared : ℤ) (draws : List ℤ) (threshold : ℕ) → List (Entry K)
  list_of C shared draws threshold = map entry_of (listed C shared draws (pos threshold))

  -- the output with these entries at its start; the rest stays
  abbrev pub after_list : (entries old : List (Entry K)) → List (Entry K)
  after_list entries old = entries ++ drop (length entries) old

  -- the entries as keys with their values
  abbrev pub pairs_of : List (Entry K) → List (K × ℤ)
  pairs_of entries = map (λ (e : Entry K). (e.key, e.value)) entries

-- the entries do what the listing rule says in words, and no others do
pub record KeepsListingRule {K : Type 0} (less : K → K → Bool) (C : Content K) (shared : ℤ) (draws : List ℤ) (threshold : ℕ) (entries : List (Entry K)) : Type 0 where
  pub is_list : IsList less C shared draws (pos threshold) (pairs_of entries)
  pub nothing_else : (others : List (Entry K)) → IsList less C shared draws (pos threshold) (pairs_of others) → others ≡ entries
