-- The entries keep the listing rule in words. Idea: the rule says it of keys with their values, and an entry is just
-- such a pair.
use Rattle.std.proofs.Common.{◌≡◌, ℕ, Bool, List, [], ◌∷◌, map, length, take, ℤ, pos, ◌≤◌, sym, refl, ap, ◌∙◌, subst, ◌<◌, ◌^◌, w32, to_z, of_z}
use lib.Signed.{mag}
use Rattle.std.proofs.lemmas.Int.{to_z-of_z}
use Rattle.std.proofs.lemmas.List.{take_at}
use Rattle.keys.specs.Orders.{TotalOrder}
use Rattle.model.specs.Contents.{Content}
use Rattle.model.specs.Laws.{HoldsK}
use Rattle.model.specs.Listing.{listed, IsList}
use Rattle.model.proofs.ListingWords.{one_list}
use Rattle.release.specs.declared.entry.Entry.{Entry}
use Rattle.release.specs.Lists.{entry_of, list_of, after_list, pairs_of, KeepsListingRule}
use Rattle.release.proofs.Listed.{SoFar, entries_number, entries_written}

pairs_back : {K : Type 0} (r : List (K × ℤ)) → pairs_of (map entry_of r) ≡ r
pairs_back [] = refl
pairs_back (e ∷ r) = ap (λ q. e ∷ q) (pairs_back r)

entries_back : {K : Type 0} (es : List (Entry K)) → map entry_of (pairs_of es) ≡ es
entries_back [] = refl
entries_back (e ∷ es) = ap (λ q. e ∷ q) (entries_back es)

module _ {K : Type 0} (less : K → K → Bool) (order : TotalOrder less) (C : Content K) (holds : HoldsK less C) (s : ℤ) (ds : List ℤ) (t : ℕ) (long : length ds ≡ C.k) where
  list_keeps : KeepsListingRule less C s ds t (list_of C s ds t)
  list_keeps =
      let one = one_list less order C holds s ds (pos t) long in
      record {
        is_list = subst (IsList less C s ds (pos t)) (sym (pairs_back (listed C s ds (pos t)))) one.is_list;
        nothing_else = λ others is. sym (entries_back others) ∙ ap (map entry_of) (one.nothing_else (pairs_of others) is);
      }

-- what is answered and written in the end
pub record Written {K : Type 0} (less : K → K → Bool) (C : Content K) (s : ℤ) (ds : List ℤ) (t : ℕ) (old output : List (Entry K)) (written : ℕ) : Type 0 where
  pub answer : written ≡ length (list_of C s ds t)
  pub output_is : output ≡ after_list (list_of C s ds t) old
  pub rule : KeepsListingRule less C s ds t (take written output)

-- the shared draw is read from a word of 32 bits
pub all_written : {K : Type 0} (less : K → K → Bool) (order : TotalOrder less) (C : Content K) (holds : HoldsK less C) (s : ℤ) (ds : List ℤ) (t : ℕ) (old output : List (Entry K)) (j written : ℕ) →
    mag s < 2 ^ 31 → length ds ≡ C.k → SoFar C (to_z w32 (of_z w32 s)) ds t old output j written → length ds ≤ j → Written less C s ds t old output written
all_written less order C holds s ds t old output j written fits long f all =
    let is = to_z-of_z w32 s (record { sfits = fits }) in
    let number = entries_number C (to_z w32 (of_z w32 s)) ds t old output j written f all ∙ ap (λ n. length (list_of C n ds t)) is in
    let output_is = entries_written C (to_z w32 (of_z w32 s)) ds t old output j written f all ∙ ap (λ n. after_list (list_of C n ds t) old) is in
    record {
      answer = number;
      output_is = output_is;
      rule = subst (KeepsListingRule less C s ds t) (sym (ap (take written) output_is ∙ take_at (list_of C s ds t) _ written (sym number))) (list_keeps less order C holds s ds t long);
    }
