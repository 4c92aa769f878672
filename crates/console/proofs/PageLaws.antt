-- A page keeps the law of pages, of the keys that the sketch took, and a count that of its key. Idea: a sketch admits every key, so these are a list of
-- entries, of which the law of pages speaks.
use Rattle.std.proofs.Common.{◌≡◌, ℕ, ◌<◌, ◌≤◌, true, Bool, List, [], ◌∷◌, map, length, take, filter, Some, None, Option, refl, ap, subst, arith, rules}
use Rattle.std.specs.Prelude.{nat_lt}
use Rattle.std.specs.List.{AllByRecursion}
use Rattle.std.proofs.lemmas.List.{length-take}
use Rattle.keys.specs.Orders.{TotalOrder, by_parts}
use Rattle.keys.specs.declared.pair.Pair.{Pair}
use Rattle.records.specs.Logs.{log_of}
use Rattle.model.specs.Pages.{page_lines}
use Rattle.model.specs.Plans.{after, most_entries}
use Rattle.model.specs.Sketches.{sketch}
use Rattle.model.proofs.SketchLaws.{sketch_lawful}
use Rattle.pages.specs.Pages.{line_of, PageLaw}
use Rattle.pages.proofs.Truth.{lines_true}
use Rattle.console.specs.declared.part.Part.{Part}
use Rattle.console.specs.declared.lens.Lenses.{Lenses}
use Rattle.console.specs.Parts.{less_part}
use Rattle.console.specs.PartsLemmas.{part_total}
use Rattle.console.specs.Fed.{content_after}
use Rattle.feeding.specs.Feeding.{added}
use Rattle.console.specs.Lenses.{parts_given}
use Rattle.console.specs.Asked.{less_key, plan, LogPageLaw}
use Rattle.console.specs.Counts.{CountLaw}
use Rattle.console.specs.Numbers.{NumberPageLaw}

number_total : TotalOrder nat_lt
number_total = search rules

pairs_total : {A B : Type 0} (la : A → A → Bool) (lb : B → B → Bool) → TotalOrder la → TotalOrder lb → TotalOrder (λ (p q : Pair A B). by_parts la lb p.first p.second q.first q.second)
pairs_total la lb a b = search rules

key_total : TotalOrder less_key
key_total = pairs_total less_part less_part part_total part_total

few : {X : Type 0} (n : ℕ) (xs : List X) → length (take n xs) ≤ n
few n xs = omega (arith, length-take n xs)

module _ {K : Type 0} (less : K → K → Bool) (order : TotalOrder less) (k limit : ℕ) where
  -- a sketch admits every key
  all_admitted : (es : List K) → AllByRecursion (λ x. (sketch less k).admits x ≡ true) es
  all_admitted [] = tt
  all_admitted (x ∷ es) = (refl, all_admitted es)

  page_law : (es : List K) → length es ≤ most_entries → (after (sketch less k) es).l < limit →
      PageLaw less es limit (map line_of (page_lines (after (sketch less k) es) limit))
  page_law es within low =
      lines_true less order (sketch less k) (sketch_lawful less order k) (after (sketch less k) es) limit low es (record { admitted = all_admitted es; few = within }) refl

pub log_page_law : (k : ℕ) (bs : List ℕ) (lenses : Option Lenses) (limit : ℕ) → LogPageLaw k bs lenses limit
unfolding LogPageLaw content_after
log_page_law k bs None limit = tt
log_page_law k bs (Some a) limit = page_law less_key key_total k limit _ (few most_entries _)

pub count_law : (k : ℕ) (bs : List ℕ) (asked : Option (Lenses × Pair Part Part)) → CountLaw k bs asked
unfolding CountLaw content_after
count_law k bs None = tt
count_law k bs (Some p) =
    let es = added (plan k) (plan k).fresh (parts_given p.0) (log_of bs).records in
    let b = (sketch_lawful less_key key_total k).bounded es (record { admitted = all_admitted less_key key_total k 0 es; few = few most_entries _ }) in
    (b.at_most p.1, b.at_least p.1)

-- the filter of a sketch lets all pass
all_pass : {X : Type 0} (xs : List X) → filter (λ (x : X). true) xs ≡ xs
all_pass [] = refl
all_pass (x ∷ xs) = ap (λ ys. x ∷ ys) (all_pass xs)

pub number_page_law : (es : List ℕ) (k limit : ℕ) → NumberPageLaw es k limit
unfolding NumberPageLaw
number_page_law es k limit low =
    subst (λ xs. PageLaw nat_lt xs limit (map line_of (page_lines (after (sketch nat_lt k) (take most_entries (filter (λ (x : ℕ). true) es))) limit)))
    (ap (take most_entries) (all_pass es)) (page_law nat_lt number_total k limit _ (few most_entries _) low)
