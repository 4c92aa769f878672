-- A key that comes in at its place: what holds of all keys, and that they rise. Idea: it passes the keys that are less.
use Rattle.std.proofs.Common.{◌≡◌, ◌≢◌, Bool, true, List, [], ◌∷◌, rules}
use Rattle.std.specs.List.{AllByRecursion}
use Rattle.keys.specs.Orders.{TotalOrder}
use Rattle.keys.specs.Sorted.{Rising, insert_sorted}

module _ {X Y : Type 0} (less : X → X → Bool) where
  pub all_insert : (P : X → Type 0) (e : X × Y) (h : List (X × Y)) → P e.0 → AllByRecursion (λ f. P f.0) h → AllByRecursion (λ f. P f.0) (insert_sorted less e h)
  all_insert P e [] p all = (p, tt)
  all_insert P e (f ∷ h) p all = let r = all_insert P e h p all.1 in search rules

  -- what is above k is above each j before k
  pub above_more : TotalOrder less → (j k : X) (h : List (X × Y)) → less j k ≡ true → AllByRecursion (λ f. less k f.0 ≡ true) h → AllByRecursion (λ f. less j f.0 ≡ true) h
  above_more order j k [] before all = tt
  above_more order j k (f ∷ h) before all = (order.transitive j k f.0 before all.0, above_more order j k h before all.1)

  pub rising_insert : TotalOrder less → (e : X × Y) (h : List (X × Y)) → Rising less h → AllByRecursion (λ f. e.0 ≢ f.0) h → Rising less (insert_sorted less e h)
  rising_insert order e [] rising apart = (tt, tt)
  rising_insert order e (f ∷ h) rising apart =
      let r = rising_insert order e h rising.1 apart.1 in
      search (rules, all_insert (λ k. less f.0 k ≡ true) e h, above_more order e.0 f.0 h)
