-- The two orders stay tied. Idea: a rank is found exactly if its count is the stored count of its key.
use Rattle.std.proofs.Common.{◌≡◌, ◌≢◌, ℕ, ◌+◌, ◌==◌, ◌≤◌, Bool, true, false, cond, ◌&&◌, List, [], ◌∷◌, Option, Some, None, refl, sym, ap, ◌∙◌, subst, arith}
use Rattle.std.proofs.lemmas.Bool.Decides.{nat_tests}
use Rattle.std.specs.List.{AllByRecursion}
use Rattle.std.specs.Map.{lookup}
use Rattle.std.specs.Option.{option_map, is_some}
use Rattle.keys.specs.Orders.{TotalOrder, same}
use Rattle.keys.specs.Helds.{less_held}
use Rattle.keys.specs.Sorted.{Rising}
use Rattle.keys.specs.Totals.{total}
use Rattle.keys.specs.KindOrdersLemmas.{held_total, same_self, same_equal}
use Rattle.keys.specs.declared.held.Held.{Held}
use Rattle.tree.specs.Entries.{Kept, Entries, kept_of, revalued, with_new_value}
use Rattle.tree.proofs.Lists.{kept_with_value}
use Rattle.tree.specs.Trees.{View, OthersStay, Arranged}
use Rattle.sketch.specs.Orders.{Rank, TwoOrders, less_rank, is_stored, stored, TiedAs, Tied, BeyondStays}
use Rattle.sketch.specs.Exchanges.{first_at, NoneAt, FirstAt, Unheld, after_raise, after_exchange, IsLeast, exchanged, Exchanged, HasRaised, HasReplaced}

pub rank_total : {K : Type 0} (less : K → K → Bool) → TotalOrder less → TotalOrder (less_rank less)
rank_total {K} less order =
    let o = held_total less order in
    total (less_rank less) (λ x. let i = o.irreflexive x.second in grind (arith, nat_tests))
    (λ x y a b.
    let first : x.first ≡ y.first = grind (arith, nat_tests) in
    let second : x.second ≡ y.second = o.connected x.second y.second (grind (arith, nat_tests)) (grind (arith, nat_tests)) in
    λ j. record { first = first j; second = second j })
    (λ x y z a b. let t = o.transitive x.second y.second z.second in grind (arith, nat_tests))

-- what is found in rising entries is not below the first of them
module _ {K Y : Type 0} (less : K → K → Bool) (order : TotalOrder less) where
  found_above : (q k : K) (es : List (K × Y)) → AllByRecursion (λ f. less k f.0 ≡ true) es → is_some (lookup (same less q) es) ≡ true → less k q ≡ true
  found_above q k [] a h = cc
  found_above q k (e ∷ es) a h = let r = found_above q k es a.1 in let s = same_equal less order q e.0 in grind arith

  not_below : (q : K) (e : K × Y) (es : List (K × Y)) → Rising less (e ∷ es) → is_some (lookup (same less q) (e ∷ es)) ≡ true → less q e.0 ≡ false
  not_below q e es r h = let a = found_above q e.0 es r.0 in grind arith

stored_is : (o : Option ℕ) (m : ℕ) → is_stored o m ≡ true → o ≡ Some m
stored_is None m e = cc
stored_is (Some v) m e = grind arith

stored_self : (o : Option ℕ) (m : ℕ) → o ≡ Some m → is_stored o m ≡ true
stored_self o m e = grind arith

-- a key that is not held, opened and closed
module _ {K : Type 0} (less : K → K → Bool) (s : TwoOrders K) (x : Held K) where
  pub unheld_is : Unheld less x s → stored less x s ≡ None
  unfolding Unheld
  unheld_is h = h

  pub is_unheld : stored less x s ≡ None → Unheld less x s
  unfolding Unheld
  is_unheld h = h

-- a count is found among the ranks after an exchange exactly if it is stored after it
agree : (a b : Bool) (v w u : ℕ) (o : Option ℕ) → (a ≡ true → o ≡ None) → (b ≡ true → o ≡ Some u) →
    cond ((v == w) && a) true (cond ((v == u) && b) false (is_stored o v)) ≡ is_stored (cond a (Some w) (cond b None o)) v
agree true b v w u o f g = let e = f refl in grind (arith, nat_tests)
agree false true v w u o f g = let e = g refl in grind (arith, nat_tests)
agree false false v w u o f g = grind (arith, nat_tests)

module _ {K : Type 0} (less : K → K → Bool) (s : TwoOrders K) (h : Tied less s) where
  pub tied_parts : TiedAs less s
  unfolding Tied
  tied_parts = h

  ranks_rise : Rising (less_rank less) s.ranks.entries
  unfolding Arranged
  ranks_rise = tied_parts.ranks.rising

  -- the first rank
  found : (x : Held K) (m : ℕ) → stored less x s ≡ Some m → is_some (kept_of (less_rank less) (record { first = m; second = x }) s.ranks.entries) ≡ true
  found x m p = tied_parts.tied m x ∙ stored_self (stored less x s) m p

  least_of : (rank : Rank K) (e : Rank K × Kept (Unit {0})) (es : Entries (Rank K) (Unit {0})) → s.ranks.entries ≡ e ∷ es → e.0 ≡ rank → IsLeast less s rank
  least_of rank e es q r =
      let order = rank_total less tied_parts.ordered in
      let rises : Rising (less_rank less) (e ∷ es) = subst (Rising (less_rank less)) q ranks_rise in
      let above : (x : Held K) (m : ℕ) → stored less x s ≡ Some m → less_rank less (record { first = m; second = x }) rank ≡ false =
      λ x m p.
      subst (λ (k : Rank K). less_rank less (record { first = m; second = x }) k ≡ false) r
      (not_below (less_rank less) order (record { first = m; second = x }) e es rises
      (subst (λ (l : Entries (Rank K) (Unit {0})). is_some (kept_of (less_rank less) (record { first = m; second = x }) l) ≡ true) q (found x m p))) in
      record {
        there = stored_is (stored less rank.second s) rank.first (sym (tied_parts.tied rank.first rank.second) ∙ head_found rank e es q r);
        least = λ x m p. let a = above x m p in grind (arith, nat_tests);
        smallest = λ x p. let a = above x rank.first p in grind (arith, nat_tests);
      }
    where
      head_found : (rank : Rank K) (e : Rank K × Kept (Unit {0})) (es : Entries (Rank K) (Unit {0})) → s.ranks.entries ≡ e ∷ es → e.0 ≡ rank →
          is_some (kept_of (less_rank less) rank s.ranks.entries) ≡ true
      head_found rank e es q r =
          let i = same_self (less_rank less) (rank_total less tied_parts.ordered) e.0 in
          grind arith

  -- the key of the first rank is the least, if it has this count
  pub first_least : (m : ℕ) (old : Held K) → FirstAt m s.ranks.entries old → IsLeast less s (record { first = m; second = old })
  unfolding FirstAt
  first_least m old = go s.ranks.entries refl
    where
      go : (l : Entries (Rank K) (Unit {0})) → s.ranks.entries ≡ l → first_at m l ≡ Some old → IsLeast less s (record { first = m; second = old })
      go [] q p = cc
      go (e ∷ es) q p =
          let first : e.0.first ≡ m = grind (arith, nat_tests) in
          let second : e.0.second ≡ old = grind (arith, nat_tests) in
          least_of (record { first = m; second = old }) e es q (λ j. record { first = first j; second = second j })

  -- and if it has not, while no stored count is less, then none is m
  pub none_first : (m : ℕ) → NoneAt m s.ranks.entries → ((y : Held K) (v : ℕ) → stored less y s ≡ Some v → m ≤ v) →
      (y : Held K) (v : ℕ) → stored less y s ≡ Some v → m + 1 ≤ v
  unfolding NoneAt
  none_first m none least y v p = go s.ranks.entries refl none
    where
      go : (l : Entries (Rank K) (Unit {0})) → s.ranks.entries ≡ l → first_at m l ≡ None → m + 1 ≤ v
      go [] q n = let f = found y v p in let g = ap (λ l. is_some (kept_of (less_rank less) (record { first = v; second = y }) l)) q in cc
      go (e ∷ es) q n =
          let w = least_of e.0 e es q refl in
          let a = w.least y v p in
          let b = least e.0.second e.0.first w.there in
          let c : e.0.first ≢ m = λ i. grind (arith, nat_tests) in
          omega (arith, a, b, c)

  pub keys_arranged : Arranged (less_held less) s.keys
  keys_arranged = tied_parts.keys

  pub ranks_arranged : Arranged (less_rank less) s.ranks
  ranks_arranged = tied_parts.ranks

  pub rank_there : (x : Held K) (m : ℕ) → stored less x s ≡ Some m → kept_of (less_rank less) (record { first = m; second = x }) s.ranks.entries ≢ None
  rank_there x m p none = let f = found x m p in grind arith

  rank_other : (x : Held K) (m : ℕ) → is_stored (stored less x s) m ≡ false → kept_of (less_rank less) (record { first = m; second = x }) s.ranks.entries ≡ None
  rank_other x m p = go (kept_of (less_rank less) (record { first = m; second = x }) s.ranks.entries) (tied_parts.tied m x ∙ p)
    where
      go : (o : Option (Kept (Unit {0}))) → is_some o ≡ false → o ≡ None
      go None q = refl
      go (Some y) q = cc

  -- a key that is held has no other rank
  pub rank_raised : (x : Held K) (m : ℕ) → stored less x s ≡ Some m → kept_of (less_rank less) (record { first = m + 1; second = x }) s.ranks.entries ≡ None
  rank_raised x m p = rank_other x (m + 1) (ap (λ o. is_stored o (m + 1)) p ∙ grind (arith, nat_tests))

  pub rank_absent : (x : Held K) (m : ℕ) → stored less x s ≡ None → kept_of (less_rank less) (record { first = m; second = x }) s.ranks.entries ≡ None
  rank_absent x m p = rank_other x m (ap (λ o. is_stored o m) p)

  pub key_there : (x : Held K) (m : ℕ) → stored less x s ≡ Some m → kept_of (less_held less) x s.keys.entries ≢ None
  key_there x m p none = grind arith

  pub key_absent : (x : Held K) → stored less x s ≡ None → kept_of (less_held less) x s.keys.entries ≡ None
  key_absent x p = go (kept_of (less_held less) x s.keys.entries) p
    where
      go : (o : Option (Kept ℕ)) → option_map (λ y. y.value) o ≡ None → o ≡ None
      go None q = refl
      go (Some y) q = cc

  same_rank : (p q : Rank K) → same (less_rank less) p q ≡ (p.first == q.first) && same (less_held less) p.second q.second
  same_rank p q = grind (arith, nat_tests)

  same_sym : (x y : Held K) → same (less_held less) x y ≡ same (less_held less) y x
  same_sym x y = grind arith

  -- the stored count of a key grows by 1
  module _ (x : Held K) (m : ℕ) (new : TwoOrders K) (there : stored less x s ≡ Some m)
      (keys : (p : Held K) → kept_of (less_held less) p new.keys.entries ≡ option_map (revalued (less_held less) x (m + 1) p) (kept_of (less_held less) p s.keys.entries)) where
    pub raised_stored : (p : Held K) → stored less p new ≡ after_raise less x m s p
    unfolding revalued
    raised_stored p =
        let k = keys p in
        let e = same_equal (less_held less) (held_total less tied_parts.ordered) p x in
        let y = same_sym p x in
        grind arith

    pub raised_tied : ((p : Rank K) → kept_of (less_rank less) p new.ranks.entries ≡ exchanged (less_rank less) (record { first = m; second = x }) (record { first = m + 1; second = x }) tt s.ranks.entries p) →
        Arranged (less_held less) new.keys → Arranged (less_rank less) new.ranks → Tied less new
    unfolding Tied
    raised_tied ranks a b = record {
      ordered = tied_parts.ordered;
      keys = a;
      ranks = b;
      tied = λ v p.
          let k = raised_stored p in
          let r = ranks (record { first = v; second = p }) in
          let e = same_equal (less_held less) (held_total less tied_parts.ordered) p x in
          let now = same_rank (record { first = v; second = p }) (record { first = m + 1; second = x }) in
          let was = same_rank (record { first = v; second = p }) (record { first = m; second = x }) in
          let t = tied_parts.tied v p in
          let f = found x m there in
          grind (arith, nat_tests);
    }

  -- one key comes in for another
  module _ (old q : Rank K) (new : TwoOrders K) (there : stored less old.second s ≡ Some old.first) (other : stored less q.second s ≡ None)
      (keys : (p : Held K) → kept_of (less_held less) p new.keys.entries ≡ exchanged (less_held less) old.second q.second q.first s.keys.entries p) where
    pub replaced_stored : (p : Held K) → stored less p new ≡ after_exchange less old q s p
    replaced_stored p = let k = keys p in grind arith

    pub replaced_tied : ((p : Rank K) → kept_of (less_rank less) p new.ranks.entries ≡ exchanged (less_rank less) old q tt s.ranks.entries p) →
        Arranged (less_held less) new.keys → Arranged (less_rank less) new.ranks → Tied less new
    unfolding Tied
    replaced_tied ranks a b = record {
      ordered = tied_parts.ordered;
      keys = a;
      ranks = b;
      tied = λ v p.
          let k = replaced_stored p in
          let r = ranks (record { first = v; second = p }) in
          let e = same_equal (less_held less) (held_total less tied_parts.ordered) p q.second in
          let d = same_equal (less_held less) (held_total less tied_parts.ordered) p old.second in
          let now = same_rank (record { first = v; second = p }) q in
          let was = same_rank (record { first = v; second = p }) old in
          let f = found old.second old.first there in
          let left : is_some (kept_of (less_rank less) (record { first = v; second = p }) new.ranks.entries)
          ≡ cond ((v == q.first) && same (less_held less) p q.second) true (cond ((v == old.first) && same (less_held less) p old.second) false (is_stored (stored less p s) v)) =
          let t = tied_parts.tied v p in grind arith in
          left ∙ agree (same (less_held less) p q.second) (same (less_held less) p old.second) v q.first old.first (stored less p s)
          (λ a. grind arith) (λ a. grind arith) ∙ ap (λ o. is_stored o v) (sym k);
    }

-- the cells that are not its own are among those that stay
beyond_stays : {K V : Type 0} (s t : View K V) → OthersStay s t → BeyondStays s t
beyond_stays s t o = record { own = o.own; long = o.long; beyond = o.beyond }

module _ {K : Type 0} (less : K → K → Bool) (keys keys' : View (Held K) ℕ) (ranks ranks' : View (Rank K) (Unit {0})) where
  pub has_raised : (x : Held K) (m : ℕ) → Tied less (record { keys = keys; ranks = ranks }) → stored less x (record { keys = keys; ranks = ranks }) ≡ Some m →
      keys'.entries ≡ with_new_value (less_held less) x (m + 1) keys.entries → OthersStay keys keys' → Arranged (less_held less) keys' →
      Exchanged (less_rank less) (record { first = m; second = x }) (record { first = m + 1; second = x }) tt ranks ranks' →
      HasRaised less x (record { keys = keys; ranks = ranks }) (record { keys = keys'; ranks = ranks' })
  unfolding HasRaised Exchanged
  has_raised x m h there e o a r =
      let s : TwoOrders K = record { keys = keys; ranks = ranks } in
      let t : TwoOrders K = record { keys = keys'; ranks = ranks' } in
      let looked : (p : Held K) → kept_of (less_held less) p keys'.entries ≡ option_map (revalued (less_held less) x (m + 1) p) (kept_of (less_held less) p keys.entries) =
      λ p. ap (kept_of (less_held less) p) e ∙ kept_with_value (less_held less) (held_total less (tied_parts less s h).ordered) x (m + 1) p keys.entries in
      record {
        count = m;
        was = there;
        lookups = raised_stored less s h x m t there looked;
        tied = raised_tied less s h x m t there looked r.lookups a r.arranged;
        stays = (beyond_stays keys keys' o, r.beyond);
      }

  pub has_replaced : (old new : Rank K) → Tied less (record { keys = keys; ranks = ranks }) → IsLeast less (record { keys = keys; ranks = ranks }) old →
      stored less new.second (record { keys = keys; ranks = ranks }) ≡ None → Exchanged (less_held less) old.second new.second new.first keys keys' →
      Exchanged (less_rank less) old new tt ranks ranks' → HasReplaced less old.first new (record { keys = keys; ranks = ranks }) (record { keys = keys'; ranks = ranks' })
  unfolding HasReplaced Exchanged
  has_replaced old new h least other k r =
      let s : TwoOrders K = record { keys = keys; ranks = ranks } in
      let t : TwoOrders K = record { keys = keys'; ranks = ranks' } in
      record {
        old = old.second;
        least = least;
        lookups = replaced_stored less s h old new t least.there other k.lookups;
        tied = replaced_tied less s h old new t least.there other k.lookups r.lookups k.arranged r.arranged;
        stays = (k.beyond, r.beyond);
      }
