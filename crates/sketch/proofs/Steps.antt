-- A key that is raised, one that lowers all counts, and one that comes in for another: each is what the rule in words
-- says. Idea: what each tree finds of a key tells whether the content holds it, and how it counts.
use Rattle.std.proofs.Common.{◌≡◌, ◌≢◌, ℕ, zero, suc, ◌+◌, ◌≤◌, Bool, true, false, [], ◌∷◌, Option, Some, None, ltb, refl, sym, ap, ◌∙◌, subst, inl, inr, arith}
use Rattle.std.specs.List.{AllByRecursion}
use Rattle.keys.specs.Sorted.{Rising}
use Rattle.std.specs.Option.{is_some, option_map, unwrap_or}
use Rattle.std.specs.Prelude.{slice_get}
use Rattle.std.proofs.lemmas.Bool.Decides.{nat_tests}
use Rattle.keys.specs.Orders.{TotalOrder, same}
use Rattle.keys.specs.Helds.{less_held}
use Rattle.keys.specs.KindOrdersLemmas.{held_total, same_equal, same_self}
use Rattle.keys.specs.declared.held.Held.{Held}
use Rattle.keys.specs.declared.held.Held.TheVariants.{Real}
use Rattle.model.specs.Contents.{holds, count_of}
use Rattle.model.specs.Sketches.{sketch, sketch_rule}
use Rattle.model.specs.Taking.{Raises, Lowers, Replaces, Takes}
use Rattle.summaries.specs.declared.answers.Taken.{Taken}
use Rattle.summaries.specs.declared.answers.Taken.TheVariants.{Raised, Lowered, Replaced}
use Rattle.summaries.specs.Calls.{done, Stands}
use Rattle.sketch.specs.Orders.{TwoOrders, stored, Tied, CellsStay}
use Rattle.sketch.specs.OrdersLemmas.{cells_same}
use Rattle.sketch.specs.Exchanges.{after_raise, after_exchange, NoneAt, Unheld, IsLeast, HasRaised, HasReplaced}
use Rattle.tree.specs.Entries.{Entries, item, value_of}
use Rattle.tree.specs.Trees.{Arranged}
use Rattle.sketch.specs.Sketches.{SketchView, content_of, Laid, IsSketchAs, IsSketch, Took}
use Rattle.sketch.proofs.Tying.{tied_parts, first_least, none_first}
use Rattle.sketch.proofs.Contents.{holds_is, count_is, rising_content, stands_step, rule_is}

-- one entry more, with l lowerings and these trees
abbrev pub one_entry_more : {K : Type 0} → SketchView K → ℕ → TwoOrders K → SketchView K
one_entry_more s l t = record { facts = record { k = s.facts.k; n = s.facts.n + 1; l = l }; orders = t }

-- the j-th key is found with the value that stands beside it
module _ {K V : Type 0} (less : K → K → Bool) (order : TotalOrder less) where
  above_placed : (k : K) (es : Entries K V) (j : ℕ) (y : K) (v : V) → AllByRecursion (λ f. less k f.0 ≡ true) es → option_map item (slice_get es j) ≡ Some (y, v) → less k y ≡ true
  above_placed k [] j y v a e = cc
  above_placed k (f ∷ es) zero y v a e = let b = a.0 in let p = ap (λ o. unwrap_or (option_map (λ x. x.0) o) f.0) e in subst (λ z. less k z ≡ true) p b
  above_placed k (f ∷ es) (suc j) y v a e = above_placed k es j y v a.1 e

  placed_found : (es : Entries K V) (j : ℕ) (y : K) (v : V) → Rising less es → option_map item (slice_get es j) ≡ Some (y, v) → value_of less y es ≡ Some v
  placed_found [] j y v r e = cc
  placed_found (f ∷ es) zero y v r e =
      let p : f.0 ≡ y = ap (λ o. unwrap_or (option_map (λ x. x.0) o) f.0) e in
      let i = same_self less order y in
      grind arith
  placed_found (f ∷ es) (suc j) y v r e =
      let b = above_placed f.0 es j y v r.0 e in
      let q = placed_found es j y v r.1 e in
      grind arith

module _ {K : Type 0} (less : K → K → Bool) (s : SketchView K) (h : IsSketch less s) where
  parts : IsSketchAs less s
  unfolding IsSketch
  parts = h

  pub sketch_tied : Tied less s.orders
  sketch_tied = parts.laid.tied

  pub sketch_laid : Laid less s
  sketch_laid = parts.laid

  pub sketch_stands : Stands less (content_of s)
  sketch_stands = parts.stands

  order : TotalOrder less
  order = (tied_parts less s.orders parts.laid.tied).ordered

  order' : TotalOrder (less_held less)
  order' = held_total less order

  -- no stored count is less than l, so a count can be told
  pub stored_least : (y : Held K) (m : ℕ) → stored less y s.orders ≡ Some m → s.facts.l ≤ m
  stored_least = parts.laid.least

  pub placed_least : (j : ℕ) (y : Held K) (m : ℕ) → option_map item (slice_get s.orders.keys.entries j) ≡ Some (y, m) → s.facts.l ≤ m
  unfolding Arranged
  placed_least j y m e = parts.laid.least y m (placed_found (less_held less) order' s.orders.keys.entries j y m (tied_parts less s.orders parts.laid.tied).keys.rising e)

module _ {K : Type 0} (less : K → K → Bool) (s : SketchView K) (h : IsSketch less s) (x : K) where
  own : IsSketchAs less s
  own = parts less s h

  -- what a step leaves is a sketch with the rule's content, if the step fits the words
  took : (l : ℕ) (t : TwoOrders K) → Tied less t → CellsStay s.orders t →
      (a : Taken) → Takes less (content_of s) (Real x) (content_of (one_entry_more s l t)) → ((y : Held K) (m : ℕ) → stored less y t ≡ Some m → l ≤ m) →
      a ≡ done less (sketch less s.facts.k) (content_of s) x → (a ≡ Lowered → t ≡ s.orders) → Took less s x a (one_entry_more s l t)
  unfolding IsSketch Took content_of
  took l t tied stays a takes least answer lowering =
      let same_content : content_of (one_entry_more s l t) ≡ sketch_rule less (content_of s) x =
      rule_is less (order less s h) (content_of s) (content_of (one_entry_more s l t)) x own.stands.holds_k.rising takes in
      let laid : Laid less (one_entry_more s l t) =
      record { tied = tied; key_cells = stays.0.own ∙ own.laid.key_cells; rank_cells = stays.1.own ∙ own.laid.rank_cells; least = least } in
      record {
        is = record {
          some = own.some;
          few = own.few;
          laid = laid;
          stands = subst (Stands less) (sym same_content) (stands_step less (order less s h) (content_of s) x own.stands);
        };
        laid = laid;
        k_same = refl;
        content = same_content;
        answer = answer;
        stays = stays;
        lowering = lowering;
      }

  -- other keys are not the same
  apart : (y z : Held K) → (y ≢ z) → same (less_held less) y z ≡ false
  apart y z d = go (same (less_held less) y z) refl
    where
      go : (b : Bool) → same (less_held less) y z ≡ b → same (less_held less) y z ≡ false
      go true p = absurd (d (same_equal (less_held less) (order' less s h) y z p))
      go false p = p

  raises : (t : TwoOrders K) (m : ℕ) → stored less (Real x) s.orders ≡ Some m → ((p : Held K) → stored less p t ≡ after_raise less (Real x) m s.orders p) →
      Raises less (content_of s) (Real x) (content_of (one_entry_more s s.facts.l t))
  unfolding content_of
  raises t m was lookups = record {
    was_held = holds_is less s (Real x) ∙ ap is_some was;
    keys = λ y.
        let d = holds_is less (one_entry_more s s.facts.l t) y in
        let c = holds_is less s y in
        let k = lookups y in
        let e = same_equal (less_held less) (order' less s h) y (Real x) in
        grind arith;
    more =
        let d = count_is less (one_entry_more s s.facts.l t) (Real x) in
        let c = count_is less s (Real x) in
        let k = lookups (Real x) in
        let i = same_self (less_held less) (order' less s h) (Real x) in
        let o = own.laid.least (Real x) m was in
        grind arith;
    others = λ y n.
        let d = count_is less (one_entry_more s s.facts.l t) y in
        let c = count_is less s y in
        let k = lookups y in
        let a = apart y (Real x) n in
        grind arith;
    lowerings = refl;
  }

  pub took_raised : (t : TwoOrders K) → HasRaised less (Real x) s.orders t → Took less s x Raised (one_entry_more s s.facts.l t)
  unfolding HasRaised content_of
  took_raised t r =
      let w = raises t r.count r.was r.lookups in
      took s.facts.l t r.tied r.stays Raised
      (record { k_same = refl; n_more = refl; rising = rising_content less (one_entry_more s s.facts.l t) r.tied; way = inl w })
      (λ y m e.
      let k = r.lookups y in
      let o = own.laid.least y in
      let p = own.laid.least (Real x) r.count r.was in
      grind arith)
      (let g = w.was_held in grind arith)
      (λ e. cc)

  -- no stored count is l
  lowers : ((y : Held K) (m : ℕ) → stored less y s.orders ≡ Some m → s.facts.l + 1 ≤ m) → stored less (Real x) s.orders ≡ None →
      Lowers less (content_of s) (Real x) (content_of (one_entry_more s (s.facts.l + 1) s.orders))
  unfolding content_of
  lowers least none = record {
    not_held = holds_is less s (Real x) ∙ ap is_some none;
    no_zero = λ y g.
        let c = holds_is less s y in
        let n = count_is less s y in
        let b = least y in
        grind arith;
    keys = λ y. holds_is less (one_entry_more s (s.facts.l + 1) s.orders) y ∙ sym (holds_is less s y);
    fewer = λ y g.
        let c = holds_is less s y in
        let n = count_is less s y in
        let m = count_is less (one_entry_more s (s.facts.l + 1) s.orders) y in
        let b = least y in
        grind arith;
    lowerings = refl;
  }

  pub took_lowered : NoneAt s.facts.l s.orders.ranks.entries → Unheld less (Real x) s.orders → Took less s x Lowered (one_entry_more s (s.facts.l + 1) s.orders)
  unfolding content_of Unheld
  took_lowered first none =
      let least = none_first less s.orders own.laid.tied s.facts.l first own.laid.least in
      let w = lowers least none in
      let takes : Takes less (content_of s) (Real x) (content_of (one_entry_more s (s.facts.l + 1) s.orders)) =
      record { k_same = refl; n_more = refl; rising = rising_content less (one_entry_more s (s.facts.l + 1) s.orders) own.laid.tied; way = inr (inl w) } in
      let same_content = rule_is less (order less s h) (content_of s) (content_of (one_entry_more s (s.facts.l + 1) s.orders)) x own.stands.holds_k.rising takes in
      let grown : s.facts.l + 1 ≡ (sketch_rule less (content_of s) x).l = ap (λ c. c.l) same_content in
      took (s.facts.l + 1) s.orders own.laid.tied (cells_same s.orders) Lowered takes least
      (let n = w.not_held in
      let lt : ltb s.facts.l (s.facts.l + 1) ≡ true = grind (arith, nat_tests) in
      grind arith)
      (λ e. refl)

  at_zero_least : (y old : Held K) → IsLeast less s.orders (record { first = s.facts.l; second = old }) → (o : Option ℕ) → stored less y s.orders ≡ o →
      holds less (content_of s) y ≡ true → count_of less (content_of s) y ≡ 0 → less_held less y old ≡ false
  unfolding content_of
  at_zero_least y old least None q g z = let c = holds_is less s y in cc
  at_zero_least y old least (Some v) q g z =
      let u : unwrap_or (stored less y s.orders) 0 ≡ v = ap (λ o. unwrap_or o 0) q in
      let e : v ≡ s.facts.l = omega (arith, u, z, count_is less s y, own.laid.least y v q) in
      least.smallest y (q ∙ ap Some e)

  -- the smallest key at 0 leaves
  replaces : (t : TwoOrders K) (old : Held K) → IsLeast less s.orders (record { first = s.facts.l; second = old }) →
      ((p : Held K) → stored less p t ≡ after_exchange less (record { first = s.facts.l; second = old }) (record { first = s.facts.l + 1; second = Real x }) s.orders p) →
      stored less (Real x) s.orders ≡ None → Replaces less (content_of s) (Real x) (content_of (one_entry_more s s.facts.l t))
  unfolding content_of
  replaces t old least lookups none =
      let there = least.there in
      let not_x : same (less_held less) old (Real x) ≡ false = apart old (Real x) (λ e. let a = ap (λ k. stored less k s.orders) e in let b = least.there in cc) in
      record {
        not_held = holds_is less s (Real x) ∙ ap is_some none;
        gone = old;
        was_held = holds_is less s old ∙ ap is_some there;
        at_zero = let c = count_is less s old in grind arith;
        smallest = λ y g z. at_zero_least y old least (stored less y s.orders) refl g z;
        left =
            let d = holds_is less (one_entry_more s s.facts.l t) old in
            let k = lookups old in
            let i = same_self (less_held less) (order' less s h) old in
            grind arith;
        came =
            let d = holds_is less (one_entry_more s s.facts.l t) (Real x) in
            let k = lookups (Real x) in
            let i = same_self (less_held less) (order' less s h) (Real x) in
            grind arith;
        keys = λ y n m.
            let d = holds_is less (one_entry_more s s.facts.l t) y in
            let c = holds_is less s y in
            let k = lookups y in
            let a = apart y (Real x) n in
            let b = apart y old m in
            grind arith;
        one =
            let d = count_is less (one_entry_more s s.facts.l t) (Real x) in
            let k = lookups (Real x) in
            let i = same_self (less_held less) (order' less s h) (Real x) in
            grind arith;
        others = λ y n.
            let d = count_is less (one_entry_more s s.facts.l t) y in
            let c = count_is less s y in
            let k = lookups y in
            let a = apart y (Real x) n in
            let e = same_equal (less_held less) (order' less s h) y old in
            grind arith;
        lowerings = refl;
      }

  pub took_replaced : (t : TwoOrders K) → HasReplaced less s.facts.l (record { first = s.facts.l + 1; second = Real x }) s.orders t → Unheld less (Real x) s.orders →
      Took less s x Replaced (one_entry_more s s.facts.l t)
  unfolding HasReplaced content_of Unheld
  took_replaced t r none =
      let w = replaces t r.old r.least r.lookups none in
      let takes : Takes less (content_of s) (Real x) (content_of (one_entry_more s s.facts.l t)) =
      record { k_same = refl; n_more = refl; rising = rising_content less (one_entry_more s s.facts.l t) r.tied; way = inr (inr w) } in
      let same_content = rule_is less (order less s h) (content_of s) (content_of (one_entry_more s s.facts.l t)) x own.stands.holds_k.rising takes in
      let stays : s.facts.l ≡ (sketch_rule less (content_of s) x).l = ap (λ c. c.l) same_content in
      took s.facts.l t r.tied r.stays Replaced takes
      (λ y m e.
      let k = r.lookups y in
      let o = own.laid.least y in
      grind arith)
      (let n = w.not_held in
      let lt : ltb s.facts.l s.facts.l ≡ false = grind (arith, nat_tests) in
      grind arith)
      (λ e. cc)

pub ruleset taking = (took_raised)

pub ruleset taking_new = (first_least, took_lowered, took_replaced)
