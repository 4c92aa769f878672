-- A sketch's content, read from its trees. Idea: what a content holds and counts is what the tree by key finds.
use Rattle.std.proofs.Common.{◌≡◌, ℕ, zero, suc, ◌+◌, ◌-◌, ◌*◌, ◌≤◌, Bool, true, [], ◌∷◌, Some, refl, sym, ap, ◌∙◌, arith}
use Rattle.std.specs.List.{AllByRecursion}
use Rattle.std.specs.Option.{is_some, option_map, unwrap_or}
use Rattle.std.specs.Prelude.{slice_get}
use Rattle.keys.specs.Orders.{TotalOrder}
use Rattle.keys.specs.Helds.{less_held}
use Rattle.keys.specs.Sorted.{Rising}
use Rattle.keys.specs.KindOrdersLemmas.{held_total}
use Rattle.keys.specs.declared.held.Held.{Held}
use Rattle.keys.specs.declared.held.Held.TheVariants.{Real}
use Rattle.tree.specs.Entries.{Entries, item, value_of}
use Rattle.tree.specs.Trees.{Arranged}
use Rattle.model.specs.Contents.{Counts, Content, is_held, count, holds, count_of, total}
use Rattle.model.specs.Laws.{Balanced}
use Rattle.model.specs.Sketches.{sketch_rule}
use Rattle.model.specs.Taking.{Takes}
use Rattle.model.proofs.Sums.{sum_of, length-sum, total-sum}
use Rattle.model.proofs.Moves.{Move, raises, lowers, replaces, sketch_step}
use Rattle.model.proofs.PlanLaws.{Rising-Different}
use Rattle.model.proofs.Words.{ruled}
use Rattle.summaries.specs.Calls.{count_answer, Stands}
use Rattle.sketch.specs.Orders.{stored, Tied}
use Rattle.sketch.specs.Sketches.{SketchView, counted, content_of}
use Rattle.sketch.proofs.Tying.{tied_parts}

module _ {K : Type 0} (less : K → K → Bool) where
  held_is : (l : ℕ) (x : Held K) (es : Entries (Held K) ℕ) → is_held (less_held less) (counted l es) x ≡ is_some (value_of (less_held less) x es)
  held_is l x [] = refl
  held_is l x (e ∷ es) = let r = held_is l x es in grind arith

  counts_is : (l : ℕ) (x : Held K) (es : Entries (Held K) ℕ) → count (less_held less) (counted l es) x ≡ unwrap_or (value_of (less_held less) x es) 0 - l
  counts_is l x [] = omega arith
  counts_is l x (e ∷ es) = let r = counts_is l x es in grind arith

  -- which keys a content holds, and how they count
  pub holds_is : (s : SketchView K) (x : Held K) → holds less (content_of s) x ≡ is_some (stored less x s.orders)
  unfolding content_of
  holds_is s x = held_is s.facts.l x s.orders.keys.entries

  pub count_is : (s : SketchView K) (x : Held K) → count_of less (content_of s) x ≡ unwrap_or (stored less x s.orders) 0 - s.facts.l
  unfolding content_of
  count_is s x = counts_is s.facts.l x s.orders.keys.entries

  -- what is asked of a content, by what the tree by key answers
  pub counts_answer : (s : SketchView K) (x : K) → count_answer less (content_of s) x ≡ option_map (λ m. m - s.facts.l) (stored less (Real x) s.orders)
  counts_answer s x = let h = holds_is s (Real x) in let c = count_is s (Real x) in grind arith

  above_counted : (l : ℕ) (x : Held K) (es : Entries (Held K) ℕ) → AllByRecursion (λ f. less_held less x f.0 ≡ true) es → AllByRecursion (λ f. less_held less x f.0 ≡ true) (counted l es)
  above_counted l x [] h = tt
  above_counted l x (e ∷ es) h = (h.0, above_counted l x es h.1)

  rising_counted : (l : ℕ) (es : Entries (Held K) ℕ) → Rising (less_held less) es → Rising (less_held less) (counted l es)
  rising_counted l [] h = tt
  rising_counted l (e ∷ es) h = (above_counted l e.0 es h.0, rising_counted l es h.1)

  pub rising_content : (s : SketchView K) → Tied less s.orders → Rising (less_held less) (content_of s).held
  unfolding Arranged content_of
  rising_content s t = rising_counted s.facts.l s.orders.keys.entries (tied_parts less s.orders t).keys.rising

  -- no count is above all together
  count_total : (x : Held K) (h : Counts (Held K)) → count (less_held less) h x ≤ total h
  count_total x [] = omega arith
  count_total x (e ∷ h) = let r = count_total x h in grind arith

  -- no stored count is above n, and neither is l
  pub stored_few : (s : SketchView K) (x : Held K) (m : ℕ) → Stands less (content_of s) → stored less x s.orders ≡ Some m → m ≤ s.facts.n
  unfolding content_of
  stored_few s x m h e =
      let c : unwrap_or (stored less x s.orders) 0 - s.facts.l ≡ m - s.facts.l = grind arith in
      omega (arith, h.balanced, count_is s x, c, count_total x (content_of s).held)

  pub lowerings_few : (s : SketchView K) → Stands less (content_of s) → s.facts.l ≤ s.facts.n
  unfolding content_of
  lowerings_few s h = omega (arith, h.balanced)

pub places_answer : {K : Type 0} (s : SketchView K) (j : ℕ) → slice_get (content_of s).held j ≡ option_map (λ e. (e.0, e.1 - s.facts.l)) (option_map item (slice_get s.orders.keys.entries j))
unfolding content_of
places_answer {K} s j = go s.orders.keys.entries j
  where
    go : (es : Entries (Held K) ℕ) (j : ℕ) → slice_get (counted s.facts.l es) j ≡ option_map (λ e. (e.0, e.1 - s.facts.l)) (option_map item (slice_get es j))
    go [] j = refl
    go (e ∷ es) zero = refl
    go (e ∷ es) (suc j) = go es j

module _ {K : Type 0} (less : K → K → Bool) (order : TotalOrder less) where
  -- the rule keeps the two laws that speak of a content alone
  moved : (C D : Content K) (x : Held K) → Stands less C → Rising (less_held less) D.held → D.k ≡ C.k → D.n ≡ C.n + 1 → Move less C x D → Stands less D
  moved C D x h r k n move = record {
    holds_k = record {
      exactly = length-sum D.held ∙ as_many move ∙ sym (length-sum C.held) ∙ h.holds_k.exactly ∙ sym k;
      different = Rising-Different (less_held less) (held_total less order) D.held r;
      rising = r;
    };
    balanced = balances move;
  }
    where
      as_many : Move less C x D → sum_of (λ _ _. 1) D.held ≡ sum_of (λ _ _. 1) C.held
      as_many (raises m l) = m.keys (λ _. 1)
      as_many (lowers m l) = m.keys (λ _. 1)
      as_many (replaces m l) = omega (arith, m.keys (λ _. 1))

      balances : Move less C x D → Balanced D
      balances (raises m l) =
          omega (arith, h.balanced, m.sum, total-sum C.held, total-sum D.held, n, ap (λ (v : ℕ). (v + 1) * D.l) k, ap (λ (v : ℕ). (C.k + 1) * v) l)
      balances (replaces m l) =
          omega (arith, h.balanced, m.sum, total-sum C.held, total-sum D.held, n, ap (λ (v : ℕ). (v + 1) * D.l) k, ap (λ (v : ℕ). (C.k + 1) * v) l)
      balances (lowers m l) =
          omega (arith, h.balanced, h.holds_k.exactly, length-sum C.held, m.sum, total-sum C.held, total-sum D.held, n, ap (λ (v : ℕ). (v + 1) * D.l) k, ap (λ (v : ℕ). (C.k + 1) * v) l)

  pub stands_step : (C : Content K) (x : K) → Stands less C → Stands less (sketch_rule less C x)
  stands_step C x h =
      let s = sketch_step less order C h.holds_k.rising x in
      moved C (sketch_rule less C x) (Real x) h s.rising s.k_same s.n_more s.move

  -- what the words of the rule fit is the rule's content
  pub rule_is : (C D : Content K) (x : K) → Rising (less_held less) C.held → Takes less C (Real x) D → D ≡ sketch_rule less C x
  rule_is C D x r t = (ruled less order C r x).nothing_else D t
