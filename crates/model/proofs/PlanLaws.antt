-- A plan by which each entry raises, lowers or replaces keeps the four laws.
use Rattle.std.proofs.Common.{◌≡◌, ℕ, ◌+◌, ◌*◌, Bool, true, false, cond, List, [], ◌∷◌, ◌++◌, length, sym, refl, ap, ◌∙◌, subst, true≢false, arith}
use Rattle.std.specs.List.{AllByRecursion}
use Rattle.std.proofs.ByRecursion.{All-weaker}
use Rattle.keys.specs.Orders.{TotalOrder, same}
use Rattle.keys.specs.Helds.{less_held}
use Rattle.keys.specs.declared.held.Held.{Held}
use Rattle.keys.specs.declared.held.Held.TheVariants.{Real, Dummy}
use Rattle.keys.specs.KindOrdersLemmas.{held_total}
use Rattle.keys.specs.Sorted.{Rising}
use Rattle.keys.proofs.Lists.{all_parts}
use Rattle.model.specs.Contents.{Counts, Content, count}
use Rattle.model.specs.Plans.{Plan, after_from, after, Entries}
use Rattle.model.specs.Neighbours.{Neighbours}
use Rattle.model.specs.Laws.{Different, Balanced, Bounded, Lawful}
use Rattle.model.proofs.Sums.{sum_of, count_at, counted, total-sum, length-sum, count_counted}
use Rattle.model.proofs.Runs.{Good, Moving, taken_of, taken_real, taken_dummy, good_run, kept_run, after-append}
use Rattle.model.proofs.Pairs.{pair_start, pair_run, pair_neighbours}

pub Rising-Different : {X : Type 0} (less : X → X → Bool) → TotalOrder less → (h : Counts X) → Rising less h → Different h
Rising-Different less order [] r = tt
Rising-Different {X} less order (e ∷ h) r = (
  All-weaker (λ (f : X × ℕ). less e.0 f.0 ≡ true) (λ f. e.0 ≡ f.0 → ⊥)
      (λ f p q. true≢false (sym p ∙ subst (λ (x : X). less e.0 x ≡ false) q (order.irreflexive e.0))) h r.0,
  Rising-Different less order h r.1,
)

module _ {K : Type 0} (less : K → K → Bool) (order : TotalOrder less) where
  -- a moving plan keeps the laws
  module _ (plan : Plan K) (P : Content K → Type 0) (moving : Moving less plan P) where
    good_after : (es : List K) → Entries plan es → Good less plan.fresh.k (0 + length es) (λ x. 0 + taken_of less es x) (after plan es)
    good_after es a = good_run less order plan P moving plan.fresh.k 0 (λ _. 0) plan.fresh moving.start moving.good es a.admitted

    bounds : (es : List K) (C : Content K) → Good less plan.fresh.k (0 + length es) (λ x. 0 + taken_of less es x) C → Bounded less es C
    bounds es C g = record {
      at_most = λ x. omega (arith, g.at_most (Real x), taken_real less es x, is (Real x));
      at_least = λ x. omega (arith, g.at_least (Real x), taken_real less es x, is (Real x));
      dummies = λ j. omega (arith, g.at_most (Dummy j), taken_dummy less es j, is (Dummy j));
    }
      where
        is : (x : Held K) → count (less_held less) C.held x ≡ counted (less_held less) C.held x
        is = count_counted (less_held less) (held_total less order) C.held g.rising

    balance : (es : List K) (C : Content K) → Good less plan.fresh.k (0 + length es) (λ x. 0 + taken_of less es x) C → Balanced C
    balance es C g = omega (arith, ap (λ (k : ℕ). (k + 1) * C.l) g.k_same, g.balanced, g.n_same, total-sum C.held)

    pub lawful : Lawful less plan
    lawful = record {
      k_stays = λ es a. (good_after es a).k_same;
      n_counts = λ es a. omega (arith, (good_after es a).n_same);
      holds_k = λ es a.
          let g = good_after es a in
          record {
            exactly = omega (arith, length-sum (after plan es).held, g.exactly, g.k_same);
            different = Rising-Different (less_held less) (held_total less order) (after plan es).held g.rising;
            rising = g.rising;
          };
      balanced = λ es a. balance es (after plan es) (good_after es a);
      bounded = λ es a. bounds es (after plan es) (good_after es a);
      neighbours = λ xs x ys a.
          let parts = all_parts (λ y. plan.admits y ≡ true) xs (x ∷ ys) a.admitted in
          let C : Content K = after plan xs in
          let kept : P C = kept_run less order plan P moving plan.fresh moving.start xs parts.0 in
          let rising = (good_run less order plan P moving plan.fresh.k 0 (λ _. 0) plan.fresh moving.start moving.good xs parts.0).rising in
          let step = moving.step C kept rising x parts.1.0 in
          let pair = pair_run less order plan P moving (plan.rule C x) C (moving.kept C kept x parts.1.0) kept (pair_start less order C (plan.rule C x) (Real x) rising step) ys parts.1.1 in
          subst (λ (D : Content K). Neighbours less D (after plan (xs ++ ys))) (sym (after-append plan plan.fresh xs (x ∷ ys)))
          (subst (λ (D : Content K). Neighbours less (after_from plan (plan.rule C x) ys) D) (sym (after-append plan plan.fresh xs ys))
          (pair_neighbours less order (after_from plan (plan.rule C x) ys) (after_from plan C ys) pair));
    }

  -- a content before any entry, whose counts are all 0
  zeros_sum : (h : Counts (Held K)) → AllByRecursion (λ (e : Held K × ℕ). e.1 ≡ 0) h → sum_of (λ _ n. n) h ≡ 0
  unfolding sum_of
  zeros_sum [] z = refl
  zeros_sum (e ∷ h) z = omega (arith, z.0, zeros_sum h z.1)

  zeros_counted : (x : Held K) (h : Counts (Held K)) → AllByRecursion (λ (e : Held K × ℕ). e.1 ≡ 0) h → counted (less_held less) h x ≡ 0
  unfolding sum_of counted count_at
  zeros_counted x [] z = refl
  zeros_counted x (e ∷ h) z = go (same (less_held less) e.0 x) (zeros_counted x h z.1)
    where
      go : (b : Bool) → counted (less_held less) h x ≡ 0 → cond b e.1 0 + counted (less_held less) h x ≡ 0
      go true r = omega (arith, z.0, r)
      go false r = omega (arith, r)

  pub good_fresh : (C : Content K) → Rising (less_held less) C.held → sum_of (λ _ _. 1) C.held ≡ C.k → AllByRecursion (λ (e : Held K × ℕ). e.1 ≡ 0) C.held →
      C.n ≡ 0 → C.l ≡ 0 → Good less C.k 0 (λ _. 0) C
  good_fresh C r long z n l = record {
    rising = r;
    k_same = refl;
    exactly = long;
    n_same = n;
    balanced = omega (arith, ap (λ (v : ℕ). (C.k + 1) * v) l, zeros_sum C.held z);
    at_most = λ x. omega (arith, zeros_counted x C.held z);
    at_least = λ x. omega arith;
  }
