-- Law 4, of any plan by which each entry raises, lowers or replaces. Idea: the stronger invariant of Near holds when
-- one of two equal contents takes an entry, and lasts while both take the same entries.
use Rattle.std.proofs.Common.{◌≡◌, ℕ, ◌+◌, ◌-◌, ◌≤◌, Bool, true, false, cond, not, ◌⊎◌, List, [], ◌∷◌, length, filter, sym, refl, ◌∙◌, inl, inr, arith}
use Rattle.std.specs.List.{AllByRecursion}
use Rattle.std.proofs.lemmas.Bool.{not-true}
use Rattle.keys.specs.Orders.{TotalOrder}
use Rattle.keys.specs.Helds.{less_held}
use Rattle.keys.specs.declared.held.Held.{Held}
use Rattle.keys.specs.declared.held.Held.TheVariants.{Real}
use Rattle.keys.specs.KindOrdersLemmas.{held_total}
use Rattle.keys.specs.Sorted.{Rising}
use Rattle.model.specs.Contents.{Counts, Content, is_held, count}
use Rattle.model.specs.Plans.{Plan, after_from}
use Rattle.model.specs.Neighbours.{only, CaseOne, CaseAll, Neighbours}
use Rattle.model.proofs.Sums.{sum_of, occurs, counted, missing, Once, indicator_self, indicator_other, count_at_self, occurs_once, held_occurs, unheld_absent, count_counted, absent_counts_0, alike}
use Rattle.model.proofs.Moves.{Move, raises, lowers, replaces, Step}
use Rattle.model.proofs.Missing.{missing_sym, missing_self, missing_kept, missing_swap_first}
use Rattle.model.proofs.Near.{NearOne, NearAll, all_raise_raise, all_raise_lower, all_not_replace, all_not_lower_raise, all_lower_lower, all_replace_raise, all_replace_lower, one_raise_raise, one_not_raise_lower, one_raise_replace, one_lower_raise, one_lower_lower, one_lower_replace, one_replace_raise, one_not_replace_lower, one_replace_replace}
use Rattle.model.proofs.Runs.{Moving}

module _ {K : Type 0} (less : K → K → Bool) where
  pub data Near (C D : Content K) : Type 0 where
    one : NearOne (less_held less) C.held D.held → C.l ≡ D.l → Near C D
    all : NearAll (less_held less) C.held D.held → C.l ≡ D.l + 1 → Near C D

  -- C has taken one entry more than D
  pub record Pair (C D : Content K) : Type 0 where
    pub near : Near C D
    pub rising : Rising (less_held less) C.held
    pub Rising_short : Rising (less_held less) D.held
    pub as_many : sum_of (λ _ _. 1) C.held ≡ sum_of (λ _ _. 1) D.held
    pub k_same : C.k ≡ D.k
    pub n_more : C.n ≡ D.n + 1

module _ {X : Type 0} (less : X → X → Bool) (order : TotalOrder less) where
  pub only_missing : (h g : Counts X) → length (only less h g) ≡ missing less h g
  unfolding missing sum_of
  only_missing [] g = refl
  only_missing (e ∷ h) g = go (is_held less g e.0) refl (only_missing h g)
    where
      go : (b : Bool) → is_held less g e.0 ≡ b → length (only less h g) ≡ missing less h g →
          length (cond (not b) (e ∷ only less h g) (only less h g)) ≡ 1 - occurs less g e.0 + missing less h g
      go true q r = omega (arith, r, held_occurs less order g e.0 q)
      go false q r = omega (arith, r, unheld_absent less order g e.0 q)

  -- an entry's count is no more than its key's
  entry_counted : (h : Counts X) (f : X → ℕ) → ((x : X) → counted less h x ≤ f x) → AllByRecursion (λ (e : X × ℕ). e.1 ≤ f e.0) h
  unfolding sum_of counted
  entry_counted [] f p = tt
  entry_counted (e ∷ h) f p = (omega (arith, p e.0, count_at_self less order e.0 e.1), entry_counted h f (λ x. omega (arith, p x)))

  all_kept : (P Q : X × ℕ → Type 0) (p : X × ℕ → Bool) → ((e : X × ℕ) → p e ≡ true → P e → Q e) → (h : Counts X) → AllByRecursion P h → AllByRecursion Q (filter p h)
  all_kept P Q p f [] a = tt
  all_kept P Q p f (e ∷ h) a = go (p e) refl (all_kept P Q p f h a.1)
    where
      go : (b : Bool) → p e ≡ b → AllByRecursion Q (filter p h) → AllByRecursion Q (cond b (e ∷ filter p h) (filter p h))
      go true q r = (f e q a.0, r)
      go false q r = r

  only_small : (h g : Counts X) → ((x : X) → occurs less g x ≡ 0 → counted less h x ≤ 1) → AllByRecursion (λ (e : X × ℕ). e.1 ≤ 1) (only less h g)
  only_small h g f =
      all_kept (λ e. e.1 ≤ counted less h e.0) (λ e. e.1 ≤ 1) (λ e. not (is_held less g e.0))
      (λ e q w. omega (arith, w, f e.0 (unheld_absent less order g e.0 (not-true (is_held less g e.0) q))))
      h (entry_counted h (counted less h) (λ x. omega arith))

module _ {K : Type 0} (less : K → K → Bool) (order : TotalOrder less) where
  abbrev less' : Held K → Held K → Bool
  less' = less_held less

  order' : TotalOrder less'
  order' = held_total less order

  move_as_many : (C D : Content K) (x : Held K) → Move less C x D → sum_of (λ _ _. 1) D.held ≡ sum_of (λ _ _. 1) C.held
  move_as_many C D x (raises m l) = m.keys (λ _. 1)
  move_as_many C D x (lowers m l) = m.keys (λ _. 1)
  move_as_many C D x (replaces m l) = omega (arith, m.keys (λ _. 1))

  -- the longer takes its entry
  pub pair_start : (C D : Content K) (x : Held K) → Rising less' C.held → Step less C x D → Pair less D C
  pair_start C D x r s = record {
    near = by s.move;
    rising = s.rising;
    Rising_short = r;
    as_many = move_as_many C D x s.move;
    k_same = s.k_same;
    n_more = s.n_more;
  }
    where
      none : missing less' C.held C.held ≡ 0
      none = missing_self less' order' C.held

      by : Move less C x D → Near less D C
      by (raises m l) =
          let d : missing less' D.held C.held ≡ 0 = missing_kept less' order' C.held D.held C.held C.held m.keys (λ w. refl) ∙ none in
          one (record { i = x; counts = m.counts; few = omega arith; room = λ _ _. omega arith }) l
      by (lowers m l) =
          let d : missing less' D.held C.held ≡ 0 = missing_kept less' order' C.held D.held C.held C.held m.keys (λ w. refl) ∙ none in
          all (record { counts = λ y. sym (m.counts y); few = omega arith }) l
      by (replaces m l) =
          let d = missing_swap_first less' order' m.gone x C.held D.held C.held m.keys in
          one (record { i = x; counts = m.counts; few = omega (arith, d, none, m.was_held); room = λ s _. omega (arith, s, m.not_held) }) l

  -- both take x: C becomes E, and D becomes F
  pair_step : (C D E F : Content K) (x : Held K) → Pair less C D → Step less C x E → Step less D x F → Pair less E F
  pair_step C D E F x p s t = record {
    near = by p.near s.move t.move;
    rising = s.rising;
    Rising_short = t.rising;
    as_many = omega (arith, p.as_many, move_as_many C E x s.move, move_as_many D F x t.move);
    k_same = s.k_same ∙ p.k_same ∙ sym t.k_same;
    n_more = omega (arith, s.n_more, t.n_more, p.n_more);
  }
    where
      oc : Once less' C.held
      oc = occurs_once less' order' C.held p.rising

      od : Once less' D.held
      od = occurs_once less' order' D.held p.Rising_short

      of : Once less' F.held
      of = occurs_once less' order' F.held t.rising

      by : Near less C D → Move less C x E → Move less D x F → Near less E F
      by (all A e) (raises a l) (raises b m) = all (all_raise_raise less' order' C.held D.held E.held F.held x oc od of p.as_many A a b) (omega arith)
      by (all A e) (raises a l) (lowers b m) = one (all_raise_lower less' order' C.held D.held E.held F.held x oc od of p.as_many A a b) (omega arith)
      by (all A e) (raises a l) (replaces b m) = absurd (all_not_replace less' order' C.held D.held E.held F.held x oc od of p.as_many A b)
      by (all A e) (lowers a l) (raises b m) = absurd (all_not_lower_raise less' order' C.held D.held E.held F.held x oc od of p.as_many A a b)
      by (all A e) (lowers a l) (lowers b m) = all (all_lower_lower less' order' C.held D.held E.held F.held x oc od of p.as_many A a b) (omega arith)
      by (all A e) (lowers a l) (replaces b m) = absurd (all_not_replace less' order' C.held D.held E.held F.held x oc od of p.as_many A b)
      by (all A e) (replaces a l) (raises b m) = all (all_replace_raise less' order' C.held D.held E.held F.held x oc od of p.as_many A a b) (omega arith)
      by (all A e) (replaces a l) (lowers b m) = one (all_replace_lower less' order' C.held D.held E.held F.held x oc od of p.as_many A a b) (omega arith)
      by (all A e) (replaces a l) (replaces b m) = absurd (all_not_replace less' order' C.held D.held E.held F.held x oc od of p.as_many A b)
      by (one O e) (raises a l) (raises b m) = one (one_raise_raise less' order' C.held D.held E.held F.held x oc od of p.as_many O a b) (omega arith)
      by (one O e) (raises a l) (lowers b m) = absurd (one_not_raise_lower less' order' C.held D.held E.held F.held x oc od of p.as_many O a b)
      by (one O e) (raises a l) (replaces b m) = one (one_raise_replace less' order' C.held D.held E.held F.held x oc od of p.as_many O a b) (omega arith)
      by (one O e) (lowers a l) (raises b m) = all (one_lower_raise less' order' C.held D.held E.held F.held x oc od of p.as_many O a b) (omega arith)
      by (one O e) (lowers a l) (lowers b m) = one (one_lower_lower less' order' C.held D.held E.held F.held x oc od of p.as_many O a b) (omega arith)
      by (one O e) (lowers a l) (replaces b m) = all (one_lower_replace less' order' C.held D.held E.held F.held x oc od of p.as_many O a b) (omega arith)
      by (one O e) (replaces a l) (raises b m) = one (one_replace_raise less' order' C.held D.held E.held F.held x oc od of p.as_many O a b) (omega arith)
      by (one O e) (replaces a l) (lowers b m) = absurd (one_not_replace_lower less' order' C.held D.held E.held F.held x oc od of p.as_many O a b)
      by (one O e) (replaces a l) (replaces b m) = one (one_replace_replace less' order' C.held D.held E.held F.held x oc od of p.as_many O a b) (omega arith)

  module _ (plan : Plan K) (P : Content K → Type 0) (moving : Moving less plan P) where
    pub pair_run : (C D : Content K) → P C → P D → Pair less C D → (es : List K) → AllByRecursion (λ x. plan.admits x ≡ true) es → Pair less (after_from plan C es) (after_from plan D es)
    pair_run C D c d p [] a = p
    pair_run C D c d p (x ∷ es) a =
        pair_run (plan.rule C x) (plan.rule D x) (moving.kept C c x a.0) (moving.kept D d x a.0)
        (pair_step C D (plan.rule C x) (plan.rule D x) (Real x) p (moving.step C c p.rising x a.0) (moving.step D d p.Rising_short x a.0)) es a.1

  -- in the words of the definitions
  pub pair_neighbours : (C D : Content K) → Pair less C D → Neighbours less C D
  pair_neighbours C D p = record {
    k_same = p.k_same;
    n_more = p.n_more;
    longer = record {
      two = omega (arith, two p.near, only_missing less' order' C.held D.held);
      small = only_small less' order' C.held D.held (small p.near);
    };
    shorter = record {
      two = omega (arith, two p.near, only_missing less' order' D.held C.held, missing_sym less' order' C.held D.held oc od p.as_many);
      small = only_small less' order' D.held C.held (small_back p.near);
    };
    case = by p.near;
  }
    where
      oc : Once less' C.held
      oc = occurs_once less' order' C.held p.rising

      od : Once less' D.held
      od = occurs_once less' order' D.held p.Rising_short

      is : (x : Held K) → count less' C.held x ≡ counted less' C.held x
      is = count_counted less' order' C.held p.rising

      is' : (x : Held K) → count less' D.held x ≡ counted less' D.held x
      is' = count_counted less' order' D.held p.Rising_short

      two : Near less C D → missing less' C.held D.held ≤ 2
      two (one O e) = O.few
      two (all A e) = omega (arith, A.few)

      small : Near less C D → (x : Held K) → occurs less' D.held x ≡ 0 → counted less' C.held x ≤ 1
      small (one O e) x s = omega (arith, O.counts x, absent_counts_0 less' order' D.held x s, alike less' order' (λ _. 0) O.i x)
      small (all A e) x s = omega (arith, A.counts x, absent_counts_0 less' order' D.held x s)

      small_back : Near less C D → (x : Held K) → occurs less' C.held x ≡ 0 → counted less' D.held x ≤ 1
      small_back (one O e) x s = omega (arith, O.counts x, absent_counts_0 less' order' C.held x s)
      small_back (all A e) x s = omega (arith, A.counts x, absent_counts_0 less' order' C.held x s, od x)

      by : Near less C D → CaseOne less C D ⊎ CaseAll less C D
      by (one O e) = inl (record {
        key = O.i;
        more = omega (arith, O.counts O.i, indicator_self less' order' O.i, is O.i, is' O.i);
        others = λ x n. omega (arith, O.counts x, is x, is' x, indicator_other less' order' O.i x n);
        lowerings = omega (arith, e);
      })
      by (all A e) = inr (record {
        one_less = λ x q. omega (arith, A.counts x, is x, is' x, held_occurs less' order' D.held x q, od x);
        none = λ x q.
            let s = unheld_absent less' order' D.held x q in
            omega (arith, A.counts x, is x, is' x, s, absent_counts_0 less' order' D.held x s);
        lowerings = omega (arith, e);
      })
