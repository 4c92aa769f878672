-- Laws 1 to 3, of any plan by which each entry raises, lowers or replaces.
use Rattle.std.proofs.Common.{◌≡◌, ℕ, suc, ◌+◌, ◌*◌, ◌≤◌, Bool, true, List, [], ◌∷◌, ◌++◌, length, refl, ap, ◌∙◌, subst, inl, inr, arith}
use Rattle.std.specs.List.{AllByRecursion}
use Rattle.keys.specs.Orders.{TotalOrder}
use Rattle.keys.specs.Helds.{less_held}
use Rattle.keys.specs.declared.held.Held.{Held}
use Rattle.keys.specs.declared.held.Held.TheVariants.{Real, Dummy}
use Rattle.keys.specs.KindOrdersLemmas.{held_total}
use Rattle.keys.specs.Sorted.{Rising}
use Rattle.model.specs.Contents.{Content}
use Rattle.model.specs.Plans.{Plan, after_from}
use Rattle.model.specs.Laws.{entries_of}
use Rattle.model.proofs.Sums.{sum_of, indicator, occurs, counted, Once, OneOrTwo, one_or_two, absent_counts_0, occurs_once}
use Rattle.model.proofs.Moves.{Move, raises, lowers, replaces, Step}

module _ {K : Type 0} (less : K → K → Bool) where
  -- a content after n entries, of which `taken x` are x
  pub record Good (k n : ℕ) (taken : Held K → ℕ) (C : Content K) : Type 0 where
    pub rising : Rising (less_held less) C.held
    pub k_same : C.k ≡ k
    pub exactly : sum_of (λ _ _. 1) C.held ≡ k
    pub n_same : C.n ≡ n
    pub balanced : (k + 1) * C.l + sum_of (λ _ m. m) C.held ≡ n
    pub at_most : (x : Held K) → counted (less_held less) C.held x ≤ taken x
    pub at_least : (x : Held K) → taken x ≤ counted (less_held less) C.held x + C.l

  -- Each entry raises, lowers or replaces, in contents that keep P.
  pub record Moving (plan : Plan K) (P : Content K → Type 0) : Type 0 where
    pub good : Good plan.fresh.k 0 (λ _. 0) plan.fresh
    pub start : P plan.fresh
    pub kept : (C : Content K) → P C → (x : K) → plan.admits x ≡ true → P (plan.rule C x)
    pub step : (C : Content K) → P C → Rising (less_held less) C.held → (x : K) → plan.admits x ≡ true → Step less C (Real x) (plan.rule C x)

  -- how many of the entries are the held key x
  abbrev pub taken_of : List K → Held K → ℕ
  taken_of [] x = 0
  taken_of (e ∷ es) x = indicator (less_held less) (Real e) x + taken_of es x

  pub taken_real : (es : List K) (x : K) → taken_of es (Real x) ≡ entries_of less es x
  unfolding indicator
  taken_real [] x = refl
  taken_real (e ∷ es) x = omega (arith, taken_real es x)

  pub taken_dummy : (es : List K) (j : ℕ) → taken_of es (Dummy j) ≡ 0
  unfolding indicator
  taken_dummy [] j = refl
  taken_dummy (e ∷ es) j = omega (arith, taken_dummy es j)

module _ {K : Type 0} (less : K → K → Bool) (order : TotalOrder less) where
  good_step : (k n : ℕ) (taken : Held K → ℕ) (C D : Content K) (x : Held K) → Good less k n taken C → Step less C x D →
      Good less k (n + 1) (λ y. taken y + indicator (less_held less) x y) D
  good_step k n taken C D x g s = by s.move
    where
      less' : Held K → Held K → Bool
      less' = less_held less

      once : Once less' C.held
      once = occurs_once less' (held_total less order) C.held g.rising

      by : Move less C x D → Good less k (n + 1) (λ y. taken y + indicator less' x y) D
      by (raises m l) = record {
        rising = s.rising;
        k_same = s.k_same ∙ g.k_same;
        exactly = m.keys (λ _. 1) ∙ g.exactly;
        n_same = omega (arith, s.n_more, g.n_same);
        balanced = omega (arith, g.balanced, m.sum, ap (λ (v : ℕ). (k + 1) * v) l);
        at_most = λ y. omega (arith, m.counts y, g.at_most y);
        at_least = λ y. omega (arith, m.counts y, g.at_least y, l);
      }
      by (replaces m l) = record {
        rising = s.rising;
        k_same = s.k_same ∙ g.k_same;
        exactly = omega (arith, m.keys (λ _. 1), g.exactly);
        n_same = omega (arith, s.n_more, g.n_same);
        balanced = omega (arith, g.balanced, m.sum, ap (λ (v : ℕ). (k + 1) * v) l);
        at_most = λ y. omega (arith, m.counts y, g.at_most y);
        at_least = λ y. omega (arith, m.counts y, g.at_least y, l);
      }
      by (lowers m l) = record {
        rising = s.rising;
        k_same = s.k_same ∙ g.k_same;
        exactly = m.keys (λ _. 1) ∙ g.exactly;
        n_same = omega (arith, s.n_more, g.n_same);
        balanced = omega (arith, g.balanced, m.sum, g.exactly, ap (λ (v : ℕ). (k + 1) * v) l);
        at_most = λ y. omega (arith, m.counts y, g.at_most y);
        at_least = λ y. at y (one_or_two less' (held_total less order) x y);
      }
        where
          at : (y : Held K) → OneOrTwo less' x y → taken y + indicator less' x y ≤ counted less' D.held y + D.l
          at y (inl d) =
              let u : occurs less' C.held y ≡ 0 = subst (λ (v : Held K). occurs less' C.held v ≡ 0) d.0 m.not_held in
              omega (arith, l, d.1, g.at_least y, m.counts y, absent_counts_0 less' (held_total less order) C.held y u)
          at y (inr d) = omega (arith, l, d.1, g.at_least y, m.counts y, once y)

  good_like : (k n m : ℕ) (a b : Held K → ℕ) (C : Content K) → n ≡ m → ((x : Held K) → a x ≡ b x) → Good less k n a C → Good less k m b C
  good_like k n m a b C p q g = record {
    rising = g.rising;
    k_same = g.k_same;
    exactly = g.exactly;
    n_same = g.n_same ∙ p;
    balanced = g.balanced ∙ p;
    at_most = λ x. omega (arith, g.at_most x, q x);
    at_least = λ x. omega (arith, g.at_least x, q x);
  }

  module _ (plan : Plan K) (P : Content K → Type 0) (moving : Moving less plan P) where
    pub good_run : (k n : ℕ) (taken : Held K → ℕ) (C : Content K) → P C → Good less k n taken C → (es : List K) → AllByRecursion (λ x. plan.admits x ≡ true) es →
        Good less k (n + length es) (λ y. taken y + taken_of less es y) (after_from plan C es)
    good_run k n taken C p g [] a = good_like k n (n + 0) taken (λ y. taken y + 0) C (omega arith) (λ y. omega arith) g
    good_run k n taken C p g (x ∷ es) a =
        good_like k (n + 1 + length es) (n + suc (length es)) (λ y. taken y + indicator (less_held less) (Real x) y + taken_of less es y) (λ y. taken y + taken_of less (x ∷ es) y)
        (after_from plan (plan.rule C x) es) (omega arith) (λ y. omega arith)
        (good_run k (n + 1) (λ y. taken y + indicator (less_held less) (Real x) y) (plan.rule C x) (moving.kept C p x a.0)
        (good_step k n taken C (plan.rule C x) (Real x) g (moving.step C p g.rising x a.0)) es a.1)

    pub kept_run : (C : Content K) → P C → (es : List K) → AllByRecursion (λ x. plan.admits x ≡ true) es → P (after_from plan C es)
    kept_run C p [] a = p
    kept_run C p (x ∷ es) a = kept_run (plan.rule C x) (moving.kept C p x a.0) es a.1

pub after-append : {K : Type 0} (plan : Plan K) (C : Content K) (xs ys : List K) → after_from plan C (xs ++ ys) ≡ after_from plan (after_from plan C xs) ys
after-append plan C [] ys = refl
after-append plan C (x ∷ xs) ys = after-append plan (plan.rule C x) xs ys
