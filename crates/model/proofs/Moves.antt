-- What raising, lowering and replacing do to the held keys, by sums; and that the sketch's rule does one of the three.
use Rattle.std.proofs.Common.{◌≡◌, ◌≢◌, ℕ, ◌+◌, ◌-◌, ◌≤◌, Bool, true, false, cond, eqb, ◌⊎◌, [], ◌∷◌, map, sym, refl, ◌∙◌, subst, inl, inr, arith}
use Rattle.std.specs.List.{AllByRecursion}
use Rattle.std.proofs.lemmas.Bool.{both_ways, eqb-true, eqb-false, or_parts, or_cases, cond_both}
use Rattle.std.proofs.lemmas.Bool.Decides.{nat_tests}
use Rattle.std.proofs.ByRecursion.{All-map}
use Rattle.keys.specs.Orders.{TotalOrder, same}
use Rattle.keys.specs.Helds.{less_held}
use Rattle.keys.specs.declared.held.Held.{Held}
use Rattle.keys.specs.declared.held.Held.TheVariants.{Real}
use Rattle.keys.specs.KindOrdersLemmas.{same_equal, not_both, held_total}
use Rattle.keys.specs.Sorted.{Rising, insert_sorted}
use Rattle.keys.proofs.SortedLemmas.{rising_insert}
use Rattle.model.specs.Contents.{Counts, Content, is_held}
use Rattle.model.specs.Plans.{raised}
use Rattle.model.specs.Sketches.{some_zero, leave, newcomer, lowered, replaced, sketch_rule}
use Rattle.model.proofs.Sums.{sum_of, sum_same, sum_add, sum-map, bit, indicator, count_at, occurs, counted, OneOrTwo, indicator_self, one_or_two, count_at_self, absent_counts_0, above_absent, occurs_once, all_occurs, held_occurs, unheld_absent}

-- the same keys; and z in place of x
abbrev pub SameKeys : {X : Type 0} → Counts X → Counts X → Type 0
SameKeys {X} h t = (w : X → ℕ) → sum_of (λ k _. w k) t ≡ sum_of (λ k _. w k) h

abbrev pub KeysSwapped : {X : Type 0} → X → X → Counts X → Counts X → Type 0
KeysSwapped {X} z x h t = (w : X → ℕ) → sum_of (λ k _. w k) t + w z ≡ sum_of (λ k _. w k) h + w x

-- h becomes t by taking x
module _ {X : Type 0} (less : X → X → Bool) (h : Counts X) (x : X) (t : Counts X) where
  pub record RaisedSums : Type 0 where
    pub was_held : 1 ≤ occurs less h x
    pub keys : SameKeys h t
    pub counts : (y : X) → counted less t y ≡ counted less h y + indicator less x y
    pub sum : sum_of (λ _ n. n) t ≡ sum_of (λ _ n. n) h + 1

  pub record LoweredSums : Type 0 where
    pub not_held : occurs less h x ≡ 0
    pub no_zero : (y : X) → occurs less h y ≤ counted less h y
    pub keys : SameKeys h t
    pub counts : (y : X) → counted less t y + occurs less h y ≡ counted less h y
    pub sum : sum_of (λ _ n. n) t + sum_of (λ _ _. 1) h ≡ sum_of (λ _ n. n) h

  pub record ReplacedSums : Type 0 where
    pub not_held : occurs less h x ≡ 0
    pub gone : X
    pub was_held : 1 ≤ occurs less h gone
    pub at_zero : counted less h gone ≡ 0
    pub smallest : (y : X) → 1 ≤ occurs less h y → counted less h y ≡ 0 → less y gone ≡ false
    pub keys : KeysSwapped gone x h t
    pub counts : (y : X) → counted less t y ≡ counted less h y + indicator less x y
    pub sum : sum_of (λ _ n. n) t ≡ sum_of (λ _ n. n) h + 1

-- h becomes t where the smallest key at 0 leaves
pub record LeftSums {X : Type 0} (less : X → X → Bool) (h t : Counts X) : Type 0 where
  pub gone : X
  pub was_held : 1 ≤ occurs less h gone
  pub at_zero : counted less h gone ≡ 0
  pub smallest : (y : X) → 1 ≤ occurs less h y → counted less h y ≡ 0 → less y gone ≡ false
  pub sums : (w : X → ℕ → ℕ) → sum_of w t + w gone 0 ≡ sum_of w h

-- what holds of each key holds of those that stay
all_leave : {X : Type 0} (P : X → Type 0) (h : Counts X) → AllByRecursion (λ (e : X × ℕ). P e.0) h → AllByRecursion (λ (e : X × ℕ). P e.0) (leave h)
all_leave P [] p = tt
all_leave {X} P (e ∷ h) p = cond_both _ h (e ∷ leave h) (AllByRecursion (λ (e : X × ℕ). P e.0)) (λ _. p.1) (λ _. (p.0, all_leave P h p.1))

module _ {X : Type 0} (less : X → X → Bool) (order : TotalOrder less) where
  pub Rising-map : (f : X → ℕ → ℕ) (h : Counts X) → Rising less h → Rising less (map (λ (e : X × ℕ). (e.0, f e.0 e.1)) h)
  Rising-map f [] p = tt
  Rising-map f (e ∷ h) p = (All-map (λ (g : X × ℕ). less e.0 g.0 ≡ true) (λ (g : X × ℕ). (g.0, f g.0 g.1)) h p.0, Rising-map f h p.1)

  Rising-leave : (h : Counts X) → Rising less h → Rising less (leave h)
  Rising-leave [] p = tt
  Rising-leave (e ∷ h) p = cond_both _ h (e ∷ leave h) (Rising less) (λ _. p.1) (λ _. (all_leave (λ x. less e.0 x ≡ true) h p.0, Rising-leave h p.1))

  none_is : (x : X) (h : Counts X) → occurs less h x ≡ 0 → AllByRecursion (λ (f : X × ℕ). x ≢ f.0) h
  unfolding sum_of occurs
  none_is x [] s = tt
  none_is x (f ∷ h) s = (λ q. omega (arith, s, subst (λ (z : X). indicator less z x ≡ 1) q (indicator_self less order x)), none_is x h (omega arith))

  Rising-insert : (e : X × ℕ) (h : Counts X) → occurs less h e.0 ≡ 0 → Rising less h → Rising less (insert_sorted less e h)
  Rising-insert e h s p = rising_insert less order e h p (none_is e.0 h s)

  sum-insert : (w : X → ℕ → ℕ) (e : X × ℕ) (h : Counts X) → sum_of w (insert_sorted less e h) ≡ sum_of w h + w e.0 e.1
  unfolding sum_of
  sum-insert w e [] = omega arith
  sum-insert w e (f ∷ h) =
      cond_both _ (e ∷ f ∷ h) (f ∷ insert_sorted less e h) (λ t. sum_of w t ≡ w f.0 f.1 + sum_of w h + w e.0 e.1) (λ _. omega arith) (λ _. omega (arith, sum-insert w e h))

  count_at_other : (k x : X) (n : ℕ) → (k ≡ x → ⊥) → count_at less k x n ≡ 0
  unfolding count_at
  count_at_other k x n d = go (same less k x) refl
    where
      go : (b : Bool) → same less k x ≡ b → cond b n 0 ≡ 0
      go true q = absurd (d (same_equal less order k x q))
      go false q = refl

  left_sums : (h : Counts X) → Rising less h → some_zero h ≡ true → LeftSums less h (leave h)
  unfolding sum_of occurs counted
  left_sums [] p z = absurd (both_ways false refl z)
  left_sums (e ∷ h) p z =
      cond_both _ h (e ∷ leave h) (LeftSums less (e ∷ h)) (λ q. here (grind (arith, nat_tests)))
      (λ q. let n : e.1 ≡ 0 → ⊥ = grind (arith, nat_tests) in there n (left_sums h p.1 (later n)))
    where
      later : (e.1 ≡ 0 → ⊥) → some_zero h ≡ true
      later n = either (or_cases (eqb e.1 0) (some_zero h) z)
        where
          either : (eqb e.1 0 ≡ true) ⊎ (some_zero h ≡ true) → some_zero h ≡ true
          either (inl q) = absurd (n (eqb-true e.1 0 q))
          either (inr q) = q

      here : e.1 ≡ 0 → LeftSums less (e ∷ h) h
      here q = record {
        gone = e.0;
        was_held = omega (arith, indicator_self less order e.0);
        at_zero = omega (arith, q, count_at_self less order e.0 e.1, absent_counts_0 less order h e.0 (above_absent less order e.0 h p.0));
        smallest = λ y s _. at y s (one_or_two less order e.0 y);
        sums = λ w. subst (λ (n : ℕ). sum_of w h + w e.0 n ≡ w e.0 e.1 + sum_of w h) q (omega arith);
      }
        where
          at : (y : X) → 1 ≤ occurs less (e ∷ h) y → OneOrTwo less e.0 y → less y e.0 ≡ false
          at y s (inl r) = subst (λ (v : X). less v e.0 ≡ false) r.0 (order.irreflexive e.0)
          at y s (inr r) = not_both less order e.0 y (all_occurs less order (λ v. less e.0 v ≡ true) y h p.0 (omega arith))

      there : (e.1 ≡ 0 → ⊥) → LeftSums less h (leave h) → LeftSums less (e ∷ h) (e ∷ leave h)
      there q r = record {
        gone = r.gone;
        was_held = omega (arith, r.was_held);
        at_zero = omega (arith, r.at_zero, count_at_other e.0 r.gone e.1 apart);
        smallest = λ y s t. at y s t (one_or_two less order e.0 y);
        sums = λ w. omega (arith, r.sums w);
      }
        where
          apart : e.0 ≡ r.gone → ⊥
          apart d = omega (arith, r.was_held, subst (λ (v : X). occurs less h v ≡ 0) d (above_absent less order e.0 h p.0))

          at : (y : X) → 1 ≤ occurs less (e ∷ h) y → counted less (e ∷ h) y ≡ 0 → OneOrTwo less e.0 y → less y r.gone ≡ false
          at y s t (inl d) = absurd (q (omega (arith, t, subst (λ (v : X). count_at less e.0 v e.1 ≡ e.1) d.0 (count_at_self less order e.0 e.1))))
          at y s t (inr d) = r.smallest y (omega arith) (omega arith)

  -- raising
  raise_here : (x k : X) (n : ℕ) → count_at less k x (cond (same less k x) (n + 1) n) ≡ count_at less k x n + indicator less k x
  unfolding count_at indicator
  raise_here x k n = go (same less k x)
    where
      go : (b : Bool) → cond b (cond b (n + 1) n) 0 ≡ cond b n 0 + bit b
      go true = refl
      go false = refl

  raise_there : (y x k : X) (n : ℕ) → (x ≡ y → ⊥) → count_at less k y (cond (same less k x) (n + 1) n) ≡ count_at less k y n
  unfolding count_at
  raise_there y x k n d = go (same less k y) refl (same less k x) refl
    where
      go : (b : Bool) → same less k y ≡ b → (a : Bool) → same less k x ≡ a → cond b (cond a (n + 1) n) 0 ≡ cond b n 0
      go false p a q = refl
      go true p false q = refl
      go true p true q = absurd (d (sym (same_equal less order k x q) ∙ same_equal less order k y p))

  raise_sum : (x k : X) (n : ℕ) → cond (same less k x) (n + 1) n ≡ n + indicator less k x
  unfolding indicator
  raise_sum x k n = go (same less k x)
    where
      go : (b : Bool) → cond b (n + 1) n ≡ n + bit b
      go true = refl
      go false = omega arith

  pub raised_keys : (h : Counts X) (x : X) → SameKeys h (raised less x h)
  raised_keys h x w = sum-map (λ k n. cond (same less k x) (n + 1) n) (λ k _. w k) h

  pub raised_sums : (h : Counts X) → Rising less h → (x : X) → is_held less h x ≡ true → RaisedSums less h x (raised less x h)
  unfolding occurs counted
  raised_sums h p x q = record {
    was_held = s;
    keys = raised_keys h x;
    counts = λ y. at y (one_or_two less order x y);
    sum = omega (arith, one, sum-map up (λ _ n. n) h, sum_same up (λ k n. n + indicator less k x) (raise_sum x) h, sum_add (λ _ n. n) (λ k _. indicator less k x) h);
  }
    where
      up : X → ℕ → ℕ
      up k n = cond (same less k x) (n + 1) n

      s : 1 ≤ occurs less h x
      s = held_occurs less order h x q

      one : occurs less h x ≡ 1
      one = omega (arith, s, occurs_once less order h p x)

      here : counted less (raised less x h) x ≡ counted less h x + indicator less x x
      here =
          omega (
            arith,
            one,
            indicator_self less order x,
            sum-map up (λ k n. count_at less k x n) h,
            sum_same (λ k n. count_at less k x (up k n)) (λ k n. count_at less k x n + indicator less k x) (raise_here x) h,
            sum_add (λ k n. count_at less k x n) (λ k _. indicator less k x) h,
          )

      at : (y : X) → OneOrTwo less x y → counted less (raised less x h) y ≡ counted less h y + indicator less x y
      at y (inl d) = subst (λ (v : X). counted less (raised less x h) v ≡ counted less h v + indicator less x v) d.0 here
      at y (inr d) =
          omega (
            arith,
            d.1,
            sum-map up (λ k n. count_at less k y n) h,
            sum_same (λ k n. count_at less k y (up k n)) (λ k n. count_at less k y n) (λ k n. raise_there y x k n d.0) h,
          )

  -- lowering
  all_above_zero : (h : Counts X) → some_zero h ≡ false → AllByRecursion (λ (e : X × ℕ). 1 ≤ e.1) h
  all_above_zero [] z = tt
  all_above_zero (e ∷ h) z =
      let q = or_parts (eqb e.1 0) (some_zero h) z in
      let n : e.1 ≡ 0 → ⊥ = eqb-false e.1 0 q.0 in
      (omega arith, all_above_zero h q.1)

  -- a sum falls by a(k) at each key k where w falls by that
  sum-lowered : (w : X → ℕ → ℕ) (a : X → ℕ) → ((k : X) (n : ℕ) → 1 ≤ n → w k (n - 1) + a k ≡ w k n) →
      (h : Counts X) → AllByRecursion (λ (e : X × ℕ). 1 ≤ e.1) h → sum_of w (lowered h) + sum_of (λ k _. a k) h ≡ sum_of w h
  unfolding sum_of
  sum-lowered w a f [] p = omega arith
  sum-lowered w a f (e ∷ h) p = omega (arith, f e.0 e.1 p.0, sum-lowered w a f h p.1)

  count_at-lowered : (x k : X) (n : ℕ) → 1 ≤ n → count_at less k x (n - 1) + indicator less k x ≡ count_at less k x n
  unfolding count_at indicator
  count_at-lowered x k n p = go (same less k x)
    where
      go : (b : Bool) → cond b (n - 1) 0 + bit b ≡ cond b n 0
      go true = omega arith
      go false = refl

  -- replacing
  count_at_zero : (k x : X) → count_at less k x 0 ≡ 0
  unfolding count_at
  count_at_zero k x = go (same less k x)
    where
      go : (b : Bool) → ◌≡◌ {A = ℕ} (cond b 0 0) 0
      go true = refl
      go false = refl

  count_at_one : (k x : X) → count_at less k x 1 ≡ indicator less k x
  unfolding count_at indicator
  count_at_one k x = refl

  pub replaced_sums : (h : Counts X) → Rising less h → (x : X) → is_held less h x ≡ false → some_zero h ≡ true → ReplacedSums less h x (replaced less x h)
  unfolding counted
  replaced_sums h p x q z = record {
    not_held = unheld_absent less order h x q;
    gone = L.gone;
    was_held = L.was_held;
    at_zero = L.at_zero;
    smallest = L.smallest;
    keys = λ w. omega (arith, sum-insert (λ k _. w k) (newcomer x) (leave h), L.sums (λ k _. w k));
    counts = λ y. omega (arith, sum-insert (λ k n. count_at less k y n) (newcomer x) (leave h), L.sums (λ k n. count_at less k y n), count_at_zero L.gone y, count_at_one x y);
    sum = omega (arith, sum-insert (λ _ n. n) (newcomer x) (leave h), L.sums (λ _ n. n));
  }
    where
      L : LeftSums less h (leave h)
      L = left_sums h p z

  Rising-replaced : (h : Counts X) → Rising less h → (x : X) → is_held less h x ≡ false → some_zero h ≡ true → Rising less (replaced less x h)
  unfolding occurs
  Rising-replaced h p x q z =
      let L = left_sums h p z in
      Rising-insert (newcomer x) (leave h) (omega (arith, unheld_absent less order h x q, L.sums (λ k _. indicator less k x))) (Rising-leave h p)

-- one entry more: C becomes D by taking x
module _ {K : Type 0} (less : K → K → Bool) where
  pub data Move (C : Content K) (x : Held K) (D : Content K) : Type 0 where
    raises : RaisedSums (less_held less) C.held x D.held → D.l ≡ C.l → Move C x D
    lowers : LoweredSums (less_held less) C.held x D.held → D.l ≡ C.l + 1 → Move C x D
    replaces : ReplacedSums (less_held less) C.held x D.held → D.l ≡ C.l → Move C x D

  pub record Step (C : Content K) (x : Held K) (D : Content K) : Type 0 where
    pub move : Move C x D
    pub rising : Rising (less_held less) D.held
    pub k_same : D.k ≡ C.k
    pub n_more : D.n ≡ C.n + 1

module _ {K : Type 0} (less : K → K → Bool) (order : TotalOrder less) where
  -- the sketch's rule raises, replaces or lowers
  pub sketch_step : (C : Content K) → Rising (less_held less) C.held → (x : K) → Step less C (Real x) (sketch_rule less C x)
  unfolding occurs counted
  sketch_step C p x =
      cond_both (is_held less' C.held (Real x)) _ _ (λ D. Step less C (Real x) D)
      (λ q. record {
        move = raises (raised_sums less' order' C.held p (Real x) q) refl;
        rising = Rising-map less' order' (λ k n. cond (same less' k (Real x)) (n + 1) n) C.held p;
        k_same = refl;
        n_more = refl;
      })
      (λ q. cond_both (some_zero C.held) _ _ (λ D. Step less C (Real x) D)
      (λ z. record {
        move = replaces (replaced_sums less' order' C.held p (Real x) q z) refl;
        rising = Rising-replaced less' order' C.held p (Real x) q z;
        k_same = refl;
        n_more = refl;
      })
      (λ z.
      let above = all_above_zero less' order' C.held z in
      record {
        move = lowers (record {
          not_held = unheld_absent less' order' C.held (Real x) q;
          no_zero = λ y. omega (arith, sum-lowered less' order' (λ k n. count_at less' k y n) (λ k. indicator less' k y) (count_at-lowered less' order' y) C.held above);
          keys = λ w. omega (arith, sum-map (λ _ n. n - 1) (λ k _. w k) C.held);
          counts = λ y. omega (arith, sum-lowered less' order' (λ k n. count_at less' k y n) (λ k. indicator less' k y) (count_at-lowered less' order' y) C.held above);
          sum = omega (arith, sum-lowered less' order' (λ _ n. n) (λ _. 1) (λ k n i. omega arith) C.held above);
        }) refl;
        rising = Rising-map less' order' (λ k n. n - 1) C.held p;
        k_same = refl;
        n_more = refl;
      }))
    where
      less' : Held K → Held K → Bool
      less' = less_held less

      order' : TotalOrder less'
      order' = held_total less order
