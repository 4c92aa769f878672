-- Sums over keys with their counts: `occurs h x` is how often x stands in h, `counted h x` the sum of its counts,
-- `missing h g` how many of the keys of h are not in g. Idea: whatever taking does to a list changes such a sum by a
-- term or two, so that facts on sets of keys become linear arithmetic.
use Rattle.std.proofs.Common.{◌≡◌, ℕ, zero, suc, ◌+◌, ◌-◌, ◌≤◌, Bool, true, false, cond, ◌||◌, ◌⊎◌, [], ◌∷◌, map, length, sym, refl, ap, ◌∙◌, subst, inl, inr, arith}
use Rattle.std.specs.List.{AllByRecursion}
use Rattle.std.proofs.lemmas.Bool.{both_ways}
use Rattle.keys.specs.Orders.{TotalOrder, same}
use Rattle.keys.specs.KindOrdersLemmas.{same_self, same_equal}
use Rattle.keys.specs.Sorted.{Rising}
use Rattle.model.specs.Contents.{Counts, is_held, count, total}

module _ {X : Type 0} where
  -- the sum of w over keys and counts
  unfoldable pub sum_of : (X → ℕ → ℕ) → Counts X → ℕ
  sum_of w [] = 0
  sum_of w (e ∷ h) = w e.0 e.1 + sum_of w h

  pub sum_same : (a b : X → ℕ → ℕ) → ((k : X) (n : ℕ) → a k n ≡ b k n) → (h : Counts X) → sum_of a h ≡ sum_of b h
  unfolding sum_of
  sum_same a b p [] = refl
  sum_same a b p (e ∷ h) = omega (arith, p e.0 e.1, sum_same a b p h)

  pub sum_add : (a b : X → ℕ → ℕ) (h : Counts X) → sum_of (λ k n. a k n + b k n) h ≡ sum_of a h + sum_of b h
  unfolding sum_of
  sum_add a b [] = refl
  sum_add a b (e ∷ h) = omega (arith, sum_add a b h)

  pub sum_zero : (h : Counts X) → sum_of (λ _ _. 0) h ≡ 0
  unfolding sum_of
  sum_zero [] = refl
  sum_zero (e ∷ h) = omega (arith, sum_zero h)

  -- the counts changed by f
  pub sum-map : (f : X → ℕ → ℕ) (w : X → ℕ → ℕ) (h : Counts X) → sum_of w (map (λ (e : X × ℕ). (e.0, f e.0 e.1)) h) ≡ sum_of (λ k n. w k (f k n)) h
  unfolding sum_of
  sum-map f w [] = refl
  sum-map f w (e ∷ h) = omega (arith, sum-map f w h)

  -- sums over two lists change places
  pub sum_swap : (f : X → X → ℕ) (h g : Counts X) → sum_of (λ k _. sum_of (λ j _. f k j) g) h ≡ sum_of (λ j _. sum_of (λ k _. f k j) h) g
  unfolding sum_of
  sum_swap f [] g = sym (sum_zero g)
  sum_swap f (e ∷ h) g = omega (arith, sum_swap f h g, sum_add (λ j _. f e.0 j) (λ j _. sum_of (λ k _. f k j) h) g)

  pub total-sum : (h : Counts X) → total h ≡ sum_of (λ _ n. n) h
  unfolding sum_of
  total-sum [] = refl
  total-sum (e ∷ h) = omega (arith, total-sum h)

  pub length-sum : (h : Counts X) → length h ≡ sum_of (λ _ _. 1) h
  unfolding sum_of
  length-sum [] = refl
  length-sum (e ∷ h) = omega (arith, length-sum h)

abbrev pub bit : Bool → ℕ
bit b = cond b 1 0

module _ {X : Type 0} (less : X → X → Bool) where
  -- 1 where the two are one key, else 0
  unfoldable pub indicator : X → X → ℕ
  indicator k x = bit (same less k x)

  -- n where the two are one key, else 0
  unfoldable pub count_at : X → X → ℕ → ℕ
  count_at k x n = cond (same less k x) n 0

  unfoldable pub occurs : Counts X → X → ℕ
  occurs h x = sum_of (λ k _. indicator k x) h

  unfoldable pub counted : Counts X → X → ℕ
  counted h x = sum_of (λ k n. count_at k x n) h

  unfoldable pub missing : Counts X → Counts X → ℕ
  missing h g = sum_of (λ k _. 1 - occurs g k) h

-- no key stands twice
abbrev pub Once : {X : Type 0} → (X → X → Bool) → Counts X → Type 0
Once {X} less h = (x : X) → occurs less h x ≤ 1

-- one key, or two
abbrev pub OneOrTwo : {X : Type 0} → (X → X → Bool) → X → X → Type 0
OneOrTwo less x y = ((x ≡ y) × (indicator less x y ≡ 1)) ⊎ ((x ≡ y → ⊥) × (indicator less x y ≡ 0))

-- a key that is not there counts 0
abbrev pub AbsentOrThere : {X : Type 0} → (X → X → Bool) → Counts X → X → Type 0
AbsentOrThere less h x = ((occurs less h x ≡ 0) × (counted less h x ≡ 0)) ⊎ (1 ≤ occurs less h x)

-- what f is at i it is at x, or they differ
abbrev pub AlikeOrOther : {X : Type 0} → (X → X → Bool) → (X → ℕ) → X → X → Type 0
AlikeOrOther less f i x = ((indicator less i x ≡ 1) × (f x ≡ f i)) ⊎ (indicator less i x ≡ 0)

module _ {X : Type 0} (less : X → X → Bool) (order : TotalOrder less) where
  pub indicator_self : (x : X) → indicator less x x ≡ 1
  unfolding indicator
  indicator_self x = ap bit (same_self less order x)

  pub one_or_two : (x y : X) → OneOrTwo less x y
  unfolding indicator
  one_or_two x y = go (same less x y) refl
    where
      go : (b : Bool) → same less x y ≡ b → OneOrTwo less x y
      go true s = inl (same_equal less order x y s, ap bit s)
      go false s = inr ((λ e. both_ways (same less x y) s (subst (λ (z : X). same less x z ≡ true) e (same_self less order x))), ap bit s)

  pub indicator_sym : (x y : X) → indicator less x y ≡ indicator less y x
  indicator_sym x y = go (one_or_two x y) (one_or_two y x)
    where
      go : OneOrTwo less x y → OneOrTwo less y x → indicator less x y ≡ indicator less y x
      go (inl p) (inl q) = p.1 ∙ sym q.1
      go (inl p) (inr q) = absurd (q.0 (sym p.0))
      go (inr p) (inl q) = absurd (p.0 (sym q.0))
      go (inr p) (inr q) = p.1 ∙ sym q.1

  pub indicator_other : (x y : X) → (y ≡ x → ⊥) → indicator less x y ≡ 0
  indicator_other x y n = go (one_or_two x y)
    where
      go : OneOrTwo less x y → indicator less x y ≡ 0
      go (inl d) = absurd (n (sym d.0))
      go (inr d) = d.1

  pub count_at_self : (x : X) (n : ℕ) → count_at less x x n ≡ n
  unfolding count_at
  count_at_self x n = ap (λ (b : Bool). cond b n 0) (same_self less order x)

  -- what is larger on each key of h has the larger sum
  pub sum_le : (a b : X → ℕ) (h : Counts X) → ((x : X) → 1 ≤ occurs less h x → a x ≤ b x) → sum_of (λ k _. a k) h ≤ sum_of (λ k _. b k) h
  unfolding sum_of occurs
  sum_le a b [] p = omega arith
  sum_le a b (e ∷ h) p = omega (arith, p e.0 (omega (arith, indicator_self e.0)), sum_le a b h (λ x s. p x (omega (arith, s))))

  pub absent_counts_0 : (h : Counts X) (x : X) → occurs less h x ≡ 0 → counted less h x ≡ 0
  unfolding sum_of occurs counted indicator count_at
  absent_counts_0 [] x s = refl
  absent_counts_0 (e ∷ h) x s = go (same less e.0 x) refl (absent_counts_0 h x (omega arith))
    where
      go : (b : Bool) → same less e.0 x ≡ b → counted less h x ≡ 0 → count_at less e.0 x e.1 + counted less h x ≡ 0
      go true q r = omega (arith, s, ap bit q)
      go false q r = omega (arith, r, ap (λ (b : Bool). cond b e.1 0) q)

  -- in rising order no key stands twice
  pub above_absent : (x : X) (h : Counts X) → AllByRecursion (λ (f : X × ℕ). less x f.0 ≡ true) h → occurs less h x ≡ 0
  unfolding sum_of occurs
  above_absent x [] p = refl
  above_absent x (e ∷ h) p = go (one_or_two e.0 x) (above_absent x h p.1)
    where
      go : OneOrTwo less e.0 x → occurs less h x ≡ 0 → indicator less e.0 x + occurs less h x ≡ 0
      go (inl q) r = absurd (both_ways (less x x) (order.irreflexive x) (subst (λ (z : X). less x z ≡ true) q.0 p.0))
      go (inr q) r = omega arith

  pub occurs_once : (h : Counts X) → Rising less h → Once less h
  unfolding sum_of occurs
  occurs_once [] p x = omega arith
  occurs_once (e ∷ h) p x = go (one_or_two e.0 x) (occurs_once h p.1 x)
    where
      go : OneOrTwo less e.0 x → occurs less h x ≤ 1 → indicator less e.0 x + occurs less h x ≤ 1
      go (inl q) r = omega (arith, q.1, subst (λ (z : X). occurs less h z ≡ 0) q.0 (above_absent e.0 h p.0))
      go (inr q) r = omega arith

  -- what holds of each key holds of one that occurs
  pub all_occurs : (P : X → Type 0) (x : X) (h : Counts X) → AllByRecursion (λ (e : X × ℕ). P e.0) h → 1 ≤ occurs less h x → P x
  unfolding sum_of occurs
  all_occurs P x [] p s = absurd (omega arith)
  all_occurs P x (e ∷ h) p s = go (one_or_two e.0 x) (all_occurs P x h p.1)
    where
      go : OneOrTwo less e.0 x → (1 ≤ occurs less h x → P x) → P x
      go (inl q) r = subst P q.0 p.0
      go (inr q) r = r (omega arith)

  -- the tests of the definitions, by sums
  pub held_occurs : (h : Counts X) (x : X) → is_held less h x ≡ true → 1 ≤ occurs less h x
  unfolding sum_of occurs indicator
  held_occurs [] x q = absurd (both_ways false refl q)
  held_occurs (e ∷ h) x q = go (same less e.0 x) refl (held_occurs h x)
    where
      go : (b : Bool) → same less e.0 x ≡ b → (is_held less h x ≡ true → 1 ≤ occurs less h x) → 1 ≤ indicator less e.0 x + occurs less h x
      go true r s = omega (arith, ap bit r)
      go false r s = omega (arith, s (subst (λ (b : Bool). (b || is_held less h x) ≡ true) r q))

  pub unheld_absent : (h : Counts X) (x : X) → is_held less h x ≡ false → occurs less h x ≡ 0
  unfolding sum_of occurs indicator
  unheld_absent [] x q = refl
  unheld_absent (e ∷ h) x q = go (same less e.0 x) refl (unheld_absent h x)
    where
      go : (b : Bool) → same less e.0 x ≡ b → (is_held less h x ≡ false → occurs less h x ≡ 0) → indicator less e.0 x + occurs less h x ≡ 0
      go true r s = absurd (both_ways true (subst (λ (b : Bool). (b || is_held less h x) ≡ false) r q) refl)
      go false r s = omega (arith, s (subst (λ (b : Bool). (b || is_held less h x) ≡ false) r q), ap bit r)

  pub occurs_held : (h : Counts X) (x : X) → 1 ≤ occurs less h x → is_held less h x ≡ true
  occurs_held h x s = go (is_held less h x) refl
    where
      go : (b : Bool) → is_held less h x ≡ b → is_held less h x ≡ true
      go true q = q
      go false q = absurd (omega (arith, s, unheld_absent h x q))

  pub absent_unheld : (h : Counts X) (x : X) → occurs less h x ≡ 0 → is_held less h x ≡ false
  absent_unheld h x s = go (is_held less h x) refl
    where
      go : (b : Bool) → is_held less h x ≡ b → is_held less h x ≡ false
      go false q = q
      go true q = absurd (omega (arith, s, held_occurs h x q))

  pub held_like : (h g : Counts X) (x : X) → occurs less h x ≡ occurs less g x → is_held less h x ≡ is_held less g x
  held_like h g x s = go (is_held less g x) refl
    where
      go : (b : Bool) → is_held less g x ≡ b → is_held less h x ≡ is_held less g x
      go true q = occurs_held h x (omega (arith, s, held_occurs g x q)) ∙ sym q
      go false q = absent_unheld h x (s ∙ unheld_absent g x q) ∙ sym q

  pub count_counted : (h : Counts X) → Rising less h → (x : X) → count less h x ≡ counted less h x
  unfolding sum_of counted count_at
  count_counted [] p x = refl
  count_counted (e ∷ h) p x = go (same less e.0 x) refl (count_counted h p.1 x)
    where
      go : (b : Bool) → same less e.0 x ≡ b → count less h x ≡ counted less h x → cond (same less e.0 x) e.1 (count less h x) ≡ count_at less e.0 x e.1 + counted less h x
      go true r s =
          let z : counted less h x ≡ 0 = absent_counts_0 h x (subst (λ (y : X). occurs less h y ≡ 0) (same_equal less order e.0 x r) (above_absent e.0 h p.0)) in
          omega (arith, z, ap (λ (b : Bool). cond b e.1 0) r, ap (λ (b : Bool). cond b e.1 (count less h x)) r)
      go false r s = omega (arith, s, ap (λ (b : Bool). cond b e.1 0) r, ap (λ (b : Bool). cond b e.1 (count less h x)) r)

  pub present : (h : Counts X) (x : X) → AbsentOrThere less h x
  present h x = go (occurs less h x) refl
    where
      go : (n : ℕ) → occurs less h x ≡ n → AbsentOrThere less h x
      go zero e = inl (e, absent_counts_0 h x e)
      go (suc n) e = inr (omega arith)

  pub alike : (f : X → ℕ) (i x : X) → AlikeOrOther less f i x
  alike f i x = go (one_or_two i x)
    where
      go : OneOrTwo less i x → AlikeOrOther less f i x
      go (inl d) = inl (d.1, sym (ap f d.0))
      go (inr d) = inr d.1
