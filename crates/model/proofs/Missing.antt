-- How many keys one list holds and another does not, and what moves make of that number.
use Rattle.std.proofs.Common.{◌≡◌, ℕ, ◌+◌, ◌-◌, ◌≤◌, Bool, ap, ◌∙◌, inl, inr, arith}
use Rattle.keys.specs.Orders.{TotalOrder}
use Rattle.model.specs.Contents.{Counts}
use Rattle.model.proofs.Sums.{sum_of, sum_same, sum_add, sum_zero, sum_swap, sum_le, indicator, occurs, missing, Once, indicator_sym, AbsentOrThere, AlikeOrOther, present, alike}
use Rattle.model.proofs.Moves.{SameKeys, KeysSwapped}

module _ {X : Type 0} (less : X → X → Bool) (order : TotalOrder less) where
  module _ (h g : Counts X) where
    pub missing_bound : Once less h → (x : X) → occurs less h x ≤ missing less h g + occurs less g x
    unfolding missing occurs
    missing_bound o x = by (present less order g x)
      where
        by : AbsentOrThere less g x → occurs less h x ≤ missing less h g + occurs less g x
        by (inl p) = omega (arith, sum_le less order (λ k. indicator less k x) (λ k. 1 - occurs less g k) h (λ k _. omega (arith, p.0, alike less order (occurs less g) k x)))
        by (inr p) = omega (arith, o x)

    pub missing_two : Once less h → (x y : X) → occurs less h x + occurs less h y ≤ missing less h g + occurs less g x + occurs less g y + indicator less x y
    unfolding missing occurs
    missing_two o x y = by (present less order g x) (present less order g y) (alike less order (occurs less h) x y)
      where
        by : AbsentOrThere less g x → AbsentOrThere less g y →
            AlikeOrOther less (occurs less h) x y →
            occurs less h x + occurs less h y ≤ missing less h g + occurs less g x + occurs less g y + indicator less x y
        by (inr p) q r = omega (arith, missing_bound o y, o x)
        by (inl p) (inr q) r = omega (arith, missing_bound o x, o y)
        by (inl p) (inl q) (inl r) = omega (arith, missing_bound o x, o y, r)
        by (inl p) (inl q) (inr r) =
            omega (
              arith,
              sum_add (λ k _. indicator less k x) (λ k _. indicator less k y) h,
              sum_le less order (λ k. indicator less k x + indicator less k y) (λ k. 1 - occurs less g k) h (λ k _. omega (arith, p.0, q.0, r, alike less order (occurs less g) k x, alike less order (occurs less g) k y, alike less order (λ v. indicator less v y) k x)),
            )

    pub missing_none : ((x : X) → 1 ≤ occurs less h x → 1 ≤ occurs less g x) → missing less h g ≡ 0
    unfolding missing
    missing_none f = omega (arith, sum_zero h, sum_le less order (λ k. 1 - occurs less g k) (λ _. 0) h (λ x s. omega (arith, f x s)))

    -- at most i
    pub missing_only : Once less h → (i : X) → ((x : X) → 1 ≤ occurs less h x → 1 ≤ occurs less g x + indicator less i x) → missing less h g ≤ 1
    unfolding missing occurs
    missing_only o i f = omega (arith, o i, sum_le less order (λ k. 1 - occurs less g k) (λ k. indicator less k i) h (λ x s. omega (arith, f x s, indicator_sym less order x i)))

    common : ℕ
    common = sum_of (λ k _. occurs less g k) h

    missing_common : Once less g → missing less h g + common ≡ sum_of (λ _ _. 1) h
    unfolding missing common
    missing_common o = omega (arith, sum_add (λ k _. 1 - occurs less g k) (λ k _. occurs less g k) h, sum_same (λ k _. 1 - occurs less g k + occurs less g k) (λ _ _. 1) (λ k _. omega (arith, o k)) h)

  common_sym : (h g : Counts X) → common h g ≡ common g h
  unfolding common occurs
  common_sym h g =
      sum_swap (λ k j. indicator less j k) h g ∙ sum_same (λ j _. sum_of (λ k _. indicator less j k) h) (λ j _. sum_of (λ k _. indicator less k j) h)
      (λ j _. sum_same (λ k _. indicator less j k) (λ k _. indicator less k j) (λ k _. indicator_sym less order j k) h) g

  pub missing_sym : (h g : Counts X) → Once less h → Once less g → sum_of (λ _ _. 1) h ≡ sum_of (λ _ _. 1) g → missing less h g ≡ missing less g h
  missing_sym h g o p e = omega (arith, missing_common h g p, missing_common g h o, common_sym h g)

  pub missing_self : (h : Counts X) → missing less h h ≡ 0
  missing_self h = missing_none h h (λ x s. s)

  -- after a move
  pub kept_occurs : (h t : Counts X) → SameKeys h t → (x : X) → occurs less t x ≡ occurs less h x
  unfolding occurs
  kept_occurs h t m x = m (λ k. indicator less k x)

  pub swapped_occurs : (z y : X) (h t : Counts X) → KeysSwapped z y h t → (x : X) → occurs less t x + indicator less z x ≡ occurs less h x + indicator less y x
  unfolding occurs
  swapped_occurs z y h t m x = m (λ k. indicator less k x)

  pub missing_kept : (h t g u : Counts X) → SameKeys h t → SameKeys g u → missing less t u ≡ missing less h g
  unfolding missing
  missing_kept h t g u m n = m (λ k. 1 - occurs less u k) ∙ sum_same (λ k _. 1 - occurs less u k) (λ k _. 1 - occurs less g k) (λ k _. ap (λ (v : ℕ). 1 - v) (kept_occurs g u n k)) h

  pub missing_swap_first : (z y : X) (h t g : Counts X) → KeysSwapped z y h t → missing less t g + (1 - occurs less g z) ≡ missing less h g + (1 - occurs less g y)
  unfolding missing
  missing_swap_first z y h t g m = m (λ k. 1 - occurs less g k)

  pub missing_swap_second : (z y : X) (h g u : Counts X) → Once less g → Once less u → KeysSwapped z y g u → missing less h u + occurs less h y ≡ missing less h g + occurs less h z
  unfolding missing occurs
  missing_swap_second z y h g u o p m =
      omega (
        arith,
        sum_add (λ k _. 1 - occurs less u k) (λ k _. indicator less k y) h,
        sum_add (λ k _. 1 - occurs less g k) (λ k _. indicator less k z) h,
        sum_same (λ k _. 1 - occurs less u k + indicator less k y) (λ k _. 1 - occurs less g k + indicator less k z)
            (λ k _. omega (arith, o k, p k, swapped_occurs z y g u m k, indicator_sym less order z k, indicator_sym less order y k)) h,
      )
