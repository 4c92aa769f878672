-- The list is what the words of the listing rule say, and the words leave nothing else.
use Rattle.std.proofs.Common.{◌≡◌, Bool, true, false, cond, ◌⊎◌, List, [], ◌∷◌, ◌++◌, length, ℤ, ◌≤ℤ◌, ◌<ℤ◌, filter, sym, refl, ap, ◌∙◌, inl, inr, arith}
use lib.Signed.{le_z}
use Rattle.std.specs.List.{AllByRecursion}
use Rattle.std.proofs.lemmas.Int.{ints}
use Rattle.keys.specs.Orders.{TotalOrder, same}
use Rattle.keys.specs.Helds.{less_held}
use Rattle.keys.specs.declared.held.Held.{Held}
use Rattle.keys.specs.declared.held.Held.TheVariants.{Real, Dummy}
use Rattle.keys.specs.KindOrdersLemmas.{held_total}
use Rattle.keys.specs.Sorted.{Rising}
use Rattle.model.specs.Contents.{Content, reals, holds}
use Rattle.model.specs.Laws.{HoldsK}
use Rattle.model.specs.Listing.{valued, reaches, listed, beside, value_of, IsList, OneList}
use Rattle.model.proofs.Rows.{same_rows}
use Rattle.model.proofs.Valued.{reaches_true, reaches_false, Rising-filter, Rising-valued, beside_kept, beside-valued}

-- the real keys of a list
pub reals-append : {K Y : Type 0} (a b : List (Held K × Y)) → reals (a ++ b) ≡ reals a ++ reals b
reals-append [] b = refl
reals-append ((Real x, y) ∷ a) b = ap (λ r. (x, y) ∷ r) (reals-append a b)
reals-append ((Dummy j, y) ∷ a) b = reals-append a b

module _ {K Y : Type 0} (less : K → K → Bool) where
  all_reals : (x : K) (r : List (Held K × Y)) → AllByRecursion (λ (f : Held K × Y). less_held less (Real x) f.0 ≡ true) r → AllByRecursion (λ (f : K × Y). less x f.0 ≡ true) (reals r)
  all_reals x [] a = tt
  all_reals x ((Real y, v) ∷ r) a = (a.0, all_reals x r a.1)
  all_reals x ((Dummy j, v) ∷ r) a = all_reals x r a.1

  Rising-reals : (r : List (Held K × Y)) → Rising (less_held less) r → Rising less (reals r)
  Rising-reals [] p = tt
  Rising-reals ((Real x, v) ∷ r) p = (all_reals x r p.0, Rising-reals r p.1)
  Rising-reals ((Dummy j, v) ∷ r) p = Rising-reals r p.1

  beside-reals : (r : List (Held K × Y)) (x : K) → beside less (reals r) x ≡ beside (less_held less) r (Real x)
  beside-reals [] x = refl
  beside-reals ((Real y, v) ∷ r) x = go (same less y x) (beside-reals r x)
    where
      go : (b : Bool) → beside less (reals r) x ≡ beside (less_held less) r (Real x) →
          cond b (v ∷ beside less (reals r) x) (beside less (reals r) x) ≡ cond b (v ∷ beside (less_held less) r (Real x)) (beside (less_held less) r (Real x))
      go true i = ap (λ (w : List Y). v ∷ w) i
      go false i = i
  beside-reals ((Dummy j, v) ∷ r) x = beside-reals r x

-- two numbers are in one order or the other
cases_ℤ : (t v : ℤ) → (t ≤ℤ v) ⊎ (v <ℤ t)
cases_ℤ t v = go (le_z t v) refl
  where
    go : (b : Bool) → le_z t v ≡ b → (t ≤ℤ v) ⊎ (v <ℤ t)
    go true p = inl (grind (arith, ints))
    go false p = inr (grind (arith, ints))

module _ {K : Type 0} (less : K → K → Bool) (order : TotalOrder less) (C : Content K) (c : HoldsK less C) (s : ℤ) (ds : List ℤ) (t : ℤ) (long : length ds ≡ C.k) where
  abbrev value : K → ℤ
  value x = value_of less C s ds (Real x)

  rows : List (Held K × ℤ)
  rows = filter (λ (e : Held K × ℤ). reaches t e.1) (valued C.held s ds)

  -- beside a key stands its value, if it is held and passes the test
  passed : (x : K) → beside less (listed C s ds t) x ≡ filter (reaches t) (cond (holds less C (Real x)) (value x ∷ []) [])
  unfolding rows
  passed x =
      beside-reals less rows x ∙ beside_kept (less_held less) (held_total less order) (reaches t) (valued C.held s ds) (Real x) ∙
      ap (filter (reaches t)) (beside-valued (less_held less) (held_total less order) C.held s ds c.rising (long ∙ sym c.exactly) (Real x))

  tested : (x : K) (b : Bool) → holds less C (Real x) ≡ true → reaches t (value x) ≡ b → beside less (listed C s ds t) x ≡ cond b (value x ∷ []) []
  tested x b p q = passed x ∙ ap (λ (h : Bool). filter (reaches t) (cond h (value x ∷ []) [])) p ∙ ap (λ (b : Bool). cond b (value x ∷ []) []) q

  is_list : IsList less C s ds t (listed C s ds t)
  unfolding rows
  is_list = record {
    rising = Rising-reals less rows
        (Rising-filter (less_held less) (λ (e : Held K × ℤ). reaches t e.1) (valued C.held s ds) (Rising-valued (less_held less) (held_total less order) C.held s ds c.rising));
    reached = λ x p q. tested x true p (reaches_true t (value x) q);
    too_low = λ x p q. tested x false p (reaches_false t (value x) q);
    not_held = λ x p. passed x ∙ ap (λ (h : Bool). filter (reaches t) (cond h (value x ∷ []) [])) p;
  }

  -- two lists that the words fit have the same beside each key
  same_beside : (q r : List (K × ℤ)) → IsList less C s ds t q → IsList less C s ds t r → (x : K) → beside less q x ≡ beside less r x
  same_beside q r i j x = go (holds less C (Real x)) refl (cases_ℤ t (value x))
    where
      go : (b : Bool) → holds less C (Real x) ≡ b → (t ≤ℤ value x) ⊎ (value x <ℤ t) → beside less q x ≡ beside less r x
      go true p (inl l) = i.reached x p l ∙ sym (j.reached x p l)
      go true p (inr l) = i.too_low x p l ∙ sym (j.too_low x p l)
      go false p l = i.not_held x p ∙ sym (j.not_held x p)

  pub one_list : OneList less C s ds t
  one_list = record {
    is_list = is_list;
    nothing_else = λ r i. same_rows less order r (listed C s ds t) i.rising is_list.rising (same_beside r (listed C s ds t) i is_list);
  }
