-- There is a way to hand over draws between contents that hold as many keys. Idea: pair the keys that only one holds
-- with those that only the other holds, in key order.
use Rattle.std.proofs.Common.{◌≡◌, ℕ, ◌≤◌, Bool, true, false, cond, not, ◌||◌, [], ◌∷◌, length, sym, refl, ap, ◌∙◌, subst, arith}
use Rattle.std.specs.List.{AllByRecursion}
use Rattle.std.proofs.lemmas.Bool.{both_ways}
use Rattle.keys.specs.Orders.{TotalOrder, same}
use Rattle.keys.specs.Helds.{less_held}
use Rattle.keys.specs.declared.held.Held.{Held}
use Rattle.keys.specs.KindOrdersLemmas.{same_self, same_equal, held_total}
use Rattle.keys.specs.Sorted.{Rising}
use Rattle.model.specs.Contents.{Counts, Content, is_held, count}
use Rattle.model.specs.Neighbours.{only, only_in}
use Rattle.model.specs.Laws.{HoldsK}
use Rattle.model.specs.Handing.{Way}
use Rattle.model.proofs.Sums.{length-sum, above_absent, absent_unheld, occurs_once}
use Rattle.model.proofs.Missing.{missing_sym}
use Rattle.model.proofs.Pairs.{only_missing}
use Rattle.model.proofs.Valued.{Rising-filter}

module _ {X : Type 0} (less : X → X → Bool) (order : TotalOrder less) where
  -- what is held only by h
  pub only_held : (h g : Counts X) (x : X) → is_held less (only less h g) x ≡ true → (is_held less h x ≡ true) × (is_held less g x ≡ false)
  only_held [] g x p = absurd (both_ways false refl p)
  only_held (e ∷ h) g x p = go (is_held less g e.0) refl (same less e.0 x) refl p (only_held h g x)
    where
      go : (c : Bool) → is_held less g e.0 ≡ c → (b : Bool) → same less e.0 x ≡ b → is_held less (cond (not c) (e ∷ only less h g) (only less h g)) x ≡ true →
          (is_held less (only less h g) x ≡ true → (is_held less h x ≡ true) × (is_held less g x ≡ false)) → ((b || is_held less h x) ≡ true) × (is_held less g x ≡ false)
      go true m true r p i = absurd (both_ways (is_held less g x) (i p).1 (subst (λ (v : X). is_held less g v ≡ true) (same_equal less order e.0 x r) m))
      go true m false r p i = i p
      go false m true r p i = (refl, subst (λ (v : X). is_held less g v ≡ false) (same_equal less order e.0 x r) m)
      go false m false r p i = i (subst (λ (b : Bool). (b || is_held less (only less h g) x) ≡ true) r p)

  pub held_only : (h g : Counts X) (x : X) → is_held less h x ≡ true → is_held less g x ≡ false → is_held less (only less h g) x ≡ true
  held_only [] g x p q = absurd (both_ways false refl p)
  held_only (e ∷ h) g x p q = go (is_held less g e.0) refl (same less e.0 x) refl p (λ p. held_only h g x p q)
    where
      go : (c : Bool) → is_held less g e.0 ≡ c → (b : Bool) → same less e.0 x ≡ b → (b || is_held less h x) ≡ true → (is_held less h x ≡ true → is_held less (only less h g) x ≡ true) →
          is_held less (cond (not c) (e ∷ only less h g) (only less h g)) x ≡ true
      go true m true r p i = absurd (both_ways (is_held less g x) q (subst (λ (v : X). is_held less g v ≡ true) (same_equal less order e.0 x r) m))
      go true m false r p i = i p
      go false m true r p i = ap (λ (b : Bool). b || is_held less (only less h g) x) r
      go false m false r p i = ap (λ (b : Bool). b || is_held less (only less h g) x) r ∙ i p

  pub only_count : (h g : Counts X) → AllByRecursion (λ (e : X × ℕ). e.1 ≤ 1) (only less h g) → (x : X) → is_held less h x ≡ true → is_held less g x ≡ false → count less h x ≤ 1
  only_count [] g a x p q = absurd (both_ways false refl p)
  only_count (e ∷ h) g a x p q = go (is_held less g e.0) refl (same less e.0 x) refl a p (λ a p. only_count h g a x p q)
    where
      go : (c : Bool) → is_held less g e.0 ≡ c → (b : Bool) → same less e.0 x ≡ b → AllByRecursion (λ (e : X × ℕ). e.1 ≤ 1) (cond (not c) (e ∷ only less h g) (only less h g)) → (b || is_held less h x) ≡ true →
          (AllByRecursion (λ (e : X × ℕ). e.1 ≤ 1) (only less h g) → is_held less h x ≡ true → count less h x ≤ 1) → cond b e.1 (count less h x) ≤ 1
      go true m true r a p i = absurd (both_ways (is_held less g x) q (subst (λ (v : X). is_held less g v ≡ true) (same_equal less order e.0 x r) m))
      go true m false r a p i = i a p
      go false m true r a p i = a.0
      go false m false r a p i = i a.1 p

  -- the key of b at the place that x has in a
  abbrev pub partner : Counts X → Counts X → X → X
  partner [] b x = x
  partner (e ∷ a) [] x = x
  partner (e ∷ a) (f ∷ b) x = cond (same less e.0 x) f.0 (partner a b x)

  pub partner_held : (a b : Counts X) → length a ≡ length b → (x : X) → is_held less a x ≡ true → is_held less b (partner a b x) ≡ true
  partner_held [] b l x p = absurd (both_ways false refl p)
  partner_held (e ∷ a) [] l x p = absurd (omega arith)
  partner_held (e ∷ a) (f ∷ b) l x p = go (same less e.0 x) p (partner_held a b (omega arith) x)
    where
      go : (c : Bool) → (c || is_held less a x) ≡ true → (is_held less a x ≡ true → is_held less b (partner a b x) ≡ true) → is_held less (f ∷ b) (cond c f.0 (partner a b x)) ≡ true
      go true p i = ap (λ (c : Bool). c || is_held less b f.0) (same_self less order f.0)
      go false p i = right (same less f.0 (partner a b x)) (i p)
        where
          right : (c : Bool) → is_held less b (partner a b x) ≡ true → (c || is_held less b (partner a b x)) ≡ true
          right true q = refl
          right false q = q

  pub partner_one : (a b : Counts X) → length a ≡ length b → Rising less b → (x y : X) → is_held less a x ≡ true → is_held less a y ≡ true → partner a b x ≡ partner a b y → x ≡ y
  partner_one [] b l r x y p q e = absurd (both_ways false refl p)
  partner_one (d ∷ a) [] l r x y p q e = absurd (omega arith)
  partner_one (d ∷ a) (f ∷ b) l r x y p q e = go (same less d.0 x) refl (same less d.0 y) refl p q e (partner_one a b (omega arith) r.1 x y)
    where
      -- the first of b has no second place
      first_only : (z : X) → is_held less a z ≡ true → f.0 ≡ partner a b z → ⊥
      first_only z p e =
          both_ways (is_held less b f.0) (absent_unheld less order b f.0 (above_absent less order f.0 b r.0))
          (subst (λ (v : X). is_held less b v ≡ true) (sym e) (partner_held a b (omega arith) z p))

      go : (c : Bool) → same less d.0 x ≡ c → (c' : Bool) → same less d.0 y ≡ c' → (c || is_held less a x) ≡ true → (c' || is_held less a y) ≡ true →
          cond c f.0 (partner a b x) ≡ cond c' f.0 (partner a b y) → (is_held less a x ≡ true → is_held less a y ≡ true → partner a b x ≡ partner a b y → x ≡ y) → x ≡ y
      go true m true n p q e i = sym (same_equal less order d.0 x m) ∙ same_equal less order d.0 y n
      go true m false n p q e i = absurd (first_only y q e)
      go false m true n p q e i = absurd (first_only x p (sym e))
      go false m false n p q e i = i p q e

  -- contents that hold as many keys have as many that the other lacks
  pub only_as_many : (h g : Counts X) → Rising less h → Rising less g → length h ≡ length g → length (only less h g) ≡ length (only less g h)
  only_as_many h g rh rg l =
      omega (
        arith,
        only_missing less order h g,
        only_missing less order g h,
        missing_sym less order h g (occurs_once less order h rh) (occurs_once less order g rg) (omega (arith, l, length-sum h, length-sum g)),
      )

pub as_many : {K : Type 0} (less : K → K → Bool) → TotalOrder less → (C D : Content K) → HoldsK less C → HoldsK less D → C.k ≡ D.k → length (only_in less C D) ≡ length (only_in less D C)
as_many less order C D c d k = only_as_many (less_held less) (held_total less order) C.held D.held c.rising d.rising (c.exactly ∙ k ∙ sym d.exactly)

pub a_way : {K : Type 0} (less : K → K → Bool) → TotalOrder less → (C D : Content K) → HoldsK less C → HoldsK less D → C.k ≡ D.k → Way less C D
a_way {K} less order C D c d k = record {
  giver = partner less' order' a b;
  given = λ x p. only_held less' order' C.held D.held (partner less' order' a b x) (partner_held less' order' a b l x (held_only less' order' D.held C.held x p.0 p.1));
  one_each = λ x y p q e.
      partner_one less' order' a b l (Rising-filter less' (λ (e : Held K × ℕ). not (is_held less' D.held e.0)) C.held c.rising) x y
      (held_only less' order' D.held C.held x p.0 p.1) (held_only less' order' D.held C.held y q.0 q.1) e;
}
  where
    less' : Held K → Held K → Bool
    less' = less_held less

    order' : TotalOrder less'
    order' = held_total less order

    a : Counts (Held K)
    a = only less' D.held C.held

    b : Counts (Held K)
    b = only less' C.held D.held

    l : length a ≡ length b
    l = as_many less order D C d c (sym k)
