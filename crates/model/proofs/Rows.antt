-- Keys with something beside each, in rising order, are one list where each key has the same beside it.
use Rattle.std.proofs.Common.{◌≡◌, ℕ, Bool, true, false, cond, ◌||◌, List, [], ◌∷◌, sym, refl, ap, ◌∙◌, subst, arith}
use Rattle.std.specs.List.{AllByRecursion}
use Rattle.std.proofs.lemmas.Bool.{both_ways}
use Rattle.keys.specs.Orders.{TotalOrder, same}
use Rattle.keys.specs.KindOrdersLemmas.{same_self, same_equal, not_both}
use Rattle.keys.specs.Sorted.{Rising}
use Rattle.model.specs.Contents.{Counts, is_held, count}
use Rattle.model.specs.Listing.{beside}

module _ {X Y : Type 0} (less : X → X → Bool) (order : TotalOrder less) where
  not_empty : (y : Y) (ys : List Y) → [] ≡ y ∷ ys → ⊥
  not_empty y ys e = let z : ◌≡◌ {A = ℕ} 0 1 = cc in omega arith

  pub above_none : (x : X) (r : List (X × Y)) → AllByRecursion (λ (f : X × Y). less x f.0 ≡ true) r → beside less r x ≡ []
  above_none x [] p = refl
  above_none x (e ∷ r) p = go (same less e.0 x) refl (above_none x r p.1)
    where
      go : (b : Bool) → same less e.0 x ≡ b → beside less r x ≡ [] → cond b (e.1 ∷ beside less r x) (beside less r x) ≡ []
      go true q s = absurd (both_ways (less x x) (order.irreflexive x) (subst (λ (v : X). less x v ≡ true) (same_equal less order e.0 x q) p.0))
      go false q s = s

  -- a key that has something beside it is one of the keys
  stands : (P : X → Type 0) (x : X) (r : List (X × Y)) → AllByRecursion (λ (f : X × Y). P f.0) r → (y : Y) (ys : List Y) → beside less r x ≡ y ∷ ys → P x
  stands P x [] p y ys e = absurd (not_empty y ys e)
  stands P x (f ∷ r) p y ys e = go (same less f.0 x) refl e (stands P x r p.1 y ys)
    where
      go : (b : Bool) → same less f.0 x ≡ b → cond b (f.1 ∷ beside less r x) (beside less r x) ≡ y ∷ ys → (beside less r x ≡ y ∷ ys → P x) → P x
      go true q e k = subst P (same_equal less order f.0 x q) p.0
      go false q e k = k e

  at_first : (e : X × Y) (r : List (X × Y)) → AllByRecursion (λ (f : X × Y). less e.0 f.0 ≡ true) r → beside less (e ∷ r) e.0 ≡ e.1 ∷ []
  at_first e r p = ap (λ (b : Bool). cond b (e.1 ∷ beside less r e.0) (beside less r e.0)) (same_self less order e.0) ∙ ap (λ (v : List Y). e.1 ∷ v) (above_none e.0 r p)

  -- no key is less than the first
  none_less : (f : X × Y) (r : List (X × Y)) → Rising less (f ∷ r) → (x : X) (y : Y) (ys : List Y) → beside less (f ∷ r) x ≡ y ∷ ys → less x f.0 ≡ false
  none_less f r p x y ys e = go (same less f.0 x) refl e
    where
      go : (b : Bool) → same less f.0 x ≡ b → cond b (f.1 ∷ beside less r x) (beside less r x) ≡ y ∷ ys → less x f.0 ≡ false
      go true q e = subst (λ (v : X). less v f.0 ≡ false) (same_equal less order f.0 x q) (order.irreflexive f.0)
      go false q e = not_both less order f.0 x (stands (λ v. less f.0 v ≡ true) x r p.0 y ys e)

  pub same_rows : (a b : List (X × Y)) → Rising less a → Rising less b → ((x : X) → beside less a x ≡ beside less b x) → a ≡ b
  same_rows [] [] p q s = refl
  same_rows [] (f ∷ b) p q s = absurd (not_empty f.1 [] (s f.0 ∙ at_first f b q.0))
  same_rows (e ∷ a) [] p q s = absurd (not_empty e.1 [] (sym (s e.0) ∙ at_first e a p.0))
  same_rows (e ∷ a) (f ∷ b) p q s =
      let k : e.0 ≡ f.0 = order.connected e.0 f.0 (none_less f b q e.0 e.1 [] (sym (s e.0) ∙ at_first e a p.0)) (none_less e a p f.0 f.1 [] (s f.0 ∙ at_first f b q.0)) in
      let v : e.1 ∷ [] ≡ f.1 ∷ [] = sym (at_first e a p.0) ∙ s e.0 ∙ ap (beside less (f ∷ b)) k ∙ at_first f b q.0 in
      join k (cc) (same_rows a b p.1 q.1 (λ x. rest x (same less e.0 x) refl k))
    where
      join : e.0 ≡ f.0 → e.1 ≡ f.1 → a ≡ b → e ∷ a ≡ f ∷ b
      join k v r = λ i. (k i, v i) ∷ r i

      rest : (x : X) (c : Bool) → same less e.0 x ≡ c → e.0 ≡ f.0 → beside less a x ≡ beside less b x
      rest x true c k =
          let j = same_equal less order e.0 x c in
          above_none x a (subst (λ (v : X). AllByRecursion (λ (g : X × Y). less v g.0 ≡ true) a) j p.0) ∙
          sym (above_none x b (subst (λ (v : X). AllByRecursion (λ (g : X × Y). less v g.0 ≡ true) b) (sym k ∙ j) q.0))
      rest x false c k =
          sym (ap (λ (t : Bool). cond t (e.1 ∷ beside less a x) (beside less a x)) c) ∙ s x ∙
          ap (λ (t : Bool). cond t (f.1 ∷ beside less b x) (beside less b x)) (subst (λ (v : X). same less v x ≡ false) k c)

module _ {X : Type 0} (less : X → X → Bool) (order : TotalOrder less) where
  -- beside a held key stands its count
  beside_held : (h : Counts X) → Rising less h → (x : X) → beside less h x ≡ cond (is_held less h x) (count less h x ∷ []) []
  beside_held [] p x = refl
  beside_held (e ∷ h) p x = go (same less e.0 x) refl (beside_held h p.1 x)
    where
      go : (b : Bool) → same less e.0 x ≡ b → beside less h x ≡ cond (is_held less h x) (count less h x ∷ []) [] →
          cond b (e.1 ∷ beside less h x) (beside less h x) ≡ cond (b || is_held less h x) (cond b e.1 (count less h x) ∷ []) []
      go true q i = ap (λ (v : List ℕ). e.1 ∷ v) (above_none less order x h (subst (λ (v : X). AllByRecursion (λ (f : X × ℕ). less v f.0 ≡ true) h) (same_equal less order e.0 x q) p.0))
      go false q i = i

  -- held keys with equal counts
  pub same_held : (h g : Counts X) → Rising less h → Rising less g → ((x : X) → is_held less h x ≡ is_held less g x) → ((x : X) → count less h x ≡ count less g x) → h ≡ g
  same_held h g p q held counts =
      same_rows less order h g p q
      (λ x. beside_held h p x ∙ ap (λ (b : Bool). cond b (count less h x ∷ []) []) (held x) ∙ ap (λ (n : ℕ). cond (is_held less g x) (n ∷ []) []) (counts x) ∙ sym (beside_held g q x))

  pub unheld_count : (h : Counts X) (x : X) → is_held less h x ≡ false → count less h x ≡ 0
  unheld_count [] x p = refl
  unheld_count (e ∷ h) x p = go (same less e.0 x) p (unheld_count h x)
    where
      go : (b : Bool) → (b || is_held less h x) ≡ false → (is_held less h x ≡ false → count less h x ≡ 0) → cond b e.1 (count less h x) ≡ 0
      go true p r = absurd (both_ways true p refl)
      go false p r = r p
