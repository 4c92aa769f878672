-- Keys with their values: when two lists show the same rows, and what one changed draw does.
use Rattle.std.proofs.Common.{◌≡◌, ℕ, suc, Bool, true, false, cond, ◌||◌, List, [], ◌∷◌, map, length, ℤ, pos, ◌+ℤ◌, ◌≤ℤ◌, ◌<ℤ◌, filter, sym, refl, ap, ◌∙◌, subst, inl, inr, arith}
use Rattle.std.specs.List.{AllByRecursion}
use Rattle.std.proofs.lemmas.Bool.{both_ways}
use Rattle.std.proofs.lemmas.Int.{ints}
use Rattle.std.proofs.ByRecursion.{all_kept_by}
use Rattle.keys.specs.Orders.{TotalOrder, same}
use Rattle.keys.specs.KindOrdersLemmas.{same_equal}
use Rattle.keys.specs.Sorted.{Rising}
use Rattle.model.specs.Contents.{Counts, is_held, count}
use Rattle.model.specs.Listing.{valued, reaches, draw, beside}
use Rattle.model.specs.Handing.{OffByOne, OneChanged}
use Rattle.model.proofs.Rows.{above_none, same_rows}

-- the test of the threshold, by the order of numbers
pub reaches_true : (t v : ℤ) → t ≤ℤ v → reaches t v ≡ true
reaches_true t v p = grind (arith, ints)

pub reaches_false : (t v : ℤ) → v <ℤ t → reaches t v ≡ false
reaches_false t v p = grind (arith, ints)

no_room : {A : Type 0} (n : ℕ) → 0 ≡ suc n → A
no_room n e = absurd (omega arith)

pub Rising-filter : {X Y : Type 0} (less : X → X → Bool) (q : X × Y → Bool) (a : List (X × Y)) → Rising less a → Rising less (filter q a)
Rising-filter less q [] p = tt
Rising-filter {X} {Y} less q (e ∷ a) p = go (q e) (Rising-filter less q a p.1)
  where
    go : (b : Bool) → Rising less (filter q a) → Rising less (cond b (e ∷ filter q a) (filter q a))
    go true r = (all_kept_by q (λ (f : X × Y). less e.0 f.0 ≡ true) a p.0, r)
    go false r = r

module _ {X : Type 0} (less : X → X → Bool) (order : TotalOrder less) where
  -- the value of a held key
  abbrev pub value : Counts X → ℤ → List ℤ → X → ℤ
  value h s ds x = pos (count less h x) +ℤ s +ℤ draw less h ds x

  all_valued : (P : X → Type 0) (h : Counts X) (s : ℤ) (ds : List ℤ) → AllByRecursion (λ (e : X × ℕ). P e.0) h → AllByRecursion (λ (f : X × ℤ). P f.0) (valued h s ds)
  all_valued P [] s ds p = tt
  all_valued P (e ∷ h) s [] p = tt
  all_valued P (e ∷ h) s (d ∷ ds) p = (p.0, all_valued P h s ds p.1)

  pub Rising-valued : (h : Counts X) (s : ℤ) (ds : List ℤ) → Rising less h → Rising less (valued h s ds)
  Rising-valued [] s ds p = tt
  Rising-valued (e ∷ h) s [] p = tt
  Rising-valued (e ∷ h) s (d ∷ ds) p = (all_valued (λ x. less e.0 x ≡ true) h s ds p.0, Rising-valued h s ds p.1)

  pub beside_kept : (q : ℤ → Bool) (a : List (X × ℤ)) (x : X) → beside less (filter (λ (e : X × ℤ). q e.1) a) x ≡ filter q (beside less a x)
  beside_kept q [] x = refl
  beside_kept q (e ∷ a) x = go (q e.1) refl (same less e.0 x) refl (beside_kept q a x)
    where
      K : List (X × ℤ)
      K = filter (λ (e : X × ℤ). q e.1) a

      go : (b : Bool) → q e.1 ≡ b → (c : Bool) → same less e.0 x ≡ c → beside less K x ≡ filter q (beside less a x) →
          beside less (cond b (e ∷ K) K) x ≡ filter q (cond c (e.1 ∷ beside less a x) (beside less a x))
      go true p true r i =
          ap (λ (c : Bool). cond c (e.1 ∷ beside less K x) (beside less K x)) r ∙ ap (λ (v : List ℤ). e.1 ∷ v) i ∙
          sym (ap (λ (b : Bool). cond b (e.1 ∷ filter q (beside less a x)) (filter q (beside less a x))) p)
      go true p false r i = ap (λ (c : Bool). cond c (e.1 ∷ beside less K x) (beside less K x)) r ∙ i
      go false p true r i = i ∙ sym (ap (λ (b : Bool). cond b (e.1 ∷ filter q (beside less a x)) (filter q (beside less a x))) p)
      go false p false r i = i

  -- beside a held key stands its value
  pub beside-valued : (h : Counts X) (s : ℤ) (ds : List ℤ) → Rising less h → length ds ≡ length h → (x : X) → beside less (valued h s ds) x ≡ cond (is_held less h x) (value h s ds x ∷ []) []
  beside-valued [] s ds p l x = refl
  beside-valued (e ∷ h) s [] p l x = no_room (length h) l
  beside-valued (e ∷ h) s (d ∷ ds) p l x = go (same less e.0 x) refl (beside-valued h s ds p.1 (omega arith) x)
    where
      go : (b : Bool) → same less e.0 x ≡ b → beside less (valued h s ds) x ≡ cond (is_held less h x) (value h s ds x ∷ []) [] →
          cond b ((pos e.1 +ℤ s +ℤ d) ∷ beside less (valued h s ds) x) (beside less (valued h s ds) x) ≡
          cond (b || is_held less h x) ((pos (cond b e.1 (count less h x)) +ℤ s +ℤ cond b d (draw less h ds x)) ∷ []) []
      go true q i =
          ap (λ (v : List ℤ). (pos e.1 +ℤ s +ℤ d) ∷ v)
          (above_none less order x (valued h s ds) (all_valued (λ v. less x v ≡ true) h s ds (subst (λ (v : X). AllByRecursion (λ (f : X × ℕ). less v f.0 ≡ true) h) (same_equal less order e.0 x q) p.0)))
      go false q i = i

  -- two lists show the same rows where keys of both have equal values, and no other key reaches t
  pub same_valued : (h g : Counts X) (s s' : ℤ) (ds es : List ℤ) (t : ℤ) → Rising less h → Rising less g → length ds ≡ length h → length es ≡ length g →
      ((x : X) → is_held less h x ≡ true → is_held less g x ≡ true → value h s ds x ≡ value g s' es x) →
      ((x : X) → is_held less h x ≡ true → is_held less g x ≡ false → value h s ds x <ℤ t) →
      ((x : X) → is_held less h x ≡ false → is_held less g x ≡ true → value g s' es x <ℤ t) →
      filter (λ (e : X × ℤ). reaches t e.1) (valued h s ds) ≡ filter (λ (e : X × ℤ). reaches t e.1) (valued g s' es)
  same_valued h g s s' ds es t rh rg lh lg both first second =
      same_rows less order (shown h s ds) (shown g s' es) (Rising-filter less (λ (e : X × ℤ). reaches t e.1) (valued h s ds) (Rising-valued h s ds rh))
      (Rising-filter less (λ (e : X × ℤ). reaches t e.1) (valued g s' es) (Rising-valued g s' es rg))
      (λ x. beside_kept (reaches t) (valued h s ds) x ∙ ap (filter (reaches t)) (beside-valued h s ds rh lh x) ∙ at x (is_held less h x) refl (is_held less g x) refl ∙
      sym (beside_kept (reaches t) (valued g s' es) x ∙ ap (filter (reaches t)) (beside-valued g s' es rg lg x)))
    where
      shown : Counts X → ℤ → List ℤ → List (X × ℤ)
      shown f u us = filter (λ (e : X × ℤ). reaches t e.1) (valued f u us)

      cut : (v : ℤ) → v <ℤ t → filter (reaches t) (v ∷ []) ≡ []
      cut v p = ap (λ (b : Bool). cond b (v ∷ []) []) (reaches_false t v p)

      at : (x : X) (a : Bool) → is_held less h x ≡ a → (b : Bool) → is_held less g x ≡ b → filter (reaches t) (cond a (value h s ds x ∷ []) []) ≡ filter (reaches t) (cond b (value g s' es x ∷ []) [])
      at x true p true q = ap (λ (v : ℤ). filter (reaches t) (v ∷ [])) (both x p q)
      at x true p false q = cut (value h s ds x) (first x p q)
      at x false p true q = sym (cut (value g s' es x) (second x p q))
      at x false p false q = refl

  -- draws by a function of the key
  pub draw_by : (f : X → ℤ) (g : Counts X) (x : X) → is_held less g x ≡ true → draw less g (map (λ (e : X × ℕ). f e.0) g) x ≡ f x
  draw_by f [] x p = absurd (both_ways false refl p)
  draw_by f (e ∷ g) x p = go (same less e.0 x) refl p (draw_by f g x)
    where
      rest : ℤ
      rest = draw less g (map (λ (e : X × ℕ). f e.0) g) x

      go : (b : Bool) → same less e.0 x ≡ b → (b || is_held less g x) ≡ true → (is_held less g x ≡ true → rest ≡ f x) → cond b (f e.0) rest ≡ f x
      go true q p i = ap f (same_equal less order e.0 x q)
      go false q p i = i p

  -- the draw of i changed by δ
  module _ (i : X) (δ : ℤ) where
    abbrev pub changed_at : Counts X → List ℤ → List ℤ
    changed_at [] ds = ds
    changed_at (e ∷ g) [] = []
    changed_at (e ∷ g) (d ∷ ds) = cond (same less e.0 i) ((d +ℤ δ) ∷ ds) (d ∷ changed_at g ds)

    pub changed_long : (g : Counts X) (ds : List ℤ) → length (changed_at g ds) ≡ length ds
    changed_long [] ds = refl
    changed_long (e ∷ g) [] = refl
    changed_long (e ∷ g) (d ∷ ds) = go (same less e.0 i) (changed_long g ds)
      where
        go : (b : Bool) → length (changed_at g ds) ≡ length ds → length (cond b ((d +ℤ δ) ∷ ds) (d ∷ changed_at g ds)) ≡ suc (length ds)
        go true r = refl
        go false r = ap suc r

    pub changed_there : (g : Counts X) (ds : List ℤ) → length ds ≡ length g → is_held less g i ≡ true → draw less g (changed_at g ds) i ≡ draw less g ds i +ℤ δ
    changed_there [] ds l p = absurd (both_ways false refl p)
    changed_there (e ∷ g) [] l p = no_room (length g) l
    changed_there (e ∷ g) (d ∷ ds) l p = go (same less e.0 i) refl p (changed_there g ds (omega arith))
      where
        go : (b : Bool) → same less e.0 i ≡ b → (b || is_held less g i) ≡ true → (is_held less g i ≡ true → draw less g (changed_at g ds) i ≡ draw less g ds i +ℤ δ) →
            draw less (e ∷ g) (cond b ((d +ℤ δ) ∷ ds) (d ∷ changed_at g ds)) i ≡ cond b d (draw less g ds i) +ℤ δ
        go true q p r = ap (λ (b : Bool). cond b (d +ℤ δ) (draw less g ds i)) q
        go false q p r = ap (λ (b : Bool). cond b d (draw less g (changed_at g ds) i)) q ∙ r p

    pub changed_other : (g : Counts X) (ds : List ℤ) (x : X) → (x ≡ i → ⊥) → draw less g (changed_at g ds) x ≡ draw less g ds x
    changed_other [] ds x n = refl
    changed_other (e ∷ g) [] x n = refl
    changed_other (e ∷ g) (d ∷ ds) x n = go (same less e.0 i) refl (same less e.0 x) refl (changed_other g ds x n)
      where
        go : (b : Bool) → same less e.0 i ≡ b → (c : Bool) → same less e.0 x ≡ c → draw less g (changed_at g ds) x ≡ draw less g ds x →
            draw less (e ∷ g) (cond b ((d +ℤ δ) ∷ ds) (d ∷ changed_at g ds)) x ≡ cond c d (draw less g ds x)
        go true q true r k = absurd (n (sym (same_equal less order e.0 x r) ∙ same_equal less order e.0 i q))
        go true q false r k = ap (λ (c : Bool). cond c (d +ℤ δ) (draw less g ds x)) r
        go false q true r k = ap (λ (c : Bool). cond c d (draw less g (changed_at g ds) x)) r
        go false q false r k = ap (λ (c : Bool). cond c d (draw less g (changed_at g ds) x)) r ∙ k

    pub changed_one : ((d : ℤ) → OffByOne d (d +ℤ δ)) → (g : Counts X) (ds : List ℤ) → length ds ≡ length g → is_held less g i ≡ true → OneChanged ds (changed_at g ds)
    changed_one f [] ds l p = absurd (both_ways false refl p)
    changed_one f (e ∷ g) [] l p = no_room (length g) l
    changed_one f (e ∷ g) (d ∷ ds) l p = go (same less e.0 i) p (changed_one f g ds (omega arith))
      where
        go : (b : Bool) → (b || is_held less g i) ≡ true → (is_held less g i ≡ true → OneChanged ds (changed_at g ds)) → OneChanged (d ∷ ds) (cond b ((d +ℤ δ) ∷ ds) (d ∷ changed_at g ds))
        go true p r = inl (f d, refl)
        go false p r = inr (refl, r p)
