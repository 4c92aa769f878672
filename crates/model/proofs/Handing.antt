-- A list of one content also comes from a neighbour. Idea: keys that only one of the two holds count 0 or 1, so that
-- on the premise none of them is listed on either side; in case one the draw of the one key makes up for its count,
-- if both hold it, and in case all the shared draw does.
use Rattle.std.proofs.Common.{◌≡◌, ℕ, ◌+◌, ◌≤◌, Bool, true, false, cond, ◌⊎◌, List, ◌∷◌, ◌++◌, length, ℤ, pos, negsuc, ◌+ℤ◌, ◌≤ℤ◌, ◌<ℤ◌, sym, refl, ap, ◌∙◌, subst, inl, inr, arith}
use Rattle.std.proofs.lemmas.List.{length-map, length-append}
use Rattle.std.proofs.ByRecursion.{All-append}
use Rattle.std.proofs.lemmas.Bool.{both_ways}
use Rattle.std.proofs.lemmas.Int.{ints}
use Rattle.keys.specs.Orders.{TotalOrder}
use Rattle.keys.specs.Helds.{less_held}
use Rattle.keys.specs.declared.held.Held.{Held}
use Rattle.keys.specs.KindOrdersLemmas.{held_total}
use Rattle.keys.proofs.Lists.{all_parts}
use Rattle.model.specs.Contents.{Content, reals, holds, count_of}
use Rattle.model.specs.Plans.{Plan, after, Entries}
use Rattle.model.specs.Neighbours.{FewOnly, CaseOne, CaseAll, Neighbours}
use Rattle.model.specs.Laws.{HoldsK, Lawful}
use Rattle.model.specs.Listing.{draw_of}
use Rattle.model.specs.Handing.{OffByOne, AtMostOneChanged, Below, OnlyBy, Way, handed, Premise, AlsoListed, BothHandOver}
use Rattle.model.proofs.Sums.{OneOrTwo, one_or_two}
use Rattle.model.proofs.Valued.{same_valued, draw_by, changed_at, changed_long, changed_there, changed_other, changed_one}
use Rattle.model.proofs.Ways.{only_count, as_many, a_way}

-- a key whose count and the shared draw s' are at most 1 above s is not listed
under : (s s' t : ℤ) (n : ℕ) (d : ℤ) → (pos n +ℤ s') ≤ℤ (s +ℤ pos 1) → Below s d t → (pos n +ℤ s' +ℤ d) <ℤ t
under s s' t n d p q = omega (arith, ints)

at_most_one : (s : ℤ) (n : ℕ) → n ≤ 1 → (pos n +ℤ s) ≤ℤ (s +ℤ pos 1)
at_most_one s n p = omega (arith, ints)

-- C hands over to D; what only one of them holds counts at most 1
module _ {K : Type 0} (less : K → K → Bool) (order : TotalOrder less) (C D : Content K) (c : HoldsK less C) (d : HoldsK less D)
    (small : (x : Held K) → OnlyBy less C D x → count_of less C x ≤ 1) (way : Way less C D) where
  abbrev less' : Held K → Held K → Bool
  less' = less_held less

  order' : TotalOrder less'
  order' = held_total less order

  module _ (s : ℤ) (ds : List ℤ) (t : ℤ) (long : length ds ≡ C.k) (premise : Premise less C D s ds t) where
    -- the draws handed over
    abbrev es : List ℤ
    es = handed less C D way ds

    es_long : length es ≡ length D.held
    es_long = length-map D.held (λ (e : Held K × ℕ). draw_of less C ds (cond (holds less C e.0) e.0 (way.giver e.0)))

    -- whose draw x has
    from : (x : Held K) → holds less D x ≡ true → draw_of less D es x ≡ draw_of less C ds (cond (holds less C x) x (way.giver x))
    from x q = draw_by less' order' (λ y. draw_of less C ds (cond (holds less C y) y (way.giver y))) D.held x q

    kept : (x : Held K) → holds less C x ≡ true → holds less D x ≡ true → draw_of less C ds x ≡ draw_of less D es x
    kept x p q = sym (from x q ∙ ap (λ (b : Bool). draw_of less C ds (cond b x (way.giver x))) p)

    -- a key that only D holds has the draw of one that only C holds
    below : (x : Held K) → holds less C x ≡ false → holds less D x ≡ true → Below s (draw_of less D es x) t
    below x p q =
        subst (λ (v : ℤ). Below s v t) (sym (from x q ∙ ap (λ (b : Bool). draw_of less C ds (cond b x (way.giver x))) p)) (premise (way.giver x) (way.given x (q, p)))

    -- D at the shared draw s' and the draws fs
    also : (s' : ℤ) (fs : List ℤ) → length fs ≡ length D.held → AtMostOneChanged (s ∷ es) (s' ∷ fs) →
        ((x : Held K) → holds less C x ≡ true → holds less D x ≡ true →
        (pos (count_of less C x) +ℤ s +ℤ draw_of less C ds x) ≡ (pos (count_of less D x) +ℤ s' +ℤ draw_of less D fs x)) →
        ((x : Held K) → holds less C x ≡ false → holds less D x ≡ true → (pos (count_of less D x) +ℤ s' +ℤ draw_of less D fs x) <ℤ t) →
        AlsoListed less C D way s ds t
    also s' fs l changed both second = record {
      shared = s';
      draws = fs;
      changed = changed;
      same_list = sym (ap reals (same_valued less' order' C.held D.held s s' ds fs t c.rising d.rising (long ∙ sym c.exactly) l both first second));
    }
      where
        first : (x : Held K) → holds less C x ≡ true → holds less D x ≡ false → (pos (count_of less C x) +ℤ s +ℤ draw_of less C ds x) <ℤ t
        first x p q = under s s t (count_of less C x) (draw_of less C ds x) (at_most_one s (count_of less C x) (small x (p, q))) (premise x (p, q))

    -- the keys of both count the same, or the shared draw makes up for it
    pub by_shared : (s' : ℤ) → (s ≡ s') ⊎ OffByOne s s' →
        ((x : Held K) → holds less C x ≡ true → holds less D x ≡ true → (pos (count_of less C x) +ℤ s) ≡ (pos (count_of less D x) +ℤ s')) →
        ((x : Held K) → OnlyBy less D C x → (pos (count_of less D x) +ℤ s') ≤ℤ (s +ℤ pos 1)) → AlsoListed less C D way s ds t
    by_shared s' change both small' =
        also s' es es_long (changed change)
        (λ x p q. ap (λ (v : ℤ). v +ℤ draw_of less C ds x) (both x p q) ∙ ap (λ (v : ℤ). (pos (count_of less D x) +ℤ s') +ℤ v) (kept x p q))
        (λ x p q. under s s' t (count_of less D x) (draw_of less D es x) (small' x (q, p)) (below x p q))
      where
        changed : (s ≡ s') ⊎ OffByOne s s' → AtMostOneChanged (s ∷ es) (s' ∷ es)
        changed (inl e) = inl (ap (λ (v : ℤ). v ∷ es) e)
        changed (inr e) = inr (inl (e, refl))

    -- both hold i, which counts δ more in C: its draw makes up for it
    pub by_draw : (i : Held K) (δ : ℤ) → ((v : ℤ) → OffByOne v (v +ℤ δ)) → holds less C i ≡ true → holds less D i ≡ true → pos (count_of less C i) ≡ pos (count_of less D i) +ℤ δ →
        ((x : Held K) → (x ≡ i → ⊥) → count_of less C x ≡ count_of less D x) →
        ((x : Held K) → OnlyBy less D C x → count_of less D x ≤ 1) → AlsoListed less C D way s ds t
    by_draw i δ off hc hd more others small' =
        also s fs (changed_long less' order' i δ D.held es ∙ es_long)
        (inr (inr (refl, changed_one less' order' i δ off D.held es es_long hd)))
        (λ x p q. both x p q (one_or_two less' order' x i))
        (λ x p q. under s s t (count_of less D x) (draw_of less D fs x) (at_most_one s (count_of less D x) (small' x (q, p)))
        (subst (λ (v : ℤ). Below s v t) (sym (changed_other less' order' i δ D.held es x (apart x p))) (below x p q)))
      where
        fs : List ℤ
        fs = changed_at less' order' i δ D.held es

        apart : (x : Held K) → holds less C x ≡ false → x ≡ i → ⊥
        apart x p e = both_ways (holds less C x) p (subst (λ (v : Held K). holds less C v ≡ true) (sym e) hc)

        even : (a b u v w : ℤ) → a ≡ b +ℤ δ → u ≡ v → w ≡ v +ℤ δ → (a +ℤ s +ℤ u) ≡ (b +ℤ s +ℤ w)
        even a b u v w p q r = omega (arith, ints)

        both : (x : Held K) → holds less C x ≡ true → holds less D x ≡ true → OneOrTwo less' x i →
            (pos (count_of less C x) +ℤ s +ℤ draw_of less C ds x) ≡ (pos (count_of less D x) +ℤ s +ℤ draw_of less D fs x)
        both x p q (inl e) =
            subst (λ (v : Held K). (pos (count_of less C v) +ℤ s +ℤ draw_of less C ds v) ≡ (pos (count_of less D v) +ℤ s +ℤ draw_of less D fs v)) (sym e.0)
            (even (pos (count_of less C i)) (pos (count_of less D i)) (draw_of less C ds i) (draw_of less D es i) (draw_of less D fs i)
            more (kept i hc hd) (changed_there less' order' i δ D.held es es_long hd))
        both x p q (inr e) =
            ap (λ (n : ℕ). pos n +ℤ s +ℤ draw_of less C ds x) (others x e.0) ∙
            ap (λ (v : ℤ). pos (count_of less D x) +ℤ s +ℤ v) (kept x p q ∙ sym (changed_other less' order' i δ D.held es x e.0))

-- a list that can have been taken, less one entry
less_one : {K : Type 0} (plan : Plan K) (xs : List K) (x : K) (ys : List K) → Entries plan (xs ++ x ∷ ys) → Entries plan (xs ++ ys)
less_one plan xs x ys a =
    let parts = all_parts (λ y. plan.admits y ≡ true) xs (x ∷ ys) a.admitted in
    record {
      admitted = All-append (λ y. plan.admits y ≡ true) xs ys parts.0 parts.1.1;
      few = omega (arith, a.few, length-append xs ys, length-append xs (x ∷ ys));
    }

module _ {K : Type 0} (less : K → K → Bool) (order : TotalOrder less) where
  only_counts : (C D : Content K) → FewOnly less C D → (x : Held K) → OnlyBy less C D x → count_of less C x ≤ 1
  only_counts C D few x p = only_count (less_held less) (held_total less order) C.held D.held few.small x p.0 p.1

  -- one key counts δ more in C
  by_one : (C D : Content K) → HoldsK less C → HoldsK less D → ((x : Held K) → OnlyBy less C D x → count_of less C x ≤ 1) → ((x : Held K) → OnlyBy less D C x → count_of less D x ≤ 1) →
      (i : Held K) (δ : ℤ) → ((v : ℤ) → OffByOne v (v +ℤ δ)) → pos (count_of less C i) ≡ pos (count_of less D i) +ℤ δ →
      ((x : Held K) → (x ≡ i → ⊥) → count_of less C x ≡ count_of less D x) →
      (way : Way less C D) (s : ℤ) (ds : List ℤ) (t : ℤ) → length ds ≡ C.k → Premise less C D s ds t → AlsoListed less C D way s ds t
  by_one C D c d small small' i δ off more others way s ds t long premise = go (holds less C i) refl (holds less D i) refl
    where
      -- nothing changes where not both hold i
      plain : ((x : Held K) → holds less C x ≡ true → holds less D x ≡ true → (x ≡ i → ⊥)) → AlsoListed less C D way s ds t
      plain apart =
          by_shared less order C D c d small way s ds t long premise s (inl refl) (λ x p q. ap (λ (n : ℕ). pos n +ℤ s) (others x (apart x p q)))
          (λ x p. at_most_one s (count_of less D x) (small' x p))

      go : (a : Bool) → holds less C i ≡ a → (b : Bool) → holds less D i ≡ b → AlsoListed less C D way s ds t
      go true p true q = by_draw less order C D c d small way s ds t long premise i δ off p q more others small'
      go true p false q = plain (λ x a b e. both_ways (holds less D i) q (subst (λ (v : Held K). holds less D v ≡ true) e b))
      go false p b q = plain (λ x a b e. both_ways (holds less C i) p (subst (λ (v : Held K). holds less C v ≡ true) e a))

  pub hands_over : (C D : Content K) → HoldsK less C → HoldsK less D → Neighbours less C D → BothHandOver less C D
  hands_over C D c d n = (
    record { as_many = as_many less order C D c d n.k_same; some_way = a_way less order C D c d n.k_same; every_way = forward n.case },
    record { as_many = sym (as_many less order C D c d n.k_same); some_way = a_way less order D C d c (sym n.k_same); every_way = back n.case },
  )
    where
      small : (x : Held K) → OnlyBy less C D x → count_of less C x ≤ 1
      small = only_counts C D n.longer

      small' : (x : Held K) → OnlyBy less D C x → count_of less D x ≤ 1
      small' = only_counts D C n.shorter

      plus : (a b : ℕ) → a ≡ b + 1 → pos a ≡ pos b +ℤ pos 1
      plus a b e = omega (arith, ints)

      minus : (a b : ℕ) → a ≡ b + 1 → pos b ≡ pos a +ℤ negsuc 0
      minus a b e = omega (arith, ints)

      down : (v : ℤ) → v ≡ (v +ℤ negsuc 0) +ℤ pos 1
      down v = omega (arith, ints)

      forward : CaseOne less C D ⊎ CaseAll less C D → (way : Way less C D) (s : ℤ) (ds : List ℤ) (t : ℤ) → length ds ≡ C.k → Premise less C D s ds t → AlsoListed less C D way s ds t
      forward (inl w) way s ds t long premise =
          by_one C D c d small small' w.key (pos 1) (λ v. inl refl) (plus (count_of less C w.key) (count_of less D w.key) w.more) w.others way s ds t long premise
      forward (inr w) way s ds t long premise =
          by_shared less order C D c d small way s ds t long premise (s +ℤ negsuc 0) (inr (inr (down s)))
          (λ x p q. up (count_of less C x) (count_of less D x) (w.one_less x q)) (λ x p. low (count_of less D x) (small' x p))
        where
          up : (a b : ℕ) → a + 1 ≡ b → (pos a +ℤ s) ≡ (pos b +ℤ (s +ℤ negsuc 0))
          up a b e = omega (arith, ints)

          low : (b : ℕ) → b ≤ 1 → (pos b +ℤ (s +ℤ negsuc 0)) ≤ℤ (s +ℤ pos 1)
          low b e = omega (arith, ints)

      back : CaseOne less C D ⊎ CaseAll less C D → (way : Way less D C) (s : ℤ) (ds : List ℤ) (t : ℤ) → length ds ≡ D.k → Premise less D C s ds t → AlsoListed less D C way s ds t
      back (inl w) way s ds t long premise =
          by_one D C d c small' small w.key (negsuc 0) (λ v. inr (down v)) (minus (count_of less C w.key) (count_of less D w.key) w.more) (λ x e. sym (w.others x e)) way s ds t long premise
      back (inr w) way s ds t long premise =
          by_shared less order D C d c small' way s ds t long premise (s +ℤ pos 1) (inr (inl refl))
          (λ x p q. up (count_of less C x) (count_of less D x) (w.one_less x p)) (λ x p. low (count_of less C x) (w.none x p.1))
        where
          up : (a b : ℕ) → a + 1 ≡ b → (pos b +ℤ s) ≡ (pos a +ℤ (s +ℤ pos 1))
          up a b e = omega (arith, ints)

          low : (a : ℕ) → a ≡ 0 → (pos a +ℤ (s +ℤ pos 1)) ≤ℤ (s +ℤ pos 1)
          low a e = omega (arith, ints)

  pub runs_hand_over : (plan : Plan K) → Lawful less plan → (xs : List K) (x : K) (ys : List K) → Entries plan (xs ++ x ∷ ys) →
      BothHandOver less (after plan (xs ++ x ∷ ys)) (after plan (xs ++ ys))
  runs_hand_over plan laws xs x ys a = hands_over (after plan (xs ++ x ∷ ys)) (after plan (xs ++ ys)) (laws.holds_k (xs ++ x ∷ ys) a) (laws.holds_k (xs ++ ys) (less_one plan xs x ys a)) (laws.neighbours xs x ys a)
