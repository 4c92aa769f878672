-- What the operations on shapes do to the entries, where the keys rise.
use Rattle.std.proofs.Common.{◌≡◌, ℕ, ◌+◌, Bool, true, false, cond, List, [], ◌∷◌, ◌++◌, Option, Some, None, length, refl, sym, ap, ◌∙◌, append-nil, length-append, arith}
use Rattle.std.specs.Option.{is_some}
use Rattle.keys.specs.Orders.{TotalOrder}
use Rattle.keys.specs.Sorted.{Rising}
use Rattle.tree.specs.Entries.{Kept, Entries, kept_of, with_key, with_new_value, without_key, lying_in}
use Rattle.tree.specs.Shapes.{Shape, leaf, node, one_at, size, uses, entries}
use Rattle.tree.specs.Operations.{seek, put, change, first, rest, rooted, join, cut}
use Rattle.tree.proofs.Lists.{rising_split, lookup_before, lookup_after, lookup_at, insert_before, insert_after, remove_before, remove_after, remove_at, with_value_before, with_value_after, with_value_at, lying_in_append}

module _ {K V : Type 0} where
  pub size_is : (t : Shape K V) → length (entries t) ≡ size t
  size_is leaf = refl
  size_is (node l i k v u) = omega (arith, length-append (entries l) ((k, record { value = v; cell = i }) ∷ entries u), size_is l, size_is u)

  pub uses_is : (j : ℕ) (t : Shape K V) → lying_in j (entries t) ≡ uses j t
  uses_is j leaf = refl
  uses_is j (node l i k v u) =
      let a = uses_is j l in
      let b = uses_is j u in
      let e : K × Kept V = (k, record { value = v; cell = i }) in
      let c = lying_in_append j (entries l) (e ∷ entries u) in
      let d = lying_in_append j (e ∷ []) (entries u) in
      let f : lying_in j (e ∷ []) ≡ 0 + one_at (Some i) j = refl in
      omega arith

  -- an entry, if there is one, before others
  abbrev listed : Option (K × Kept V) → Entries K V → Entries K V
  listed None es = es
  listed (Some e) es = e ∷ es

  listed_append : (o : Option (K × Kept V)) (es fs : Entries K V) → listed o es ++ fs ≡ listed o (es ++ fs)
  listed_append None es fs = refl
  listed_append (Some e) es fs = refl

  -- the first node's entry comes first
  first_is : (t : Shape K V) → entries t ≡ listed (first t) (entries (rest t))
  first_is leaf = refl
  first_is (node leaf i k v u) = refl
  first_is (node (node a j x y b) i k v u) =
      let f : List (K × Kept V) = (k, record { value = v; cell = i }) ∷ entries u in
      ap (λ es. es ++ f) (first_is (node a j x y b)) ∙ listed_append (first (node a j x y b)) (entries (rest (node a j x y b))) f

  first_some : (l : Shape K V) (i : ℕ) (k : K) (v : V) (u : Shape K V) → is_some (first (node l i k v u)) ≡ true
  first_some leaf i k v u = refl
  first_some (node a j x y b) i k v u = first_some a j x y b

  rooted_is : (l r : Shape K V) (o : Option (K × Kept V)) → is_some o ≡ true → entries (rooted l o r) ≡ entries l ++ listed o (entries r)
  rooted_is l r None h = cc
  rooted_is l r (Some e) h = refl

  rooted_entries : (l u : Shape K V) → entries (rooted l (first u) (rest u)) ≡ entries l ++ entries u
  rooted_entries l leaf = sym (append-nil (entries l))
  rooted_entries l (node a i k v u) =
      rooted_is l (rest (node a i k v u)) (first (node a i k v u)) (first_some a i k v u) ∙ ap (λ es. entries l ++ es) (sym (first_is (node a i k v u)))

  join_entries : (l u : Shape K V) → entries (join l u) ≡ entries l ++ entries u
  join_entries leaf u = refl
  join_entries (node a j x y b) u = rooted_entries (node a j x y b) u

module _ {K V : Type 0} (less : K → K → Bool) (order : TotalOrder less) (q : K) where
  pub seek_is : (t : Shape K V) → Rising less (entries t) → seek less q t ≡ kept_of less q (entries t)
  seek_is leaf h = refl
  seek_is (node l i k v u) h =
      let e : K × Kept V = (k, record { value = v; cell = i }) in
      let s = rising_split less (entries l) (entries u) e h in
      let a = seek_is l s.0 in
      let b = seek_is u s.3 in
      let before = lookup_before less order q (entries l) (entries u) e s.2 in
      let after = lookup_after less order q (entries l) (entries u) e s.1 in
      let here = lookup_at less order q (entries l) (entries u) e s.1 in
      grind arith

  pub put_is : (w : V) (at : ℕ) (t : Shape K V) → Rising less (entries t) → seek less q t ≡ None → entries (put less q w at t) ≡ with_key less q w at (entries t)
  put_is w at leaf h none = refl
  put_is w at (node l i k v u) h none =
      let e : K × Kept V = (k, record { value = v; cell = i }) in
      let n : K × Kept V = (q, record { value = w; cell = at }) in
      let s = rising_split less (entries l) (entries u) e h in
      let a = put_is w at l s.0 in
      let b = put_is w at u s.3 in
      let before = insert_before less order n (entries l) (entries u) e in
      let after = insert_after less order n (entries l) (entries u) e s.1 in
      grind arith

  pub change_is : (w : V) (t : Shape K V) → Rising less (entries t) → entries (change less q w t) ≡ with_new_value less q w (entries t)
  change_is w leaf h = refl
  change_is w (node l i k v u) h =
      let e : K × Kept V = (k, record { value = v; cell = i }) in
      let s = rising_split less (entries l) (entries u) e h in
      let a = change_is w l s.0 in
      let b = change_is w u s.3 in
      let before = with_value_before less order q w (entries l) (entries u) e s.2 in
      let after = with_value_after less order q w (entries l) (entries u) e s.1 in
      let here = with_value_at less order q w (entries l) (entries u) e s.1 s.2 in
      grind arith

  cut_step : (l : Shape K V) (i : ℕ) (k : K) (v : V) (u : Shape K V) → Rising less (entries l ++ (k, record { value = v; cell = i }) ∷ entries u)
      → entries (cut less q l) ≡ without_key less q (entries l) → entries (cut less q u) ≡ without_key less q (entries u)
      → (a b : Bool) → less q k ≡ a → less k q ≡ b
      → entries (cond a (node (cut less q l) i k v u) (cond b (node l i k v (cut less q u)) (join l u))) ≡ without_key less q (entries l ++ (k, record { value = v; cell = i }) ∷ entries u)
  cut_step l i k v u h p r true b x y =
      let s = rising_split less (entries l) (entries u) (k, record { value = v; cell = i }) h in
      ap (λ es. es ++ (k, record { value = v; cell = i }) ∷ entries u) p ∙ sym (remove_before less order q (entries l) (entries u) (k, record { value = v; cell = i }) s.2 x)
  cut_step l i k v u h p r false true x y =
      let s = rising_split less (entries l) (entries u) (k, record { value = v; cell = i }) h in
      ap (λ es. entries l ++ (k, record { value = v; cell = i }) ∷ es) r ∙ sym (remove_after less order q (entries l) (entries u) (k, record { value = v; cell = i }) s.1 y)
  cut_step l i k v u h p r false false x y =
      let s = rising_split less (entries l) (entries u) (k, record { value = v; cell = i }) h in
      join_entries l u ∙ sym (remove_at less order q (entries l) (entries u) (k, record { value = v; cell = i }) s.1 (order.connected q k x y))

  pub cut_is : (t : Shape K V) → Rising less (entries t) → entries (cut less q t) ≡ without_key less q (entries t)
  cut_is leaf h = refl
  cut_is (node l i k v u) h =
      let s = rising_split less (entries l) (entries u) (k, record { value = v; cell = i }) h in
      cut_step l i k v u h (cut_is l s.0) (cut_is u s.3) (less q k) (less k q) refl refl
