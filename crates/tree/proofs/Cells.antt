-- A tree in its cells: it is the one that is read from them, and each of its parts lies in them too.
use Rattle.std.proofs.Common.{◌≡◌, ◌≢◌, ℕ, zero, suc, ◌+◌, ◌<◌, ◌≤◌, List, Option, Some, None, length, slice_get, get_or, inl, inr, refl, sym, ap, subst, ◌∙◌, arith}
use Rattle.std.proofs.lemmas.Bool.Decides.{nat_tests}
use Rattle.std.proofs.lemmas.Bool.{cases_eq, cases_lt}
use Rattle.std.proofs.lemmas.Option.{slice_get_within, slice_get-get_or}
use Rattle.tree.specs.declared.cell.Cell.{Cell}
use Rattle.tree.specs.declared.cell.Cell.TheVariants.{Blank, Used}
use Rattle.tree.specs.declared.cell.Node.{Node}
use Rattle.tree.specs.Shapes.{Shape, leaf, node, link_of, size, uses, one_at, Stands, shape_from, shape_within, shape_at, LiesAs, Lies, Opened}

pub one_at_itself : (i : ℕ) → one_at (Some i) i ≡ 1
one_at_itself i = grind (arith, nat_tests)

pub one_at_here : (i j : ℕ) → j ≡ i → one_at (Some i) j ≡ 1
one_at_here i j e = rw e (one_at_itself i)

pub one_at_most : (i j : ℕ) → one_at (Some i) j ≤ 1
one_at_most i j = grind (arith, nat_tests)

pub one_at_other : (i j : ℕ) → j ≢ i → one_at (Some i) j ≡ 0
one_at_other i j apart = grind (arith, nat_tests)

-- how many of the first n cells are i
abbrev one_below : (n i : ℕ) → ℕ
one_below zero i = 0
one_below (suc n) i = one_below n i + one_at (Some i) n

one_below_past : (n i : ℕ) → n ≤ i → one_below n i ≡ 0
one_below_past zero i h = refl
one_below_past (suc n) i h = let a = one_below_past n i (omega arith) in grind (arith, nat_tests)

one_below_is : (n i : ℕ) → i < n → one_below n i ≡ 1
one_below_is zero i h = absurd (omega arith)
one_below_is (suc n) i h = let a = one_below_is n i in let b = one_below_past n i in grind (arith, nat_tests)

module _ {K V : Type 0} where
  -- what is not written stays
  pub stands_kept : (cs ds : List (Cell K V)) (t : Shape K V) → Stands cs t → ((j : ℕ) → 1 ≤ uses j t → slice_get ds j ≡ slice_get cs j) → Stands ds t
  stands_kept cs ds leaf s kept = tt
  stands_kept cs ds (node l i k v u) s kept =
      let here = one_at_itself i in
      (kept i (omega arith) ∙ s.0, stands_kept cs ds l s.1 (λ j h. kept j (omega arith)), stands_kept cs ds u s.2 (λ j h. kept j (omega arith)))

  -- how often the first n cells stand in a tree
  abbrev uses_below : ℕ → Shape K V → ℕ
  uses_below zero t = 0
  uses_below (suc n) t = uses_below n t + uses n t

  uses_below_leaf : (n : ℕ) (t : Shape K V) → t ≡ leaf → uses_below n t ≡ 0
  uses_below_leaf zero t e = refl
  uses_below_leaf (suc n) t e = omega (arith, uses_below_leaf n t e, ap (uses n) e)

  uses_below_node : (n : ℕ) (l : Shape K V) (i : ℕ) (k : K) (v : V) (u : Shape K V) → uses_below n (node l i k v u) ≡ uses_below n l + one_below n i + uses_below n u
  uses_below_node zero l i k v u = omega arith
  uses_below_node (suc n) l i k v u = omega (arith, uses_below_node n l i k v u)

  uses_below_most : (n : ℕ) (t : Shape K V) → ((j : ℕ) → uses j t ≤ 1) → uses_below n t ≤ n
  uses_below_most zero t apart = omega arith
  uses_below_most (suc n) t apart = omega (arith, uses_below_most n t apart, apart n)

  -- where all its cells are below n, so often do they stand in it as it has nodes
  uses_below_size : (n : ℕ) (t : Shape K V) → ((j : ℕ) → n ≤ j → uses j t ≡ 0) → uses_below n t ≡ size t
  uses_below_size n leaf within = uses_below_leaf n leaf refl
  uses_below_size n (node l i k v u) within =
      let a = uses_below_size n l (λ j h. omega (arith, within j h)) in
      let b = uses_below_size n u (λ j h. omega (arith, within j h)) in
      let here = one_at_itself i in
      let below : i < n = elim (cases_lt i n) [ inl h ↦ h | inr h ↦ absurd (omega (arith, within i h)) ] in
      omega (arith, uses_below_node n l i k v u, one_below_is n i below)

  -- a tree has at most as many nodes as there are cells to lie in
  pub size_most : (n : ℕ) (t : Shape K V) → ((j : ℕ) → uses j t ≤ 1) → ((j : ℕ) → n ≤ j → uses j t ≡ 0) → size t ≤ n
  size_most n t apart within = omega (arith, uses_below_most n t apart, uses_below_size n t within)

  -- each cell of a tree is a node
  pub stands_used : (cs : List (Cell K V)) (j : ℕ) (t : Shape K V) → Stands cs t → 1 ≤ uses j t → (n : Node K V) × (slice_get cs j ≡ Some (Used n))
  stands_used cs j leaf s h = absurd (omega arith)
  stands_used cs j (node l i k v u) s h =
      elim (cases_eq j i) [
        | inl e ↦ (_, ap (slice_get cs) e ∙ s.0)
        | inr apart ↦ elim (cases_lt 0 (uses j l)) [
          | inl a ↦ stands_used cs j l s.1 a
          | inr a ↦ stands_used cs j u s.2 (omega (arith, one_at_other i j apart))
        ]
      ]

  pub stands_within : (cs : List (Cell K V)) (t : Shape K V) → Stands cs t → (j : ℕ) → length cs ≤ j → uses j t ≡ 0
  stands_within cs leaf s j h = refl
  stands_within cs (node l i k v u) s j h =
      let a = stands_within cs l s.1 j h in
      let b = stands_within cs u s.2 j h in
      let c = slice_get_within cs i _ s.0 in
      omega (arith, one_at_other i j (λ e. omega arith))

  -- the tree that stands is the one that is read
  within_is : (n : ℕ) (cs : List (Cell K V)) (t : Shape K V) → Stands cs t → size t ≤ n → shape_within n cs (link_of t) ≡ t
  unfolding shape_from shape_within
  within_is zero cs leaf s h = refl
  within_is zero cs (node l i k v u) s h = absurd (omega arith)
  within_is (suc n) cs leaf s h = refl
  within_is (suc n) cs (node l i k v u) s h =
      let a : shape_within n cs (link_of l) ≡ l = within_is n cs l s.1 (omega arith) in
      let b : shape_within n cs (link_of u) ≡ u = within_is n cs u s.2 (omega arith) in
      ap (λ o. shape_from i o (shape_within n cs)) s.0 ∙ ap (λ x. node x i k v (shape_within n cs (link_of u))) a ∙ ap (λ x. node l i k v x) b

  pub shape_is : (cs : List (Cell K V)) (r : Option ℕ) (t : Shape K V) → LiesAs cs r t → shape_at cs r ≡ t
  unfolding shape_at
  shape_is cs r t h = ap (shape_within (length cs) cs) h.linked ∙ within_is (length cs) cs t h.stands (size_most (length cs) t h.apart (stands_within cs t h.stands))

  -- no link leads to a tree without nodes
  pub leaf_lies : (cs : List (Cell K V)) → LiesAs cs None leaf
  leaf_lies cs = record { linked = refl; stands = tt; apart = λ j. omega arith }

  pub shape_none : (cs : List (Cell K V)) → shape_at cs None ≡ leaf
  shape_none cs = shape_is cs None leaf (leaf_lies cs)

  pub lies : (cs : List (Cell K V)) (r : Option ℕ) (t : Shape K V) → LiesAs cs r t → Lies cs r
  unfolding Lies
  lies cs r t h = subst (LiesAs cs r) (sym (shape_is cs r t h)) h

  reads_as : (cs : List (Cell K V)) (at : ℕ) (t : Shape K V) → LiesAs cs (Some at) t → (n : Node K V) × (slice_get cs at ≡ Some (Used n))
  reads_as cs at leaf h = absurd (let l = h.linked in cc)
  reads_as cs at (node l i k v u) h = let linked = h.linked in let i_is : at ≡ i = cc in (_, ap (slice_get cs) i_is ∙ h.stands.0)

  -- at the root of a tree is a node
  pub reads : (cs : List (Cell K V)) (at : ℕ) → Lies cs (Some at) → (n : Node K V) × (slice_get cs at ≡ Some (Used n))
  unfolding Lies
  reads cs at h = reads_as cs at (shape_at cs (Some at)) h

  -- so its cell is there
  pub lies_within : (cs : List (Cell K V)) (at : ℕ) → Lies cs (Some at) → at < length cs
  lies_within cs at h = slice_get_within cs at _ (reads cs at h).1

  opened_as : (cs : List (Cell K V)) (at : ℕ) (n : Node K V) (t : Shape K V) → LiesAs cs (Some at) t → slice_get cs at ≡ Some (Used n) → shape_at cs (Some at) ≡ t → Opened cs at n
  opened_as cs at n leaf h read e = absurd (let l = h.linked in cc)
  opened_as cs at n (node l i k v u) h read e =
      let linked = h.linked in
      let i_is : at ≡ i = cc in
      let stands = h.stands in
      let n_is : n ≡ record { key = k; value = v; left = link_of l; right = link_of u } = let s = stands.0 in cc in
      let a : LiesAs cs (link_of l) l = record { linked = refl; stands = stands.1; apart = λ j. omega (arith, h.apart j) } in
      let b : LiesAs cs (link_of u) u = record { linked = refl; stands = stands.2; apart = λ j. omega (arith, h.apart j) } in
      let p = shape_is cs (link_of l) l a in
      let q = shape_is cs (link_of u) u b in
      subst (Opened cs at) (sym n_is) (record {
        within = omega (arith, slice_get_within cs i _ stands.0);
        read = ap (slice_get cs) i_is ∙ stands.0;
        is = cc;
        left = lies cs (link_of l) l a;
        right = lies cs (link_of u) u b;
        left_smaller = omega (arith, ap size p, ap size e);
        right_smaller = omega (arith, ap size q, ap size e);
      })

  pub opened : (cs : List (Cell K V)) (at : ℕ) (n : Node K V) → Lies cs (Some at) → slice_get cs at ≡ Some (Used n) → Opened cs at n
  unfolding Lies
  opened cs at n h read = opened_as cs at n (shape_at cs (Some at)) h read refl

  -- and what is read there is not blank
  pub not_blank : (cs : List (Cell K V)) (at : ℕ) (x : Cell K V) → Lies cs (Some at) → x ≡ get_or cs at x → x ≡ Blank → ⊥
  not_blank cs at x h e is =
      let r = reads cs at h in
      let s = sym r.1 ∙ slice_get-get_or cs at x (lies_within cs at h) ∙ ap Some (sym e ∙ is) in
      absurd cc

  -- by what is read at the root
  pub opened_read : (cs : List (Cell K V)) (at : ℕ) (n : Node K V) (x : Cell K V) → Lies cs (Some at) → x ≡ get_or cs at x → x ≡ Used n → Opened cs at n
  opened_read cs at n x h e is =
      opened cs at n h (slice_get-get_or cs at x (lies_within cs at h) ∙ ap Some (sym e ∙ is))
