-- A node that is linked anew: what it becomes where one of its sides has become another tree.
use Rattle.std.proofs.Common.{◌≡◌, ◌≢◌, ℕ, zero, suc, ◌+◌, ◌<◌, ◌≤◌, List, [], ◌∷◌, Option, Some, None, length, slice_get, slice_set, refl, ap, subst, ◌∙◌, arith}
use Rattle.std.proofs.Math.ListN.{length-set}
use Rattle.std.proofs.lemmas.Option.{slice_get_within}
use Rattle.tree.specs.declared.cell.Cell.{Cell}
use Rattle.tree.specs.declared.cell.Cell.TheVariants.{Used}
use Rattle.tree.specs.declared.cell.Node.{Node}
use Rattle.tree.specs.Shapes.{Shape, node, link_of, uses, one_at, node_of, shape_at, LiesAs, Lies, Opened}
use Rattle.tree.specs.Operations.{BecomesAs, Becomes}
use Rattle.tree.proofs.Cells.{one_at_itself, one_at_here, stands_kept}

module _ {X : Type 0} where
  pub set_same : (xs : List X) (i : ℕ) (x : X) → i < length xs → slice_get (slice_set xs i x) i ≡ Some x
  set_same [] i x h = absurd (omega arith)
  set_same (y ∷ ys) zero x h = refl
  set_same (y ∷ ys) (suc i) x h = set_same ys i x (omega arith)

  pub set_other : (xs : List X) (i : ℕ) (x : X) (j : ℕ) → j ≢ i → slice_get (slice_set xs i x) j ≡ slice_get xs j
  set_other [] i x j apart = refl
  set_other (y ∷ ys) zero x zero apart = absurd (apart refl)
  set_other (y ∷ ys) zero x (suc j) apart = refl
  set_other (y ∷ ys) (suc i) x zero apart = refl
  set_other (y ∷ ys) (suc i) x (suc j) apart = set_other ys i x j (λ e. apart (ap suc e))

  -- what is there written again
  pub set_again : (xs : List X) (i : ℕ) (x : X) → slice_get xs i ≡ Some x → slice_set xs i x ≡ xs
  set_again [] i x e = refl
  set_again (y ∷ ys) zero x e = let f : x ≡ y = cc in ap (λ z. z ∷ ys) f
  set_again (y ∷ ys) (suc i) x e = ap (λ zs. y ∷ zs) (set_again ys i x e)

module _ {K V : Type 0} where
  -- no cell stands in a tree twice
  pub apart : (cs : List (Cell K V)) (r : Option ℕ) → Lies cs r → (j : ℕ) → uses j (shape_at cs r) + one_at None j ≤ 1
  unfolding Lies
  apart cs r h j = omega (arith, h.apart j)

  -- a tree lies where it lay if none of its cells is written
  pub lies_kept : (cs ds : List (Cell K V)) (r : Option ℕ) (t : Shape K V) → LiesAs cs r t → ((j : ℕ) → 1 ≤ uses j t → slice_get ds j ≡ slice_get cs j) → LiesAs ds r t
  lies_kept cs ds r t h kept = record { linked = h.linked; stands = stands_kept cs ds t h.stands kept; apart = h.apart }

  -- a node over two trees apart
  pub rebuilt : (ds : List (Cell K V)) (at : ℕ) (k : K) (v : V) (r s : Option ℕ) (l u : Shape K V) → slice_get ds at ≡ Some (node_of k v r s) → LiesAs ds r l → LiesAs ds s u → ((j : ℕ) → uses j l + one_at (Some at) j + uses j u ≤ 1) → LiesAs ds (Some at) (node l at k v u)
  rebuilt ds at k v r s l u here left right apart = record {
    linked = refl;
    stands = (here ∙ ap (λ x. Some (node_of k v x s)) left.linked ∙ ap (λ x. Some (node_of k v (link_of l) x)) right.linked, left.stands, right.stands);
    apart = apart;
  }

  -- the node that is written over two trees
  pub set_node : (ds : List (Cell K V)) (at : ℕ) (k : K) (v : V) (r s : Option ℕ) (l u : Shape K V) → at < length ds → LiesAs ds r l → LiesAs ds s u → ((j : ℕ) → uses j l + one_at (Some at) j + uses j u ≤ 1)
      → LiesAs (slice_set ds at (node_of k v r s)) (Some at) (node l at k v u)
  set_node ds at k v r s l u within left right apart =
      let es = slice_set ds at (node_of k v r s) in
      let other : (j : ℕ) → 1 ≤ uses j l + uses j u → slice_get es j ≡ slice_get ds j =
      λ j used. set_other ds at (node_of k v r s) j (λ e. absurd (omega (arith, apart j, one_at_here at j e))) in
      rebuilt es at k v r s l u (set_same ds at (node_of k v r s) within)
      (lies_kept ds es r l left (λ j used. other j (omega arith)))
      (lies_kept ds es s u right (λ j used. other j (omega arith)))
      apart

  module _ (cs ds : List (Cell K V)) (at : ℕ) (n : Node K V) (o : Opened cs at n) (r taken freed : Option ℕ) (t : Shape K V)
      (fresh : (j : ℕ) → uses j (shape_at cs (Some at)) + one_at taken j ≤ 1) where
    uses_is : (j : ℕ) → uses j (shape_at cs (Some at)) ≡ uses j (shape_at cs n.left) + one_at (Some at) j + uses j (shape_at cs n.right)
    uses_is j = ap (uses j) o.is

    here : one_at (Some at) at ≡ 1
    here = one_at_itself at

    pub relink_left : Becomes cs ds n.left r taken freed t → Becomes cs (slice_set ds at (node_of n.key n.value r n.right)) (Some at) (Some at) taken freed (node t at n.key n.value (shape_at cs n.right))
    unfolding Lies Becomes
    relink_left b =
        let within = slice_get_within ds at _ (b.kept at (omega (arith, uses_is at, fresh at, here)) ∙ o.read) in
        record {
          long = length-set ds at _ ∙ b.long;
          lies = set_node ds at n.key n.value r n.right t (shape_at cs n.right) within b.lies
              (lies_kept cs ds n.right (shape_at cs n.right) o.right (λ j used. b.kept j (omega (arith, uses_is j, fresh j))))
              (λ j. omega (arith, uses_is j, fresh j, b.cells j));
          cells = λ j. omega (arith, uses_is j, b.cells j);
          kept = λ j free. set_other ds at (node_of n.key n.value r n.right) j (λ e. omega (arith, uses_is j, one_at_here at j e)) ∙ b.kept j (omega (arith, uses_is j));
        }

    pub relink_right : Becomes cs ds n.right r taken freed t → Becomes cs (slice_set ds at (node_of n.key n.value n.left r)) (Some at) (Some at) taken freed (node (shape_at cs n.left) at n.key n.value t)
    unfolding Lies Becomes
    relink_right b =
        let within = slice_get_within ds at _ (b.kept at (omega (arith, uses_is at, fresh at, here)) ∙ o.read) in
        record {
          long = length-set ds at _ ∙ b.long;
          lies = set_node ds at n.key n.value n.left r (shape_at cs n.left) t within
              (lies_kept cs ds n.left (shape_at cs n.left) o.left (λ j used. b.kept j (omega (arith, uses_is j, fresh j))))
              b.lies
              (λ j. omega (arith, uses_is j, fresh j, b.cells j));
          cells = λ j. omega (arith, uses_is j, b.cells j);
          kept = λ j free. set_other ds at (node_of n.key n.value n.left r) j (λ e. omega (arith, uses_is j, one_at_here at j e)) ∙ b.kept j (omega (arith, uses_is j));
        }

  -- where a side keeps its link, nothing needs to be written
  module _ (cs ds : List (Cell K V)) (at : ℕ) (n : Node K V) (o : Opened cs at n) (t : Shape K V) (fresh : (j : ℕ) → uses j (shape_at cs (Some at)) + one_at None j ≤ 1) where
    pub keep_left : Becomes cs ds n.left n.left None None t → Becomes cs ds (Some at) (Some at) None None (node t at n.key n.value (shape_at cs n.right))
    unfolding Becomes
    keep_left b =
        let read = b.kept at (omega (arith, ap (uses at) o.is, fresh at, one_at_itself at)) ∙ o.read in
        subst (λ xs. BecomesAs cs xs (Some at) (Some at) None None (node t at n.key n.value (shape_at cs n.right))) (set_again ds at (Used n) read) (relink_left cs ds at n o n.left None None t fresh b)

    pub keep_right : Becomes cs ds n.right n.right None None t → Becomes cs ds (Some at) (Some at) None None (node (shape_at cs n.left) at n.key n.value t)
    unfolding Becomes
    keep_right b =
        let read = b.kept at (omega (arith, ap (uses at) o.is, fresh at, one_at_itself at)) ∙ o.read in
        subst (λ xs. BecomesAs cs xs (Some at) (Some at) None None (node (shape_at cs n.left) at n.key n.value t)) (set_again ds at (Used n) read) (relink_right cs ds at n o n.right None None t fresh b)
