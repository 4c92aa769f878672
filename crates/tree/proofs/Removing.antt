-- A key taken out, step by step.
use Rattle.std.proofs.Common.{◌≡◌, ℕ, ◌<◌, ◌≤◌, Bool, true, false, List, Option, Some, None, length, slice_set, inl, inr, refl, sym, ap, subst, ◌∙◌, arith}
use Rattle.std.proofs.Math.ListN.{length-set}
use Rattle.std.proofs.lemmas.Bool.{cases_lt}
use Rattle.tree.specs.declared.cell.Cell.{Cell}
use Rattle.tree.specs.declared.cell.Cell.TheVariants.{Used}
use Rattle.tree.specs.declared.cell.Node.{Node}
use Rattle.tree.specs.Shapes.{Shape, leaf, node, uses, shape_at, with_left, with_right, with_links, LiesAs, Lies, Opened}
use Rattle.tree.specs.Operations.{first, rest, rooted, join, unrooted, cut, BecomesAs, Becomes}
use Rattle.tree.proofs.Cells.{one_at_itself, one_at_here, stands_within, shape_none}
use Rattle.tree.proofs.Relinking.{apart, set_node, set_other, lies_kept, relink_left, relink_right}

module _ {K V : Type 0} where
  -- a link that is there leads to a node
  is_node : (cs : List (Cell K V)) (i : ℕ) (t : Shape K V) → LiesAs cs (Some i) t → (l : Shape K V) × (k : K) × (v : V) × (u : Shape K V) × (t ≡ node l i k v u)
  is_node cs i leaf h = absurd (let e = h.linked in cc)
  is_node cs i (node l j k v u) h = (l, k, v, u, let e = h.linked in let f : j ≡ i = cc in ap (λ x. node l x k v u) f)

  module _ (cs ds : List (Cell K V)) (root : ℕ) (n : Node K V) (o : Opened cs root n) (h : Lies cs (Some root)) where
    no_left : n.left ≡ None → shape_at cs (Some root) ≡ node leaf root n.key n.value (shape_at cs n.right)
    no_left e = o.is ∙ ap (λ l. node l root n.key n.value (shape_at cs n.right)) (ap (shape_at cs) e ∙ shape_none cs)

    -- the root goes, and its one subtree is left
    right_alone : n.left ≡ None → Becomes cs cs (Some root) n.right None (Some root) (shape_at cs n.right)
    unfolding Lies Becomes
    right_alone e = record {
      long = refl;
      lies = o.right;
      cells = λ j. omega (arith, ap (uses j) (no_left e));
      kept = λ j free. refl;
    }

    pub rest_none : n.left ≡ None → Becomes cs cs (Some root) n.right None (Some root) (rest (shape_at cs (Some root)))
    rest_none e = rw (no_left e) (right_alone e)

    pub first_none : n.left ≡ None → first (shape_at cs (Some root)) ≡ Some (n.key, record { value = n.value; cell = root })
    first_none e = ap first (no_left e)

    module _ (l : ℕ) (e : n.left ≡ Some l) (r : Option ℕ) (f : ℕ) where
      left_node : (a : Shape K V) × (k : K) × (v : V) × (b : Shape K V) × (shape_at cs n.left ≡ node a l k v b)
      unfolding Lies
      left_node = is_node cs l (shape_at cs n.left) (subst (λ x. LiesAs cs x (shape_at cs n.left)) e o.left)

      pub rest_left : Becomes cs ds (Some l) r None (Some f) (rest (shape_at cs (Some l)))
          → Becomes cs (slice_set ds root (Used (with_left n r))) (Some root) (Some root) None (Some f) (rest (shape_at cs (Some root)))
      unfolding with_left
      rest_left b =
          let d = left_node in
          let is : rest (shape_at cs (Some root)) ≡ node (rest (shape_at cs n.left)) root n.key n.value (shape_at cs n.right)
          = ap rest o.is ∙ ap (λ x. rest (node x root n.key n.value (shape_at cs n.right))) d.4 ∙ ap (λ x. node (rest x) root n.key n.value (shape_at cs n.right)) (sym d.4) in
          rw is (relink_left cs ds root n o r None (Some f) (rest (shape_at cs n.left)) (apart cs (Some root) h) (subst (λ x. Becomes cs ds x r None (Some f) (rest (shape_at cs x))) (sym e) b))

      pub first_left : first (shape_at cs (Some l)) ≡ first (shape_at cs (Some root))
      first_left =
          let d = left_node in
          ap (λ x. first (shape_at cs x)) (sym e) ∙ ap first d.4 ∙ ap (λ x. first (node x root n.key n.value (shape_at cs n.right))) (sym d.4) ∙ ap first (sym o.is)

    pub unrooted_right : n.left ≡ None → Becomes cs cs (Some root) n.right None (Some root) (unrooted (shape_at cs (Some root)))
    unrooted_right e = rw (no_left e) (right_alone e)

    join_leaf : (t : Shape K V) → join t leaf ≡ t
    join_leaf leaf = refl
    join_leaf (node a j x y b) = refl

    pub unrooted_left : n.right ≡ None → Becomes cs cs (Some root) n.left None (Some root) (unrooted (shape_at cs (Some root)))
    unfolding Lies Becomes
    unrooted_left e =
        let right_is : shape_at cs n.right ≡ leaf = ap (shape_at cs) e ∙ shape_none cs in
        let is : shape_at cs (Some root) ≡ node (shape_at cs n.left) root n.key n.value leaf = o.is ∙ ap (λ u. node (shape_at cs n.left) root n.key n.value u) right_is in
        rw (is, join_leaf (shape_at cs n.left)) (record {
          long = refl;
          lies = o.left;
          cells = λ j. omega (arith, ap (uses j) is);
          kept = λ j free. refl;
        })

    join_node : (t u : Shape K V) (a : Shape K V) (i : ℕ) (k : K) (v : V) (b : Shape K V) → t ≡ node a i k v b → join t u ≡ rooted t (first u) (rest u)
    join_node t u a i k v b e = ap (λ x. join x u) e ∙ ap (λ x. rooted x (first u) (rest u)) (sym e)

    pub unrooted_both : (l u f : ℕ) (s : Option ℕ) (m : Node K V) → n.left ≡ Some l → n.right ≡ Some u → Becomes cs ds (Some u) s None (Some f) (rest (shape_at cs (Some u)))
        → first (shape_at cs (Some u)) ≡ Some (m.key, record { value = m.value; cell = f })
        → Becomes cs (slice_set ds f (Used (with_links m (Some l) s))) (Some root) (Some f) None (Some root) (unrooted (shape_at cs (Some root)))
    unfolding Lies Becomes with_links
    unrooted_both l u f s m e g becomes first_is =
        let a = shape_at cs n.left in
        let c = shape_at cs n.right in
        let b = subst (λ x. BecomesAs cs ds x s None (Some f) (rest (shape_at cs x))) (sym g) becomes in
        let d = is_node cs l a (subst (λ x. LiesAs cs x a) e o.left) in
        let uses_is = λ (j : ℕ). ap (uses j) o.is in
        let f_used : 1 ≤ uses f c = omega (arith, b.cells f, one_at_itself f) in
        let within : f < length cs = elim (cases_lt f (length cs)) [ inl h ↦ h | inr h ↦ absurd (omega (arith, stands_within cs c o.right.stands f h)) ] in
        let is : unrooted (shape_at cs (Some root)) ≡ node a f m.key m.value (rest c)
        = ap unrooted o.is ∙ join_node a c d.0 l d.1 d.2 d.3 d.4 ∙ ap (λ x. rooted a x (rest c)) (ap (λ x. first (shape_at cs x)) g ∙ first_is) in
        rw is (record {
          long = length-set ds f _ ∙ b.long;
          lies = set_node ds f m.key m.value (Some l) s a (rest c) (omega (arith, b.long))
              (lies_kept cs ds (Some l) a (subst (λ x. LiesAs cs x a) e o.left) (λ j used. b.kept j (omega (arith, uses_is j, h.apart j))))
              b.lies
              (λ j. omega (arith, uses_is j, h.apart j, b.cells j));
          cells = λ j. omega (arith, uses_is j, b.cells j);
          kept = λ j free. set_other ds f _ j (λ i. omega (arith, uses_is j, b.cells j, one_at_here f j i)) ∙ b.kept j (omega (arith, uses_is j));
        })

module _ {K V : Type 0} (less : K → K → Bool) (q : K) where
  module _ (cs ds : List (Cell K V)) (link : Option ℕ) (root : ℕ) (n : Node K V) (r f : Option ℕ) (o : Opened cs root n) (e : link ≡ Some root) (h : Lies cs link) where
    pub cut_left : less q n.key ≡ true → Becomes cs ds n.left r None f (cut less q (shape_at cs n.left))
        → Becomes cs (slice_set ds root (Used (with_left n r))) link (Some root) None f (cut less q (shape_at cs link))
    unfolding with_left
    cut_left below b = rw (e, o.is, below) (relink_left cs ds root n o r None f _ (apart cs (Some root) (subst (Lies cs) e h)) b)

    pub cut_right : less n.key q ≡ true → less q n.key ≡ false → Becomes cs ds n.right r None f (cut less q (shape_at cs n.right))
        → Becomes cs (slice_set ds root (Used (with_right n r))) link (Some root) None f (cut less q (shape_at cs link))
    unfolding with_right
    cut_right above not_below b = rw (e, o.is, not_below, above) (relink_right cs ds root n o r None f _ (apart cs (Some root) (subst (Lies cs) e h)) b)

    pub cut_here : less n.key q ≡ false → less q n.key ≡ false → Becomes cs ds (Some root) r None (Some root) (unrooted (shape_at cs (Some root)))
        → Becomes cs ds link r None (Some root) (cut less q (shape_at cs link))
    cut_here not_above not_below b =
        let is : cut less q (shape_at cs (Some root)) ≡ unrooted (shape_at cs (Some root)) = rw (o.is, not_below, not_above) in
        rw (e, is) b

pub ruleset taking_first = (rest_none, rest_left, first_none, first_left)

pub ruleset joining = (unrooted_right, unrooted_left, unrooted_both)

pub ruleset cutting = (shape_none, cut_left, cut_right, cut_here)
