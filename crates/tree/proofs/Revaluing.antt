-- The value at a key changed, step by step.
use Rattle.std.proofs.Common.{◌≡◌, ℕ, ◌+◌, Bool, true, false, List, Option, Some, None, slice_set, refl, sym, ap, subst, ◌∙◌, arith}
use Rattle.std.proofs.Math.ListN.{length-set}
use Rattle.tree.specs.declared.cell.Cell.{Cell}
use Rattle.tree.specs.declared.cell.Cell.TheVariants.{Used}
use Rattle.tree.specs.declared.cell.Node.{Node}
use Rattle.tree.specs.Shapes.{node, uses, one_at, shape_at, with_value, LiesAs, Lies, Opened}
use Rattle.tree.specs.Operations.{change, BecomesAs, Becomes}
use Rattle.tree.proofs.Cells.{leaf_lies, one_at_here, shape_none}
use Rattle.tree.proofs.Relinking.{apart, set_node, set_other, keep_left, keep_right}

module _ {K V : Type 0} (less : K → K → Bool) (q : K) (w : V) where
  pub change_none : (cs : List (Cell K V)) (link : Option ℕ) → link ≡ None → Becomes cs cs link link None None (change less q w (shape_at cs link))
  unfolding Becomes
  change_none cs link e = subst (λ x. BecomesAs cs cs x x None None (change less q w (shape_at cs x))) (sym e) (rw (shape_none cs) (record {
    long = refl;
    lies = leaf_lies cs;
    cells = λ j. omega (arith, ap (uses j) (shape_none cs));
    kept = λ j free. refl;
  }))

  module _ (cs ds : List (Cell K V)) (link : Option ℕ) (root : ℕ) (n : Node K V) (o : Opened cs root n) (e : link ≡ Some root) (h : Lies cs link) where
    uses_is : (j : ℕ) → uses j (shape_at cs link) ≡ uses j (shape_at cs n.left) + one_at (Some root) j + uses j (shape_at cs n.right)
    uses_is j = ap (λ x. uses j (shape_at cs x)) e ∙ ap (uses j) o.is

    pub change_left : less q n.key ≡ true → Becomes cs ds n.left n.left None None (change less q w (shape_at cs n.left)) → Becomes cs ds link link None None (change less q w (shape_at cs link))
    change_left below b = rw (e, o.is, below) (keep_left cs ds root n o _ (apart cs (Some root) (subst (Lies cs) e h)) b)

    pub change_right : less n.key q ≡ true → less q n.key ≡ false → Becomes cs ds n.right n.right None None (change less q w (shape_at cs n.right)) → Becomes cs ds link link None None (change less q w (shape_at cs link))
    change_right above not_below b = rw (e, o.is, not_below, above) (keep_right cs ds root n o _ (apart cs (Some root) (subst (Lies cs) e h)) b)

    pub change_here : less n.key q ≡ false → less q n.key ≡ false → Becomes cs (slice_set cs root (Used (with_value n w))) link link None None (change less q w (shape_at cs link))
    unfolding Lies Becomes with_value
    change_here not_above not_below =
        let is : change less q w (shape_at cs link) ≡ node (shape_at cs n.left) root n.key w (shape_at cs n.right) = rw (e, o.is, not_below, not_above) in
        rw is (record {
          long = length-set cs root _;
          lies = subst (λ x. LiesAs (slice_set cs root (Used (with_value n w))) x (node (shape_at cs n.left) root n.key w (shape_at cs n.right))) (sym e)
              (set_node cs root n.key w n.left n.right (shape_at cs n.left) (shape_at cs n.right) o.within o.left o.right (λ j. omega (arith, uses_is j, h.apart j)));
          cells = λ j. omega (arith, uses_is j);
          kept = λ j free. set_other cs root _ j (λ i. omega (arith, uses_is j, one_at_here root j i));
        })

pub ruleset changing = (shape_none, change_none, change_left, change_right, change_here)
