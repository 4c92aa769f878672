-- A key put in, step by step.
use Rattle.std.proofs.Common.{◌≡◌, ℕ, ◌+◌, ◌≤◌, Bool, true, false, List, Option, Some, None, slice_get, slice_set, inl, inr, sym, ap, subst, arith}
use Rattle.std.proofs.Math.ListN.{length-set}
use Rattle.std.proofs.lemmas.Bool.{cases_eq, cases_lt}
use Rattle.std.proofs.lemmas.Option.{slice_get_within}
use Rattle.tree.specs.declared.cell.Cell.{Cell}
use Rattle.tree.specs.declared.cell.Cell.TheVariants.{Blank, Used}
use Rattle.tree.specs.declared.cell.Node.{Node}
use Rattle.tree.specs.Shapes.{leaf, uses, one_at, node_of, shape_at, with_left, with_right, Lies, Opened}
use Rattle.tree.specs.Operations.{put, Becomes}
use Rattle.tree.proofs.Cells.{leaf_lies, one_at_here, one_at_other, one_at_most, stands_used, shape_none}
use Rattle.tree.proofs.Relinking.{set_node, set_other, relink_left, relink_right}

module _ {K V : Type 0} where
  -- a blank cell is no tree's
  pub blank_unused : (cs : List (Cell K V)) (r : Option ℕ) (at : ℕ) → Lies cs r → slice_get cs at ≡ Some Blank → uses at (shape_at cs r) ≡ 0
  unfolding Lies
  blank_unused cs r at h blank = elim (cases_lt 0 (uses at (shape_at cs r))) [
    | inl used ↦ absurd (let u = stands_used cs at (shape_at cs r) h.stands used in let e = u.1 in cc)
    | inr none ↦ omega arith
  ]

  fresh : (cs : List (Cell K V)) (r : Option ℕ) (at : ℕ) → Lies cs r → slice_get cs at ≡ Some Blank → (j : ℕ) → uses j (shape_at cs r) + one_at (Some at) j ≤ 1
  unfolding Lies
  fresh cs r at h blank j = elim (cases_eq j at) [
    | inl e ↦ (let u = blank_unused cs r at h blank in let v : uses j (shape_at cs r) ≡ uses at (shape_at cs r) = ap (λ i. uses i (shape_at cs r)) e in omega (arith, one_at_here at j e))
    | inr apart ↦ omega (arith, h.apart j, one_at_other at j apart)
  ]

  module _ (less : K → K → Bool) (q : K) (w : V) (at : ℕ) where
    pub put_none : (cs : List (Cell K V)) (r : Option ℕ) → r ≡ None → slice_get cs at ≡ Some Blank
        → Becomes cs (slice_set cs at (node_of q w None None)) r (Some at) (Some at) None (put less q w at (shape_at cs r))
    unfolding Becomes
    put_none cs r e blank = subst (λ r. Becomes cs (slice_set cs at (node_of q w None None)) r (Some at) (Some at) None (put less q w at (shape_at cs r))) (sym e) (rw (shape_none cs) (record {
      long = length-set cs at _;
      lies = set_node cs at q w None None leaf leaf (slice_get_within cs at _ blank) (leaf_lies cs) (leaf_lies cs) (λ j. omega (arith, one_at_most at j));
      cells = λ j. omega (arith, ap (uses j) (shape_none cs));
      kept = λ j free. set_other cs at _ j (λ e. omega (arith, one_at_here at j e, free));
    }))

    module _ (cs ds : List (Cell K V)) (link : Option ℕ) (root : ℕ) (n : Node K V) (i : ℕ) (o : Opened cs root n) (e : link ≡ Some root) (h : Lies cs link) (blank : slice_get cs at ≡ Some Blank) where
      pub put_left : less q n.key ≡ true → Becomes cs ds n.left (Some i) (Some at) None (put less q w at (shape_at cs n.left))
          → Becomes cs (slice_set ds root (Used (with_left n (Some i)))) link (Some root) (Some at) None (put less q w at (shape_at cs link))
      unfolding with_left
      put_left below b =
          rw (e, o.is, below) (relink_left cs ds root n o (Some i) (Some at) None _ (fresh cs (Some root) at (subst (Lies cs) e h) blank) b)

      pub put_right : less n.key q ≡ true → less q n.key ≡ false → Becomes cs ds n.right (Some i) (Some at) None (put less q w at (shape_at cs n.right))
          → Becomes cs (slice_set ds root (Used (with_right n (Some i)))) link (Some root) (Some at) None (put less q w at (shape_at cs link))
      unfolding with_right
      put_right above not_below b =
          rw (e, o.is, not_below, above) (relink_right cs ds root n o (Some i) (Some at) None _ (fresh cs (Some root) at (subst (Lies cs) e h) blank) b)

pub ruleset inserting = (shape_none, put_none, put_left, put_right)
