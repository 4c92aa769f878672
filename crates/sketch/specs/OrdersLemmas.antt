-- Cells that stay do so where nothing changes, and over one change after another. Idea: what is not a tree's own is the same
-- before and after.
use Rattle.std.proofs.Common.{◌≤◌, refl, sym, subst, ◌∙◌}
use Rattle.tree.specs.Trees.{View}
use Rattle.sketch.specs.Orders.{TwoOrders, BeyondStays, CellsStay}

pub beyond_same : {K V : Type 0} (s : View K V) → BeyondStays s s
beyond_same s = record { own = refl; long = refl; beyond = λ j p. refl }

pub beyond_on : {K V : Type 0} (s t u : View K V) → BeyondStays s t → BeyondStays t u → BeyondStays s u
beyond_on s t u a b = record {
  own = b.own ∙ a.own;
  long = b.long ∙ a.long;
  beyond = λ j p. b.beyond j (subst (λ n. n ≤ j) (sym a.own) p) ∙ a.beyond j p;
}

pub cells_same : {K : Type 0} (s : TwoOrders K) → CellsStay s s
cells_same s = (beyond_same s.keys, beyond_same s.ranks)

pub cells_on : {K : Type 0} (s t u : TwoOrders K) → CellsStay s t → CellsStay t u → CellsStay s u
cells_on s t u a b = (beyond_on s.keys t.keys u.keys a.0 b.0, beyond_on s.ranks t.ranks u.ranks a.1 b.1)
