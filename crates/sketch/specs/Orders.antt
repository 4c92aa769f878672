-- The two orders of the held keys: by key, each with its stored count, and by stored count and then key; what ties the two
-- together; and which of the cells that were lent for an order do not change.
use Rattle.std.specs.Prelude.{◌≡◌, ◌==◌, ℕ, ◌≤◌, Bool, false, nat_lt, List, Option, Some, None, length, slice_get}
use Rattle.std.specs.Option.{is_some}
use Rattle.keys.specs.Orders.{TotalOrder, by_parts}
use Rattle.keys.specs.Helds.{less_held}
use Rattle.keys.specs.declared.held.Held.{Held}
use Rattle.keys.specs.declared.pair.Pair.{Pair}
use Rattle.tree.specs.declared.cell.Cell.{Cell}
use Rattle.tree.specs.Entries.{kept_of, value_of}
use Rattle.tree.specs.Trees.{View, Arranged}

-- a stored count and a held key
abbrev pub Rank : Type 0 → Type 0
Rank K = Pair ℕ (Held K)

-- both trees, as their callers see them
pub record TwoOrders (K : Type 0) : Type 0 where
  pub keys : View (Held K) ℕ
  pub ranks : View (Rank K) (Unit {0})

-- by stored count, then by key
abbrev pub less_rank : {K : Type 0} → (K → K → Bool) → Rank K → Rank K → Bool
less_rank less p q = by_parts nat_lt (less_held less) p.first p.second q.first q.second

-- whether this is the stored count
abbrev pub is_stored : Option ℕ → ℕ → Bool
is_stored None m = false
is_stored (Some v) m = v == m

module _ {K : Type 0} (less : K → K → Bool) where
  -- the stored count of a held key
  abbrev pub stored : Held K → TwoOrders K → Option ℕ
  stored x s = value_of (less_held less) x s.keys.entries

  -- both trees stand, and have the same keys with the same stored counts
  pub record TiedAs (s : TwoOrders K) : Type 0 where
    -- what the kind of key promises, at hand for proofs
    pub ordered : TotalOrder less
    pub keys : Arranged (less_held less) s.keys
    pub ranks : Arranged (less_rank less) s.ranks
    pub tied : (m : ℕ) (x : Held K) → is_some (kept_of (less_rank less) (record { first = m; second = x }) s.ranks.entries) ≡ is_stored (stored x s) m

  -- the same, closed
  unfoldable pub Tied : TwoOrders K → Type 0
  Tied s = TiedAs s

-- a tree whose own cells are the first k of the cells that were lent; no other has changed since
pub record LentFirst {K V : Type 0} (k : ℕ) (lent : List (Cell K V)) (t : View K V) : Type 0 where
  pub own : t.own ≡ k
  pub long : length t.cells ≡ length lent
  pub beyond : (j : ℕ) → k ≤ j → slice_get t.cells j ≡ slice_get lent j

-- a tree has as many cells of its own as before, and no other cell has changed
abbrev pub BeyondStays : {K V : Type 0} (s t : View K V) → Type 0
BeyondStays s t = LentFirst s.own s.cells t

-- the same of both trees
abbrev pub CellsStay : {K : Type 0} (s t : TwoOrders K) → Type 0
CellsStay s t = BeyondStays s.keys t.keys × BeyondStays s.ranks t.ranks
