-- What the operations find in the shape of a tree and make of it, and what they do to the cells. No contract of a public
-- call names these.
use Rattle.std.specs.Prelude.{◌≡◌, ◌==◌, ℕ, ◌+◌, ◌-◌, ◌≢◌, nat_lt, Bool, cond, List, Option, Some, None, IfNone, length, slice_get}
use Rattle.std.specs.Option.{option_map}
use Rattle.tree.specs.declared.cell.Cell.{Cell}
use Rattle.tree.specs.declared.removal.Removed.{Removed}
use Rattle.tree.specs.Entries.{Kept}
use Rattle.tree.specs.Shapes.{Shape, leaf, node, size, uses, one_at, shape_at, LiesAs}

module _ {K V : Type 0} (less : K → K → Bool) (q : K) where
  -- what is kept of q, found on one path
  abbrev pub seek : Shape K V → Option (Kept V)
  seek leaf = None
  seek (node l i k v u) = cond (less q k) (seek l) (cond (less k q) (seek u) (Some (record { value = v; cell = i })))

  -- q is put in as a leaf; the tree as it is where q is there
  abbrev pub put : V → ℕ → Shape K V → Shape K V
  put w at leaf = node leaf at q w leaf
  put w at (node l i k v u) = cond (less q k) (node (put w at l) i k v u) (cond (less k q) (node l i k v (put w at u)) (node l i k v u))

  -- the value of q is changed
  abbrev pub change : V → Shape K V → Shape K V
  change w leaf = leaf
  change w (node l i k v u) = cond (less q k) (node (change w l) i k v u) (cond (less k q) (node l i k v (change w u)) (node l i k w u))

module _ {K V : Type 0} where
  -- the j-th key with its value: as many keys stand before a node as its left side has
  abbrev pub place : ℕ → Shape K V → Option (K × V)
  place j leaf = None
  place j (node l i k v u) = cond (nat_lt j (size l)) (place j l) (cond (j == size l) (Some (k, v)) (place (j - size l - 1) u))

  -- the key of the first node, with what is kept of it
  abbrev pub first : Shape K V → Option (K × Kept V)
  first leaf = None
  first (node leaf i k v u) = Some (k, record { value = v; cell = i })
  first (node (node a j x y b) i k v u) = first (node a j x y b)

  -- the tree without its first node
  abbrev pub rest : Shape K V → Shape K V
  rest leaf = leaf
  rest (node leaf i k v u) = u
  rest (node (node a j x y b) i k v u) = node (rest (node a j x y b)) i k v u

  -- a node, if there is one, over two trees
  abbrev pub rooted : Shape K V → Option (K × Kept V) → Shape K V → Shape K V
  rooted l None u = l
  rooted l (Some (k, x)) u = node l x.cell k x.value u

  -- two trees as one: the first node of the second comes to the root
  abbrev pub join : Shape K V → Shape K V → Shape K V
  join leaf u = u
  join (node a j x y b) u = rooted (node a j x y b) (first u) (rest u)

  -- a tree without its root
  abbrev pub unrooted : Shape K V → Shape K V
  unrooted leaf = leaf
  unrooted (node l i k v u) = join l u

  -- q is taken out
  abbrev pub cut : (K → K → Bool) → K → Shape K V → Shape K V
  cut less q leaf = leaf
  cut less q (node l i k v u) = cond (less q k) (node (cut less q l) i k v u) (cond (less k q) (node l i k v (cut less q u)) (join l u))

-- The tree at the link r in the cells cs has become t, at the link s in the cells ds. It has taken up a cell or none, and
-- given up one or none; no cells are written but its own and the one taken up.
pub record BecomesAs {K V : Type 0} (cs ds : List (Cell K V)) (r s taken freed : Option ℕ) (t : Shape K V) : Type 0 where
  pub long : length ds ≡ length cs
  pub lies : LiesAs ds s t
  pub cells : (j : ℕ) → uses j t + one_at freed j ≡ uses j (shape_at cs r) + one_at taken j
  pub kept : (j : ℕ) → uses j (shape_at cs r) + one_at taken j ≡ 0 → slice_get ds j ≡ slice_get cs j

-- the same, closed: a proof that wants its parts says so
unfoldable pub Becomes : {K V : Type 0} (cs ds : List (Cell K V)) (r s taken freed : Option ℕ) (t : Shape K V) → Type 0
Becomes cs ds r s taken freed t = BecomesAs cs ds r s taken freed t

module _ {K V : Type 0} (less : K → K → Bool) (q : K) (cs ds : List (Cell K V)) (r : Option ℕ) where
  -- What putting q in answers and leaves: none where q is there, and no cell is written; else the link to the tree with q
  -- in it, with the value w, in the cell `at`.
  abbrev pub PutIn : V → ℕ → Option ℕ → Type 0
  PutIn w at None = (seek less q (shape_at cs r) ≢ None) × (ds ≡ cs)
  PutIn w at (Some s) = (seek less q (shape_at cs r) ≡ None) × Becomes cs ds r (Some s) (Some at) None (put less q w at (shape_at cs r))

  -- What changing the value of q to w answers and leaves: the value that q had; none where q is not there, and no cell is
  -- written.
  abbrev pub Changed : V → Option V → Type 0
  Changed w old = (old ≡ option_map (λ x. x.value) (seek less q (shape_at cs r))) × IfNone old (ds ≡ cs) × Becomes cs ds r r None None (change less q w (shape_at cs r))

  -- What taking q out answers and leaves: none where q is not there, and no cell is written; else the cell that q lay in,
  -- which the tree no longer uses, and the link to the tree without q.
  abbrev pub TakenOut : Option Removed → Type 0
  TakenOut None = (seek less q (shape_at cs r) ≡ None) × (ds ≡ cs)
  TakenOut (Some x) = (option_map (λ y. y.cell) (seek less q (shape_at cs r)) ≡ Some x.freed) × Becomes cs ds r x.link None (Some x.freed) (cut less q (shape_at cs r))
