-- The shape of a tree, and how it lies in cells: what is read from the cells at a link, and when that is a tree.
use Rattle.std.specs.Prelude.{◌≡◌, ◌==◌, ℕ, zero, suc, ◌+◌, ◌<◌, ◌≤◌, Bool, true, false, cond, List, [], ◌∷◌, ◌++◌, Option, Some, None, length, slice_get}
use Rattle.tree.specs.declared.cell.Cell.{Cell}
use Rattle.tree.specs.declared.cell.Cell.TheVariants.{Blank, Used}
use Rattle.tree.specs.declared.cell.Node.{Node}
use Rattle.tree.specs.Entries.{Entries}

-- a tree whose nodes have the number of their cell, a key and a value
pub data Shape (K V : Type 0) : Type 0 where
  leaf : Shape K V
  node : Shape K V → ℕ → K → V → Shape K V → Shape K V

-- how often the cell j is this one: once or not at all
abbrev pub one_at : Option ℕ → ℕ → ℕ
one_at None j = 0
one_at (Some i) j = cond (i == j) 1 0

module _ {K V : Type 0} where
  -- whether no key lies in a cell that is there
  abbrev pub is_blank : Option (Cell K V) → Bool
  is_blank None = false
  is_blank (Some Blank) = true
  is_blank (Some (Used n)) = false

  -- the link to a tree: the cell of its root
  abbrev pub link_of : Shape K V → Option ℕ
  link_of leaf = None
  link_of (node l i k v u) = Some i

  -- how many nodes it has
  abbrev pub size : Shape K V → ℕ
  size leaf = 0
  size (node l i k v u) = size l + 1 + size u

  -- how often the cell j stands in it
  abbrev pub uses : ℕ → Shape K V → ℕ
  uses j leaf = 0
  uses j (node l i k v u) = uses j l + one_at (Some i) j + uses j u

  -- its keys in order, each with its value and its cell
  abbrev pub entries : Shape K V → Entries K V
  entries leaf = []
  entries (node l i k v u) = entries l ++ (k, record { value = v; cell = i }) ∷ entries u

  -- the cell of a node
  abbrev pub node_of : K → V → Option ℕ → Option ℕ → Cell K V
  node_of k v l u = Used (record { key = k; value = v; left = l; right = u })

  -- a node linked to another tree on one side or on both, and one with another value
  unfoldable pub with_left : Node K V → Option ℕ → Node K V
  with_left n l = record n { left = l }

  unfoldable pub with_right : Node K V → Option ℕ → Node K V
  with_right n u = record n { right = u }

  unfoldable pub with_value : Node K V → V → Node K V
  with_value n w = record n { value = w }

  unfoldable pub with_links : Node K V → Option ℕ → Option ℕ → Node K V
  with_links n l u = record n { left = l; right = u }

  -- the nodes of the tree are in their cells, with the links between them
  abbrev pub Stands : List (Cell K V) → Shape K V → Type 0
  Stands cs leaf = Unit {0}
  Stands cs (node l i k v u) =
      (slice_get cs i ≡ Some (node_of k v (link_of l) (link_of u))) × Stands cs l × Stands cs u

  -- the tree whose root is this cell, with the trees that f gives for its links
  unfoldable pub shape_from : ℕ → Option (Cell K V) → (Option ℕ → Shape K V) → Shape K V
  shape_from i None f = leaf
  shape_from i (Some Blank) f = leaf
  shape_from i (Some (Used c)) f = node (f c.left) i c.key c.value (f c.right)

  -- the tree that is read from the cells, at most n deep
  unfoldable pub shape_within : ℕ → List (Cell K V) → Option ℕ → Shape K V
  shape_within zero cs r = leaf
  shape_within (suc n) cs None = leaf
  shape_within (suc n) cs (Some i) = shape_from i (slice_get cs i) (shape_within n cs)

  -- The tree that is read at a link. The cells' number is depth enough, since no cell stands in a tree twice.
  unfoldable pub shape_at : List (Cell K V) → Option ℕ → Shape K V
  shape_at cs r = shape_within (length cs) cs r

-- the tree t lies at the link r: its nodes are in their cells, each in a cell of its own
pub record LiesAs {K V : Type 0} (cs : List (Cell K V)) (r : Option ℕ) (t : Shape K V) : Type 0 where
  pub linked : r ≡ link_of t
  pub stands : Stands cs t
  pub apart : (j : ℕ) → uses j t ≤ 1

-- what is read at the link r is a tree that lies there
unfoldable pub Lies : {K V : Type 0} → List (Cell K V) → Option ℕ → Type 0
Lies cs r = LiesAs cs r (shape_at cs r)

-- the parts of a tree whose root is the node n in the cell `at`
pub record Opened {K V : Type 0} (cs : List (Cell K V)) (at : ℕ) (n : Node K V) : Type 0 where
  pub within : at < length cs
  pub read : slice_get cs at ≡ Some (Used n)
  pub is : shape_at cs (Some at) ≡ node (shape_at cs n.left) at n.key n.value (shape_at cs n.right)
  pub left : Lies cs n.left
  pub right : Lies cs n.right
  -- the measure by which functions that go down a tree are seen to end
  pub left_smaller : size (shape_at cs n.left) < size (shape_at cs (Some at))
  pub right_smaller : size (shape_at cs n.right) < size (shape_at cs (Some at))
