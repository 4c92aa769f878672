-- A tree as its callers see it, what is known of it, and what no operation changes.
use Rattle.std.specs.Prelude.{◌≡◌, ℕ, ◌<◌, ◌≤◌, ◌^◌, Bool, false, cond, nat_lt, List, Option, Some, None, Result, Ok, Err, length, slice_get}
use Rattle.std.specs.List.{All}
use Rattle.std.specs.Option.{is_none}
use Rattle.keys.specs.Orders.{TotalOrder}
use Rattle.keys.specs.Sorted.{Rising}
use Rattle.tree.specs.declared.cell.Cell.{Cell}
use Rattle.tree.specs.declared.cell.Cell.TheVariants.{Blank, Used}
use Rattle.tree.specs.declared.refusal.NotInserted.{NotInserted}
use Rattle.tree.specs.declared.refusal.NotInserted.TheVariants.{CellNotFree, KeyHeld}
use Rattle.tree.specs.Entries.{Entries, kept_of, lying_in}
use Rattle.tree.specs.Shapes.{is_blank, uses, size, entries, shape_at, LiesAs}

-- a tree: its keys in order with what is kept of each, the cells that were lent, and how many of them, from the first,
-- are its own
pub record View (K V : Type 0) : Type 0 where
  pub entries : Entries K V
  pub cells : List (Cell K V)
  pub own : ℕ

module _ {K V : Type 0} where
  -- whether a key can be put into the cell `at`
  abbrev pub is_free : View K V → ℕ → Bool
  is_free t at = cond (nat_lt at t.own) (is_blank (slice_get t.cells at)) false

  -- the key and the value in a cell
  abbrev pub in_cell : Option (Cell K V) → Option (K × V)
  in_cell None = None
  in_cell (Some Blank) = None
  in_cell (Some (Used n)) = Some (n.key, n.value)

  -- what an operation leaves as it was
  pub record OthersStay (old new : View K V) : Type 0 where
    pub own : new.own ≡ old.own
    pub long : length new.cells ≡ length old.cells
    -- the cells in which no key lies, neither before nor after
    pub stay : (j : ℕ) → lying_in j old.entries ≡ 0 → lying_in j new.entries ≡ 0 → slice_get new.cells j ≡ slice_get old.cells j
    -- the cells that are not its own; this follows, since no key lies there
    pub beyond : (j : ℕ) → old.own ≤ j → slice_get new.cells j ≡ slice_get old.cells j

  -- what is known of a tree
  pub record ArrangedAs (less : K → K → Bool) (t : View K V) : Type 0 where
    -- its keys rise
    pub rising : Rising less t.entries
    -- its own cells are there
    pub room : t.own ≤ length t.cells
    -- the cell of a key has the key and its value
    pub holds : All (λ e. in_cell (slice_get t.cells e.1.cell) ≡ Some (e.0, e.1.value)) t.entries
    -- no two keys lie in one cell
    pub apart : (j : ℕ) → lying_in j t.entries ≤ 1
    -- all lie in its own cells
    pub within : (j : ℕ) → t.own ≤ j → lying_in j t.entries ≡ 0
    -- its other own cells are blank
    pub blank : (j : ℕ) → j < t.own → lying_in j t.entries ≡ 0 → slice_get t.cells j ≡ Some Blank

  -- the same, closed: a proof that wants its parts says so
  unfoldable pub Arranged : (K → K → Bool) → View K V → Type 0
  Arranged less t = ArrangedAs less t

  -- what putting the key q into the cell `at` answers
  abbrev pub insert_answer : (K → K → Bool) → K → ℕ → View K V → Result (Unit {0}) NotInserted
  insert_answer less q at t = cond (is_free t at) (cond (is_none (kept_of less q t.entries)) (Ok tt) (Err KeyHeld)) (Err CellNotFree)

  -- The tree at the link r stands in the first `own` of the cells, with `len` keys that rise; the others of these are
  -- blank.
  pub record IsTreeAs (less : K → K → Bool) (own len : ℕ) (cs : List (Cell K V)) (r : Option ℕ) : Type 0 where
    -- what the kind of key promises, at hand for proofs
    pub ordered : TotalOrder less
    pub lies : LiesAs cs r (shape_at cs r)
    pub within : (j : ℕ) → own ≤ j → uses j (shape_at cs r) ≡ 0
    pub room : own ≤ length cs
    -- so that the number of keys fits a usize
    pub fits : own < 2 ^ 64
    pub blank : (j : ℕ) → j < own → uses j (shape_at cs r) ≡ 0 → slice_get cs j ≡ Some Blank
    pub rising : Rising less (entries (shape_at cs r))
    pub counted : len ≡ size (shape_at cs r)

  -- the same, closed; and so every tree is, between calls
  unfoldable pub IsTree : (K → K → Bool) → (own len : ℕ) → List (Cell K V) → Option ℕ → Type 0
  IsTree less own len cs r = IsTreeAs less own len cs r

  -- what callers see of it
  abbrev pub view_of : (own : ℕ) → List (Cell K V) → Option ℕ → View K V
  view_of own cs r = record { entries = entries (shape_at cs r); cells = cs; own = own }
