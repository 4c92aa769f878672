-- What a tree stands for: its keys in order, each with its value and the cell that it lies in; and what becomes of them.
use Rattle.std.specs.Prelude.{◌==◌, ℕ, Bool, cond, List, map, Option}
use Rattle.std.specs.List.{count_by}
use Rattle.std.specs.Map.{lookup, remove_entry}
use Rattle.std.specs.Option.{option_map}
use Rattle.keys.specs.Orders.{same}
use Rattle.keys.specs.Sorted.{insert_sorted}

-- what is kept of a key: its value, and the cell that it lies in
pub record Kept (V : Type 0) : Type 0 where
  pub value : V
  pub cell : ℕ

-- keys, each with what is kept of it
abbrev pub Entries : Type 0 → Type 0 → Type 0
Entries K V = List (K × Kept V)

-- the key and its value
abbrev pub item : {K V : Type 0} → K × Kept V → K × V
item e = (e.0, e.1.value)

module _ {K V : Type 0} (less : K → K → Bool) where
  -- what is kept of the key q, if it is there
  abbrev pub kept_of : K → Entries K V → Option (Kept V)
  kept_of q es = lookup (same less q) es

  -- its value
  abbrev pub value_of : K → Entries K V → Option V
  value_of q es = option_map (λ x. x.value) (kept_of q es)

  -- the cell that it lies in
  abbrev pub cell_of : K → Entries K V → Option ℕ
  cell_of q es = option_map (λ x. x.cell) (kept_of q es)

  -- q comes in at its place, with the value w, in the cell `at`
  abbrev pub with_key : K → V → ℕ → Entries K V → Entries K V
  with_key q w at es = insert_sorted less (q, record { value = w; cell = at }) es

  -- what is kept of p, where w becomes the value of q
  unfoldable pub revalued : K → V → K → Kept V → Kept V
  revalued q w p x = cond (same less q p) (record x { value = w }) x

  -- w becomes the value of q
  abbrev pub with_new_value : K → V → Entries K V → Entries K V
  with_new_value q w es = map (λ e. (e.0, revalued q w e.0 e.1)) es

  -- q leaves
  abbrev pub without_key : K → Entries K V → Entries K V
  without_key q es = remove_entry (same less q) es

-- how many keys lie in the cell j
abbrev pub lying_in : {K V : Type 0} → ℕ → Entries K V → ℕ
lying_in {K} {V} j es = count_by (λ (e : K × Kept V). e.1.cell == j) es
