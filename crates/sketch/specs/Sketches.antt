-- A sketch as its callers see it, its content, what is known of its trees, and what every sketch is.
use Rattle.std.specs.Prelude.{◌≡◌, ℕ, ◌-◌, ◌≤◌, Bool, Some, map}
use Rattle.keys.specs.declared.held.Held.{Held}
use Rattle.tree.specs.Entries.{Kept, Entries}
use Rattle.model.specs.Contents.{Counts, Content}
use Rattle.model.specs.Sketches.{sketch, sketch_rule}
use Rattle.summaries.specs.declared.answers.Facts.{Facts}
use Rattle.summaries.specs.declared.answers.Taken.{Taken}
use Rattle.summaries.specs.declared.answers.Taken.TheVariants.{Lowered}
use Rattle.summaries.specs.Calls.{done, Stands}
use Rattle.sketch.specs.Orders.{TwoOrders, stored, Tied, CellsStay}

-- the numbers k, n and l, and the two trees
pub record SketchView (K : Type 0) : Type 0 where
  pub facts : Facts
  pub orders : TwoOrders K

-- keys with their counts: a stored count is the count plus l
abbrev pub counted : {K : Type 0} (l : ℕ) → Entries (Held K) ℕ → Counts (Held K)
counted {K} l es = map (λ (e : Held K × Kept ℕ). (e.0, e.1.value - l)) es

-- what a sketch holds and counts
unfoldable pub content_of : {K : Type 0} → SketchView K → Content K
content_of s = record { k = s.facts.k; n = s.facts.n; l = s.facts.l; held = counted s.facts.l s.orders.keys.entries }

module _ {K : Type 0} (less : K → K → Bool) where
  -- What is known of the trees: both stand, with the same keys and the same stored counts; the first k cells of each order
  -- are the tree's own; and each stored count is a count plus l.
  pub record Laid (s : SketchView K) : Type 0 where
    pub tied : Tied less s.orders
    pub key_cells : s.orders.keys.own ≡ s.facts.k
    pub rank_cells : s.orders.ranks.own ≡ s.facts.k
    pub least : (x : Held K) (m : ℕ) → stored less x s.orders ≡ Some m → s.facts.l ≤ m

  -- what is known of a sketch
  pub record IsSketchAs (s : SketchView K) : Type 0 where
    pub some : 2 ≤ s.facts.k
    pub few : s.facts.k ≤ 1024
    pub laid : Laid s
    pub stands : Stands less (content_of s)

  -- the same, closed; and so every sketch is, between calls
  unfoldable pub IsSketch : SketchView K → Type 0
  IsSketch s = IsSketchAs s

  -- what the private function that takes a key promises: the sketch s has taken x, answered a, and become t
  pub record TookAs (s : SketchView K) (x : K) (a : Taken) (t : SketchView K) : Type 0 where
    pub is : IsSketch t
    pub laid : Laid t
    pub k_same : t.facts.k ≡ s.facts.k
    pub content : content_of t ≡ sketch_rule less (content_of s) x
    pub answer : a ≡ done less (sketch less s.facts.k) (content_of s) x
    pub stays : CellsStay s.orders t.orders
    -- a lowering leaves both trees as they were, with all cells
    pub lowering : a ≡ Lowered → t.orders ≡ s.orders

  unfoldable pub Took : SketchView K → K → Taken → SketchView K → Type 0
  Took s x a t = TookAs s x a t
