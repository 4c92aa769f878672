-- When a sketch is made, and what a fresh one is.
use Rattle.std.specs.Prelude.{◌≡◌, ℕ, Bool, ◌&&◌, cond, nat_le, List, Option, Some, None, Result, Ok, Err}
use Rattle.keys.specs.declared.refusal.Refusal.{Refusal}
use Rattle.keys.specs.declared.refusal.Refusal.TheVariants.{OutOfRange, FewCells}
use Rattle.keys.specs.declared.held.Held.{Held}
use Rattle.tree.specs.declared.cell.Cell.{Cell}
use Rattle.model.specs.Sketches.{sketch}
use Rattle.sketch.specs.declared.making.NotMade.{NotMade}
use Rattle.sketch.specs.Orders.{Rank, LentFirst}
use Rattle.sketch.specs.Sketches.{SketchView, content_of, Laid}

-- why no sketch is made, if none is: 1 unless k is 2 to 1,024, then 2 if there are fewer than k cells for an order
abbrev pub make_answer : (k key_cells rank_cells : ℕ) → Option Refusal
make_answer k a b = cond (nat_le 2 k && nat_le k 1024) (cond (nat_le k a && nat_le k b) None (Some FewCells)) (Some OutOfRange)

-- the refusal, if it is one
abbrev pub refusal_of : {K X : Type 0} → Result X (NotMade K) → Option Refusal
refusal_of (Ok x) = None
refusal_of (Err e) = Some e.refusal

-- a fresh sketch of k keys, made in these cells
pub record IsFresh {K : Type 0} (less : K → K → Bool) (k : ℕ) (keys : List (Cell (Held K) ℕ)) (ranks : List (Cell (Rank K) (Unit {0}))) (s : SketchView K) : Type 0 where
  pub content : content_of s ≡ (sketch less k).fresh
  -- so its plan is that of a sketch of k keys
  pub k_is : s.facts.k ≡ k
  pub laid : Laid less s
  pub keys_lent : LentFirst k keys s.orders.keys
  pub ranks_lent : LentFirst k ranks s.orders.ranks
