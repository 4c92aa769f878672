-- So far the dummies below `cell` have come in.
use Rattle.keys.specs.Helds.{less_held}
use Rattle.sketch.specs.Orders.{less_rank}
use Rattle.sketch.proofs.Filling.{Filled, dummy_keys, dummy_ranks}
use Rattle.sketch.proofs.sketch.Sketch.fresh.Given as goal

abbrev pub invariant-loop-cell : goal.invariant-loop-cell
invariant-loop-cell g l = record {
  keys : Filled (less_held g.K.Kind.less) l.k l.fn.keys (dummy_keys l.cell) l.by_key;
  ranks : Filled (less_rank g.K.Kind.less) l.k l.fn.ranks (dummy_ranks l.cell) l.by_rank;
}
