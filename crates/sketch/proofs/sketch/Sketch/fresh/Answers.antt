-- Each dummy finds its cell free and comes in above those that are there.
use Rattle.std.proofs.Common.{◌≡◌, subst, refl, sym, arith}
use Rattle.keys.specs.Helds.{less_held}
use Rattle.sketch.specs.Orders.{TwoOrders, less_rank}
use Rattle.std.specs.Result.{IsOk}
use Rattle.sketch.proofs.Filling.{Filled, dummy_keys, dummy_ranks, key_fits, key_filled, rank_fits, rank_filled, first_filled, fresh_sketch, fresh_content, keys_first, ranks_first}
use Rattle.sketch.proofs.Steps.{sketch_laid}
use Rattle.sketch.proofs.sketch.Sketch.fresh.Goals as goal

pub loop-cell-init : goal.loop-cell-init
loop-cell-init g c = record {
  keys = first_filled _ c.args.k c.args.keys.now _ c.requires.keys c.make-by_key.ensures.own c.make-by_key.ensures.entries c.make-by_key.ensures.cells c.make-by_key.ensures.arranged;
  ranks = first_filled _ c.args.k c.args.ranks.now _ c.requires.ranks c.make-by_rank.ensures.own c.make-by_rank.ensures.entries c.make-by_rank.ensures.cells c.make-by_rank.ensures.arranged;
}

pub unwrap-requires : goal.unwrap-requires
unwrap-requires g c =
    subst IsOk (sym c.insert.ensures.answer) (subst IsOk (sym (key_fits _ g.met.K.Kind.order c.args.k c.loop-cell.cell c.args.keys.now _ c.loop-cell.invariant.keys c.loop-cell-test.true)) refl)

pub unwrap-requires-in-loop-cell : goal.unwrap-requires-in-loop-cell
unwrap-requires-in-loop-cell g c =
    subst IsOk (sym c.insert-in-loop-cell.ensures.answer) (subst IsOk (sym (rank_fits _ g.met.K.Kind.order c.args.k c.loop-cell.cell c.args.ranks.now _ c.loop-cell.invariant.ranks c.loop-cell-test.true)) refl)

pub loop-cell-preserved : goal.loop-cell-preserved
loop-cell-preserved g c = record {
  keys = key_filled _ g.met.K.Kind.order c.args.k c.loop-cell.cell c.args.keys.now _ _ _ c.loop-cell.invariant.keys c.unwrap.ensures c.insert.ensures.entries c.insert.ensures.others c.insert.ensures.arranged;
  ranks = rank_filled _ g.met.K.Kind.order c.args.k c.loop-cell.cell c.args.ranks.now _ _ _ c.loop-cell.invariant.ranks c.unwrap-in-loop-cell.ensures c.insert-in-loop-cell.ensures.entries c.insert-in-loop-cell.ensures.others c.insert-in-loop-cell.ensures.arranged;
}

pub invariant_of-result : goal.invariant_of-result
invariant_of-result g c =
    let all : c.loop-cell.cell ≡ c.args.k = omega (arith, c.loop-cell-test.false, c.loop-cell.auto.cell-end) in
    let t : TwoOrders _ = record { keys = c.loop-cell.by_key; ranks = c.loop-cell.by_rank } in
    let keys = subst (λ n. Filled (less_held g.K.Kind.less) c.args.k c.args.keys.now (dummy_keys n) t.keys) all c.loop-cell.invariant.keys in
    let ranks = subst (λ n. Filled (less_rank g.K.Kind.less) c.args.k c.args.ranks.now (dummy_ranks n) t.ranks) all c.loop-cell.invariant.ranks in
    fresh_sketch _ g.met.K.Kind.order _ _ _ t keys ranks c.requires.some c.requires.few

pub returns : goal.returns
returns g c =
    let all : c.loop-cell.cell ≡ c.args.k = omega (arith, c.loop-cell-test.false, c.loop-cell.auto.cell-end) in
    let t : TwoOrders _ = record { keys = c.loop-cell.by_key; ranks = c.loop-cell.by_rank } in
    let keys = subst (λ n. Filled (less_held g.K.Kind.less) c.args.k c.args.keys.now (dummy_keys n) t.keys) all c.loop-cell.invariant.keys in
    let ranks = subst (λ n. Filled (less_rank g.K.Kind.less) c.args.k c.args.ranks.now (dummy_ranks n) t.ranks) all c.loop-cell.invariant.ranks in
    record {
      k_is = refl;
      laid = sketch_laid _ _ (fresh_sketch _ g.met.K.Kind.order _ _ _ t keys ranks c.requires.some c.requires.few);
      content = fresh_content g.K.Kind.less g.met.K.Kind.order _ _ _ t keys ranks;
      keys_lent = keys_first g.K.Kind.less g.met.K.Kind.order _ _ _ t keys ranks;
      ranks_lent = ranks_first g.K.Kind.less g.met.K.Kind.order _ _ _ t keys ranks;
    }
