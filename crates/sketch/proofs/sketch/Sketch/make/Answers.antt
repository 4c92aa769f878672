-- Where nothing is refused, the numbers fit.
use Rattle.std.proofs.Common.{length, sym, ◌∙◌, arith}
use Rattle.sketch.proofs.Filling.{fitting}
use Rattle.sketch.proofs.sketch.Sketch.make.Goals as goal

pub overflow_cast-k : goal.overflow_cast-k
overflow_cast-k g c =
    let f = fitting c.args.k (length c.args.keys.now) (length c.args.ranks.now) (sym c.refusal.ensures ∙ c.in_default.is) in
    omega (arith, f.few)

pub fresh-requires-clause-some : goal.fresh-requires-clause-some
fresh-requires-clause-some g c = (fitting _ _ _ (sym c.refusal.ensures ∙ c.in_default.is)).some

pub fresh-requires-clause-few : goal.fresh-requires-clause-few
fresh-requires-clause-few g c = (fitting _ _ _ (sym c.refusal.ensures ∙ c.in_default.is)).few

pub fresh-requires-clause-keys : goal.fresh-requires-clause-keys
fresh-requires-clause-keys g c = (fitting _ _ _ (sym c.refusal.ensures ∙ c.in_default.is)).keys

pub fresh-requires-clause-ranks : goal.fresh-requires-clause-ranks
fresh-requires-clause-ranks g c = (fitting _ _ _ (sym c.refusal.ensures ∙ c.in_default.is)).ranks
