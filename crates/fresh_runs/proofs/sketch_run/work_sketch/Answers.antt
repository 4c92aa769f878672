-- A sketch just made is fresh, and no cell beyond the first k of an order changes.
use Rattle.std.proofs.Common.{◌∙◌, sym, subst, ◌≤◌}
use Rattle.fresh_runs.proofs.sketch_run.work_sketch.Goals as goal

pub returns-clause-cells : goal.returns-clause-cells
returns-clause-cells g c =
    let fresh = c.in_ok-sketch.ensures.made in
    let stays = c.work_fresh-worked.ensures.stays in (
      record {
        own = stays.0.own ∙ fresh.keys_lent.own;
        long = stays.0.long ∙ fresh.keys_lent.long;
        beyond = λ j p. stays.0.beyond j (subst (λ n. n ≤ j) (sym fresh.keys_lent.own) p) ∙ fresh.keys_lent.beyond j p;
      },
      record {
        own = stays.1.own ∙ fresh.ranks_lent.own;
        long = stays.1.long ∙ fresh.ranks_lent.long;
        beyond = λ j p. stays.1.beyond j (subst (λ n. n ≤ j) (sym fresh.ranks_lent.own) p) ∙ fresh.ranks_lent.beyond j p;
      },
    )
