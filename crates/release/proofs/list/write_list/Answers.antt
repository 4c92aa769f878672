-- The summary shows that it holds k keys, on which the rule in words rests.
use Rattle.std.proofs.Common.{◌≡◌, ap, arith}
use Rattle.summaries.specs.declared.answers.Facts.{Facts}
use Rattle.release.proofs.Rule.{all_written}
use Rattle.release.proofs.list.write_list.Goals as goal

pub returns : goal.returns
returns g c =
    let k_is : c.facts-k.result.k ≡ (g.S.Summary.content c.args.summary.now).k = ap (λ (f : Facts). f.k) c.facts-k.ensures.answer in
    let e = all_written _ g.met.S.Key.Kind.order _ c.facts-k.ensures.stands.holds_k _ _ _ _ _ _ _ c.ranges.shared.sfits c.requires.draws c.loop-j.invariant.so_far (omega arith) in
    record { answer = e.answer; output = e.output_is; rule = e.rule }
