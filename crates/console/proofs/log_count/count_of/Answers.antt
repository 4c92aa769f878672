-- The count is 0 of a key that is not held, and the upper bound is at most n.
use Rattle.std.proofs.Common.{◌+◌, ap, ◌∙◌, unwrap_or, arith}
use Rattle.console.proofs.Counts.{count_or_zero, upper_within}
use Rattle.console.proofs.log_count.count_of.Goals as goal

pub overflow_add-result : goal.overflow_add-result
overflow_add-result g c =
    let C = g.S.Summary.content c.args.summary.now in
    let x = c.args.key.now in
    let count = c.unwrap_or-count.ensures ∙ ap (λ a. unwrap_or a 0) c.count.ensures ∙ count_or_zero g.S.Key.Kind.less C x in
    let upper = upper_within g.S.Key.Kind.less C x c.facts-facts.ensures.stands in
    omega (arith, count, upper, ap (λ f. f.l) c.facts-facts.ensures.answer, ap (λ f. f.n) c.facts-facts.ensures.answer, c.facts-facts.type_inv)

pub returns : goal.returns
returns g c =
    let C = g.S.Summary.content c.args.summary.now in
    let x = c.args.key.now in
    let count = c.unwrap_or-count.ensures ∙ ap (λ a. unwrap_or a 0) c.count.ensures ∙ count_or_zero g.S.Key.Kind.less C x in
    let answer = c.facts-facts.ensures.answer in
    λ i. record { n = (answer i).n; l = (answer i).l; count = count i; upper = count i + (answer i).l }
