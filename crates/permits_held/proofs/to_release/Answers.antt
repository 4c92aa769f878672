-- Where the release is refused, the list comes to that refusal.
use Rattle.std.proofs.Common.{rules, ◌≡◌, length, sym, ap, ◌∙◌}
use Rattle.release.specs.Releases.{output_by}
use Rattle.permits_held.specs.Served.{list_answer}
use Rattle.permits_held.proofs.Listed.{list_refused}
use Rattle.permits_held.proofs.to_release.Goals as goal

pub returns-in-Err-clause-answer : goal.returns-in-Err-clause-answer
returns-in-Err-clause-answer g c =
    sym (ap list_answer (list_refused (g.S.Summary.content c.args.summary.now) c.args.book.now c.issue.new.self c.in_ok-listing.listing
    c.args.shared c.args.draws.now c.args.threshold (length c.args.output.now) c.in-Err.refused (search rules) (search rules) (search rules)))

pub returns-in-Err-clause-output : goal.returns-in-Err-clause-output
returns-in-Err-clause-output g c =
    let stays : c.release.new.output ≡ c.args.output.now = search rules in
    stays ∙ sym (ap (output_by c.args.output.now) (list_refused (g.S.Summary.content c.args.summary.now) c.args.book.now c.issue.new.self c.in_ok-listing.listing
    c.args.shared c.args.draws.now c.args.threshold (length c.args.output.now) c.in-Err.refused (search rules) (search rules) (search rules)))
