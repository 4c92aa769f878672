-- The books that are read are those of the definition.
use Rattle.std.proofs.Common.{◌≡◌, ◌∙◌, sym, arith, rules, Result, Ok, Err, w32, to_z, of_z}
use Rattle.release.specs.declared.book.Refused.{Refused}
use Rattle.work.proofs.Releasing.{none_issued, accepted, known, refused}
use Rattle.work.proofs.release_by.release_by.Goals as goal

pub returns-in-Err-clause-books : goal.returns-in-Err-clause-books
returns-in-Err-clause-books g c =
    (none_issued (g.S.Summary.content c.args.summary.now) _ c.args.given.now c.args.draws.now c.args.output.now (omega arith) (omega arith)
    _ _ c.issue.ensures.book _ (sym c.issue.ensures.answer ∙ c.in-Err.is)).books_are

pub returns-in-Err-clause-output : goal.returns-in-Err-clause-output
returns-in-Err-clause-output g c =
    (none_issued (g.S.Summary.content c.args.summary.now) _ c.args.given.now c.args.draws.now c.args.output.now (omega arith) (omega arith)
    _ _ c.issue.ensures.book _ (sym c.issue.ensures.answer ∙ c.in-Err.is)).output_is

pub unreachable-requires : goal.unreachable-requires
unreachable-requires g c =
    let e : ◌≡◌ {A = Result (Unit {0}) Refused} (Ok tt) (Err c.in-Err-hand_back.field-0) = sym (known (g.S.Summary.content c.args.summary.now) c.args.books.now c.args.given.now c.args.draws.now c.args.output.now (omega arith) (omega arith)
    _ _ c.issue.ensures.book _ (sym c.issue.ensures.answer ∙ c.in-Ok.is) (to_z w32 (of_z w32 c.args.given.now.shared)) (search rules) _ _ (sym c.release.ensures.answer ∙ c.in-Err-release.is) _ c.release.ensures.book _ c.release.ensures.output _) ∙ sym c.hand_back.ensures.answer ∙ c.in-Err-hand_back.is in
    absurd (cc)

pub returns-in-Ok-release-clause-answer : goal.returns-in-Ok-release-clause-answer
returns-in-Ok-release-clause-answer g c =
    (accepted (g.S.Summary.content c.args.summary.now) _ c.args.given.now c.args.draws.now c.args.output.now (omega arith) (omega arith)
    _ _ c.issue.ensures.book _ (sym c.issue.ensures.answer ∙ c.in-Ok.is) (to_z w32 (of_z w32 c.args.given.now.shared)) (search rules) _ _ (sym c.release.ensures.answer ∙ c.in-Ok-release.is) _ c.release.ensures.book _ c.release.ensures.output).answered

pub returns-in-Ok-release-clause-books : goal.returns-in-Ok-release-clause-books
returns-in-Ok-release-clause-books g c =
    (accepted (g.S.Summary.content c.args.summary.now) _ c.args.given.now c.args.draws.now c.args.output.now (omega arith) (omega arith)
    _ _ c.issue.ensures.book _ (sym c.issue.ensures.answer ∙ c.in-Ok.is) (to_z w32 (of_z w32 c.args.given.now.shared)) (search rules) _ _ (sym c.release.ensures.answer ∙ c.in-Ok-release.is) _ c.release.ensures.book _ c.release.ensures.output).books_are

pub returns-in-Ok-release-clause-output : goal.returns-in-Ok-release-clause-output
returns-in-Ok-release-clause-output g c =
    (accepted (g.S.Summary.content c.args.summary.now) _ c.args.given.now c.args.draws.now c.args.output.now (omega arith) (omega arith)
    _ _ c.issue.ensures.book _ (sym c.issue.ensures.answer ∙ c.in-Ok.is) (to_z w32 (of_z w32 c.args.given.now.shared)) (search rules) _ _ (sym c.release.ensures.answer ∙ c.in-Ok-release.is) _ c.release.ensures.book _ c.release.ensures.output).output_is

pub returns-in-Ok-hand_back-clause-answer : goal.returns-in-Ok-hand_back-clause-answer
returns-in-Ok-hand_back-clause-answer g c =
    (refused (g.S.Summary.content c.args.summary.now) _ c.args.given.now c.args.draws.now c.args.output.now (omega arith) (omega arith)
    _ _ c.issue.ensures.book _ (sym c.issue.ensures.answer ∙ c.in-Ok.is) (to_z w32 (of_z w32 c.args.given.now.shared)) (search rules) _ _ (sym c.release.ensures.answer ∙ c.in-Err-release.is) _ c.release.ensures.book _ c.release.ensures.output _ _ c.hand_back.ensures.book).answered

pub returns-in-Ok-hand_back-clause-books : goal.returns-in-Ok-hand_back-clause-books
returns-in-Ok-hand_back-clause-books g c =
    (refused (g.S.Summary.content c.args.summary.now) _ c.args.given.now c.args.draws.now c.args.output.now (omega arith) (omega arith)
    _ _ c.issue.ensures.book _ (sym c.issue.ensures.answer ∙ c.in-Ok.is) (to_z w32 (of_z w32 c.args.given.now.shared)) (search rules) _ _ (sym c.release.ensures.answer ∙ c.in-Err-release.is) _ c.release.ensures.book _ c.release.ensures.output _ _ c.hand_back.ensures.book).books_are

pub returns-in-Ok-hand_back-clause-output : goal.returns-in-Ok-hand_back-clause-output
returns-in-Ok-hand_back-clause-output g c =
    (refused (g.S.Summary.content c.args.summary.now) _ c.args.given.now c.args.draws.now c.args.output.now (omega arith) (omega arith)
    _ _ c.issue.ensures.book _ (sym c.issue.ensures.answer ∙ c.in-Ok.is) (to_z w32 (of_z w32 c.args.given.now.shared)) (search rules) _ _ (sym c.release.ensures.answer ∙ c.in-Err-release.is) _ c.release.ensures.book _ c.release.ensures.output _ _ c.hand_back.ensures.book).output_is
