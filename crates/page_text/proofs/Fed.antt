-- A fresh sketch that is fed a log comes to the content that specs/ says, and the answer is the one there. Idea: it keeps its
-- plan, and its k is that of its fresh content, so its plan is that of 8 flight words.
use Rattle.std.proofs.Common.{◌≡◌, List, Result, ap, ◌∙◌}
use Rattle.keys.specs.KindOrders.{less_flight}
use Rattle.keys.specs.declared.word.FlightWord.{FlightWord}
use Rattle.records.specs.Values.{RecordValue}
use Rattle.records.specs.Logs.{Log}
use Rattle.model.specs.Plans.{after_from}
use Rattle.model.specs.Sketches.{sketch}
use Rattle.sketch.specs.Sketches.{SketchView, content_of}
use Rattle.lenses.specs.Gives.{flight_given}
use Rattle.feeding.specs.declared.fault.FeedFault.{FeedFault}
use Rattle.feeding.specs.declared.feed.Fed.{Fed}
use Rattle.feeding.specs.Feeding.{added, fed_answer}
use Rattle.page_text.specs.Text.{text_plan, fed_content, fed_text_answer}

module _ (s t : SketchView FlightWord) (fresh : content_of s ≡ text_plan.fresh) where
  -- it has 8 places before and after
  eight_before : s.facts.k ≡ 8
  unfolding content_of
  eight_before = ap (λ C. C.k) fresh

  pub eight_after : sketch less_flight t.facts.k ≡ sketch less_flight s.facts.k → (content_of t).k ≡ 8
  unfolding content_of
  eight_after same = ap (λ p. p.fresh.k) same ∙ eight_before

  pub content_fed : (rs : List RecordValue) →
      content_of t ≡ after_from (sketch less_flight s.facts.k) (content_of s) (added (sketch less_flight s.facts.k) (content_of s) flight_given rs) →
      content_of t ≡ fed_content rs
  unfolding fed_content
  content_fed rs e =
      e ∙ λ i. after_from (sketch less_flight (eight_before i)) (fresh i) (added (sketch less_flight (eight_before i)) (fresh i) flight_given rs)

  pub answer_fed : (log : Log) (answer : Result Fed FeedFault) →
      answer ≡ fed_answer (sketch less_flight s.facts.k) (content_of s) flight_given log → answer ≡ fed_text_answer log
  unfolding fed_text_answer
  answer_fed log answer e = e ∙ λ i. fed_answer (sketch less_flight (eight_before i)) (fresh i) flight_given log
