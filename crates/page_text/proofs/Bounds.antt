-- The law of a log's page. Idea: a log that is fed to its end finds room for all its flight words, and a sketch admits each, so
-- they are its entries, of which the law of pages speaks.
use Rattle.std.proofs.Common.{◌≡◌, ℕ, ◌+◌, true, List, [], ◌∷◌, length, Some, None, IsOk, Option, refl, sym, ap, ◌∙◌, true≢false, arith}
use Rattle.std.specs.List.{AllByRecursion, filter}
use Rattle.keys.specs.KindOrders.{less_flight}
use Rattle.keys.specs.KindOrdersLemmas.{flight_total}
use Rattle.keys.specs.declared.word.FlightWord.{FlightWord}
use Rattle.records.specs.Values.{RecordValue}
use Rattle.records.specs.Logs.{LogFault, Log}
use Rattle.model.specs.Plans.{after, Entries}
use Rattle.model.proofs.SketchLaws.{sketch_lawful}
use Rattle.lenses.specs.Gives.{flight_given}
use Rattle.feeding.specs.Feeding.{admitted_keys, full_at, answer_by}
use Rattle.feeding.proofs.Room.{all_fit, adds_all}
use Rattle.pages.proofs.Truth.{lines_true}
use Rattle.page_text.specs.Text.{text_plan, lines_of, fed_content, fed_text_answer, flight_words, KeepsPageTextLaw}

all_pass : {X : Type 0} (xs : List X) → filter (λ (x : X). true) xs ≡ xs
all_pass [] = refl
all_pass (x ∷ xs) = ap (λ ys. x ∷ ys) (all_pass xs)

each_admitted : (ws : List FlightWord) → AllByRecursion (λ w. text_plan.admits w ≡ true) ws
each_admitted [] = tt
each_admitted (w ∷ ws) = (refl, each_admitted ws)

not_full : (f : Option LogFault) (rs : List RecordValue) (i : Option ℕ) → IsOk (answer_by text_plan text_plan.fresh flight_given i f rs) → i ≡ None
not_full f rs (Some i) ok = absurd (true≢false (sym ok))
not_full f rs None ok = refl

module _ (rs : List RecordValue) (never : full_at text_plan text_plan.fresh flight_given rs ≡ None) where
  every : admitted_keys text_plan flight_given rs ≡ flight_words rs
  every = all_pass (flight_words rs)

  all_words : fed_content rs ≡ after text_plan (flight_words rs)
  unfolding fed_content
  all_words = ap (after text_plan) (adds_all text_plan flight_given text_plan.fresh rs never ∙ every)

  entries : Entries text_plan (flight_words rs)
  entries = record {
    admitted = each_admitted (flight_words rs);
    few = omega (arith, all_fit text_plan flight_given text_plan.fresh rs never, ap length every);
  }

pub keeps_page_text_law : (log : Log) → KeepsPageTextLaw log
unfolding KeepsPageTextLaw lines_of fed_text_answer
keeps_page_text_law log ok =
    let never = not_full log.fault log.records (full_at text_plan text_plan.fresh flight_given log.records) ok in
    let C = fed_content log.records in
    lines_true less_flight flight_total text_plan (sketch_lawful less_flight flight_total 8) C (C.l + 1) (omega arith)
    (flight_words log.records) (entries log.records never) (all_words log.records never)
