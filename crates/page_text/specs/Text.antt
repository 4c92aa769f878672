-- The text of a log's page: what a sketch of its flight words holds, or the fault.
use Rattle.std.specs.Prelude.{ℕ, ◌+◌, cond, List, ◌++◌, flat_map, map, length, Ok, Err, IsOk, codes, decimal, Result, nat_le}
use Rattle.keys.specs.KindOrders.{less_flight}
use Rattle.keys.specs.declared.word.FlightWord.{FlightWord}
use Rattle.keys.specs.Values.{bytes_of}
use Rattle.records.specs.Values.{RecordValue}
use Rattle.records.specs.Logs.{Log, log_of}
use Rattle.model.specs.Contents.{Content}
use Rattle.model.specs.Plans.{Plan, after}
use Rattle.model.specs.Sketches.{sketch}
use Rattle.model.specs.Pages.{page_lines}
use Rattle.summaries.specs.declared.answers.Facts.{Facts}
use Rattle.summaries.specs.Calls.{facts_of}
use Rattle.pages.specs.declared.line.Line.{Line}
use Rattle.pages.specs.Pages.{line_of, PageLaw}
use Rattle.lenses.specs.Gives.{flight_given}
use Rattle.feeding.specs.declared.fault.FeedFault.{FeedFault}
use Rattle.feeding.specs.declared.feed.Fed.{Fed}
use Rattle.feeding.specs.Faults.{layer_of, number_in}
use Rattle.feeding.specs.Feeding.{keys_of, added, fed_answer}

-- a line of a page: the word, its count and its upper bound
abbrev pub line_text : Line FlightWord → List ℕ
line_text line = bytes_of line.key ++ (codes " " ++ (decimal line.count ++ (codes " " ++ (decimal line.upper ++ codes "\n"))))

-- the first line: k, n and l
abbrev pub head_text : Facts → List ℕ
head_text facts = decimal facts.k ++ (codes " " ++ (decimal facts.n ++ (codes " " ++ (decimal facts.l ++ codes "\n"))))

-- the lines of the page at the limit l + 1, the lowest at which there is one
unfoldable pub lines_of : Content FlightWord → List (Line FlightWord)
lines_of C = map line_of (page_lines C (C.l + 1))

-- the text of a log that was fed to its end
abbrev pub summary_text : Content FlightWord → List ℕ
summary_text C = head_text (facts_of C) ++ flat_map line_text (lines_of C)

-- `fault`, whose it is, its number, the record's index, the offset
abbrev pub fault_text : FeedFault → List ℕ
fault_text f =
    codes "fault " ++ (decimal (layer_of f.cause) ++ (codes " " ++ (decimal (number_in f.cause)
    ++ (codes " " ++ (decimal f.index ++ (codes " " ++ (decimal f.offset ++ codes "\n")))))))

-- a sketch of 8 flight words
abbrev pub text_plan : Plan FlightWord
text_plan = sketch less_flight 8

-- its content after the flight words of these records
unfoldable pub fed_content : List RecordValue → Content FlightWord
fed_content rs = after text_plan (added text_plan text_plan.fresh flight_given rs)

-- what feeding a log to it answers
unfoldable pub fed_text_answer : Log → Result Fed FeedFault
fed_text_answer log = fed_answer text_plan text_plan.fresh flight_given log

-- the flight words of these records, in order
abbrev pub flight_words : List RecordValue → List FlightWord
flight_words rs = keys_of flight_given rs

-- Of a log that was fed to its end: every word that more than l of its records have has a line, and of each line the two
-- numbers stand below and above the number of records with its word.
unfoldable pub KeepsPageTextLaw : Log → Type 0
KeepsPageTextLaw log =
    let C = fed_content log.records in
    IsOk (fed_text_answer log) → PageLaw less_flight (flight_words log.records) (C.l + 1) (lines_of C)

-- the text by that answer
abbrev pub text_by : Content FlightWord → Result Fed FeedFault → List ℕ
text_by C (Ok fed) = summary_text C
text_by C (Err fault) = fault_text fault

-- the text of a log that is read
abbrev pub text_of : Log → List ℕ
text_of log = text_by (fed_content log.records) (fed_text_answer log)

-- what is printed of a log: its text; only `long` of one above 65,536 bytes
abbrev pub printed : List ℕ → List ℕ
printed bs = cond (nat_le (length bs) 65_536) (text_of (log_of bs)) (codes "long\n")
