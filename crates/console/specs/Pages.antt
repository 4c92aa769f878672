-- A page as it is shown: its lines, its numbers, and its answer.
use Rattle.std.specs.Prelude.{ℕ, List, ◌++◌, map, length, drop, Result, Ok, Err}
use Rattle.keys.specs.declared.pair.Pair.{Pair}
use Rattle.keys.specs.declared.refusal.Refusal.{Refusal}
use Rattle.keys.specs.Refusals.{number_of}
use Rattle.model.specs.Contents.{Content}
use Rattle.pages.specs.declared.line.Line as page
use Rattle.pages.specs.Pages.{page_for, page_answer}
use Rattle.console.specs.declared.part.Part.{Part}
use Rattle.console.specs.declared.page.Line.{Line}
use Rattle.console.specs.declared.page.PageNumbers.{PageNumbers}

-- 0 of a call that is not refused, else the number of the refusal
abbrev pub answer_number : {X : Type 0} → Result X Refusal → ℕ
answer_number (Ok x) = 0
answer_number (Err refusal) = number_of refusal

-- how many lines were written
abbrev pub lines_written : Result ℕ Refusal → ℕ
lines_written (Ok n) = n
lines_written (Err refusal) = 0

module _ {K : Type 0} where
  -- a line by the parts of its key
  abbrev pub shown_line : (K → Pair Part Part) → page.Line K → Line
  shown_line parts line = record { first = (parts line.key).first; second = (parts line.key).second; count = line.count; upper = line.upper }

  -- the output with these lines at its start; the rest stays, and after a refusal all of it
  abbrev pub shown_over : (K → Pair Part Part) → List Line → Result (List (page.Line K)) Refusal → List Line
  shown_over parts old (Ok lines) = map (shown_line parts) lines ++ drop (length lines) old
  shown_over parts old (Err refusal) = old

  -- what is answered of the page at a limit, for an output of this length
  abbrev pub page_number : Content K → (limit long : ℕ) → ℕ
  page_number C limit long = answer_number (page_answer C limit long)

  -- what becomes of the output
  abbrev pub lines_after : (K → Pair Part Part) → Content K → (limit : ℕ) → List Line → List Line
  lines_after parts C limit old = shown_over parts old (page_for C limit (length old))

  -- the page's numbers
  abbrev pub numbers_of : Content K → (limit long : ℕ) → PageNumbers
  numbers_of C limit long = record { n = C.n; l = C.l; lines = lines_written (page_answer C limit long) }
