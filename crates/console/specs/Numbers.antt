-- What becomes of a list of numbers: the page of a sketch that takes them.
use Rattle.std.specs.Prelude.{ℕ, ◌<◌, map, cond, nat_lt, List, [], take, filter, Option, Some, None}
use Rattle.model.specs.Contents.{Content}
use Rattle.model.specs.Pages.{page_lines}
use Rattle.pages.specs.Pages.{line_of, PageLaw}
use Rattle.model.specs.Plans.{most_entries, Plan, after_from}
use Rattle.model.specs.Sketches.{sketch}
use Rattle.feeding.specs.Feeding.{room}
use Rattle.console.specs.declared.page.Line.{Line}
use Rattle.console.specs.declared.page.PageNumbers.{PageNumbers}
use Rattle.keys.specs.declared.pair.Pair.{Pair}
use Rattle.console.specs.declared.part.Part.{Part}
use Rattle.console.specs.Parts.{part_of, number_bytes}
use Rattle.console.specs.Asked.{is_size, if_asked}
use Rattle.console.specs.Pages.{page_number, lines_after, numbers_of}

-- the content after these keys: the admitted ones, as many as there is room for
abbrev pub taken_all : {K : Type 0} → Plan K → Content K → List K → Content K
taken_all plan C es = after_from plan C (take (room C) (filter plan.admits es))

-- a number as a line shows it
abbrev pub number_parts : ℕ → Pair Part Part
number_parts n = record { first = part_of (number_bytes n); second = part_of [] }

-- k, if it is in its range
abbrev pub size_asked : (k : ℕ) → Option ℕ
size_asked k = cond (is_size k) (Some k) None

module _ (es : List ℕ) where
  -- the content of a sketch of k numbers that takes these
  abbrev pub numbers_content : (k : ℕ) → Content ℕ
  numbers_content k = taken_all (sketch nat_lt k) (sketch nat_lt k).fresh es

  -- the page at a limit: what is answered, the output, and the numbers
  abbrev pub number_page_answered : (k : ℕ) → (limit long : ℕ) → ℕ
  number_page_answered k limit long = if_asked (size_asked k) (λ j. page_number (numbers_content j) limit long) 1

  abbrev pub number_page_lines : (k : ℕ) → (limit : ℕ) → List Line → List Line
  number_page_lines k limit old = if_asked (size_asked k) (λ j. lines_after number_parts (numbers_content j) limit old) old

  abbrev pub number_page_numbers : (k : ℕ) → (limit long : ℕ) → PageNumbers → PageNumbers
  number_page_numbers k limit long old = if_asked (size_asked k) (λ j. numbers_of (numbers_content j) limit long) old

-- Of a page at a limit above l: every number that comes at least `limit` times has a line, and of each line its number comes
-- at least `count` and at most `upper` times. Of more than 4,294,967,295 entries the first so many count.
unfoldable pub NumberPageLaw : (es : List ℕ) → (k limit : ℕ) → Type 0
NumberPageLaw es k limit =
    (numbers_content es k).l < limit → PageLaw nat_lt (take most_entries es) limit (map line_of (page_lines (numbers_content es k) limit))
