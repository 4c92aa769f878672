-- What each call comes to: a sketch of k keys as bytes, of what lenses give of a log's records.
use Rattle.std.specs.Prelude.{◌<◌, map, ℕ, Bool, cond, nat_le, ◌&&◌, List, Option, Some, None}
use Rattle.keys.specs.declared.pair.Pair.{Pair}
use Rattle.keys.specs.Orders.{by_parts}
use Rattle.records.specs.Logs.{log_of}
use Rattle.model.specs.Contents.{Content}
use Rattle.model.specs.Plans.{Plan}
use Rattle.model.specs.Sketches.{sketch}
use Rattle.model.specs.Pages.{page_lines}
use Rattle.pages.specs.Pages.{line_of, PageLaw}
use Rattle.feeding.specs.Feeding.{added}
use Rattle.console.specs.declared.part.Part.{Part}
use Rattle.console.specs.declared.lens.Lenses.{Lenses}
use Rattle.console.specs.declared.page.Line.{Line}
use Rattle.console.specs.declared.page.PageNumbers.{PageNumbers}
use Rattle.console.specs.declared.reading.Reading.{Reading}
use Rattle.console.specs.Parts.{less_part}
use Rattle.console.specs.Lenses.{lenses_of, parts_given}
use Rattle.console.specs.Fed.{content_after, reading_after}
use Rattle.console.specs.Pages.{page_number, lines_after, numbers_of}

-- keys by their first parts, then by their second
abbrev pub less_key : Pair Part Part → Pair Part Part → Bool
less_key a b = by_parts less_part less_part a.first a.second b.first b.second

-- a sketch of k keys
abbrev pub plan : (k : ℕ) → Plan (Pair Part Part)
plan k = sketch less_key k

-- k is 2 to 1,024
abbrev pub is_size : ℕ → Bool
is_size k = nat_le 2 k && nat_le k 1024

-- what is asked for: lenses, for a k in its range; none is refused with 1
abbrev pub asked : (first second k : ℕ) → Option Lenses
asked first second k = cond (is_size k) (lenses_of first second) None

-- a value where something is asked for, and one where it is refused
abbrev pub if_asked : {A X : Type 0} → Option A → (A → X) → X → X
if_asked (Some a) value refused = value a
if_asked None value refused = refused

module _ (k : ℕ) (bs : List ℕ) where
  -- the sketch's content after a log
  abbrev pub content : Lenses → Content (Pair Part Part)
  content lenses = content_after (plan k) (parts_given lenses) (log_of bs).records

  -- what became of reading it
  abbrev pub log_read : Option Lenses → Reading → Reading
  log_read lenses old = if_asked lenses (λ a. reading_after (plan k) (parts_given a) bs) old

  -- the page at a limit: what is answered, the output, and the numbers
  abbrev pub page_answered : Option Lenses → (limit long : ℕ) → ℕ
  page_answered lenses limit long = if_asked lenses (λ a. page_number (content a) limit long) 1

  abbrev pub log_page_lines : Option Lenses → (limit : ℕ) → List Line → List Line
  log_page_lines lenses limit old = if_asked lenses (λ a. lines_after (λ x. x) (content a) limit old) old

  abbrev pub page_numbers : Option Lenses → (limit long : ℕ) → PageNumbers → PageNumbers
  page_numbers lenses limit long old = if_asked lenses (λ a. numbers_of (content a) limit long) old

-- Of a page at a limit above l: every key that at least `limit` of the records give has a line, and of each line there are at
-- least `count` and at most `upper` records that give its key. The records are those before what ended the reading; of more
-- than 4,294,967,295 keys the first so many count.
unfoldable pub LogPageLaw : (k : ℕ) → (bs : List ℕ) → Option Lenses → (limit : ℕ) → Type 0
LogPageLaw k bs None limit = Unit {0}
LogPageLaw k bs (Some a) limit =
    (content k bs a).l < limit → PageLaw less_key (added (plan k) (plan k).fresh (parts_given a) (log_of bs).records) limit (map line_of (page_lines (content k bs a) limit))
