-- What a call adds to the entries, leaves as the content and the books, answers and writes, each by the call's own
-- definition.
use Rattle.std.specs.Prelude.{Bool, ◌&&◌, cond, nat_lt, List, [], ◌∷◌, ◌++◌, length, replicate, slice_get, Option, ℤ, pos}
use Rattle.records.specs.Values.{RecordValue}
use Rattle.records.specs.Logs.{log_of}
use Rattle.model.specs.Contents.{Content}
use Rattle.model.specs.Plans.{Plan, most_entries, after_from}
use Rattle.summaries.specs.Calls.{taken_content, taken_answer, count_answer, facts_of}
use Rattle.feeding.specs.Feeding.{keys_of, added, fed_answer}
use Rattle.pages.specs.declared.line.Line.{Line}
use Rattle.pages.specs.Pages.{page_answer, page_output}
use Rattle.release.specs.declared.entry.Entry.{Entry}
use Rattle.release.specs.Books.{BookState}
use Rattle.work.specs.declared.call.Call.{Call}
use Rattle.work.specs.declared.call.Call.TheVariants as call
use Rattle.work.specs.declared.call.Answer.{Answer}
use Rattle.work.specs.declared.call.Answer.TheVariants as answer
use Rattle.work.specs.Memories.{Memory, memory}
use Rattle.work.specs.Releases.{outcome, release_answer, release_books, release_list}

-- the entries after a key was given: with the key, if it is admitted and there is room
abbrev pub with_key : {K : Type 0} → Plan K → List K → K → List K
with_key plan es x = cond (plan.admits x && nat_lt (length es) most_entries) (es ++ x ∷ []) es

-- the entries after keys were given, in order
abbrev pub with_keys : {K : Type 0} → Plan K → List K → List K → List K
with_keys plan es [] = es
with_keys plan es (x ∷ xs) = with_keys plan (with_key plan es x) xs

module _ {K L : Type 0} (gives : L → RecordValue → Option K) (plan : Plan K) where
  -- the entries after a call: taking adds its key, feeding the keys that the lens gives up to the log's first fault, by
  -- the same rule; the other calls add none
  abbrev pub entries_with : List K → Call K L → List K
  entries_with es (call.Take x) = with_key plan es x
  entries_with es (call.Feed f) = with_keys plan es (keys_of (gives f.lens.now) (log_of f.log.now).records)
  entries_with es (call.Count x) = es
  entries_with es (call.Place j) = es
  entries_with es call.Facts = es
  entries_with es (call.Page limit lines) = es
  entries_with es (call.Release r) = es

  -- the content after a call
  abbrev pub content_with : Content K → Call K L → Content K
  content_with C (call.Take x) = taken_content plan C x
  content_with C (call.Feed f) = after_from plan C (added plan C (gives f.lens.now) (log_of f.log.now).records)
  content_with C (call.Count x) = C
  content_with C (call.Place j) = C
  content_with C call.Facts = C
  content_with C (call.Page limit lines) = C
  content_with C (call.Release r) = C

  -- what a call answers, with these parts of the memory
  abbrev pub answer_of : (K → K → Bool) → Content K → List BookState → Call K L → Memory K → Answer K
  answer_of less C bs (call.Take x) part = answer.Take (taken_answer less plan C x)
  answer_of less C bs (call.Feed f) part = answer.Feed (fed_answer plan C (gives f.lens.now) (log_of f.log.now))
  answer_of less C bs (call.Count x) part = answer.Count (count_answer less C x)
  answer_of less C bs (call.Place j) part = answer.Place (slice_get C.held j)
  answer_of less C bs call.Facts part = answer.Facts (facts_of C)
  answer_of less C bs (call.Page limit lines) part = answer.Page (page_answer C limit (length part.lines))
  answer_of less C bs (call.Release r) part = answer.Release (release_answer (outcome C bs r part.draws (length part.lists)))

module _ {K L : Type 0} where
  -- the books after a call
  abbrev pub books_with : Content K → List BookState → Call K L → Memory K → List BookState
  books_with C bs (call.Take x) part = bs
  books_with C bs (call.Feed f) part = bs
  books_with C bs (call.Count x) part = bs
  books_with C bs (call.Place j) part = bs
  books_with C bs call.Facts part = bs
  books_with C bs (call.Page limit lines) part = bs
  books_with C bs (call.Release r) part = release_books bs r (outcome C bs r part.draws (length part.lists))

  -- what becomes of a call's lines
  abbrev pub lines_of : Content K → Call K L → List (Line K) → List (Line K)
  lines_of C (call.Take x) lines = lines
  lines_of C (call.Feed f) lines = lines
  lines_of C (call.Count x) lines = lines
  lines_of C (call.Place j) lines = lines
  lines_of C call.Facts lines = lines
  lines_of C (call.Page limit own) lines = page_output C limit lines
  lines_of C (call.Release r) lines = lines

  -- what becomes of its draws: those of a release are all zero, whatever it comes to
  abbrev pub draws_of : Call K L → List ℤ → List ℤ
  draws_of (call.Take x) draws = draws
  draws_of (call.Feed f) draws = draws
  draws_of (call.Count x) draws = draws
  draws_of (call.Place j) draws = draws
  draws_of call.Facts draws = draws
  draws_of (call.Page limit lines) draws = draws
  draws_of (call.Release r) draws = replicate (length draws) (pos 0)

  -- what becomes of its part of the memory for lists
  abbrev pub lists_of : Content K → List BookState → Call K L → (draws : List ℤ) → List (Entry K) → List (Entry K)
  lists_of C bs (call.Take x) draws list = list
  lists_of C bs (call.Feed f) draws list = list
  lists_of C bs (call.Count x) draws list = list
  lists_of C bs (call.Place j) draws list = list
  lists_of C bs call.Facts draws list = list
  lists_of C bs (call.Page limit lines) draws list = list
  lists_of C bs (call.Release r) draws list = release_list list (outcome C bs r draws (length list))

  -- so of its parts of the memory
  abbrev pub memory_with : Content K → List BookState → Call K L → Memory K → Memory K
  memory_with C bs c part = memory (lines_of C c part.lines) (draws_of c part.draws) (lists_of C bs c part.draws part.lists)
