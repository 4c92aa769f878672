-- The count of a key in a log.
use Rattle.std.specs.Prelude.{ℕ, ◌+◌, ◌≤◌, Bool, List, Option, Some, None, option_map, option_and_then}
use Rattle.keys.specs.declared.held.Held.TheVariants.{Real}
use Rattle.keys.specs.declared.pair.Pair.{Pair}
use Rattle.records.specs.Logs.{log_of}
use Rattle.model.specs.Contents.{Content, count_of}
use Rattle.model.specs.Laws.{entries_of}
use Rattle.feeding.specs.Feeding.{added}
use Rattle.console.specs.declared.part.Part.{Part}
use Rattle.console.specs.declared.lens.Lenses.{Lenses}
use Rattle.console.specs.declared.reading.Reading.{Reading}
use Rattle.console.specs.declared.log_count.CountNumbers.{CountNumbers}
use Rattle.console.specs.Lenses.{parts_given, parts_from}
use Rattle.console.specs.Fed.{reading_after}
use Rattle.console.specs.Asked.{less_key, plan, asked, if_asked, content}

-- the numbers of a content with the count of a key, which is 0 if the key is not held, and that plus l
abbrev pub counted : {K : Type 0} → (K → K → Bool) → Content K → K → CountNumbers
counted less C x = record { n = C.n; l = C.l; count = count_of less C (Real x); upper = count_of less C (Real x) + C.l }

-- what is asked for: lenses, and a key of the bytes of its parts; where there is none of one, none is refused with 1
abbrev pub key_asked : (first second k : ℕ) → (first_part second_part : List ℕ) → Option (Lenses × Pair Part Part)
key_asked first second k bs cs = option_and_then (λ a. option_map (λ x. (a, x)) (parts_from a bs cs)) (asked first second k)

-- what is answered
abbrev pub count_answered : Option (Lenses × Pair Part Part) → ℕ
count_answered key = if_asked key (λ p. 0) 1

-- what became of reading the log, and the count
module _ (k : ℕ) (bs : List ℕ) where
  abbrev pub count_read : Option (Lenses × Pair Part Part) → Reading → Reading
  count_read key old = if_asked key (λ p. reading_after (plan k) (parts_given p.0) bs) old

  abbrev pub count_numbers : Option (Lenses × Pair Part Part) → CountNumbers → CountNumbers
  count_numbers key old = if_asked key (λ p. counted less_key (content k bs p.0) p.1) old

-- Of the keys that the records give there are at least `count` and at most `upper` of this one. The records are those before
-- what ended the reading; of more than 4,294,967,295 keys the first so many count.
unfoldable pub CountLaw : (k : ℕ) → (bs : List ℕ) → Option (Lenses × Pair Part Part) → Type 0
CountLaw k bs None = Unit {0}
CountLaw k bs (Some p) =
    let found = counted less_key (content k bs p.0) p.1 in
    let entries = entries_of less_key (added (plan k) (plan k).fresh (parts_given p.0) (log_of bs).records) p.1 in
    (found.count ≤ entries) × (entries ≤ found.upper)
