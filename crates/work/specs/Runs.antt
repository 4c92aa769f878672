-- The law over runs: what holds at every point of any list of calls, and what each call answers and writes.
use Rattle.std.specs.Prelude.{◌≡◌, ℕ, ◌+◌, ◌*◌, Bool, ◌⊎◌, List, [], ◌∷◌, ◌++◌, length, take, slice_get, Some, Option}
use Rattle.std.specs.List.{count_by}
use Rattle.records.specs.Values.{RecordValue}
use Rattle.model.specs.Contents.{Content, total}
use Rattle.model.specs.Plans.{Plan, after, Entries}
use Rattle.model.specs.Neighbours.{Neighbours}
use Rattle.model.specs.Laws.{HoldsK, Bounded}
use Rattle.model.specs.Handing.{BothHandOver}
use Rattle.release.specs.Books.{BookState}
use Rattle.work.specs.declared.call.Call.{Call}
use Rattle.work.specs.declared.call.Answer.{Answer}
use Rattle.work.specs.Memories.{Memory, part_of, beyond}
use Rattle.work.specs.Calls.{entries_with, content_with, books_with, answer_of, memory_with}
use Rattle.work.specs.Permits.{gave_list, OneEach}

-- two lists of which the second is the first without one item
pub record OneFewer {X : Type 0} (xs fewer : List X) : Type 0 where
  pub before : List X
  pub gone : X
  pub behind : List X
  pub whole : xs ≡ before ++ gone ∷ behind
  pub others : fewer ≡ before ++ behind

module _ {K : Type 0} (less : K → K → Bool) where
  -- C and D are neighbours, C of one entry more; and whichever is called the first, on the premise a list of it also comes
  -- from the other
  pub record Near (C D : Content K) : Type 0 where
    pub neighbours : Neighbours less C D
    pub hand_over : BothHandOver less C D

module _ {K : Type 0} (less : K → K → Bool) (plan : Plan K) where
  -- What holds of a content C after these entries: exactly k keys are held, all different, in order; (k + 1) times l and
  -- all counts together make the number of entries; and no count stands above its key's entries, or more than l below
  -- them.
  pub record Counted (es : List K) (C : Content K) : Type 0 where
    pub k_stays : C.k ≡ plan.fresh.k
    pub holds_k : HoldsK less C
    pub n_counts : C.n ≡ length es
    pub balanced : (C.k + 1) * C.l + total C.held ≡ length es
    pub bounded : Bounded less es C

  -- at a point of a run: the summary can have taken these entries, and its content C is that after them
  pub record Point (es : List K) (C : Content K) : Type 0 where
    pub entries : Entries plan es
    pub content : C ≡ after plan es
    pub counted : Counted es C
    -- an alike summary, which is one of the same plan, that has taken these entries without one
    pub alike : (fewer : List K) → OneFewer es fewer → Near less C (after plan fewer)
    -- and any content that holds its k keys in order and neighbours C, as that of more entries or of fewer
    pub hands_over : (D : Content K) → HoldsK less D → (Neighbours less C D ⊎ Neighbours less D C) → BothHandOver less C D

module _ {K L : Type 0} where
  -- the memory without the parts of a call
  abbrev pub rest_of : Call K L → Memory K → Memory K
  rest_of c m = beyond (c ∷ []) m

module _ {K L : Type 0} (gives : L → RecordValue → Option K) (plan : Plan K) where
  -- the entries after these calls
  abbrev pub entries_after : List K → List (Call K L) → List K
  entries_after es [] = es
  entries_after es (c ∷ cs) = entries_after (entries_with gives plan es c) cs

  -- the content after these calls
  abbrev pub content_after : Content K → List (Call K L) → Content K
  content_after C [] = C
  content_after C (c ∷ cs) = content_after (content_with gives plan C c) cs

  -- the books after these calls, with this memory as it was before them
  abbrev pub books_after : Content K → List BookState → Memory K → List (Call K L) → List BookState
  books_after C bs m [] = bs
  books_after C bs m (c ∷ cs) = books_after (content_with gives plan C c) (books_with C bs c (part_of [] c m)) (rest_of c m) cs

  module _ (less : K → K → Bool) where
    -- a call made at the content C with these books, after these calls: what it answers, and what it writes to its own
    -- parts of the memory
    pub record Made (C : Content K) (bs : List BookState) (before : List (Call K L)) (c : Call K L) (answer : Option (Answer K)) (old new : Memory K) : Type 0 where
      pub answered : answer ≡ Some (answer_of gives plan less C bs c (part_of before c old))
      pub written : part_of before c new ≡ memory_with C bs c (part_of before c old)

    -- a run of these calls, from the content C and the books bs to the content D and the books ds
    pub record Run (C : Content K) (bs : List BookState) (calls : List (Call K L)) (D : Content K) (ds : List BookState) (answers : List (Answer K)) (old new : Memory K) : Type 0 where
      -- at every point, after j calls: of every list of entries after which the content is C, and those that the calls add
      pub points : (es : List K) → Entries plan es → C ≡ after plan es → (j : ℕ) →
          Point less plan (entries_after es (take j calls)) (content_after C (take j calls))
      -- the next call answers and writes as it is defined from the content and the books then
      pub made : (j : ℕ) (c : Call K L) → slice_get calls j ≡ Some c →
          Made (content_after C (take j calls)) (books_after C bs old (take j calls)) (take j calls) c (slice_get answers j) old new
      -- at the end: content and books are those after all calls, and what lies beyond their parts of the memory is as it was
      pub ends : D ≡ content_after C calls
      pub books : ds ≡ books_after C bs old calls
      pub last : (es : List K) → Entries plan es → C ≡ after plan es → Point less plan (entries_after es calls) D
      pub rest : beyond calls new ≡ beyond calls old
      -- and one permit was spent for each list
      pub permits : OneEach bs ds (count_by gave_list answers)
