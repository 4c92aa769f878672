-- The law over runs, of a summary that was just made: nothing is asked of the entries before, since there are none.
use Rattle.std.specs.Prelude.{◌≡◌, ℕ, Bool, min, List, [], length, take, drop, Option}
use Rattle.records.specs.Values.{RecordValue}
use Rattle.model.specs.Contents.{Content}
use Rattle.model.specs.Plans.{Plan}
use Rattle.release.specs.Books.{BookState}
use Rattle.work.specs.declared.call.Call.{Call}
use Rattle.work.specs.declared.call.Answer.{Answer}
use Rattle.work.specs.Memories.{Memory}
use Rattle.work.specs.Runs.{entries_after, content_after, Point, Run}
use Rattle.work.specs.ShorterLogs.{NeighboursByLogs}

module _ {K L : Type 0} (gives : L → RecordValue → Option K) (plan : Plan K) (less : K → K → Bool) where
  -- A run of these calls from no entries, to the content D and the books ds. At every point the entries are those that
  -- the calls so far have added, and the law holds of them.
  pub record FreshRun (bs : List BookState) (calls : List (Call K L)) (D : Content K) (ds : List BookState) (answers : List (Answer K)) (old new : Memory K) : Type 0 where
    pub run : Run gives plan less plan.fresh bs calls D ds answers old new
    pub points : (j : ℕ) → Point less plan (entries_after gives plan [] (take j calls)) (content_after gives plan plan.fresh (take j calls))
    pub last : Point less plan (entries_after gives plan [] calls) D
    -- and through any lens, alike summaries that are just made, a log and that log without one record
    pub logs : NeighboursByLogs less plan

  -- the same, where all calls are made, or as many as there are answers to record
  pub record Worked (bs : List BookState) (calls : List (Call K L)) (D : Content K) (ds : List BookState) (answers answers_after : List (Answer K)) (old new : Memory K) (worked : ℕ) : Type 0 where
    pub number : worked ≡ min (length calls) (length answers)
    pub others : drop worked answers_after ≡ drop worked answers
    pub fresh_run : FreshRun bs (take worked calls) D ds (take worked answers_after) old new
