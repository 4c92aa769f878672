-- A run from a fresh content is one from no entries. Idea: a summary can have taken no entries.
use Rattle.std.proofs.Common.{◌≡◌, Bool, List, [], Option, refl, subst, arith}
use Rattle.records.specs.Values.{RecordValue}
use Rattle.model.specs.Contents.{Content}
use Rattle.model.specs.Plans.{Plan, Entries}
use Rattle.release.specs.Books.{BookState}
use Rattle.work.specs.declared.call.Call.{Call}
use Rattle.work.specs.declared.call.Answer.{Answer}
use Rattle.work.specs.Memories.{Memory}
use Rattle.work.specs.Runs.{Run}
use Rattle.work.specs.ShorterLogs.{NeighboursByLogs}
use Rattle.fresh_runs.specs.FreshRuns.{FreshRun}

no_entries : {K : Type 0} (plan : Plan K) → Entries plan []
no_entries plan = record { admitted = tt; few = omega arith }

pub fresh_run : {K L : Type 0} (gives : L → RecordValue → Option K) (plan : Plan K) (less : K → K → Bool) (bs : List BookState) (calls : List (Call K L))
    (D : Content K) (ds : List BookState) (answers : List (Answer K)) (old new : Memory K) (C : Content K) → C ≡ plan.fresh →
    Run gives plan less C bs calls D ds answers old new → NeighboursByLogs less plan → FreshRun gives plan less bs calls D ds answers old new
fresh_run gives plan less bs calls D ds answers old new C fresh run logs =
    let r : Run gives plan less plan.fresh bs calls D ds answers old new =
    subst (λ X. Run gives plan less X bs calls D ds answers old new) fresh run in
    record {
      run = r;
      points = r.points [] (no_entries plan) refl;
      last = r.last [] (no_entries plan) refl;
      logs = logs;
    }
