-- What one record of a log comes to, by the key that it gives or none. No contract of a public call names this.
use Rattle.std.specs.Prelude.{◌+◌, Bool, Some, None, Ok, Err, Option, Result}
use Rattle.keys.specs.declared.refusal.Refusal.{Refusal}
use Rattle.keys.specs.declared.refusal.Refusal.TheVariants.{NotAdmitted}
use Rattle.model.specs.Contents.{Content}
use Rattle.model.specs.Plans.{Plan}
use Rattle.summaries.specs.declared.answers.Taken.{Taken}
use Rattle.summaries.specs.Calls.{taken_content, taken_answer}
use Rattle.feeding.specs.declared.feed.Fed.{Fed}

-- a record more, counted by what taking its key answers; one that finds the summary full is read, and no more
abbrev pub counted_by : Result Taken Refusal → Fed → Fed
counted_by (Ok t) fed = record { read = fed.read + 1; absent = fed.absent; passed_over = fed.passed_over; taken = fed.taken + 1 }
counted_by (Err NotAdmitted) fed = record { read = fed.read + 1; absent = fed.absent; passed_over = fed.passed_over + 1; taken = fed.taken }
counted_by (Err r) fed = record { read = fed.read + 1; absent = fed.absent; passed_over = fed.passed_over; taken = fed.taken }

-- the refusal that ends feeding: any but that of a key that is not admitted
abbrev pub ended_by : Result Taken Refusal → Result (Unit {0}) Refusal
ended_by (Ok t) = Ok tt
ended_by (Err NotAdmitted) = Ok tt
ended_by (Err r) = Err r

-- the content after the record
abbrev pub step_content : {K : Type 0} → Plan K → Content K → Option K → Content K
step_content plan C None = C
step_content plan C (Some x) = taken_content plan C x

module _ {K : Type 0} (less : K → K → Bool) (plan : Plan K) (C : Content K) where
  -- the numbers of records after it
  abbrev pub step_fed : Option K → Fed → Fed
  step_fed None fed = record { read = fed.read + 1; absent = fed.absent + 1; passed_over = fed.passed_over; taken = fed.taken }
  step_fed (Some x) fed = counted_by (taken_answer less plan C x) fed

  -- whether feeding goes on
  abbrev pub step_answer : Option K → Result (Unit {0}) Refusal
  step_answer None = Ok tt
  step_answer (Some x) = ended_by (taken_answer less plan C x)
