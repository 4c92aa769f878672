-- The cases of records are computed; those of the model are proved there.
use Rattle.std.specs.Prelude.{refl}
use Rattle.model.proofs.WorkedCases.{worked}
use Rattle.worked.specs.Cases.{RecordCases}
use Rattle.worked.proofs.worked_cases.Goals as goal

records : RecordCases
records = record {
  kind_and_address = refl;
  prefix = refl;
  map_fault = refl;
  map_number = refl;
  map_place = refl;
  time = refl;
  time_number = refl;
  time_place = refl;
}

pub returns : goal.returns
returns c = record { rules = worked; records = records }
