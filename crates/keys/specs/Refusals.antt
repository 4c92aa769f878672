-- The number of each refusal.
use Rattle.std.specs.Prelude.{ℕ}
use Rattle.keys.specs.declared.refusal.Refusal.{Refusal}
use Rattle.keys.specs.declared.refusal.Refusal.TheVariants.{OutOfRange, FewCells, Map, CutOff, Field, NotAdmitted, Full, LowLimit, ShortOutput, UsedUp, Foreign, DrawCount, DrawRange, Threshold, NoRoom}

abbrev pub number_of : Refusal → ℕ
number_of OutOfRange = 1
number_of FewCells = 2
number_of Map = 3
number_of CutOff = 4
number_of Field = 5
number_of NotAdmitted = 6
number_of Full = 7
number_of LowLimit = 8
number_of ShortOutput = 9
number_of UsedUp = 10
number_of Foreign = 11
number_of DrawCount = 12
number_of DrawRange = 13
number_of Threshold = 14
number_of NoRoom = 15
