-- The refusal and the place of each of the reader's faults.
use Rattle.std.specs.Prelude.{ℕ}
use Rattle.keys.specs.declared.refusal.Refusal.{Refusal}
use Rattle.keys.specs.declared.refusal.Refusal.TheVariants as refusal
use Rattle.records.specs.declared.fault.ReadFault.{ReadFault}
use Rattle.records.specs.declared.fault.ReadFault.TheVariants.{Map, CutOff, Field}

-- the refusal that a fault is
abbrev pub refusal_of : ReadFault → Refusal
refusal_of (Map p) = refusal.Map
refusal_of (CutOff p) = refusal.CutOff
refusal_of (Field p) = refusal.Field

-- its place in the input
abbrev pub place_of : ReadFault → ℕ
place_of (Map p) = p
place_of (CutOff p) = p
place_of (Field p) = p
