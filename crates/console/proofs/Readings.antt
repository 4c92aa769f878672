-- A log that is read item by item comes to what specs/ says. Idea: what the items that are left come to is always the same.
use Rattle.std.proofs.Common.{◌≡◌, ℕ, ◌+◌, List, [], ◌∷◌, length, Some, None, Ok, Err, Option, refl, ap, ◌∙◌, arith}
use Rattle.records.specs.Values.{RecordValue}
use Rattle.records.specs.Writing.{encode}
use Rattle.records.specs.Logs.{LogFault, log_of}
use Rattle.records.specs.Items.{Item, items_from, items_of}
use Rattle.console.specs.declared.reading.Reading.{Reading}
use Rattle.console.specs.Readings.{read_by, checked}

-- what these items come to, after so many records
abbrev pub read_from : (long n : ℕ) → List Item → Reading
read_from long n [] = read_by long None n
read_from long n (Ok r ∷ items) = read_from long (n + 1) items
read_from long n (Err f ∷ items) = read_by long (Some f) n

by_items : (long n offset : ℕ) (rs : List RecordValue) (f : Option LogFault) → read_from long n (items_from offset rs f) ≡ read_by long f (n + length rs)
by_items long n offset [] None = ap (read_by long None) (omega arith)
by_items long n offset [] (Some f) = refl
by_items long n offset (r ∷ rs) f = by_items long (n + 1) (offset + length (encode r)) rs f ∙ ap (read_by long f) (omega arith)

pub all_read : (bs : List ℕ) (items : List Item) → items ≡ items_of (log_of bs) → read_from (length bs) 0 items ≡ checked bs
all_read bs items e =
    ap (read_from (length bs) 0) e ∙ by_items (length bs) 0 0 (log_of bs).records (log_of bs).fault
    ∙ ap (read_by (length bs) (log_of bs).fault) (omega arith)
