-- What is answered where permits are wanted that are then handed back, or spent by a release.
use Rattle.std.specs.Prelude.{ℕ, ◌&&◌, ◌==◌, nat_le, cond, false, List, length, ℤ, Ok, Err, Result}
use Rattle.keys.specs.declared.refusal.Refusal.{Refusal}
use Rattle.keys.specs.declared.refusal.Refusal.TheVariants.{OutOfRange, UsedUp}
use Rattle.model.specs.Contents.{Content}
use Rattle.release.specs.declared.entry.Entry.{Entry}
use Rattle.release.specs.Books.{BookState, has_left, one_out, one_spent}
use Rattle.release.specs.Releases.{list_for}

-- where one of this book is wanted
abbrev pub served : BookState → Result (Unit {0}) Refusal
served b = cond (has_left b) (Ok tt) (Err UsedUp)

-- where one of the first book is wanted, and then one of the second
abbrev pub served_in_turn : BookState → BookState → Result (Unit {0}) Refusal
served_in_turn b c = cond (has_left b) (served c) (Err UsedUp)

-- where one is wanted in each of these rounds
abbrev pub served_in_rounds : (rounds : ℕ) → BookState → Result (Unit {0}) Refusal
served_in_rounds rounds b = cond (rounds == 0) (Ok tt) (served b)

-- where one is wanted of a book that is made for it, with this limit
abbrev pub served_by_new : (limit : ℕ) → Result (Unit {0}) Refusal
served_by_new limit = cond (nat_le 1 limit && nat_le limit 1000) (Ok tt) (Err OutOfRange)

module _ {K : Type 0} where
  -- The list where one of a book's permits is wanted for a release by the same book: refused with 10 if none is left; no
  -- release is then made. Else what the release by the permit that is issued comes to.
  abbrev pub listed_by : Content K → BookState → (shared : ℤ) (draws : List ℤ) (threshold long : ℕ) → Result (List (Entry K)) Refusal
  listed_by C b shared draws threshold long =
      cond (has_left b) (list_for C (one_out b) (record { book = b.number; used_up = false }) shared draws threshold long) (Err UsedUp)

  -- what is answered: how many entries the list has, or the refusal
  abbrev pub list_answer : Result (List (Entry K)) Refusal → Result ℕ Refusal
  list_answer (Ok entries) = Ok (length entries)
  list_answer (Err refusal) = Err refusal

-- the book afterwards, by that answer: by a list one permit is issued and then spent; else the book is as it was
abbrev pub list_book : BookState → Result ℕ Refusal → BookState
list_book b (Ok entries) = one_spent (one_out b)
list_book b (Err refusal) = b
