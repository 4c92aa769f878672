-- A book of permits, and what each call makes of it and answers.
use Rattle.std.specs.Prelude.{ℕ, ◌+◌, ◌-◌, ◌≤◌, Bool, false, cond, ◌&&◌, ◌==◌, nat_lt, nat_le, Result, Ok, Err}
use Rattle.keys.specs.declared.refusal.Refusal.{Refusal}
use Rattle.keys.specs.declared.refusal.Refusal.TheVariants.{OutOfRange, UsedUp, Foreign}
use Rattle.release.specs.declared.permit.Permit.{Permit}
use Rattle.release.specs.declared.book.Refused.{Refused}

-- a book: its number, its limit, and how many permits are out and how many are spent
pub record BookState : Type 0 where
  pub number : ℕ
  pub limit : ℕ
  pub out : ℕ
  pub spent : ℕ

-- what is known of every book
pub record IsBook (b : BookState) : Type 0 where
  pub some : 1 ≤ b.limit
  pub most : b.limit ≤ 1000
  pub within : b.out + b.spent ≤ b.limit

-- a book that has issued no permit, where the limit is 1 to 1,000; else refusal 1
abbrev pub made_book : (number limit : ℕ) → Result BookState Refusal
made_book number limit = cond (nat_le 1 limit && nat_le limit 1000) (Ok (record { number = number; limit = limit; out = 0; spent = 0 })) (Err OutOfRange)

-- whether a permit is left: those that are out and those that are spent make less than the limit
abbrev pub has_left : BookState → Bool
has_left b = nat_lt (b.out + b.spent) b.limit

-- one permit more is out
abbrev pub one_out : BookState → BookState
one_out b = record { number = b.number; limit = b.limit; out = b.out + 1; spent = b.spent }

-- one permit that was out is back
abbrev pub one_back : BookState → BookState
one_back b = record { number = b.number; limit = b.limit; out = b.out - 1; spent = b.spent }

-- one permit that was out is spent
abbrev pub one_spent : BookState → BookState
one_spent b = record { number = b.number; limit = b.limit; out = b.out - 1; spent = b.spent + 1 }

-- what issuing a permit answers
abbrev pub issued : BookState → Result Permit Refusal
issued b = cond (has_left b) (Ok (record { book = b.number; used_up = false })) (Err UsedUp)

-- what becomes of the book by issuing one
abbrev pub after_issue : BookState → BookState
after_issue b = cond (has_left b) (one_out b) b

-- whether a permit has the book's number and the book has one out
abbrev pub knows : BookState → Permit → Bool
knows b p = (p.book == b.number) && nat_lt 0 b.out

-- what handing back a permit answers: a permit that is refused is in the answer
abbrev pub handed_back : BookState → Permit → Result (Unit {0}) Refused
handed_back b p = cond (knows b p) (Ok tt) (Err (record { refusal = Foreign; permit = p }))

-- what becomes of the book by a permit handed back
abbrev pub after_hand_back : BookState → Permit → BookState
after_hand_back b p = cond (knows b p) (one_back b) b

-- what becomes of the book by a release that only the permit can refuse
abbrev pub after_release : BookState → Permit → BookState
after_release b p = cond (knows b p) (one_spent b) b
