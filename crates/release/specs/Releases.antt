-- A release: what it answers, and what becomes of the book and of the output.
use Rattle.std.specs.Prelude.{ℕ, cond, ◌==◌, nat_le, List, length, ℤ, Result, Ok, Err}
use Rattle.keys.specs.declared.refusal.Refusal.{Refusal}
use Rattle.keys.specs.declared.refusal.Refusal.TheVariants.{Foreign, DrawCount, DrawRange, Threshold, ShortOutput}
use Rattle.model.specs.Contents.{Content}
use Rattle.release.specs.declared.permit.Permit.{Permit}
use Rattle.release.specs.declared.book.Refused.{Refused}
use Rattle.release.specs.declared.entry.Entry.{Entry}
use Rattle.release.specs.Books.{BookState, knows, one_spent}
use Rattle.release.specs.Draws.{noise_in_range, threshold_in_range}
use Rattle.release.specs.Lists.{list_of, after_list}

module _ {K : Type 0} where
  -- The list that is released by a permit p of the book b, to an output of this length; or the first refusal, in this
  -- order: 11 for the permit, 12 for the number of draws, 13 for their range, 14 for the threshold, 9 for the output.
  abbrev pub list_for : Content K → BookState → Permit → (shared : ℤ) (draws : List ℤ) (threshold long : ℕ) → Result (List (Entry K)) Refusal
  list_for C b p shared draws threshold long =
      cond (knows b p)
      (cond (length draws == C.k)
      (cond (noise_in_range shared draws)
      (cond (threshold_in_range threshold)
      (cond (nat_le C.k long) (Ok (list_of C shared draws threshold)) (Err ShortOutput))
      (Err Threshold)) (Err DrawRange)) (Err DrawCount)) (Err Foreign)

  -- what is answered: how many entries the list has; or the refusal, with the permit
  abbrev pub answer_by : Permit → Result (List (Entry K)) Refusal → Result ℕ Refused
  answer_by p (Ok entries) = Ok (length entries)
  answer_by p (Err refusal) = Err (record { refusal = refusal; permit = p })

  -- what becomes of the book: of its permits one that was out is spent; after a refusal it is as it was
  abbrev pub book_by : BookState → Result (List (Entry K)) Refusal → BookState
  book_by b (Ok entries) = one_spent b
  book_by b (Err refusal) = b

  -- what becomes of the output: the list is at its start, and the rest stays; after a refusal all of it
  abbrev pub output_by : (old : List (Entry K)) → Result (List (Entry K)) Refusal → List (Entry K)
  output_by old (Ok entries) = after_list entries old
  output_by old (Err refusal) = old

  -- what a release answers
  abbrev pub released : Content K → BookState → Permit → (shared : ℤ) (draws : List ℤ) (threshold long : ℕ) → Result ℕ Refused
  released C b p shared draws threshold long = answer_by p (list_for C b p shared draws threshold long)

  -- the book after a release
  abbrev pub book_after : Content K → BookState → Permit → (shared : ℤ) (draws : List ℤ) (threshold long : ℕ) → BookState
  book_after C b p shared draws threshold long = book_by b (list_for C b p shared draws threshold long)

  -- the output after a release
  abbrev pub output_after : Content K → BookState → Permit → (shared : ℤ) (draws : List ℤ) (threshold : ℕ) (old : List (Entry K)) → List (Entry K)
  output_after C b p shared draws threshold old = output_by old (list_for C b p shared draws threshold (length old))
