-- A release in a run: what it comes to, and what becomes of the books.
use Rattle.std.specs.Prelude.{ℕ, List, length, slice_get, slice_set, Option, Some, None, Result, Ok, Err, ℤ}
use Rattle.keys.specs.declared.refusal.Refusal.{Refusal}
use Rattle.model.specs.Contents.{Content}
use Rattle.release.specs.declared.permit.Permit.{Permit}
use Rattle.release.specs.declared.entry.Entry.{Entry}
use Rattle.release.specs.Books.{BookState, issued, after_issue, one_spent}
use Rattle.release.specs.Lists.{after_list}
use Rattle.release.specs.Releases.{list_for}
use Rattle.work.specs.declared.call.Releasing.{Releasing}

-- the books with the book b, which is the one at this place, changed; as they were if there is none
abbrev pub with_book : (BookState → BookState) → List BookState → ℕ → Option BookState → List BookState
with_book change bs i None = bs
with_book change bs i (Some b) = slice_set bs i (change b)

-- the books, of which the one at this place, if there is one, is changed
abbrev pub changed_at : (BookState → BookState) → List BookState → ℕ → List BookState
changed_at change bs i = with_book change bs i (slice_get bs i)

-- the books once the one at this place was asked for a permit
abbrev pub issued_at : List BookState → ℕ → List BookState
issued_at bs i = changed_at after_issue bs i

module _ {K : Type 0} where
  -- what a release by the permit that was issued comes to; the refusal if none was
  abbrev pub list_by : Content K → Result Permit Refusal → BookState → Releasing → (draws : List ℤ) (long : ℕ) → Result (List (Entry K)) Refusal
  list_by C (Ok p) b r draws long = list_for C b p r.shared draws r.threshold long
  list_by C (Err refusal) b r draws long = Err refusal

  -- the same of the two books; nothing if one of them is not there
  abbrev pub list_with : Content K → (issuer book : Option BookState) → Releasing → (draws : List ℤ) (long : ℕ) → Option (Result (List (Entry K)) Refusal)
  list_with C None book r draws long = None
  list_with C (Some issuer) None r draws long = None
  list_with C (Some issuer) (Some b) r draws long = Some (list_by C (issued issuer) b r draws long)

  -- What a release comes to, with these draws and so many entries for its list: nothing, if one of its books is not there;
  -- refused with 10, if the one that issues has no permit left; else what the release by this permit comes to, with the
  -- other book as it then is.
  abbrev pub outcome : Content K → List BookState → Releasing → (draws : List ℤ) (long : ℕ) → Option (Result (List (Entry K)) Refusal)
  outcome C bs r draws long = list_with C (slice_get bs r.issuer) (slice_get (issued_at bs r.issuer) r.book) r draws long

  -- what it answers: how many entries the list has, or the refusal
  abbrev pub release_answer : Option (Result (List (Entry K)) Refusal) → Option (Result ℕ Refusal)
  release_answer None = None
  release_answer (Some (Ok entries)) = Some (Ok (length entries))
  release_answer (Some (Err refusal)) = Some (Err refusal)

  -- what becomes of the books: by a list one permit is issued and then spent; else they are as they were, since a permit
  -- that comes back is handed back to the book that issued it
  abbrev pub release_books : List BookState → Releasing → Option (Result (List (Entry K)) Refusal) → List BookState
  release_books bs r (Some (Ok entries)) = changed_at one_spent (issued_at bs r.issuer) r.book
  release_books bs r (Some (Err refusal)) = bs
  release_books bs r None = bs

  -- what becomes of its part of the memory for lists
  abbrev pub release_list : List (Entry K) → Option (Result (List (Entry K)) Refusal) → List (Entry K)
  release_list part (Some (Ok entries)) = after_list entries part
  release_list part (Some (Err refusal)) = part
  release_list part None = part
