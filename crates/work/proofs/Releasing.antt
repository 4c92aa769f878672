-- What a release in a run comes to. Idea: a book that was asked for a permit, and got it back, is as it was.
use Rattle.std.proofs.Common.{◌≡◌, ℕ, ◌+◌, ◌<◌, Bool, true, false, cond, ◌&&◌, nat_lt, List, length, slice_get, slice_set, slice_index_or, Option, Some, Result, Ok, Err, ℤ, refl, sym, ap, ◌∙◌, subst, arith}
use Rattle.std.proofs.lemmas.List.{set-get_or, set-set, length-set, get_or-set_same}
use Rattle.std.proofs.lemmas.Bool.{eq-eqb, lt-ltb}
use Rattle.std.proofs.lemmas.Option.{slice_get-get_or}
use Rattle.keys.specs.declared.refusal.Refusal.{Refusal}
use Rattle.keys.specs.declared.refusal.Refusal.TheVariants.{UsedUp, Foreign}
use Rattle.model.specs.Contents.{Content}
use Rattle.release.specs.declared.permit.Permit.{Permit}
use Rattle.release.specs.declared.book.Refused.{Refused}
use Rattle.release.specs.declared.entry.Entry.{Entry}
use Rattle.release.specs.Books.{BookState, has_left, knows, one_out, one_back, one_spent, issued, after_issue, handed_back, after_hand_back}
use Rattle.release.specs.Releases.{list_for, answer_by, book_by, output_by}
use Rattle.work.specs.declared.call.Releasing.{Releasing}
use Rattle.work.specs.Releases.{outcome, list_with, list_by, with_book, issued_at, release_answer, release_books, release_list}

-- a book that issues nothing is as it was
not_issued : (a : BookState) (e : Refusal) → issued a ≡ Err e → after_issue a ≡ a
not_issued a e = by (has_left a)
  where
    own : Permit
    own = record { book = a.number; used_up = false }

    by : (t : Bool) → cond t (Ok own) (Err UsedUp) ≡ Err e → cond t (one_out a) a ≡ a
    by true q = absurd (cc)
    by false q = refl

-- a permit that was just issued is known, and handed back it leaves the book as it was
record Back (a c : BookState) (p : Permit) : Type 0 where
  known : handed_back c p ≡ Ok tt
  book : after_hand_back c p ≡ a

back : (a : BookState) (p : Permit) → issued a ≡ Ok p → Back a (after_issue a) p
back a p = by (has_left a)
  where
    own : Permit
    own = record { book = a.number; used_up = false }

    is_known : knows (one_out a) own ≡ true
    is_known = ap (λ t. t && nat_lt 0 (a.out + 1)) (eq-eqb a.number a.number refl) ∙ lt-ltb 0 (a.out + 1) (omega arith)

    by : (t : Bool) → cond t (Ok own) (Err UsedUp) ≡ Ok p → Back a (cond t (one_out a) a) p
    by false q = absurd (cc)
    by true q =
        let e : own ≡ p = cc in
        subst (Back a (one_out a)) e
        (record {
          known = ap (λ t. cond t (Ok tt) (Err (record { refusal = Foreign; permit = own }))) is_known;
          book = ap (λ t. cond t (one_back (one_out a)) (one_out a)) is_known ∙ ap (λ n. record { number = a.number; limit = a.limit; out = n; spent = a.spent }) (omega arith);
        })

-- what is answered and left, where a release came to o
pub record Came {K : Type 0} (bs : List BookState) (r : Releasing) (old : List (Entry K)) (o : Option (Result (List (Entry K)) Refusal))
    (answer : Option (Result ℕ Refusal)) (books : List BookState) (output : List (Entry K)) : Type 0 where
  pub answered : answer ≡ release_answer o
  pub books_are : books ≡ release_books bs r o
  pub output_is : output ≡ release_list old o

-- the two books of a release are there: a is the one that issues, and b the other, as it then is
module _ {K : Type 0} (C : Content K) (bs : List BookState) (r : Releasing) (draws : List ℤ) (old : List (Entry K))
    (i : r.issuer < length bs) (j : r.book < length bs) (x c : BookState) (c_is : c ≡ after_issue (slice_index_or bs r.issuer x)) where
  abbrev a : BookState
  a = slice_index_or bs r.issuer x

  asked : issued_at bs r.issuer ≡ slice_set bs r.issuer c
  asked = ap (with_book after_issue bs r.issuer) (slice_get-get_or bs r.issuer x i) ∙ ap (slice_set bs r.issuer) (sym c_is)

  outcome_is : (b : BookState) → slice_get (slice_set bs r.issuer c) r.book ≡ Some b → outcome C bs r draws (length old) ≡ Some (list_by C (issued a) b r draws (length old))
  outcome_is b e =
      ap (λ x. list_with C x (slice_get (issued_at bs r.issuer) r.book) r draws (length old)) (slice_get-get_or bs r.issuer x i)
      ∙ ap (λ x. list_with C (Some a) x r draws (length old)) (ap (λ ys. slice_get ys r.book) asked ∙ e)

  pub none_issued : (e : Refusal) → issued a ≡ Err e → Came bs r old (outcome C bs r draws (length old)) (Some (Err e)) (slice_set bs r.issuer c) old
  none_issued e q =
      let b : BookState = slice_index_or (slice_set bs r.issuer c) r.book c in
      let o : outcome C bs r draws (length old) ≡ Some (Err e) =
      outcome_is b (slice_get-get_or (slice_set bs r.issuer c) r.book c (omega (arith, length-set bs r.issuer c)))
      ∙ ap (λ t. Some (list_by C t b r draws (length old))) q in
      subst (λ t. Came bs r old t (Some (Err e)) (slice_set bs r.issuer c) old) (sym o)
      (record {
        answered = refl;
        books_are = ap (slice_set bs r.issuer) (c_is ∙ not_issued a e q) ∙ set-get_or bs r.issuer x;
        output_is = refl;
      })

  module _ (p : Permit) (p_is : issued a ≡ Ok p) (shared : ℤ) (shared_is : shared ≡ r.shared) (y : BookState) where
    abbrev b : BookState
    b = slice_index_or (slice_set bs r.issuer c) r.book y

    abbrev list : Result (List (Entry K)) Refusal
    list = list_for C b p shared draws r.threshold (length old)

    b_there : slice_get (slice_set bs r.issuer c) r.book ≡ Some b
    b_there = slice_get-get_or (slice_set bs r.issuer c) r.book y (omega (arith, j, length-set bs r.issuer c))

    came_to : outcome C bs r draws (length old) ≡ Some list
    came_to = outcome_is b b_there ∙ ap (λ t. Some (list_by C t b r draws (length old))) p_is
        ∙ ap (λ t. Some (list_for C b p t draws r.threshold (length old))) (sym shared_is)

    pub accepted : (written : ℕ) → answer_by p list ≡ Ok written → (d : BookState) → d ≡ book_by b list → (new : List (Entry K)) → new ≡ output_by old list →
        Came bs r old (outcome C bs r draws (length old)) (Some (Ok written)) (slice_set (slice_set bs r.issuer c) r.book d) new
    accepted written q d d_is new new_is =
        subst (λ t. Came bs r old t (Some (Ok written)) (slice_set (slice_set bs r.issuer c) r.book d) new) (sym came_to) (by list q d_is new_is)
      where
        by : (l : Result (List (Entry K)) Refusal) → answer_by p l ≡ Ok written → d ≡ book_by b l → new ≡ output_by old l →
            Came bs r old (Some l) (Some (Ok written)) (slice_set (slice_set bs r.issuer c) r.book d) new
        by (Ok entries) e f g = record {
          answered = cc;
          books_are = ap (slice_set (slice_set bs r.issuer c) r.book) f
              ∙ sym (ap (with_book one_spent (slice_set bs r.issuer c) r.book) b_there)
              ∙ ap (λ ys. with_book one_spent ys r.book (slice_get ys r.book)) (sym asked);
          output_is = g;
        }
        by (Err refusal) e f g = absurd (cc)

    -- the permit came back, and is handed to the book at the place of the first, which is now g
    module _ (f : Refused) (q : answer_by p list ≡ Err f) (d : BookState) (d_is : d ≡ book_by b list) (new : List (Entry K)) (new_is : new ≡ output_by old list)
        (z : BookState) where
      abbrev g : BookState
      g = slice_index_or (slice_set (slice_set bs r.issuer c) r.book d) r.issuer z

      record CameBack : Type 0 where
        refused : list ≡ Err f.refusal
        permit_is : f.permit ≡ p
        book_is : d ≡ b
        output_is : new ≡ old

      came_back : CameBack
      came_back = by list refl q d_is new_is
        where
          by : (l : Result (List (Entry K)) Refusal) → list ≡ l → answer_by p l ≡ Err f → d ≡ book_by b l → new ≡ output_by old l → CameBack
          by (Ok entries) h e m n = absurd (cc)
          by (Err refusal) h e m n =
              let k : record { refusal = refusal; permit = p } ≡ f = cc in
              record { refused = h ∙ ap (λ (t : Refused). Err t.refusal) k; permit_is = ap (λ (t : Refused). t.permit) (sym k); book_is = m; output_is = n }

      books_now : slice_set (slice_set bs r.issuer c) r.book d ≡ slice_set bs r.issuer c
      books_now = ap (slice_set (slice_set bs r.issuer c) r.book) came_back.book_is ∙ set-get_or (slice_set bs r.issuer c) r.book y

      g_issuer : g ≡ c
      g_issuer = ap (λ ys. slice_index_or ys r.issuer z) books_now ∙ get_or-set_same bs r.issuer c z i

      handed : Back a g f.permit
      handed = subst (λ t. Back a g t) (sym came_back.permit_is) (subst (λ t. Back a t p) (sym (g_issuer ∙ c_is)) (back a p p_is))

      pub known : handed_back g f.permit ≡ Ok tt
      known = handed.known

      pub refused : (h : BookState) → h ≡ after_hand_back g f.permit →
          Came bs r old (outcome C bs r draws (length old)) (Some (Err f.refusal)) (slice_set (slice_set (slice_set bs r.issuer c) r.book d) r.issuer h) new
      refused h h_is =
          subst (λ t. Came bs r old t (Some (Err f.refusal)) (slice_set (slice_set (slice_set bs r.issuer c) r.book d) r.issuer h) new)
          (sym (came_to ∙ ap Some came_back.refused))
          (record {
            answered = refl;
            books_are = ap (λ ys. slice_set ys r.issuer h) books_now ∙ set-set bs r.issuer c h
                ∙ ap (slice_set bs r.issuer) (h_is ∙ handed.book) ∙ set-get_or bs r.issuer x;
            output_is = came_back.output_is;
          })
