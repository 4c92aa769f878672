-- One permit is spent for each list of a run. Idea: a release that is accepted takes a permit from one book and spends
-- one in the other, so the sums over all books move by these two alone; nothing else moves a permit.
use Rattle.std.proofs.Common.{◌≡◌, ℕ, ◌+◌, ◌≤◌, Bool, true, false, cond, List, length, slice_get, slice_set, Option, Some, None, Result, Ok, Err, ℤ, refl, sym, ap, ◌∙◌, subst, arith}
use Rattle.std.proofs.lemmas.Bool.{ltb-true, and_parts}
use Rattle.records.specs.Values.{RecordValue}
use Rattle.keys.specs.declared.refusal.Refusal.{Refusal}
use Rattle.keys.specs.declared.refusal.Refusal.TheVariants.{UsedUp, Foreign}
use Rattle.model.specs.Contents.{Content}
use Rattle.model.specs.Plans.{Plan}
use Rattle.release.specs.declared.permit.Permit.{Permit}
use Rattle.release.specs.declared.entry.Entry.{Entry}
use Rattle.release.specs.Books.{BookState, has_left, knows, one_out, one_spent, after_issue}
use Rattle.release.specs.Releases.{list_for}
use Rattle.work.specs.declared.call.Call.{Call}
use Rattle.work.specs.declared.call.Call.TheVariants as call
use Rattle.work.specs.declared.call.Releasing.{Releasing}
use Rattle.work.specs.Memories.{Memory}
use Rattle.work.specs.Releases.{outcome, list_with, list_by, with_book, issued_at, changed_at, release_answer, release_books}
use Rattle.work.specs.Calls.{books_with, answer_of}
use Rattle.work.specs.Permits.{accepted, gave_list, OneEach}
use Rattle.work.proofs.Lists.{map_set, sum_set}

pub none_moved : (bs : List BookState) → OneEach bs bs 0
none_moved bs = record { numbers = refl; limits = refl; out = refl; spent = omega arith }

pub one_each_on : (a b c : List BookState) (m n : ℕ) → OneEach a b m → OneEach b c n → OneEach a c (m + n)
one_each_on a b c m n x y = record {
  numbers = y.numbers ∙ x.numbers;
  limits = y.limits ∙ x.limits;
  out = y.out ∙ x.out;
  spent = omega (arith, x.spent, y.spent);
}

-- a permit goes from the first book to the second, and is spent there
module _ (bs : List BookState) (i j : ℕ) (a b : BookState) (a_is : slice_get bs i ≡ Some a) (b_is : slice_get (slice_set bs i (one_out a)) j ≡ Some b) (some : 1 ≤ b.out) where
  abbrev between : List BookState
  between = slice_set bs i (one_out a)

  moved : OneEach bs (slice_set between j (one_spent b)) 1
  moved = record {
    numbers = map_set (λ (t : BookState). t.number) between j b (one_spent b) b_is refl ∙ map_set (λ (t : BookState). t.number) bs i a (one_out a) a_is refl;
    limits = map_set (λ (t : BookState). t.limit) between j b (one_spent b) b_is refl ∙ map_set (λ (t : BookState). t.limit) bs i a (one_out a) a_is refl;
    out = omega (arith, sum_set (λ (t : BookState). t.out) between j b (one_spent b) b_is, sum_set (λ (t : BookState). t.out) bs i a (one_out a) a_is, some);
    spent = omega (arith, sum_set (λ (t : BookState). t.spent) between j b (one_spent b) b_is, sum_set (λ (t : BookState). t.spent) bs i a (one_out a) a_is);
  }

module _ {K : Type 0} (C : Content K) (bs : List BookState) (r : Releasing) (draws : List ℤ) (long : ℕ) where
  -- a list is given only by a permit that is out
  some_out : (b : BookState) (p : Permit) (list : List (Entry K)) → list_for C b p r.shared draws r.threshold long ≡ Ok list → 1 ≤ b.out
  some_out b p list = by (knows b p) refl _
    where
      by : (t : Bool) → knows b p ≡ t → (rest : Result (List (Entry K)) Refusal) → cond t rest (Err Foreign) ≡ Ok list → 1 ≤ b.out
      by true e rest q = omega (arith, ltb-true 0 b.out (and_parts _ _ e).1)
      by false e rest q = absurd (cc)

  given : (list : List (Entry K)) (x y : Option BookState) → slice_get bs r.issuer ≡ x → slice_get (issued_at bs r.issuer) r.book ≡ y →
      list_with C x y r draws long ≡ Some (Ok list) → OneEach bs (changed_at one_spent (issued_at bs r.issuer) r.book) 1
  given list None y e f q = absurd (cc)
  given list (Some a) None e f q = absurd (cc)
  given list (Some a) (Some b) e f q = by (has_left a) refl q
    where
      by : (t : Bool) → has_left a ≡ t → Some (list_by C (cond t (Ok (record { book = a.number; used_up = false })) (Err UsedUp)) b r draws long) ≡ Some (Ok list) →
          OneEach bs (changed_at one_spent (issued_at bs r.issuer) r.book) 1
      by false h q = absurd (cc)
      by true h q =
          let k : list_for C b (record { book = a.number; used_up = false }) r.shared draws r.threshold long ≡ Ok list = cc in
          let at : issued_at bs r.issuer ≡ slice_set bs r.issuer (one_out a) =
          ap (with_book after_issue bs r.issuer) e ∙ ap (λ t. slice_set bs r.issuer (cond t (one_out a) a)) h in
          let there : slice_get (slice_set bs r.issuer (one_out a)) r.book ≡ Some b = ap (λ ys. slice_get ys r.book) (sym at) ∙ f in
          let is : changed_at one_spent (issued_at bs r.issuer) r.book ≡ slice_set (slice_set bs r.issuer (one_out a)) r.book (one_spent b) =
          ap (λ ys. with_book one_spent ys r.book (slice_get ys r.book)) at ∙ ap (with_book one_spent (slice_set bs r.issuer (one_out a)) r.book) there in
          subst (λ ys. OneEach bs ys 1) (sym is) (moved bs r.issuer r.book a b e there (some_out b (record { book = a.number; used_up = false }) list k))

  released : (o : Option (Result (List (Entry K)) Refusal)) → outcome C bs r draws long ≡ o → OneEach bs (release_books bs r o) (cond (accepted (release_answer o)) 1 0)
  released None e = none_moved bs
  released (Some (Err refusal)) e = none_moved bs
  released (Some (Ok list)) e = given list (slice_get bs r.issuer) (slice_get (issued_at bs r.issuer) r.book) refl refl e

-- of each call
pub by_call : {K L : Type 0} (gives : L → RecordValue → Option K) (plan : Plan K) (less : K → K → Bool) (C : Content K) (bs : List BookState) (c : Call K L) (part : Memory K) →
    OneEach bs (books_with C bs c part) (cond (gave_list (answer_of gives plan less C bs c part)) 1 0)
by_call gives plan less C bs (call.Take x) part = none_moved bs
by_call gives plan less C bs (call.Feed f) part = none_moved bs
by_call gives plan less C bs (call.Count x) part = none_moved bs
by_call gives plan less C bs (call.Place j) part = none_moved bs
by_call gives plan less C bs call.Facts part = none_moved bs
by_call gives plan less C bs (call.Page limit lines) part = none_moved bs
by_call gives plan less C bs (call.Release r) part = released C bs r part.draws (length part.lists) (outcome C bs r part.draws (length part.lists)) refl
