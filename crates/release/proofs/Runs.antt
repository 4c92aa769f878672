-- What holds of a book after any acts. Idea: by induction over the acts from any book, since an act moves at most one
-- permit.
use Rattle.std.proofs.Common.{◌≡◌, ℕ, ◌+◌, ◌≤◌, Bool, true, false, cond, ◌&&◌, List, [], ◌∷◌, ltb, refl, ◌∙◌, arith}
use Rattle.std.proofs.lemmas.Bool.{ltb-true}
use Rattle.release.specs.declared.permit.Permit.{Permit}
use Rattle.release.specs.Books.{BookState, has_left, knows, one_out, one_back, one_spent}
use Rattle.release.specs.BookRuns.{Act, Issue, HandBack, Release, after_act, after_acts, issues, takes_back, releases, how_many, KeepsBookLaw}

-- what holds of a book b and the book c that an act makes of it, where it is known whether the act was accepted as the
-- issue of a permit, as a release, and as one handed back
record Moved (b c : BookState) (issue release back : Bool) : Type 0 where
  number : c.number ≡ b.number
  limit : c.limit ≡ b.limit
  within : b.out + b.spent ≤ b.limit → c.out + c.spent ≤ b.limit
  spent : c.spent ≡ b.spent + cond release 1 0
  out : b.out + cond issue 1 0 ≡ c.out + cond release 1 0 + cond back 1 0

-- whoever knows a permit has one out
some_out : (same : Bool) (out : ℕ) → same && ltb 0 out ≡ true → 1 ≤ out
some_out true out e = ltb-true 0 out e
some_out false out e = absurd (cc)

module _ (b : BookState) where
  by_issue : (t : Bool) → has_left b ≡ t → Moved b (cond t (one_out b) b) t false false
  by_issue true e = let room = ltb-true (b.out + b.spent) b.limit e in record {
    number = refl;
    limit = refl;
    within = λ w. omega arith;
    spent = omega arith;
    out = omega arith;
  }
  by_issue false e = record { number = refl; limit = refl; within = λ w. w; spent = omega arith; out = omega arith }

  by_back : (p : Permit) (t : Bool) → knows b p ≡ t → Moved b (cond t (one_back b) b) false false t
  by_back p true e = let some = some_out _ b.out e in record {
    number = refl;
    limit = refl;
    within = λ w. omega arith;
    spent = omega arith;
    out = omega arith;
  }
  by_back p false e = record { number = refl; limit = refl; within = λ w. w; spent = omega arith; out = omega arith }

  by_release : (p : Permit) (t : Bool) → knows b p ≡ t → Moved b (cond t (one_spent b) b) false t false
  by_release p true e = let some = some_out _ b.out e in record {
    number = refl;
    limit = refl;
    within = λ w. omega arith;
    spent = omega arith;
    out = omega arith;
  }
  by_release p false e = record { number = refl; limit = refl; within = λ w. w; spent = omega arith; out = omega arith }

  moved : (act : Act) → Moved b (after_act b act) (issues b act) (releases b act) (takes_back b act)
  moved Issue = by_issue (has_left b) refl
  moved (HandBack p) = by_back p (knows b p) refl
  moved (Release p) = by_release p (knows b p) refl

-- the same of several acts
record MovedBy (b : BookState) (acts : List Act) : Type 0 where
  number : (after_acts b acts).number ≡ b.number
  limit : (after_acts b acts).limit ≡ b.limit
  within : b.out + b.spent ≤ b.limit → (after_acts b acts).out + (after_acts b acts).spent ≤ b.limit
  spent : (after_acts b acts).spent ≡ b.spent + how_many releases b acts
  out : b.out + how_many issues b acts ≡ (after_acts b acts).out + how_many releases b acts + how_many takes_back b acts

moved_by : (b : BookState) (acts : List Act) → MovedBy b acts
moved_by b [] = record { number = refl; limit = refl; within = λ w. w; spent = omega arith; out = omega arith }
moved_by b (act ∷ acts) =
    let m = moved b act in
    let r = moved_by (after_act b act) acts in
    record {
      number = r.number ∙ m.number;
      limit = r.limit ∙ m.limit;
      within = λ w. omega (arith, m.limit, r.within (omega (arith, m.within w, m.limit)));
      spent = omega (arith, m.spent, r.spent);
      out = omega (arith, m.out, r.out);
    }

-- a book with no permit out and none spent keeps the law
pub keeps_book_law : (b : BookState) → b.out ≡ 0 → b.spent ≡ 0 → KeepsBookLaw b
unfolding KeepsBookLaw
keeps_book_law b none_out none_spent acts =
    let r = moved_by b acts in
    let within = r.within (omega arith) in
    record {
      number = r.number;
      limit = r.limit;
      within = within;
      spent = omega (arith, r.spent);
      accounted = omega (arith, r.spent, r.out);
      once = omega (arith, r.out);
      settled = λ none. omega (arith, r.out);
      releases_within = omega (arith, r.spent, within);
    }
