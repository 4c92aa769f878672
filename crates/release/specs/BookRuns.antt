-- What can be done with a book, one act after another, and what holds of the book then.
use Rattle.std.specs.Prelude.{◌≡◌, ℕ, ◌+◌, ◌≤◌, Bool, false, cond, List, [], ◌∷◌}
use Rattle.release.specs.declared.permit.Permit.{Permit}
use Rattle.release.specs.Books.{BookState, has_left, knows, after_issue, after_hand_back, after_release}

-- What a call asks of a book: to issue a permit, to take this one back, or to accept a release by it. A release that is
-- refused for another reason than its permit does not come to the book, and is no act.
pub data Act : Type 0 where
  Issue : Act
  HandBack : Permit → Act
  Release : Permit → Act

-- What becomes of the book, as the contracts of the calls say. An accepted release knows its permit, and leaves the book
-- with one more spent.
abbrev pub after_act : BookState → Act → BookState
after_act b Issue = after_issue b
after_act b (HandBack p) = after_hand_back b p
after_act b (Release p) = after_release b p

-- the book after these acts, one after another
abbrev pub after_acts : BookState → List Act → BookState
after_acts b [] = b
after_acts b (act ∷ acts) = after_acts (after_act b act) acts

-- whether the book issues a permit by the act
abbrev pub issues : BookState → Act → Bool
issues b Issue = has_left b
issues b (HandBack p) = false
issues b (Release p) = false

-- whether it takes one back
abbrev pub takes_back : BookState → Act → Bool
takes_back b Issue = false
takes_back b (HandBack p) = knows b p
takes_back b (Release p) = false

-- whether it accepts a release
abbrev pub releases : BookState → Act → Bool
releases b Issue = false
releases b (HandBack p) = false
releases b (Release p) = knows b p

-- how many acts of a run pass the test, each tried on the book as it then is
abbrev pub how_many : (BookState → Act → Bool) → BookState → List Act → ℕ
how_many test b [] = 0
how_many test b (act ∷ acts) = cond (test b act) 1 0 + how_many test (after_act b act) acts

-- What holds after these acts, of a book that had no permit out and none spent before. The beginning of a run is a run,
-- so it holds at every point of a run.
pub record BookLaw (b : BookState) (acts : List Act) : Type 0 where
  pub number : (after_acts b acts).number ≡ b.number
  pub limit : (after_acts b acts).limit ≡ b.limit
  -- the limit is not passed
  pub within : (after_acts b acts).out + (after_acts b acts).spent ≤ b.limit
  -- a permit is spent by an accepted release and by nothing else
  pub spent : (after_acts b acts).spent ≡ how_many releases b acts
  -- every permit issued is out, spent or back, by their numbers
  pub accounted : how_many issues b acts ≡ (after_acts b acts).out + (after_acts b acts).spent + how_many takes_back b acts
  -- so no more are spent and handed back than were issued: one permit gives at most one spent, as its type lets no
  -- program use it twice
  pub once : how_many releases b acts + how_many takes_back b acts ≤ how_many issues b acts
  -- and once none is out, as when the book is let go, every permit that was issued has been spent or handed back
  pub settled : (after_acts b acts).out ≡ 0 → how_many issues b acts ≡ how_many releases b acts + how_many takes_back b acts
  -- the book accepts no more releases than its limit
  pub releases_within : how_many releases b acts ≤ b.limit

-- so it is whatever is done with the book
unfoldable pub KeepsBookLaw : BookState → Type 0
KeepsBookLaw b = (acts : List Act) → BookLaw b acts
