-- What the calls of a summary answer and leave, from its plan and its content.
use Rattle.std.specs.Prelude.{◌≡◌, ℕ, ◌+◌, Bool, cond, nat_lt, Option, Some, None, Result, Ok, Err}
use Rattle.keys.specs.declared.held.Held.TheVariants.{Real}
use Rattle.keys.specs.declared.refusal.Refusal.{Refusal}
use Rattle.keys.specs.declared.refusal.Refusal.TheVariants.{NotAdmitted, Full}
use Rattle.model.specs.Contents.{Content, holds, count_of}
use Rattle.model.specs.Plans.{Plan, most_entries}
use Rattle.model.specs.Laws.{HoldsK, Balanced}
use Rattle.summaries.specs.declared.answers.Taken.{Taken}
use Rattle.summaries.specs.declared.answers.Taken.TheVariants.{Raised, Lowered, Replaced}
use Rattle.summaries.specs.declared.answers.Facts.{Facts}

module _ {K : Type 0} where
  -- the content after a key was given: the rule's, if the key is admitted and n is not at its most; else as it was
  abbrev pub taken_content : Plan K → Content K → K → Content K
  taken_content plan C x = cond (plan.admits x) (cond (nat_lt C.n most_entries) (plan.rule C x) C) C

  -- what the rule did with a key: raised, if the key was held; else lowered, if l grew; else replaced
  abbrev pub done : (K → K → Bool) → Plan K → Content K → K → Taken
  done less plan C x = cond (holds less C (Real x)) Raised (cond (nat_lt C.l (plan.rule C x).l) Lowered Replaced)

  -- what taking answers: refused with 6 if the key is not admitted, then with 7 if n is at its most
  abbrev pub taken_answer : (K → K → Bool) → Plan K → Content K → K → Result Taken Refusal
  taken_answer less plan C x = cond (plan.admits x) (cond (nat_lt C.n most_entries) (Ok (done less plan C x)) (Err Full)) (Err NotAdmitted)

  -- the count of a key, if the key is held
  abbrev pub count_answer : (K → K → Bool) → Content K → K → Option ℕ
  count_answer less C x = cond (holds less C (Real x)) (Some (count_of less C (Real x))) None

  -- the numbers of a content
  abbrev pub facts_of : Content K → Facts
  facts_of C = record { k = C.k; n = C.n; l = C.l }

  -- the rule of taking keeps k and counts each entry
  pub record CountsEntries (plan : Plan K) : Type 0 where
    pub k_stays : (C : Content K) (x : K) → (plan.rule C x).k ≡ C.k
    pub n_grows : (C : Content K) (x : K) → (plan.rule C x).n ≡ C.n + 1

  -- the two laws that speak of a content alone: it holds k keys, which rise, and its numbers balance
  pub record Stands (less : K → K → Bool) (C : Content K) : Type 0 where
    pub holds_k : HoldsK less C
    pub balanced : Balanced C
