-- Keys that are taken one by one make what specs/ says of them all. Idea: an admitted key that there is room for leaves room
-- for one less.
use Rattle.std.proofs.Common.{◌≡◌, ℕ, suc, ◌≤◌, Bool, true, false, cond, nat_lt, List, [], ◌∷◌, length, take, drop, filter, refl, sym, ap, ◌∙◌, arith}
use Rattle.std.proofs.lemmas.List.{take_all, drop_all}
use Rattle.std.proofs.lemmas.Bool.{ltb-true, ltb-false}
use Rattle.model.specs.Contents.{Content}
use Rattle.model.specs.Plans.{Plan, after_from, most_entries}
use Rattle.summaries.specs.Calls.{taken_content, CountsEntries}
use Rattle.feeding.specs.Feeding.{room}
use Rattle.console.specs.Numbers.{taken_all}

-- one by one
abbrev pub one_by_one : {K : Type 0} → Plan K → Content K → List K → Content K
one_by_one plan C [] = C
one_by_one plan C (x ∷ es) = one_by_one plan (taken_content plan C x) es

module _ {K : Type 0} (plan : Plan K) (counts : CountsEntries plan) where
  -- a key that is admitted
  admitted : (C : Content K) (x : K) (es : List K) (some_room : Bool) → nat_lt C.n most_entries ≡ some_room →
      taken_all plan (cond some_room (plan.rule C x) C) es ≡ after_from plan C (take (room C) (x ∷ filter plan.admits es))
  admitted C x es true l =
      let more : room C ≡ suc (room (plan.rule C x)) = omega (arith, ltb-true C.n most_entries l, counts.n_grows C x) in
      ap (λ n. after_from plan C (take n (x ∷ filter plan.admits es))) (sym more)
  admitted C x es false l =
      let full : room C ≡ 0 = omega (arith, ltb-false C.n most_entries l) in
      ap (λ n. after_from plan C (take n (filter plan.admits es))) full ∙ ap (λ n. after_from plan C (take n (x ∷ filter plan.admits es))) (sym full)

  one_more : (C : Content K) (x : K) (es : List K) (b : Bool) → plan.admits x ≡ b →
      taken_all plan (cond b (cond (nat_lt C.n most_entries) (plan.rule C x) C) C) es ≡ after_from plan C (take (room C) (cond b (x ∷ filter plan.admits es) (filter plan.admits es)))
  one_more C x es true h = admitted C x es (nat_lt C.n most_entries) refl
  one_more C x es false h = refl

  by_keys : (C : Content K) (es : List K) → one_by_one plan C es ≡ taken_all plan C es
  by_keys C [] = ap (after_from plan C) (sym (take_all (room C) [] (omega arith)))
  by_keys C (x ∷ es) = by_keys (taken_content plan C x) es ∙ one_more C x es (plan.admits x) refl

-- where no key is left
pub all_taken : {K : Type 0} (plan : Plan K) (C now : Content K) (es : List K) (i : ℕ) → CountsEntries plan →
    one_by_one plan now (drop i es) ≡ one_by_one plan C es → length es ≤ i → now ≡ taken_all plan C es
all_taken plan C now es i counts left past = ap (one_by_one plan now) (sym (drop_all i es past)) ∙ left ∙ by_keys plan counts C es
