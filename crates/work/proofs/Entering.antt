-- What calls add to the entries, and that the laws hold at every point of a run. Idea: the content's n is the length of
-- the entries, so taking and feeding find the same room in the content as their definitions do in the entries.
use Rattle.std.proofs.Common.{◌≡◌, ℕ, suc, ◌+◌, ◌-◌, ◌*◌, Bool, true, false, ◌&&◌, cond, nat_lt, List, [], ◌∷◌, ◌++◌, length, take, Option, inl, inr, refl, sym, ap, ◌∙◌, subst, append_assoc, arith}
use Rattle.std.specs.List.{AllByRecursion, filter}
use Rattle.keys.specs.Orders.{TotalOrder}
use Rattle.std.proofs.lemmas.List.{append-nil, length-append}
use Rattle.std.proofs.lemmas.Bool.{ltb-true, ltb-false}
use Rattle.std.proofs.Math.Seq.{take-nil}
use Rattle.records.specs.Values.{RecordValue}
use Rattle.records.specs.Logs.{log_of}
use Rattle.model.specs.Contents.{Content, total}
use Rattle.model.specs.Plans.{Plan, most_entries, after_from, after, Entries}
use Rattle.model.specs.Laws.{HoldsK, Bounded, Lawful}
use Rattle.model.proofs.Runs.{after-append}
use Rattle.model.proofs.Handing.{hands_over, runs_hand_over}
use Rattle.summaries.specs.Calls.{taken_content}
use Rattle.feeding.specs.Feeding.{keys_of, added}
use Rattle.work.specs.declared.call.Call.{Call}
use Rattle.work.specs.declared.call.Call.TheVariants as call
use Rattle.work.specs.Calls.{with_key, with_keys, entries_with, content_with}
use Rattle.work.specs.Runs.{OneFewer, Near, entries_after, content_after, Point}

all_one_more : {X : Type 0} (P : X → Type 0) (xs : List X) (x : X) → AllByRecursion P xs → P x → AllByRecursion P (xs ++ x ∷ [])
all_one_more P [] x a p = (p, tt)
all_one_more P (y ∷ xs) x a p = (a.0, all_one_more P xs x a.1 p)

module _ {K : Type 0} (plan : Plan K) where
  -- the entries stay such as a summary can have taken
  entries_key : (es : List K) (x : K) → Entries plan es → Entries plan (with_key plan es x)
  entries_key es x e = by (plan.admits x) (nat_lt (length es) most_entries) refl refl
    where
      by : (admitted some_room : Bool) → plan.admits x ≡ admitted → nat_lt (length es) most_entries ≡ some_room →
          Entries plan (cond (admitted && some_room) (es ++ x ∷ []) es)
      by true true q l = record {
        admitted = all_one_more (λ y. plan.admits y ≡ true) es x e.admitted q;
        few = omega (arith, length-append es (x ∷ []), ltb-true (length es) most_entries l);
      }
      by true false q l = e
      by false some_room q l = e

  entries_keys : (es xs : List K) → Entries plan es → Entries plan (with_keys plan es xs)
  entries_keys es [] e = e
  entries_keys es (x ∷ xs) e = entries_keys (with_key plan es x) xs (entries_key es x e)

  -- given keys, those join that are admitted, as many as there is room for
  with_keys_added : (es xs : List K) → with_keys plan es xs ≡ es ++ take (most_entries - length es) (filter plan.admits xs)
  with_keys_added es [] = sym (ap (λ ys. es ++ ys) (take-nil (most_entries - length es)) ∙ append-nil es)
  with_keys_added es (x ∷ xs) = by (λ fs. with_keys_added fs xs) (plan.admits x) (nat_lt (length es) most_entries) refl
    where
      full : (room : ℕ) (ys zs : List K) → room ≡ 0 → es ++ take room ys ≡ es ++ take room zs
      full room ys zs q = ap (λ n. es ++ take n ys) q ∙ ap (λ n. es ++ take n zs) (sym q)

      by : ((fs : List K) → with_keys plan fs xs ≡ fs ++ take (most_entries - length fs) (filter plan.admits xs)) →
          (admitted some_room : Bool) → nat_lt (length es) most_entries ≡ some_room →
          with_keys plan (cond (admitted && some_room) (es ++ x ∷ []) es) xs
          ≡ es ++ take (most_entries - length es) (cond admitted (x ∷ filter plan.admits xs) (filter plan.admits xs))
      by later true true l =
          let left : ℕ = most_entries - length (es ++ x ∷ []) in
          let one : suc left ≡ most_entries - length es = omega (arith, length-append es (x ∷ []), ltb-true (length es) most_entries l) in
          later (es ++ x ∷ []) ∙ append_assoc es (x ∷ []) (take left (filter plan.admits xs))
          ∙ ap (λ n. es ++ take n (x ∷ filter plan.admits xs)) one
      by later true false l =
          later es ∙ full (most_entries - length es) (filter plan.admits xs) (x ∷ filter plan.admits xs) (omega (arith, ltb-false (length es) most_entries l))
      by later false some_room l = later es

  -- a content that counts its entries takes a key as they do
  taken_key : (es : List K) (C : Content K) (x : K) → C ≡ after plan es → C.n ≡ length es → taken_content plan C x ≡ after plan (with_key plan es x)
  taken_key es C x q n =
      ap (λ m. cond (plan.admits x) (cond (nat_lt m most_entries) (plan.rule C x) C) C) n ∙ by (plan.admits x) (nat_lt (length es) most_entries)
    where
      by : (admitted some_room : Bool) → cond admitted (cond some_room (plan.rule C x) C) C ≡ after plan (cond (admitted && some_room) (es ++ x ∷ []) es)
      by true true = ap (λ D. plan.rule D x) q ∙ sym (after-append plan plan.fresh es (x ∷ []))
      by true false = q
      by false some_room = q

  fed_keys : (gives : RecordValue → Option K) (es : List K) (C : Content K) (rs : List RecordValue) → C ≡ after plan es → C.n ≡ length es →
      after_from plan C (added plan C gives rs) ≡ after plan (with_keys plan es (keys_of gives rs))
  fed_keys gives es C rs q n =
      let more : ℕ → List K = λ m. take (most_entries - m) (filter plan.admits (keys_of gives rs)) in
      ap (λ D. after_from plan D (more C.n)) q ∙ ap (λ m. after_from plan (after plan es) (more m)) n
      ∙ sym (after-append plan plan.fresh es (more (length es))) ∙ ap (after plan) (sym (with_keys_added es (keys_of gives rs)))

  module _ {L : Type 0} (gives : L → RecordValue → Option K) where
    -- after a call too the entries are such as a summary can have taken, and the content is that after them
    pub entries_call : (es : List K) (c : Call K L) → Entries plan es → Entries plan (entries_with gives plan es c)
    entries_call es (call.Take x) e = entries_key es x e
    entries_call es (call.Feed f) e = entries_keys es (keys_of (gives f.lens.now) (log_of f.log.now).records) e
    entries_call es (call.Count x) e = e
    entries_call es (call.Place j) e = e
    entries_call es call.Facts e = e
    entries_call es (call.Page limit lines) e = e
    entries_call es (call.Release r) e = e

    pub content_call : (es : List K) (C : Content K) (c : Call K L) → C ≡ after plan es → C.n ≡ length es →
        content_with gives plan C c ≡ after plan (entries_with gives plan es c)
    content_call es C (call.Take x) q n = taken_key es C x q n
    content_call es C (call.Feed f) q n = fed_keys (gives f.lens.now) es C (log_of f.log.now).records q n
    content_call es C (call.Count x) q n = q
    content_call es C (call.Place j) q n = q
    content_call es C call.Facts q n = q
    content_call es C (call.Page limit lines) q n = q
    content_call es C (call.Release r) q n = q

module _ {K L : Type 0} (gives : L → RecordValue → Option K) (less : K → K → Bool) (order : TotalOrder less) (plan : Plan K)
    (lawful : Lawful less plan) where
  -- the laws hold of the content after entries that a summary can have taken
  pub point : (C : Content K) (es : List K) → Entries plan es → C ≡ after plan es → Point less plan es C
  point C es e q = record {
    entries = e;
    content = q;
    counted = record {
      k_stays = ap (λ (D : Content K). D.k) q ∙ lawful.k_stays es e;
      holds_k = own;
      n_counts = number;
      balanced = subst (λ (D : Content K). (D.k + 1) * D.l + total D.held ≡ D.n) (sym q) (lawful.balanced es e) ∙ number;
      bounded = subst (Bounded less es) (sym q) (lawful.bounded es e);
    };
    alike = one_fewer;
    hands_over = λ D holds near. elim near [
      | inl n ↦ hands_over less order C D own holds n
      | inr n ↦ let both = hands_over less order D C holds own n in (both.1, both.0)
    ];
  }
    where
      own : HoldsK less C
      own = subst (HoldsK less) (sym q) (lawful.holds_k es e)

      one_fewer : (fewer : List K) → OneFewer es fewer → Near less C (after plan fewer)
      one_fewer fewer parts =
          let whole : Entries plan (parts.before ++ parts.gone ∷ parts.behind) = subst (Entries plan) parts.whole e in
          subst (λ fs. Near less C (after plan fs)) (sym parts.others)
          (subst (λ (D : Content K). Near less D (after plan (parts.before ++ parts.behind))) (sym (q ∙ ap (after plan) parts.whole))
          (record {
            neighbours = lawful.neighbours parts.before parts.gone parts.behind whole;
            hand_over = runs_hand_over less order plan lawful parts.before parts.gone parts.behind whole;
          }))

      number : C.n ≡ length es
      number = ap (λ (D : Content K). D.n) q ∙ lawful.n_counts es e

  -- and after any calls
  pub points_after : (calls : List (Call K L)) (C : Content K) (es : List K) → Entries plan es → C ≡ after plan es →
      Point less plan (entries_after gives plan es calls) (content_after gives plan C calls)
  points_after [] C es e q = point C es e q
  points_after (c ∷ calls) C es e q =
      points_after calls (content_with gives plan C c) (entries_with gives plan es c) (entries_call plan gives es c e)
      (content_call plan gives es C c q (ap (λ (D : Content K). D.n) q ∙ lawful.n_counts es e))

  -- so at every point of a run
  pub run_points : (C : Content K) (calls : List (Call K L)) (es : List K) → Entries plan es → C ≡ after plan es → (j : ℕ) →
      Point less plan (entries_after gives plan es (take j calls)) (content_after gives plan C (take j calls))
  run_points C calls es e q j = points_after (take j calls) C es e q
