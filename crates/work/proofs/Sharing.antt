-- One memory of a run, of which the calls have parts that follow one another. Idea: after i calls each of them made of its
-- part what it should, and what lies beyond their parts is as it was; one call more rewrites the next part alone.
use Rattle.std.proofs.Common.{◌≡◌, ℕ, zero, suc, ◌+◌, ◌<◌, ◌≤◌, min, List, [], ◌∷◌, ◌++◌, length, take, drop, slice_get, Some, refl, sym, ap, ◌∙◌, subst, inl, inr, arith}
use Rattle.std.proofs.lemmas.List.{drop-drop}
use Rattle.std.proofs.lemmas.List.Sums.{sum_by-cons, sum_by_push}
use Rattle.keys.proofs.Lists.{take_next}
use Rattle.work.specs.declared.call.Call.{Call}
use Rattle.work.specs.Memories.{begins, part_at}
use Rattle.work.specs.Steps.{cut, Rewritten}
use Rattle.work.proofs.Parts.{cases, part_is, same_length, part_now, before, beyond, inside}

module _ {K L : Type 0} (own : Call K L → ℕ) where
  begins_more : (cs : List (Call K L)) (c : Call K L) → begins own (cs ++ c ∷ []) ≡ begins own cs + own c
  begins_more cs c = sum_by_push own cs c

  -- a call's part ends where that of a later one begins, or before
  parts_rise : (cs : List (Call K L)) (j i : ℕ) (c : Call K L) → j < i → slice_get cs j ≡ Some c → begins own (take j cs) + own c ≤ begins own (take i cs)
  parts_rise [] j i c h e = absurd (cc)
  parts_rise (b ∷ cs) j zero c h e = absurd (omega arith)
  parts_rise (b ∷ cs) zero (suc i) c h e = let q : b ≡ c = cc in omega (arith, ap own q, sum_by-cons own b (take i cs))
  parts_rise (b ∷ cs) (suc j) (suc i) c h e = omega (arith, parts_rise cs j i c (omega arith) e, sum_by-cons own b (take i cs), sum_by-cons own b (take j cs))

-- `makes` says what the j-th call makes of its part
module _ {K L X : Type 0} (own : Call K L → ℕ) (calls : List (Call K L)) (makes : ℕ → Call K L → List X → List X) (old : List X) where
  pub record SharedAs (i : ℕ) (items : List X) (from : ℕ) : Type 0 where
    pub made : (j : ℕ) (c : Call K L) → j < i → slice_get calls j ≡ Some c → part_at own (take j calls) c items ≡ makes j c (part_at own (take j calls) c old)
    pub rest : drop (begins own (take i calls)) items ≡ drop (begins own (take i calls)) old
    pub at : from ≡ min (begins own (take i calls)) (length items)
    pub long : length items ≡ length old

  pub begun : SharedAs 0 old 0
  begun = record { made = λ j c h e. absurd (omega arith); rest = refl; at = omega arith; long = refl }

  module _ (i : ℕ) (items : List X) (from : ℕ) (s : SharedAs i items from) (call : Call K L) (is : slice_get calls i ≡ Some call)
      (to : ℕ) (to_is : to ≡ min (own call + from) (length items)) where
    abbrev start : ℕ
    start = begins own (take i calls)

    more : take (i + 1) calls ≡ take i calls ++ call ∷ []
    more = take_next calls i call is

    start_next : begins own (take (i + 1) calls) ≡ start + own call
    start_next = ap (begins own) more ∙ begins_more own (take i calls) call

    -- the next call finds its part as it was
    pub old_part : cut from to items ≡ part_at own (take i calls) call old
    old_part = part_is items start (own call) from to s.at to_is ∙ ap (take (own call)) s.rest

    pub turned : (part new : List X) → Rewritten from to part items new → part ≡ makes i call (cut from to items) → SharedAs (i + 1) new to
    turned part new w part_is_made = record {
      made = made_more;
      rest = ap (λ n. drop n new) start_next
          ∙ beyond items start (own call) from to s.at to_is part new w.long w.written
          ∙ sym (drop-drop (own call) start items) ∙ ap (drop (own call)) s.rest ∙ drop-drop (own call) start old
          ∙ ap (λ n. drop n old) (sym start_next);
      at = omega (arith, to_is, s.at, start_next, same_length items start (own call) from to s.at to_is part new w.long w.written);
      long = same_length items start (own call) from to s.at to_is part new w.long w.written ∙ s.long;
    }
      where
        this : part_at own (take i calls) call new ≡ makes i call (part_at own (take i calls) call old)
        this = part_now items start (own call) from to s.at to_is part new w.long w.written ∙ part_is_made ∙ ap (makes i call) old_part

        made_more : (j : ℕ) (c : Call K L) → j < i + 1 → slice_get calls j ≡ Some c → part_at own (take j calls) c new ≡ makes j c (part_at own (take j calls) c old)
        made_more j c h e = elim (cases (j + 1) i) [
          | inl k ↦
              inside new items (begins own (take j calls)) (own c) start (parts_rise own calls j i c (omega arith) e)
              (before items start (own call) from to s.at to_is part new w.long w.written)
              ∙ s.made j c (omega arith) e
          | inr k ↦
              let q : j ≡ i = omega arith in
              let v : Some c ≡ Some call = sym e ∙ ap (slice_get calls) q ∙ is in
              let u : c ≡ call = cc in
              subst (λ t. part_at own (take t calls) c new ≡ makes t c (part_at own (take t calls) c old)) (sym q)
              (subst (λ t. part_at own (take i calls) t new ≡ makes i t (part_at own (take i calls) t old)) (sym u) this)
        ]

  -- the part of the next call begins within the memory
  pub from_within : (i : ℕ) (items : List X) (from : ℕ) → SharedAs i items from → from ≤ length items
  from_within i items from s = omega (arith, s.at)
