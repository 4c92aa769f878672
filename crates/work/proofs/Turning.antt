-- A run call by call. Idea: after i calls content and books are those after them, each of them answered as it should, and
-- of each memory the parts are written (Sharing); one call more adds its own answer and parts.
use Rattle.std.proofs.Common.{◌≡◌, ℕ, ◌+◌, ◌<◌, ◌≤◌, get_or, Bool, cond, List, [], ◌∷◌, ◌++◌, length, take, drop, slice_get, slice_set, Some, Option, ℤ, refl, sym, ap, ◌∙◌, subst, inl, inr, arith}
use Rattle.std.specs.List.{count_by}
use Rattle.std.proofs.lemmas.List.{length-take, take_all, drop-drop}
use Rattle.std.proofs.lemmas.List.Sums.{sum_by-cons, sum_by_push}
use Rattle.std.proofs.lemmas.Option.{slice_get_within}
use Rattle.keys.specs.Orders.{TotalOrder}
use Rattle.keys.proofs.Lists.{take_next}
use Rattle.records.specs.Values.{RecordValue}
use Rattle.model.specs.Contents.{Content}
use Rattle.model.specs.Plans.{Plan}
use Rattle.model.specs.Laws.{Lawful}
use Rattle.pages.specs.declared.line.Line.{Line}
use Rattle.release.specs.declared.entry.Entry.{Entry}
use Rattle.release.specs.Books.{BookState}
use Rattle.work.specs.declared.buffers.Places.{Places}
use Rattle.work.specs.declared.call.Call.{Call}
use Rattle.work.specs.declared.call.Answer.{Answer}
use Rattle.work.specs.Memories.{Memory, memory, own_lines, own_draws, own_lists, begins, part_at, part_of}
use Rattle.work.specs.Calls.{content_with, books_with, answer_of, lines_of, draws_of, lists_of}
use Rattle.work.specs.Steps.{Ends, Within, cut, cut_memory, Stepped}
use Rattle.work.specs.Permits.{all_out, gave_list, OneEach}
use Rattle.work.specs.Runs.{rest_of, entries_after, content_after, books_after, Point, Run}
use Rattle.work.proofs.Lists.{get_set, get_others, get_taken, take_set, drop_set, read_taken}
use Rattle.work.proofs.Sharing as sharing
use Rattle.work.proofs.Sharing.{SharedAs}
use Rattle.work.proofs.Permits.{none_moved, one_each_on, by_call}
use Rattle.work.proofs.Parts.{cases}
use Rattle.work.proofs.Entering.{points_after, run_points}

memory_same : {K : Type 0} {a x : List (Line K)} {b y : List ℤ} {c z : List (Entry K)} → a ≡ x → b ≡ y → c ≡ z → memory a b c ≡ memory x y z
memory_same {K} {a} {x} {b} {y} {c} {z} p q r = ap (λ t. memory t b c) p ∙ ap (λ t. memory x t c) q ∙ ap (λ t. memory x y t) r

module _ {K L : Type 0} where
  later : {X : Type 0} (own : Call K L → ℕ) (b : Call K L) (cs : List (Call K L)) (c : Call K L) (items : List X) →
      part_at own cs c (drop (begins own (b ∷ [])) items) ≡ part_at own (b ∷ cs) c items
  later own b cs c items =
      ap (take (own c)) (drop-drop (begins own cs) (begins own (b ∷ [])) items
      ∙ ap (λ n. drop n items) (omega (arith, sum_by-cons own b cs, sum_by-cons own b [])))

  -- after one call, the parts of those that follow are found in the rest
  part_later : (b : Call K L) (cs : List (Call K L)) (c : Call K L) (m : Memory K) → part_of cs c (rest_of b m) ≡ part_of (b ∷ cs) c m
  part_later b cs c m = memory_same (later own_lines b cs c m.lines) (later own_draws b cs c m.draws) (later own_lists b cs c m.lists)

module _ {K L : Type 0} (gives : L → RecordValue → Option K) (plan : Plan K) where
  content_more : (C : Content K) (cs : List (Call K L)) (c : Call K L) → content_after gives plan C (cs ++ c ∷ []) ≡ content_with gives plan (content_after gives plan C cs) c
  content_more C [] c = refl
  content_more C (b ∷ cs) c = content_more (content_with gives plan C b) cs c

  books_more : (C : Content K) (bs : List BookState) (m : Memory K) (cs : List (Call K L)) (c : Call K L) →
      books_after gives plan C bs m (cs ++ c ∷ []) ≡ books_with (content_after gives plan C cs) (books_after gives plan C bs m cs) c (part_of cs c m)
  books_more C bs m [] c = refl
  books_more C bs m (b ∷ cs) c =
      books_more (content_with gives plan C b) (books_with C bs b (part_of [] b m)) (rest_of b m) cs c
      ∙ ap (books_with (content_after gives plan C (b ∷ cs)) (books_after gives plan C bs m (b ∷ cs)) c) (part_later b cs c m)

  module _ (less : K → K → Bool) (first : Content K) (books : List BookState) (calls : List (Call K L)) (kept : List (Answer K)) (old : Memory K) where
    -- content and books as the j-th call finds them
    abbrev content_at : ℕ → Content K
    content_at j = content_after gives plan first (take j calls)

    abbrev books_at : ℕ → List BookState
    books_at j = books_after gives plan first books old (take j calls)

    -- what it makes of its parts
    abbrev makes_lines : ℕ → Call K L → List (Line K) → List (Line K)
    makes_lines j c part = lines_of (content_at j) c part

    abbrev makes_draws : ℕ → Call K L → List ℤ → List ℤ
    makes_draws j c part = draws_of c part

    abbrev makes_lists : ℕ → Call K L → List (Entry K) → List (Entry K)
    makes_lists j c part = lists_of (content_at j) (books_at j) c (part_at own_draws (take j calls) c old.draws) part

    -- i of the calls have been made; the content was `first`, the answers were `kept` and the memory `old`
    record SoFarAs (i : ℕ) (C : Content K) (bs : List BookState) (answers : List (Answer K)) (m : Memory K) (from : Places) : Type 0 where
      content : C ≡ content_at i
      books_are : bs ≡ books_at i
      answered : (j : ℕ) (c : Call K L) → j < i → slice_get calls j ≡ Some c →
          slice_get answers j ≡ Some (answer_of gives plan less (content_at j) (books_at j) c (part_of (take j calls) c old))
      others : drop i answers ≡ drop i kept
      lines : SharedAs own_lines calls makes_lines old.lines i m.lines from.lines
      draws : SharedAs own_draws calls makes_draws old.draws i m.draws from.draws
      lists : SharedAs own_lists calls makes_lists old.lists i m.lists from.lists
      permits : OneEach books bs (count_by gave_list (take i answers))

    -- the same, closed, so that a proof goes on with it as a whole
    pub SoFar : (i : ℕ) (C : Content K) (bs : List BookState) (answers : List (Answer K)) (m : Memory K) (from : Places) → Type 0
    SoFar i C bs answers m from = SoFarAs i C bs answers m from

  pub begun : (less : K → K → Bool) (C : Content K) (bs : List BookState) (calls : List (Call K L)) (answers : List (Answer K)) (m : Memory K) (from : Places) →
      from.lines ≡ 0 → from.draws ≡ 0 → from.lists ≡ 0 → SoFar less C bs calls answers m 0 C bs answers m from
  unfolding SoFar
  begun less C bs calls answers m from a b c = record {
    content = refl;
    books_are = refl;
    answered = λ j c h e. absurd (omega arith);
    others = refl;
    lines = subst (SharedAs own_lines calls (makes_lines less C bs calls answers m) m.lines 0 m.lines) (sym a) (sharing.begun own_lines calls _ m.lines);
    draws = subst (SharedAs own_draws calls (makes_draws less C bs calls answers m) m.draws 0 m.draws) (sym b) (sharing.begun own_draws calls _ m.draws);
    lists = subst (SharedAs own_lists calls (makes_lists less C bs calls answers m) m.lists 0 m.lists) (sym c) (sharing.begun own_lists calls _ m.lists);
    permits = none_moved bs;
  }

  module _ (less : K → K → Bool) (first : Content K) (books : List BookState) (calls : List (Call K L)) (kept : List (Answer K)) (old : Memory K) (i : ℕ)
      (C : Content K) (bs : List BookState) (answers : List (Answer K)) (m : Memory K) (from : Places)
      (s : SoFar less first books calls kept old i C bs answers m from) (call : Call K L) (is : slice_get calls i ≡ Some call) (room : i < length answers)
      (to : Places) (e : Ends call m from to) (D : Content K) (ds : List BookState) (a : Answer K) (n : Memory K)
      (t : Stepped gives plan less call C bs m from to D ds a n) where
    abbrev C_i : Content K
    C_i = content_after gives plan first (take i calls)

    abbrev B_i : List BookState
    B_i = books_after gives plan first books old (take i calls)

    more : take (i + 1) calls ≡ take i calls ++ call ∷ []
    more = take_next calls i call is

    old_draws : cut from.draws to.draws m.draws ≡ part_at own_draws (take i calls) call old.draws
    unfolding SoFar
    old_draws = sharing.old_part own_draws calls _ old.draws i m.draws from.draws s.draws call is to.draws e.draws

    -- the call finds its parts as they were
    found : cut_memory from to m ≡ part_of (take i calls) call old
    unfolding SoFar
    found = memory_same
        (sharing.old_part own_lines calls _ old.lines i m.lines from.lines s.lines call is to.lines e.lines)
        old_draws
        (sharing.old_part own_lists calls _ old.lists i m.lists from.lists s.lists call is to.lists e.lists)

    this : a ≡ answer_of gives plan less C_i B_i call (part_of (take i calls) call old)
    unfolding SoFar Stepped
    this = t.answered ∙ ap (λ X. answer_of gives plan less X bs call (cut_memory from to m)) s.content
        ∙ ap (λ X. answer_of gives plan less C_i X call (cut_memory from to m)) s.books_are
        ∙ ap (answer_of gives plan less C_i B_i call) found

    answered_more : (j : ℕ) (c : Call K L) → j < i + 1 → slice_get calls j ≡ Some c →
        slice_get (slice_set answers i a) j
        ≡ Some (answer_of gives plan less (content_after gives plan first (take j calls)) (books_after gives plan first books old (take j calls)) c (part_of (take j calls) c old))
    unfolding SoFar
    answered_more j c h g = elim (cases (j + 1) i) [
      | inl k ↦ get_others answers i j a (omega arith) ∙ s.answered j c (omega arith) g
      | inr k ↦
          let q : j ≡ i = omega arith in
          let w : Some c ≡ Some call = sym g ∙ ap (slice_get calls) q ∙ is in
          let v : c ≡ call = cc in
          ap (slice_get (slice_set answers i a)) q ∙ get_set answers i a room ∙ ap Some this
          ∙ ap (λ x. Some (answer_of gives plan less C_i B_i x (part_of (take i calls) x old))) (sym v)
          ∙ ap (λ x. Some (answer_of gives plan less (content_after gives plan first (take x calls)) (books_after gives plan first books old (take x calls)) c (part_of (take x calls) c old))) (sym q)
    ]

    recorded : count_by gave_list (take i answers) + cond (gave_list a) 1 0 ≡ count_by gave_list (take (i + 1) (slice_set answers i a))
    recorded = sym (ap (count_by gave_list) (take_set answers i a room) ∙ sum_by_push (λ x. cond (gave_list x) 1 0) (take i answers) a)

    further : SoFar less first books calls kept old (i + 1) D ds (slice_set answers i a) n to
    unfolding SoFar Stepped
    further = record {
      content = t.content ∙ ap (λ X. content_with gives plan X call) s.content ∙ sym (content_more first (take i calls) call) ∙ ap (content_after gives plan first) (sym more);
      books_are = t.books ∙ ap (λ X. books_with X bs call (cut_memory from to m)) s.content ∙ ap (λ X. books_with C_i X call (cut_memory from to m)) s.books_are
          ∙ ap (books_with C_i B_i call) found ∙ sym (books_more first books old (take i calls) call) ∙ ap (books_after gives plan first books old) (sym more);
      answered = answered_more;
      others = drop_set answers kept i a s.others;
      lines = sharing.turned own_lines calls _ old.lines i m.lines from.lines s.lines call is to.lines e.lines _ n.lines t.lines
          (ap (λ X. lines_of X call (cut from.lines to.lines m.lines)) s.content);
      draws = sharing.turned own_draws calls _ old.draws i m.draws from.draws s.draws call is to.draws e.draws _ n.draws t.draws refl;
      lists = sharing.turned own_lists calls _ old.lists i m.lists from.lists s.lists call is to.lists e.lists _ n.lists t.lists
          (ap (λ X. lists_of X bs call (cut from.draws to.draws m.draws) (cut from.lists to.lists m.lists)) s.content
          ∙ ap (λ X. lists_of C_i X call (cut from.draws to.draws m.draws) (cut from.lists to.lists m.lists)) s.books_are
          ∙ ap (λ X. lists_of C_i B_i call X (cut from.lists to.lists m.lists)) old_draws);
      permits = subst (OneEach books ds) recorded
          (one_each_on books bs ds (count_by gave_list (take i answers)) (cond (gave_list a) 1 0) s.permits
          (subst (λ X. OneEach bs X (cond (gave_list a) 1 0)) (sym t.books)
          (subst (λ X. OneEach bs (books_with C bs call (cut_memory from to m)) (cond (gave_list X) 1 0)) (sym t.answered) (by_call gives plan less C bs call (cut_memory from to m)))));
    }

  -- the parts of the next call begin within the memory
  pub from_within : (less : K → K → Bool) (first : Content K) (books : List BookState) (calls : List (Call K L)) (kept : List (Answer K)) (old : Memory K) (i : ℕ)
      (C : Content K) (bs : List BookState) (answers : List (Answer K)) (m : Memory K) (from : Places) → SoFar less first books calls kept old i C bs answers m from → Within m from
  unfolding SoFar
  from_within less first books calls kept old i C bs answers m from s = record {
    lines = sharing.from_within own_lines calls _ old.lines i m.lines from.lines s.lines;
    draws = sharing.from_within own_draws calls _ old.draws i m.draws from.draws s.draws;
    lists = sharing.from_within own_lists calls _ old.lists i m.lists from.lists s.lists;
  }

  pub same_out : (less : K → K → Bool) (first : Content K) (books : List BookState) (calls : List (Call K L)) (kept : List (Answer K)) (old : Memory K) (i : ℕ)
      (C : Content K) (bs : List BookState) (answers : List (Answer K)) (m : Memory K) (from : Places) → SoFar less first books calls kept old i C bs answers m from → all_out bs ≡ all_out books
  unfolding SoFar
  same_out less first books calls kept old i C bs answers m from s = s.permits.out

-- one call more, of the first n
pub turned : {K L : Type 0} (gives : L → RecordValue → Option K) (plan : Plan K) (less : K → K → Bool) (first : Content K) (books : List BookState) (calls : List (Call K L)) (kept : List (Answer K)) (old : Memory K)
    (n i : ℕ) (C : Content K) (bs : List BookState) (answers : List (Answer K)) (m : Memory K) (from : Places) → SoFar gives plan less first books (take n calls) kept old i C bs answers m from →
    (now : Plan K) → now ≡ plan → (call : Call K L) → call ≡ get_or calls i call → i < n → i < length calls → i < length answers →
    (to : Places) → Ends call m from to → (D : Content K) (ds : List BookState) (a : Answer K) (after : Memory K) → Stepped gives now less call C bs m from to D ds a after →
    (answers_after : List (Answer K)) → answers_after ≡ slice_set answers i a → SoFar gives plan less first books (take n calls) kept old (i + 1) D ds answers_after after to
turned gives plan less first books calls kept old n i C bs answers m from s now alike call is below within room to e D ds a after t answers_after recorded =
    subst (λ rs. SoFar gives plan less first books (take n calls) kept old (i + 1) D ds rs after to) (sym recorded)
    (further gives plan less first books (take n calls) kept old i C bs answers m from s call (read_taken calls n i call below within is) room to e D ds a after
    (subst (λ p. Stepped gives p less call C bs m from to D ds a after) alike t))

-- at the end n calls were made
module _ {K L : Type 0} (gives : L → RecordValue → Option K) (less : K → K → Bool) (plan : Plan K) (first : Content K) (books : List BookState) (calls : List (Call K L)) (kept : List (Answer K)) (old : Memory K)
    (n i : ℕ) (C : Content K) (bs : List BookState) (answers : List (Answer K)) (m : Memory K) (from : Places)
    (s : SoFar gives plan less first books (take n calls) kept old i C bs answers m from) (end : n ≤ i) where
  all : take i (take n calls) ≡ take n calls
  all = take_all i (take n calls) (omega (arith, length-take n calls))

  pub others_left : i ≤ n → drop n answers ≡ drop n kept
  unfolding SoFar
  others_left h = let e : i ≡ n = omega arith in subst (λ t. drop t answers ≡ drop t kept) e s.others

  pub ended : TotalOrder less → Lawful less plan → i ≤ n → Run gives plan less first books (take n calls) C bs (take n answers) old m
  unfolding SoFar
  ended order lawful h = record {
    points = run_points gives less order plan lawful first (take n calls);
    made = λ j c e.
        let within : j < n = omega (arith, slice_get_within (take n calls) j c e, length-take n calls) in
        record {
          answered = get_taken answers n j within ∙ s.answered j c (omega arith) e;
          written = memory_same (s.lines.made j c (omega arith) e) (s.draws.made j c (omega arith) e) (s.lists.made j c (omega arith) e);
        };
    ends = last_content;
    books = s.books_are ∙ ap (books_after gives plan first books old) all;
    last = λ es e q. subst (Point less plan (entries_after gives plan es (take n calls))) (sym last_content) (points_after gives less order plan lawful (take n calls) first es e q);
    rest = memory_same
        (subst (λ cs. drop (begins own_lines cs) m.lines ≡ drop (begins own_lines cs) old.lines) all s.lines.rest)
        (subst (λ cs. drop (begins own_draws cs) m.draws ≡ drop (begins own_draws cs) old.draws) all s.draws.rest)
        (subst (λ cs. drop (begins own_lists cs) m.lists ≡ drop (begins own_lists cs) old.lists) all s.lists.rest);
    permits = let e : i ≡ n = omega arith in subst (λ t. OneEach books bs (count_by gave_list (take t answers))) e s.permits;
  }
    where
      last_content : C ≡ content_after gives plan first (take n calls)
      last_content = s.content ∙ ap (content_after gives plan first) all
