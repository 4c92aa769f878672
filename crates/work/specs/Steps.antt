-- One call of a run: what the private functions that make it promise each other.
use Rattle.std.specs.Prelude.{◌≡◌, ℕ, ◌+◌, ◌-◌, ◌≤◌, min, Bool, List, ◌++◌, length, take, drop, Option}
use Rattle.records.specs.Values.{RecordValue}
use Rattle.model.specs.Contents.{Content}
use Rattle.model.specs.Plans.{Plan}
use Rattle.release.specs.Books.{BookState}
use Rattle.work.specs.declared.buffers.Places.{Places}
use Rattle.work.specs.declared.call.Call.{Call}
use Rattle.work.specs.declared.call.Answer.{Answer}
use Rattle.work.specs.Memories.{Memory, memory, own_lines, own_draws, own_lists}
use Rattle.work.specs.Calls.{content_with, books_with, answer_of, lines_of, draws_of, lists_of}

-- two places in a list, one after the other
abbrev pub Between : {X : Type 0} (from to : ℕ) → List X → Type 0
Between from to items = (from ≤ to) × (to ≤ length items)

-- the items from one place to another
abbrev pub cut : {X : Type 0} (from to : ℕ) → List X → List X
cut from to items = take (to - from) (drop from items)

-- items with these in the place of those
abbrev pub put : {X : Type 0} (from to : ℕ) (part items : List X) → List X
put from to part items = take from items ++ (part ++ drop to items)

-- the parts of all memory from one place to another
abbrev pub cut_memory : {K : Type 0} (from to : Places) → Memory K → Memory K
cut_memory from to m = memory (cut from.lines to.lines m.lines) (cut from.draws to.draws m.draws) (cut from.lists to.lists m.lists)

-- memory in which `part`, as long as what was there, stands from one place to another
pub record Rewritten {X : Type 0} (from to : ℕ) (part items after : List X) : Type 0 where
  pub written : after ≡ put from to part items
  pub long : length part ≡ to - from

-- places within the memory
pub record Within {K : Type 0} (m : Memory K) (at : Places) : Type 0 where
  pub lines : at.lines ≤ length m.lines
  pub draws : at.draws ≤ length m.draws
  pub lists : at.lists ≤ length m.lists

module _ {K L : Type 0} where
  -- where the parts of a call end that begin at these places
  pub record Ends (call : Call K L) (m : Memory K) (from to : Places) : Type 0 where
    pub lines : to.lines ≡ min (own_lines call + from.lines) (length m.lines)
    pub draws : to.draws ≡ min (own_draws call + from.draws) (length m.draws)
    pub lists : to.lists ≡ min (own_lists call + from.lists) (length m.lists)

module _ {K L : Type 0} (gives : L → RecordValue → Option K) (plan : Plan K) (less : K → K → Bool) (call : Call K L) where
  -- the call is made at the content C with these books and the parts of the memory from one place to another
  pub record SteppedAs (C : Content K) (bs : List BookState) (m : Memory K) (from to : Places) (D : Content K) (ds : List BookState) (a : Answer K) (n : Memory K) : Type 0 where
    pub content : D ≡ content_with gives plan C call
    pub books : ds ≡ books_with C bs call (cut_memory from to m)
    pub answered : a ≡ answer_of gives plan less C bs call (cut_memory from to m)
    pub lines : Rewritten from.lines to.lines (lines_of C call (cut from.lines to.lines m.lines)) m.lines n.lines
    pub draws : Rewritten from.draws to.draws (draws_of call (cut from.draws to.draws m.draws)) m.draws n.draws
    pub lists : Rewritten from.lists to.lists (lists_of C bs call (cut from.draws to.draws m.draws) (cut from.lists to.lists m.lists)) m.lists n.lists

  -- the same, closed, so that a proof goes on with it as a whole
  unfoldable pub Stepped : (C : Content K) (bs : List BookState) (m : Memory K) (from to : Places) (D : Content K) (ds : List BookState) (a : Answer K) (n : Memory K) → Type 0
  Stepped C bs m from to D ds a n = SteppedAs C bs m from to D ds a n
