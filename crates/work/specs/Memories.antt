-- The memory that the calls of a run share, and the parts that they have of it.
use Rattle.std.specs.Prelude.{◌≡◌, ℕ, List, take, drop, ℤ}
use Rattle.std.specs.List.{sum_by}
use Rattle.pages.specs.declared.line.Line.{Line}
use Rattle.release.specs.declared.entry.Entry.{Entry}
use Rattle.work.specs.declared.buffers.Buffers.{Buffers}
use Rattle.work.specs.declared.call.Call.{Call}
use Rattle.work.specs.declared.call.Call.TheVariants as call

-- memory for pages, for draws, and for lists: all of it, or a part
pub record Memory (K : Type 0) : Type 0 where
  pub lines : List (Line K)
  pub draws : List ℤ
  pub lists : List (Entry K)

-- memory by its three parts
abbrev pub memory : {K : Type 0} → List (Line K) → List ℤ → List (Entry K) → Memory K
memory lines draws lists = record { lines = lines; draws = draws; lists = lists }

-- what buffers hold
abbrev pub memory_of : {K : Type 0} → Buffers K → Memory K
memory_of b = memory b.lines.now b.draws.now b.lists.now

-- that they are still the same places in memory, whatever they hold
abbrev pub SameBuffers : {K : Type 0} (a b : Buffers K) → Type 0
SameBuffers a b = (b.lines.ghost_name ≡ a.lines.ghost_name) × (b.draws.ghost_name ≡ a.draws.ghost_name) × (b.lists.ghost_name ≡ a.lists.ghost_name)

module _ {K L : Type 0} where
  -- how many lines a call has for itself
  abbrev pub own_lines : Call K L → ℕ
  own_lines (call.Take x) = 0
  own_lines (call.Feed f) = 0
  own_lines (call.Count x) = 0
  own_lines (call.Place j) = 0
  own_lines call.Facts = 0
  own_lines (call.Page limit lines) = lines
  own_lines (call.Release r) = 0

  -- how many draws
  abbrev pub own_draws : Call K L → ℕ
  own_draws (call.Take x) = 0
  own_draws (call.Feed f) = 0
  own_draws (call.Count x) = 0
  own_draws (call.Place j) = 0
  own_draws call.Facts = 0
  own_draws (call.Page limit lines) = 0
  own_draws (call.Release r) = r.draws

  -- how many entries for a list
  abbrev pub own_lists : Call K L → ℕ
  own_lists (call.Take x) = 0
  own_lists (call.Feed f) = 0
  own_lists (call.Count x) = 0
  own_lists (call.Place j) = 0
  own_lists call.Facts = 0
  own_lists (call.Page limit lines) = 0
  own_lists (call.Release r) = r.entries

  -- where the part of the next call begins, where each call has `own` of it
  abbrev pub begins : (own : Call K L → ℕ) → List (Call K L) → ℕ
  begins own calls = sum_by own calls

  -- the part of the call c that comes after these calls; it is cut where the memory ends
  abbrev pub part_at : {X : Type 0} (own : Call K L → ℕ) → List (Call K L) → Call K L → List X → List X
  part_at own before c items = take (own c) (drop (begins own before) items)

  -- its parts of all memory
  abbrev pub part_of : List (Call K L) → Call K L → Memory K → Memory K
  part_of before c m = memory (part_at own_lines before c m.lines) (part_at own_draws before c m.draws) (part_at own_lists before c m.lists)

  -- what lies beyond the parts of these calls
  abbrev pub beyond : List (Call K L) → Memory K → Memory K
  beyond calls m = memory (drop (begins own_lines calls) m.lines) (drop (begins own_draws calls) m.draws) (drop (begins own_lists calls) m.lists)
