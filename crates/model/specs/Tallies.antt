-- The tally's plan: a count for each of the first k event kinds.
use Rattle.std.specs.Prelude.{◌≡◌, ℕ, zero, suc, ◌≤◌, false, List, [], ◌∷◌, Some, None, Option, nat_lt}
use Rattle.keys.specs.Helds.{less_held}
use Rattle.keys.specs.Values.{event_of}
use Rattle.keys.specs.KindOrders.{less_event}
use Rattle.keys.specs.declared.event.EventKind.{EventKind}
use Rattle.keys.specs.declared.held.Held.{Held}
use Rattle.keys.specs.declared.held.Held.TheVariants.{Real, Dummy}
use Rattle.model.specs.Contents.{Counts, holds, count_of}
use Rattle.model.specs.Plans.{Plan, after, Entries, one_more, raised}
use Rattle.model.specs.Laws.{entries_of, Lawful}

-- an event kind at 0, if there is one, before other keys
abbrev pub at_zero_before : Option EventKind → Counts (Held EventKind) → Counts (Held EventKind)
at_zero_before (Some e) h = (Real e, 0) ∷ h
at_zero_before None h = h

-- n event kinds at 0, numbered from j
abbrev pub kinds_from : (j n : ℕ) → Counts (Held EventKind)
kinds_from j zero = []
kinds_from j (suc n) = at_zero_before (event_of j) (kinds_from (suc j) n)

-- a tally of k kinds holds kinds 0 to k - 1 from the start, admits only these, and raises what it takes
abbrev pub tally : (k : ℕ) → Plan EventKind
tally k = record {
  fresh = record { k = k; n = 0; l = 0; held = kinds_from 0 k };
  admits = λ e. nat_lt e.number k;
  rule = λ C e. one_more C C.l (raised (less_held less_event) (Real e) C.held);
}

-- what a tally of k kinds holds after these entries: kinds 0 to k - 1, each counted exactly
pub record TallyCounts (k : ℕ) (es : List EventKind) : Type 0 where
  pub kinds : (e : EventKind) → holds less_event (after (tally k) es) (Real e) ≡ nat_lt e.number k
  pub no_dummies : (j : ℕ) → holds less_event (after (tally k) es) (Dummy j) ≡ false
  pub exact : (e : EventKind) → count_of less_event (after (tally k) es) (Real e) ≡ entries_of less_event es e
  pub never_lowered : (after (tally k) es).l ≡ 0

-- the laws of a tally of k kinds, and what it holds after any entries that it can take
pub record TallyKeeps (k : ℕ) : Type 0 where
  pub laws : Lawful less_event (tally k)
  pub counts : (es : List EventKind) → Entries (tally k) es → TallyCounts k es

-- the tally keeps the four laws and counts exactly, for as many kinds as there are
abbrev pub TallyLaws : Type 0
TallyLaws = (k : ℕ) → k ≤ 64 → TallyKeeps k
