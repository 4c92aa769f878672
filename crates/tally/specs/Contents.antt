-- The content of a tally, from its numbers.
use Rattle.std.specs.Prelude.{ℕ, List, map}
use Rattle.std.specs.List.{zip}
use Rattle.keys.specs.declared.event.EventKind.{EventKind}
use Rattle.keys.specs.declared.held.Held.{Held}
use Rattle.model.specs.Contents.{Counts, Content}
use Rattle.model.specs.Tallies.{kinds_from}

-- the kinds 0 to k - 1, each beside its count
abbrev pub counted : (k : ℕ) → List ℕ → Counts (Held EventKind)
counted k counts = zip (map (λ (e : Held EventKind × ℕ). e.0) (kinds_from 0 k)) counts

-- k kinds held, n entries taken, and no lowering
abbrev pub content_of : (k n : ℕ) → List ℕ → Content EventKind
content_of k n counts = record { k = k; n = n; l = 0; held = counted k counts }
