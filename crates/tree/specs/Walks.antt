-- Where a walk to the j-th node of a tree ends. No contract of a public call names this.
use Rattle.std.specs.Prelude.{◌≡◌, ℕ, ◌+◌, ◌<◌, Some}
use Rattle.tree.specs.declared.walking.Walk.{Walk}
use Rattle.tree.specs.declared.walking.Walk.TheVariants.{At, Past}
use Rattle.tree.specs.Shapes.{Shape, size}
use Rattle.tree.specs.Operations.{place}

-- at the j-th node; or past all nodes, with as many places left as j is more than their number
abbrev pub IsPlace : {K V : Type 0} → Shape K V → ℕ → Walk K V → Type 0
IsPlace t j (At n) = (j < size t) × (place j t ≡ Some (n.now.key, n.now.value))
IsPlace t j (Past more) = j ≡ size t + more
