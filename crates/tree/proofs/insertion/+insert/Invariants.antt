use Rattle.tree.specs.Shapes.{shape_at, size}
use Rattle.tree.proofs.insertion.+insert.Given as goal

abbrev pub decreases-insert : goal.decreases-insert
decreases-insert g l = size (shape_at l.cells.now l.link)
