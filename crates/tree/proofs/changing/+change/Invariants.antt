use Rattle.tree.specs.Shapes.{shape_at, size}
use Rattle.tree.proofs.changing.+change.Given as goal

abbrev pub decreases-change : goal.decreases-change
decreases-change g l = size (shape_at l.cells.now l.link)
