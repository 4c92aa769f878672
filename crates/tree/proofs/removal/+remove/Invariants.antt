use Rattle.tree.specs.Shapes.{shape_at, size}
use Rattle.tree.proofs.removal.+remove.Given as goal

abbrev pub decreases-remove : goal.decreases-remove
decreases-remove g l = size (shape_at l.cells.now l.link)
