use Rattle.tree.specs.Shapes.{shape_at, size}
use Rattle.tree.proofs.walking.+walk_to.Given as goal

abbrev pub decreases-walk_to : goal.decreases-walk_to
decreases-walk_to g l = size (shape_at l.cells.now l.link)
