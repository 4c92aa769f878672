use Rattle.tree.specs.Shapes.{shape_at, size}
use Rattle.tree.proofs.search.+find.Given as goal

abbrev pub decreases-find : goal.decreases-find
decreases-find g l = size (shape_at l.cells.now l.link)
