use Rattle.std.proofs.Common.{Some}
use Rattle.tree.specs.Shapes.{shape_at, size}
use Rattle.tree.proofs.removal.+take_first.Given as goal

abbrev pub decreases-take_first : goal.decreases-take_first
decreases-take_first g l = size (shape_at l.cells.now (Some l.root))
