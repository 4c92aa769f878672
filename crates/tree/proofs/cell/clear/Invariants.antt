use Rattle.std.proofs.Common.{◌≡◌, ◌++◌, replicate, drop}
use Rattle.tree.specs.declared.cell.Cell.TheVariants.{Blank}
use Rattle.tree.proofs.cell.clear.Given as goal

abbrev pub invariant-loop-i : goal.invariant-loop-i
invariant-loop-i g l = l.cells ≡ replicate l.i Blank ++ drop l.i l.initial.cells
