-- The draws so far are in range.
use Rattle.std.proofs.Common.{◌≡◌, true, take}
use Rattle.std.specs.List.{list_all}
use Rattle.release.specs.Draws.{draw_in_range}
use Rattle.release.proofs.draws.all_in_range.Given as goal

abbrev pub invariant-loop-draw : goal.invariant-loop-draw
invariant-loop-draw l = list_all draw_in_range (take l.draw-index l.draws) ≡ true
