use Rattle.std.proofs.Common.{◌<◌, length, rules}
use Rattle.std.proofs.lemmas.Option.{slice_get_within}
use Rattle.tree.proofs.insertion.+insert.Goals as goal

pub offset_bounds-cells-at : goal.offset_bounds-cells-at
offset_bounds-cells-at g t c = let within : c.args.at < length c.args.cells.now = slice_get_within _ _ _ c.requires.blank in search rules

pub bounds-cells-at : goal.bounds-cells-at
bounds-cells-at g t c = slice_get_within _ _ _ c.requires.blank
