use Rattle.tree.proofs.Cells.{not_blank, opened_read}
use Rattle.tree.proofs.cell.node_at.Goals as goal

pub unreachable-requires : goal.unreachable-requires
unreachable-requires g c = not_blank _ _ _ c.requires c.index-cells-at.is c.in_default.is

pub returns : goal.returns
returns g c = opened_read _ _ _ _ c.requires c.index-cells-at.is c.in-Used.is
