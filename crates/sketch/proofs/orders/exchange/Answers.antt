-- The cell that was freed takes the other key.
use Rattle.std.proofs.Common.{sym, ◌∙◌, arith}
use Rattle.sketch.proofs.Exchanging.{freed_ok}
use Rattle.sketch.proofs.orders.exchange.Goals as goal

pub unwrap-requires : goal.unwrap-requires
unwrap-requires g c =
    let r = c.remove.ensures in
    freed_ok _ c.args.tree.now _ c.args.old.now c.args.new c.in-Some.freed c.insert.result c.requires.arranged (sym r.freed ∙ c.in-Some.is) r.entries r.others r.arranged
    (grind (arith, r.lookups c.args.new)) c.insert.ensures.answer
