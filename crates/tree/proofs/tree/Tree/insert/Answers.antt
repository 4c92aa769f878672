use Rattle.tree.proofs.Trees.{old_arranged, kept_others, kept_arranged, inserted_entries, inserted_lookups, inserted_others, inserted_arranged}
use Rattle.tree.proofs.tree.Tree.insert.Goals as goal

pub returns-then-not-is_free-clause-arranged : goal.returns-then-not-is_free-clause-arranged
returns-then-not-is_free-clause-arranged g c = old_arranged _ _ _ _ _ c.self.invariant _ c.self.view_is

pub returns-in_default-clause-others : goal.returns-in_default-clause-others
returns-in_default-clause-others g c = kept_others _ _ _ _ _ c.self.invariant _ c.self.view_is _ c.in_default.ensures.1

pub returns-in_default-clause-arranged : goal.returns-in_default-clause-arranged
returns-in_default-clause-arranged g c = kept_arranged _ _ _ _ _ c.self.invariant _ c.self.view_is _ c.in_default.ensures.1

pub returns-clause-entries : goal.returns-clause-entries
returns-clause-entries g c = inserted_entries _ _ _ _ _ c.self.invariant _ c.self.view_is _ _ _ _ _ c.if-not-is_free.ensures c.in-Some.ensures.0 c.in-Some.ensures.1

pub returns-clause-lookups : goal.returns-clause-lookups
returns-clause-lookups g c = inserted_lookups _ _ _ _ _ c.self.invariant _ c.self.view_is _ _ _ _ _ c.if-not-is_free.ensures c.in-Some.ensures.0 c.in-Some.ensures.1

pub returns-clause-others : goal.returns-clause-others
returns-clause-others g c = inserted_others _ _ _ _ _ c.self.invariant _ c.self.view_is _ _ _ _ _ c.if-not-is_free.ensures c.in-Some.ensures.0 c.in-Some.ensures.1

pub returns-clause-arranged : goal.returns-clause-arranged
returns-clause-arranged g c = inserted_arranged _ _ _ _ _ c.self.invariant _ c.self.view_is _ _ _ _ _ c.if-not-is_free.ensures c.in-Some.ensures.0 c.in-Some.ensures.1
