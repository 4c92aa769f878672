use Rattle.tree.proofs.Trees.{changed_entries, changed_lookups, changed_others, changed_arranged}
use Rattle.tree.proofs.tree.Tree.change.Goals as goal

pub returns-clause-entries : goal.returns-clause-entries
returns-clause-entries g c = changed_entries _ _ _ _ _ c.self.invariant _ c.self.view_is _ _ _ c.change.ensures.2

pub returns-clause-lookups : goal.returns-clause-lookups
returns-clause-lookups g c = changed_lookups _ _ _ _ _ c.self.invariant _ c.self.view_is _ _ _ c.change.ensures.2

pub returns-clause-others : goal.returns-clause-others
returns-clause-others g c = changed_others _ _ _ _ _ c.self.invariant _ c.self.view_is _ _ _ c.change.ensures.2

pub returns-clause-arranged : goal.returns-clause-arranged
returns-clause-arranged g c = changed_arranged _ _ _ _ _ c.self.invariant _ c.self.view_is _ _ _ c.change.ensures.2
