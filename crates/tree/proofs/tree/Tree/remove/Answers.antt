use Rattle.tree.proofs.Trees.{remove_within, remove_some, kept_others, kept_arranged, absent_entries, absent_lookups, removed_entries, removed_lookups, removed_others, removed_arranged}
use Rattle.tree.proofs.tree.Tree.remove.Goals as goal

pub returns-in_err-removed-clause-entries : goal.returns-in_err-removed-clause-entries
returns-in_err-removed-clause-entries g c = absent_entries _ _ _ _ _ c.self.invariant _ c.self.view_is _ c.in_err-removed.ensures.1 _ c.in_err-removed.ensures.0

pub returns-in_err-removed-clause-lookups : goal.returns-in_err-removed-clause-lookups
returns-in_err-removed-clause-lookups g c = absent_lookups _ _ _ _ _ c.self.invariant _ c.self.view_is _ c.in_err-removed.ensures.1 _ c.in_err-removed.ensures.0

pub returns-in_err-removed-clause-others : goal.returns-in_err-removed-clause-others
returns-in_err-removed-clause-others g c = kept_others _ _ _ _ _ c.self.invariant _ c.self.view_is _ c.in_err-removed.ensures.1

pub returns-in_err-removed-clause-arranged : goal.returns-in_err-removed-clause-arranged
returns-in_err-removed-clause-arranged g c = kept_arranged _ _ _ _ _ c.self.invariant _ c.self.view_is _ c.in_err-removed.ensures.1

pub returns-clause-entries : goal.returns-clause-entries
returns-clause-entries g c = removed_entries _ _ _ _ _ c.self.invariant _ c.self.view_is _ _ _ _ c.in_ok-removed.ensures.0 c.in_ok-removed.ensures.1

pub returns-clause-lookups : goal.returns-clause-lookups
returns-clause-lookups g c = removed_lookups _ _ _ _ _ c.self.invariant _ c.self.view_is _ _ _ _ c.in_ok-removed.ensures.0 c.in_ok-removed.ensures.1

pub returns-clause-others : goal.returns-clause-others
returns-clause-others g c = removed_others _ _ _ _ _ c.self.invariant _ c.self.view_is _ _ _ _ c.in_ok-removed.ensures.0 c.in_ok-removed.ensures.1

pub returns-clause-arranged : goal.returns-clause-arranged
returns-clause-arranged g c = removed_arranged _ _ _ _ _ c.self.invariant _ c.self.view_is _ _ _ _ c.in_ok-removed.ensures.0 c.in_ok-removed.ensures.1

pub bounds-self-inside-freed : goal.bounds-self-inside-freed
bounds-self-inside-freed g c = remove_within _ _ _ _ _ _ _ _ _ c.self.invariant c.in_ok-removed.ensures.0 c.in_ok-removed.ensures.1

pub overflow_sub-self : goal.overflow_sub-self
overflow_sub-self g c = remove_some _ _ _ _ _ _ _ _ _ c.self.invariant c.in_ok-removed.ensures.0 c.in_ok-removed.ensures.1
