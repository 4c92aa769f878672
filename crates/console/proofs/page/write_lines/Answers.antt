-- A turn writes one line more.
use Rattle.std.proofs.Common.{◌+◌, slice_set, subst, sym, arith, rules}
use Rattle.console.specs.Pages.{shown_line}
use Rattle.console.proofs.Copying.{Copied, one_copied}
use Rattle.console.proofs.page.write_lines.Goals as goal

pub loop-i-preserved : goal.loop-i-preserved
loop-i-preserved g c =
    let found = c.args.found.now in
    let old = c.args.lines.now in
    let f = shown_line g.K.Shown.as_parts in
    let one = one_copied f found old c.loop-i.lines c.loop-i.i c.index-found-i.result c.loop-i.invariant.so_far c.loop-i-test.true c.index-found-i.is c.requires in
    record {
      within = omega (arith, c.loop-i-test.true);
      long = search rules;
      so_far = subst (λ y. Copied f found old (slice_set c.loop-i.lines c.loop-i.i y) (c.loop-i.i + 1)) (sym c.shown_line.ensures) one;
    }
