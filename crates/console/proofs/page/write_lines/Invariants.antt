-- After i turns the output begins with the first i lines.
use Rattle.std.proofs.Common.{◌≡◌, ◌≤◌, length}
use Rattle.console.specs.Pages.{shown_line}
use Rattle.console.proofs.Copying.{Copied}
use Rattle.console.proofs.page.write_lines.Given as goal

abbrev pub invariant-loop-i : goal.invariant-loop-i
invariant-loop-i g l = record {
  within : l.i ≤ length l.found;
  long : length l.lines ≡ length l.initial.lines;
  so_far : Copied (shown_line g.K.Shown.as_parts) l.found l.initial.lines l.lines l.i;
}
