-- Each field is rewritten as its part of the line.
use Rattle.std.proofs.Common.{codes, ap}
use Rattle.dump.specs.Lines.{flight_part}
use Rattle.dump.proofs.Texts.{number_printed, source_printed, same_bytes}
use Rattle.dump.proofs.lines.RecordLineDisplay.fmt.Goals as goal

pub returns-clause-writes : goal.returns-clause-writes
returns-clause-writes g c =
    let r = c.args.self.now.given in
    let source = source_printed r.source c.map.result c.map.ensures.cases in
    let flight = ap flight_part (same_bytes r.flight c.map-2.result c.map-2.ensures.cases) in
    rw (number_printed (codes "time") r.time, number_printed (codes "kind") r.kind, number_printed (codes "console") r.console, source, flight)
    at c.writeln.ensures.writes
