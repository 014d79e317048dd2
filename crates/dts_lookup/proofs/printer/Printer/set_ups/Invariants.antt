use Rattle.std.proofs.Common.{length}
use Rattle.dts_lookup.proofs.printer.Printer.set_ups.Given as goal

-- one line less with each that is printed
abbrev pub decreases-loop-self : goal.decreases-loop-self
decreases-loop-self l = length l.self.lines.now
