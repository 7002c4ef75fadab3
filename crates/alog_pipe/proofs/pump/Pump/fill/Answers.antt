use Rattle.std.proofs.Common.{List, ℕ, Option, subst}
use Rattle.alog_lines.specs.Cutting.{Reads}
use Rattle.alog_pipe.proofs.pump.Pump.fill.Goals as goal

pub returns-clause-read : goal.returns-clause-read
returns-clause-read g c =
    subst (λ (r : Option (List ℕ)). Reads r (g.I.Read.remaining c.fill.new.reader) c.args.self.now.lines c.fill.new.self)
    c.set_read_timeout.ensures.given c.fill.ensures.read
