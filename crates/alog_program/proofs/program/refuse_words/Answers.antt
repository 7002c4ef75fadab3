use Rattle.std.proofs.Common.{inr, refl}
use Rattle.std.proofs.KnownBytes.{Keeps-refl}
use Rattle.alog_program.proofs.program.refuse_words.Goals as goal

pub returns-in-Value-clause-refused : goal.returns-in-Value-clause-refused
returns-in-Value-clause-refused g c = rw c.in-Value.is (refl, Keeps-refl (g.O.Write.contents c.args.output.now))

pub returns-in-LoadValue-clause-refused : goal.returns-in-LoadValue-clause-refused
returns-in-LoadValue-clause-refused g c = rw c.in-LoadValue.is (refl, Keeps-refl (g.O.Write.contents c.args.output.now))

pub returns-in-Clap-clause-refused : goal.returns-in-Clap-clause-refused
returns-in-Clap-clause-refused g c = rw c.in-Clap.is (c.explain.ensures.memory, λ four. c.explain.ensures.unwritten (inr four))
