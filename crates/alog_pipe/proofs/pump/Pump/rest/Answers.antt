use Rattle.std.proofs.Common.{ℤ, subst, w64, FitsSigned, rules}
use Rattle.std.proofs.lemmas.Int.{to_z-of_z}
use Rattle.alog_pipe.proofs.Logging.{tried}
use Rattle.alog_pipe.specs.Piped.{TriesToTell}
use Rattle.alog_pipe.proofs.pump.Pump.rest.Goals as goal

pub returns-clause-tries : goal.returns-clause-tries
returns-clause-tries g c =
    let fits : FitsSigned w64 c.args.self.now.time = search rules in
    subst (λ (time : ℤ). TriesToTell time c.args.self.now.log c.tell_hole.new.self) (to_z-of_z w64 c.args.self.now.time fits)
    (tried c.tell_hole.result c.tell_hole.ensures.tells)
