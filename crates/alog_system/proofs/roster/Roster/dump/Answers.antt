use Rattle.std.proofs.Common.{◌≡◌, ◌<◌, length, sym, ap, subst, ◌∙◌}
use Rattle.alog_system.specs.Roster.{RosterView, emptied, backtrace_at}
use Rattle.alog_system.proofs.Rooms.{Dumping, lent_most, dumped_whole, dumped_emptied}
use Rattle.alog_system.proofs.roster.Roster.dump.Goals as goal

pub take-requires : goal.take-requires
take-requires c =
    let i = c.self.inside in
    let r : RosterView = record { loggers = i.loggers; levels = i.levels.items; kept = i.kept.items } in
    let d : Dumping r c.logger-number.result c.args.dump.logger c.index_mut.result.now c.index_mut.result.now c.args.dump.most =
    record { whole = c.self.invariant; same = c.logger-number.ensures; lent_is = c.index_mut.ensures.value; most_is = subst (λ (v : RosterView). c.args.dump.most ≡ backtrace_at v c.args.dump.logger) (sym c.self.view_is) c.requires.room; there = subst (λ (v : RosterView). c.args.dump.logger < length v.loggers) (sym c.self.view_is) c.requires.known } in
    lent_most d

pub invariant_of-self : goal.invariant_of-self
invariant_of-self c =
    let i = c.self.inside in
    let r : RosterView = record { loggers = i.loggers; levels = i.levels.items; kept = i.kept.items } in
    let d : Dumping r c.logger-number.result c.args.dump.logger c.index_mut.result.now c.take.new.backtrace c.args.dump.most =
    record { whole = c.self.invariant; same = c.logger-number.ensures; lent_is = c.index_mut.ensures.value; most_is = subst (λ (v : RosterView). c.args.dump.most ≡ backtrace_at v c.args.dump.logger) (sym c.self.view_is) c.requires.room; there = subst (λ (v : RosterView). c.args.dump.logger < length v.loggers) (sym c.self.view_is) c.requires.known } in
    dumped_whole d c.take.ensures.emptied

pub returns-clause-emptied : goal.returns-clause-emptied
returns-clause-emptied c =
    let i = c.self.inside in
    let r : RosterView = record { loggers = i.loggers; levels = i.levels.items; kept = i.kept.items } in
    let d : Dumping r c.logger-number.result c.args.dump.logger c.index_mut.result.now c.take.new.backtrace c.args.dump.most =
    record { whole = c.self.invariant; same = c.logger-number.ensures; lent_is = c.index_mut.ensures.value; most_is = subst (λ (v : RosterView). c.args.dump.most ≡ backtrace_at v c.args.dump.logger) (sym c.self.view_is) c.requires.room; there = subst (λ (v : RosterView). c.args.dump.logger < length v.loggers) (sym c.self.view_is) c.requires.known } in
    dumped_emptied d c.take.ensures.emptied ∙ ap (λ v. emptied v c.args.dump.logger) c.self.view_is
