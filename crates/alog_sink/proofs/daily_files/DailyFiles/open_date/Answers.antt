use Rattle.std.proofs.Common.{◌≡◌, ◌∙◌, Ok, false, List, [], ◌∷◌, ◌++◌, length, map, refl, ap, sym, subst, arith}
use Rattle.std.specs.List.{All}
use Rattle.circular_buffer.specs.Buffer.{Buffer, keep_last}
use Rattle.alog_sink.specs.Daily.{is_last, last_name}
use Rattle.alog_sink.specs.DailyFiles.{Days, names_known, with_opened}
use Rattle.alog_sink.specs.Deeds.{Deed, all_done}
use Rattle.alog_sink.specs.Files.{AreSame}
use Rattle.alog_sink.specs.Names.{IsDate, dated}
use Rattle.alog_sink.specs.declared.names.Date.{Date}
use Rattle.alog_sink.specs.declared.store.StoreError.{StoreError}
use Rattle.alog_sink.specs.contracts.daily_files.DailyFiles.{the_view}
use Rattle.alog_sink.proofs.DailyPut.{more_opened, more_last, more_few, more_dates, way_behind, way_of_last}
use Rattle.alog_sink.proofs.daily_files.DailyFiles.open_date.Goals as goal

pub returns-then-is_last-clause-done : goal.returns-then-is_last-clause-done
returns-then-is_last-clause-done g c = λ tells.
    let d = c.args.self.now in
    subst (λ (deeds : List Deed). AreSame (all_done deeds (g.S.Store.files c.args.store.now)) (g.S.Store.files c.args.store.now))
    (sym (way_of_last d (dated d.limits.file c.args.date) (sym c.is_last.ensures.last ∙ c.if-is_last.true))) (λ n. refl)

pub returns-then-is_last-clause-opened : goal.returns-then-is_last-clause-opened
returns-then-is_last-clause-opened g c =
    let d = c.args.self.now in
    ap (λ ns. record { limits = d.limits; latest = d.latest; names = ns }) (c.is_last.ensures.again c.if-is_last.true)

pub invariant_of-self : goal.invariant_of-self
invariant_of-self g c =
    let i = c.self.inside in
    let items : c.push_back.new.self.items ≡ keep_last (names_known i.max_files) (i.dates.items ++ c.args.date ∷ []) =
    ap (λ (b : Buffer Date). b.items) c.push_back.ensures.items
    ∙ ap (λ n. keep_last n (i.dates.items ++ c.args.date ∷ [])) c.self.invariant.3 in
    let capacity : c.push_back.new.self.capacity ≡ names_known i.max_files =
    ap (λ (b : Buffer Date). b.capacity) c.push_back.ensures.items ∙ c.self.invariant.3 in (
      c.write_dated.ensures.name ∙ (ap (λ f. dated f c.args.date) c.as_str.ensures
          ∙ (sym (more_last i.file i.max_files i.dates.items c.args.date) ∙ ap (λ ds. last_name (map (dated i.file) ds)) (sym items))),
      omega (arith, c.self.invariant.1, c.write_dated.ensures.room),
      c.self.invariant.2,
      capacity,
      omega (arith, capacity, ap length items, more_few i.file i.max_files i.dates.items c.args.date),
      subst (All IsDate) (sym items) (more_dates i.file i.max_files i.dates.items c.args.date c.self.invariant.5 c.requires),
    )

pub returns-clause-done : goal.returns-clause-done
returns-clause-done g c = λ tells.
    let d = c.args.self.now in
    way_behind {A = Unit {0}} {E = StoreError} (Ok tt) d (dated d.limits.file c.args.date) (sym c.is_last.ensures.last ∙ c.if-is_last.false)
    (g.S.Store.files c.args.store.now) (g.S.Store.files c.leave.new.store) (g.S.Store.files c.make_way.new.store)
    (c.in_ok-leave.ensures.same tells) (c.in_ok-make_way.ensures.done tells)

pub returns-clause-opened : goal.returns-clause-opened
returns-clause-opened g c =
    let i = c.self.inside in
    let items : c.push_back.new.self.items ≡ keep_last (names_known i.max_files) (i.dates.items ++ c.args.date ∷ []) =
    ap (λ (b : Buffer Date). b.items) c.push_back.ensures.items
    ∙ ap (λ n. keep_last n (i.dates.items ++ c.args.date ∷ [])) c.self.invariant.3 in
    let after : Days = record {
      limits = (the_view i).limits;
      latest = (the_view i).latest;
      names = map (dated i.file) c.push_back.new.self.items;
    } in
    let P : Days → Type 0 = λ d. is_last (dated d.limits.file c.args.date) d.names ≡ false
    → after ≡ record {
      limits = d.limits;
      latest = d.latest;
      names = with_opened d.limits.max_files d.names (dated d.limits.file c.args.date);
    } in
    subst P (c.self.view_is ∙ c.in_ok-make_way.ensures.same)
    (λ e. ap (λ ns. record { limits = (the_view i).limits; latest = (the_view i).latest; names = ns })
    (ap (map (dated i.file)) items ∙ more_opened i.file i.max_files i.dates.items c.args.date e))
    (sym c.is_last.ensures.last ∙ c.if-is_last.false)
