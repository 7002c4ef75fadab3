use Rattle.std.proofs.Common.{refl, sym, subst}
use Rattle.std.specs.Prelude.{ℕ, IsErrOf, IsSome, Ok}
use Rattle.alog_outbox.specs.declared.drain.TakeError.TheVariants.{Ended}
use Rattle.std.proofs.lemmas.Option.{slice_get_read}
use Rattle.alog_ffi.proofs.Lefts.{ends_so, left_same, left_set, none_of}
use Rattle.alog_outbox.specs.Views.{DrainView}
use Rattle.alog_ffi.proofs.files.take_at.Goals as goal

pub returns-in-Ok-clause-taken : goal.returns-in-Ok-clause-taken
returns-in-Ok-clause-taken c =
    let e = c.in-Ok.ensures in
    let now_open : ¬ IsSome c.take_into.new.self.told = λ some. (let no : IsErrOf {T = ℕ} (Ok c.in-Ok.count) Ended = (e.ended c.requires.room).1 some in absurd (cc)) in
    let was_open : ¬ IsSome c.index_mut.result.now.told = λ some. now_open (subst (λ (v : DrainView). IsSome v.told) (sym (e.once some)) some) in (
      record {
        at = c.args.number;
        was = c.index_mut.result.now;
        now = c.take_into.new.self;
        left = c.args.drains.now.items;
        others = left_same _;
        old_is = slice_get_read _ _ _ _ refl c.requires.number c.index_mut.ensures.value;
        new_is = refl;
        line = e.line;
        got = e.taken;
        goes_on = (none_of _ was_open, none_of _ now_open);
      },
      e.records,
      e.rest,
      e.some.0,
      e.some.1,
    )

pub returns-in-Err-clause-taken : goal.returns-in-Err-clause-taken
returns-in-Err-clause-taken c =
    let e = c.in-Err.ensures in (
      left_set _ _ _ _ (slice_get_read _ _ _ _ refl c.requires.number c.index_mut.ensures.value) e.err.0 e.line
          (ends_so c.index_mut.result.now c.take_into.new.self e.once (λ some. e.all ((e.ended c.requires.room).1 some))),
      e.err.1,
    )
