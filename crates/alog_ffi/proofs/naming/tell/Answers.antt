use Rattle.std.proofs.Common.{◌≡◌, ◌++◌, ◌<◌, ℕ, List, ap, drop, length, refl, subst}
use Rattle.alog_ffi.proofs.naming.tell.Goals as goal

pub returns-then-to-count : goal.returns-then-to-count
returns-then-to-count c = (
  refl,
  c.requires.none,
  (c.args._config.now, c.requires.read, subst (λ (files : List ℕ). length c.args.to.now < length files) c.requires.names c.if-to-count.true),
)

pub returns : goal.returns
returns c = (
  c.args._config.now,
  c.requires.read,
  ap length c.requires.names,
  subst (λ (files : List ℕ). c.copy_from_slice.new.self ++ drop (length c.args.names.now) c.args.to.now ≡ files ++ drop (length c.args.names.now) c.args.to.now)
      c.requires.names (ap (λ (front : List ℕ). front ++ drop (length c.args.names.now) c.args.to.now) search),
)
