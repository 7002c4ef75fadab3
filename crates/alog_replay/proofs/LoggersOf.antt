-- Loggers that a configuration says twice say the same.
use Rattle.std.proofs.Common.{◌≡◌, ℕ, zero, suc, Some, List, [], ◌∷◌, ◌++◌, refl, ap, ◌∙◌}
use Rattle.std.specs.Prelude.{if◌then◌else◌, nat_le}
use Rattle.std.specs.Option.{option_map}
use Rattle.std.specs.Str.{bytes_eq}
use Rattle.alog_config.specs.Built.{EachIs}
use Rattle.alog_msg.specs.Level.{row_of}
use Rattle.alog_msg.specs.declared.item.Item.{Item}
use Rattle.alog_msg.specs.declared.item.Item.TheVariants as item
use Rattle.alog_msg.specs.declared.level.Level.{Level}
use Rattle.alog_msg.specs.declared.level.Level.TheVariants.{Trace, Debug, Info, Warning, Error, Critical, Off}
use Rattle.alog_registry.specs.Listed.{spec_at}
use Rattle.alog_registry.specs.Work.{is_flush_due, turns_of, turns_on}
use Rattle.alog_registry.specs.declared.logger.Logger.{Logger}
use Rattle.alog_registry.specs.declared.logger.Spec.{Spec}
use Rattle.alog_registry.specs.declared.work.SinkDeed.TheVariants as does
use Rattle.alog_system.specs.Roster.{backtrace_in, policy_in, turns_by}
use Rattle.alog_replay.specs.Configured.{number_of}
use Rattle.alog_replay.proofs.AlikeLoggers.{SameLoggers}

-- the room of a logger's list of sinks may differ
pub record IsSameLogger (l k : Logger) : Type 0 where
  pub name : l.name ≡ k.name
  pub level : l.spec.level ≡ k.spec.level
  pub policy : l.spec.policy ≡ k.spec.policy
  pub flush_on : l.spec.flush_on ≡ k.spec.flush_on
  pub backtrace : l.spec.backtrace ≡ k.spec.backtrace
  pub sinks : l.spec.sinks.items ≡ k.spec.sinks.items

due_same : (x y : Spec) (level : Level) → x.flush_on ≡ y.flush_on → is_flush_due x level ≡ is_flush_due y level
due_same x y Trace e = ap (λ f. nat_le (row_of f).number (row_of Trace).number) e
due_same x y Debug e = ap (λ f. nat_le (row_of f).number (row_of Debug).number) e
due_same x y Info e = ap (λ f. nat_le (row_of f).number (row_of Info).number) e
due_same x y Warning e = ap (λ f. nat_le (row_of f).number (row_of Warning).number) e
due_same x y Error e = ap (λ f. nat_le (row_of f).number (row_of Error).number) e
due_same x y Critical e = ap (λ f. nat_le (row_of f).number (row_of Critical).number) e
due_same x y Off e = refl

turns_same : (x y : Spec) (t : ℕ) (i : Item) → x.flush_on ≡ y.flush_on → x.sinks.items ≡ y.sinks.items → turns_of x t i ≡ turns_of y t i
turns_same x y t (item.Text m) f s =
    ap (λ sinks. turns_on sinks t does.Take ++ (if is_flush_due x m.level then turns_on sinks t does.Flush else [])) s
    ∙ ap (λ b. turns_on y.sinks.items t does.Take ++ (if b then turns_on y.sinks.items t does.Flush else [])) (due_same x y m.level f)
turns_same x y t (item.Flush n) f s = ap (λ sinks. turns_on sinks t does.Flush) s
turns_same x y t item.Stop f s = refl

number_same : (ls ks : List Logger) (name : List ℕ) → EachIs IsSameLogger ls ks → number_of ls name ≡ number_of ks name
number_same [] [] name h = refl
number_same [] (k ∷ ks) name h = absurd h
number_same (l ∷ ls) [] name h = absurd h
number_same (l ∷ ls) (k ∷ ks) name h =
    ap (λ n. if bytes_eq n name then Some 0 else option_map suc (number_of ls name)) h.0.name
    ∙ ap (λ n. if bytes_eq k.name name then Some 0 else option_map suc n) (number_same ls ks name h.1)

policy_same : (ls ks : List Logger) (n : ℕ) → EachIs IsSameLogger ls ks → policy_in (spec_at ls n) ≡ policy_in (spec_at ks n)
policy_same [] [] n h = refl
policy_same [] (k ∷ ks) n h = absurd h
policy_same (l ∷ ls) [] n h = absurd h
policy_same (l ∷ ls) (k ∷ ks) zero h = h.0.policy
policy_same (l ∷ ls) (k ∷ ks) (suc n) h = policy_same ls ks n h.1

backtrace_same : (ls ks : List Logger) (n : ℕ) → EachIs IsSameLogger ls ks → backtrace_in (spec_at ls n) ≡ backtrace_in (spec_at ks n)
backtrace_same [] [] n h = refl
backtrace_same [] (k ∷ ks) n h = absurd h
backtrace_same (l ∷ ls) [] n h = absurd h
backtrace_same (l ∷ ls) (k ∷ ks) zero h = h.0.backtrace
backtrace_same (l ∷ ls) (k ∷ ks) (suc n) h = backtrace_same ls ks n h.1

turns_at : (ls ks : List Logger) (n t : ℕ) (i : Item) → EachIs IsSameLogger ls ks
    → turns_by (spec_at ls n) t i ≡ turns_by (spec_at ks n) t i
turns_at [] [] n t i h = refl
turns_at [] (k ∷ ks) n t i h = absurd h
turns_at (l ∷ ls) [] n t i h = absurd h
turns_at (l ∷ ls) (k ∷ ks) zero t i h = turns_same l.spec k.spec t i h.0.flush_on h.0.sinks
turns_at (l ∷ ls) (k ∷ ks) (suc n) t i h = turns_at ls ks n t i h.1

pub same_loggers : (ls ks : List Logger) → EachIs IsSameLogger ls ks → SameLoggers ks ls
same_loggers ls ks h = record {
  number = λ name. number_same ls ks name h;
  policy = λ n. policy_same ls ks n h;
  backtrace = λ n. backtrace_same ls ks n h;
  turns = λ n t i. turns_at ls ks n t i h;
}
