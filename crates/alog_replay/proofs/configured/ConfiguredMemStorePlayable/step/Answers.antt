use Rattle.std.proofs.Common.{◌≡◌, ℕ, List, ◌++◌, true, subst, string_bytes}
use Rattle.alog_sink.specs.contracts.mem_store.MemStoreStore.TheImpl.{files-value, failures-value}
use Rattle.alog_system.specs.System.{duty_of, item_of}
use Rattle.alog_replay.specs.Configured.{told_text}
use Rattle.alog_replay.proofs.Acting.{told_step}
use Rattle.alog_replay.proofs.configured.ConfiguredMemStorePlayable.step.Goals as goal

pub returns-clause-done : goal.returns-clause-done
returns-clause-done c =
    let system = c.step_of.new.system in
    let held = item_of (duty_of system c.args.actor) in
    let before = string_bytes c.args.out.now in
    let after = string_bytes c.print_step.new.out in
    let told = c.in_ok-told.told in
    let printed = subst (λ (names : List (List ℕ)). after ≡ before ++ told_text names c.args.actor held told) c.deref.ensures.value
    c.in_ok-print_step.ensures in
    told_step true (files-value).it (failures-value).it c.args.actor told system before c.self.view_is c.in_ok-told.ensures.steps
    printed
