use Rattle.std.proofs.Common.{refl, arith}
use Rattle.std.proofs.lemmas.Grind.{common_steps}
use Rattle.std.specs.Option.{is_some}
use Rattle.toml.specs.Data.{as_str, string}
use Rattle.toml.specs.View.{view}
use Rattle.alog_config.proofs.Arrays.{Fails, not_all}
use Rattle.alog_config.proofs.lists.texts_of.Goals as goal

pub returns-in_default : goal.returns-in_default
returns-in_default c =
    let no_string : Fails view string (λ d. is_some (as_str d)) c.args.items.now c.loop-item.item-index c.item-item.result =
    record {
      each = λ s. refl;
      within = c.loop-item-test.true;
      here = c.item-item.is;
      fails = grind (arith, common_steps);
    }
    in
    not_all no_string
