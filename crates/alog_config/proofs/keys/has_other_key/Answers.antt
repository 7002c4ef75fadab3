use Rattle.std.proofs.Common.{◌↔◌, ◌∙◌, Bool, Bor, List, ℕ, IsTrue, option_map, subst, sym}
use Rattle.alog_config.proofs.Others.{lent_some, other_found}
use Rattle.alog_config.specs.Keys.{HasOtherKey}
use Rattle.toml.specs.View.{table_view}
use Rattle.alog_config.proofs.keys.has_other_key.Goals as goal

pub returns : goal.returns
returns c =
    let t = table_view c.args.table.now in
    let r = other_found c.args.owner t (option_map (λ (k : Bor (List ℕ)). k.now) c.other_key.result) c.other_key.ensures in
    subst (λ (b : Bool). IsTrue b ↔ HasOtherKey c.args.owner t) (lent_some c.other_key.result ∙ sym c.is_some.ensures) r
