use Rattle.std.proofs.Common.{◌≡◌, List, map, sym, subst}
use Rattle.alog_config.specs.Values.{IsNameList}
use Rattle.alog_config.proofs.Spelling.{field_bad}
use Rattle.alog_config.proofs.Arrays.{is_array, no_names, no_texts}
use Rattle.toml.specs.Data.{Data, array}
use Rattle.toml.specs.View.{items_of, view}
use Rattle.toml.specs.declared.value.Value.{Value}
use Rattle.alog_config.proofs.lists.names_at.Goals as goal

pub returns-in_default-2 : goal.returns-in_default-2
returns-in_default-2 c =
    let d : Data = view c.in-Some.value.now in
    let ds = map view c.as_slice.result.now in
    let whole = is_array d (items_of (map view c.in-Some-as_array.items.now.items)) (sym c.in-Some-as_array.ensures) in
    let is = subst (λ (vs : List Value). d ≡ array (items_of (map view vs))) (sym c.as_slice.ensures.value) whole in
    field_bad IsNameList _ d c.in-Some.ensures (no_texts d ds is (rw c.in_default-2.is at c.in_ok-names.ensures))

pub returns-else-are_names : goal.returns-else-are_names
returns-else-are_names c =
    let d : Data = view c.in-Some.value.now in
    let ds = map view c.as_slice.result.now in
    let whole = is_array d (items_of (map view c.in-Some-as_array.items.now.items)) (sym c.in-Some-as_array.ensures) in
    let is = subst (λ (vs : List Value). d ≡ array (items_of (map view vs))) (sym c.as_slice.ensures.value) whole in
    field_bad IsNameList _ d c.in-Some.ensures (no_names d ds c.in-Some-2.names is (rw c.in-Some-2.is at c.in_ok-names.ensures)
    (λ are. let yes = c.are_names.ensures.1 are in let no = c.if-are_names.false in absurd (cc)))
