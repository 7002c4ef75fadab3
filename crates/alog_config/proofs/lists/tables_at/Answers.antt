use Rattle.std.proofs.Common.{◌≡◌, List, map, sym, subst}
use Rattle.std.proofs.Common.{Bor, String, BTreeMap, Global, arith}
use Rattle.std.proofs.lemmas.List.{length-map}
use Rattle.alog_config.specs.Values.{IsTableArray, LentTables}
use Rattle.alog_config.proofs.Spelling.{field_bad}
use Rattle.alog_config.proofs.Arrays.{is_array, no_tables, too_many}
use Rattle.toml.specs.Data.{Data, array}
use Rattle.toml.specs.View.{items_of, table_view, view}
use Rattle.toml.specs.declared.value.Value.{Value}
use Rattle.alog_config.proofs.lists.tables_at.Goals as goal

pub returns-in_default-2 : goal.returns-in_default-2
returns-in_default-2 c =
    let d : Data = view c.in-Some.value.now in
    let ds = map view c.as_slice.result.now in
    let whole = is_array d (items_of (map view c.in-Some-as_array.items.now.items)) (sym c.in-Some-as_array.ensures) in
    let is = subst (λ (vs : List Value). d ≡ array (items_of (map view vs))) (sym c.as_slice.ensures.value) whole in
    field_bad IsTableArray _ d c.in-Some.ensures (no_tables d ds is (rw c.in_default-2.is at c.in_ok-tables.ensures))

pub returns : goal.returns
returns c =
    let d : Data = view c.in-Some.value.now in
    let ds = map view c.as_slice.result.now in
    let whole = is_array d (items_of (map view c.in-Some-as_array.items.now.items)) (sym c.in-Some-as_array.ensures) in
    let is = subst (λ (vs : List Value). d ≡ array (items_of (map view vs))) (sym c.as_slice.ensures.value) whole in
    let v : LentTables = c.in-Some-2.tables in
    let same = length-map v.items (λ (b : Bor (BTreeMap (String Global) Value)). table_view b.now) in
    field_bad IsTableArray _ d c.in-Some.ensures (too_many d ds v is (rw c.in-Some-2.is at c.in_ok-tables.ensures)
    (λ few. let count = v.ok.0 in omega (arith, same, few, count)))
