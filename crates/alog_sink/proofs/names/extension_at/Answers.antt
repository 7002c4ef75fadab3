use Rattle.std.proofs.Common.{None, Some, inl, inr, arith, lit<}
use Rattle.std.proofs.lemmas.Str.Pattern.{rfind_char}
use Rattle.alog_sink.proofs.NamesCut.{extension_from, no_extension, no_extension_at, parts, whole}
use Rattle.alog_sink.proofs.names.extension_at.Goals as goal

pub returns-in-Some-clause-before : goal.returns-in-Some-clause-before
returns-in-Some-clause-before c =
    let found = rfind_char 46 c.args.name.now (Some c.in-Some.at) c.in-Some.ensures.cases (lit< tt) in
    (parts c.args.name.now c.in-Some.at (omega arith)
    (extension_from c.args.name.now c.in-Some.at found.0 found.1 found.2 (omega arith) (omega arith))).0

pub returns-in-Some-clause-after : goal.returns-in-Some-clause-after
returns-in-Some-clause-after c =
    let found = rfind_char 46 c.args.name.now (Some c.in-Some.at) c.in-Some.ensures.cases (lit< tt) in
    (parts c.args.name.now c.in-Some.at (omega arith)
    (extension_from c.args.name.now c.in-Some.at found.0 found.1 found.2 (omega arith) (omega arith))).1

pub returns-in_default-clause-before : goal.returns-in_default-clause-before
returns-in_default-clause-before c =
    let found = rfind_char 46 c.args.name.now (Some c.in-Some.at) c.in-Some.ensures.cases (lit< tt) in
    (whole c.args.name.now (no_extension_at c.args.name.now c.in-Some.at found.0 found.1 found.2 (inr (omega arith)))).0

pub returns-in_default-clause-after : goal.returns-in_default-clause-after
returns-in_default-clause-after c =
    let found = rfind_char 46 c.args.name.now (Some c.in-Some.at) c.in-Some.ensures.cases (lit< tt) in
    (whole c.args.name.now (no_extension_at c.args.name.now c.in-Some.at found.0 found.1 found.2 (inr (omega arith)))).1

pub returns-in_default-2-clause-before : goal.returns-in_default-2-clause-before
returns-in_default-2-clause-before c =
    let found = rfind_char 46 c.args.name.now (Some c.in-Some.at) c.in-Some.ensures.cases (lit< tt) in
    (whole c.args.name.now (no_extension_at c.args.name.now c.in-Some.at found.0 found.1 found.2 (inl (omega arith)))).0

pub returns-in_default-2-clause-after : goal.returns-in_default-2-clause-after
returns-in_default-2-clause-after c =
    let found = rfind_char 46 c.args.name.now (Some c.in-Some.at) c.in-Some.ensures.cases (lit< tt) in
    (whole c.args.name.now (no_extension_at c.args.name.now c.in-Some.at found.0 found.1 found.2 (inl (omega arith)))).1

pub returns-in_default-3-clause-before : goal.returns-in_default-3-clause-before
returns-in_default-3-clause-before c =
    (whole c.args.name.now (no_extension c.args.name.now
    (rfind_char 46 c.args.name.now None c.in_default.ensures.cases (lit< tt)))).0

pub returns-in_default-3-clause-after : goal.returns-in_default-3-clause-after
returns-in_default-3-clause-after c =
    (whole c.args.name.now (no_extension c.args.name.now
    (rfind_char 46 c.args.name.now None c.in_default.ensures.cases (lit< tt)))).1
