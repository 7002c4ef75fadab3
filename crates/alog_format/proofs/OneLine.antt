-- A message has at most one line: what a clock shows at a time is one thing.
use Rattle.std.proofs.Common.{◌≡◌, ℕ, ℤ, List, Option, refl, sym, ap, ◌∙◌}
use Rattle.jiff_core.specs.declared.civil.datetime.DateTime.{DateTime}
use Rattle.jiff_core.proofs.DateLemmas.{epoch_day_injective}
use Rattle.jiff_core.proofs.DateTimeLemmas.{civil_nanos_injective, time_nanos_injective}
use Rattle.jiff.specs.Words.{civil_nanos}
use Rattle.alog_msg.specs.declared.message.Message.{Message}
use Rattle.alog_pattern.specs.declared.items.Item.{Item}
use Rattle.alog_format.specs.declared.context.Context.{Context}
use Rattle.alog_format.specs.Civil.{fields, offset_seconds}
use Rattle.alog_format.specs.Line.{shown, line_text, HasOneLine}

one_clock : (seconds : ℤ) (a b : DateTime) → civil_nanos a ≡ civil_nanos b → fields seconds a ≡ fields seconds b
one_clock seconds a b e =
    let i = civil_nanos_injective a b e in
    let d = epoch_day_injective a.date b.date i.0 in
    let t = time_nanos_injective a.time b.time i.1 in
    rw (d.0, d.1, d.2, t.0, t.1, t.2, t.3) refl

pub one_line : (context : Context) (items : List Item) (name : List ℕ) (message : Message) (previous : Option ℤ)
    → HasOneLine context items name message previous
one_line context items name message previous bytes others a b =
    let x = a.1.1 in
    let y = b.1.1 in
    let same : a.1.0 ≡ b.1.0 = x.2 ∙ one_clock (offset_seconds context.zone message.time) x.0 y.0 (x.1 ∙ sym y.1) ∙ sym y.2 in
    a.2 ∙ ap (λ s. line_text s items) (a.1.2 ∙ ap (shown context name message previous) same ∙ sym b.1.2) ∙ sym b.2
