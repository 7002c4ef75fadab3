use Rattle.std.proofs.Common.{◌≡◌, ◌++◌, ℕ, List, sym, ap, subst, ◌∙◌, ◌≤◌, length}
use Rattle.alog_msg.specs.declared.message.Message.{Message}
use Rattle.alog_pattern.specs.Grammar.{IsReading}
use Rattle.alog_pattern.specs.Length.{LineExceeds}
use Rattle.alog_format.specs.Line.{IsLine}
use Rattle.alog_program.specs.Line.{message_of}
use Rattle.alog_program.proofs.line.line_of.Goals as goal

pub returns-clause-made : goal.returns-clause-made
returns-clause-made c =
    let r = c.args.request.now in
    let p = c.in_ok-pattern.pattern in
    let appends = c.format.ensures in
    let bytes_are : c.format.new.line.bytes ≡ appends.0 = ap (λ b. b.bytes) appends.2
    ∙ ap (λ xs. xs ++ appends.0) c.in_ok-line.ensures.empty in
    let line = subst (λ (m : Message). IsLine r.context p.items r.name.now m r.previous appends.0) c.in_ok-message.ensures.made appends.1 in (
      p.items,
      subst (λ (bs : List ℕ). IsReading bs p.items) c.as_bytes.ensures.value c.in_ok-pattern.ensures.items,
      subst (λ (bs : List ℕ). IsLine r.context p.items r.name.now (message_of r) r.previous bs) (sym bytes_are) line,
    )

pub returns-clause-line : goal.returns-clause-line
returns-clause-line c =
    let r = c.args.request.now in (
      λ bad. absurd (cc),
      λ long.
          let exceeds = subst (λ (bs : List ℕ). (length bs ≤ 256) × LineExceeds 65536 2048 bs) (sym c.as_bytes.ensures.value) long in
          let bad = c.in_ok-pattern.ensures.line_too_long.1 exceeds in absurd (cc),
    )
