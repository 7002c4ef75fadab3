use Rattle.std.proofs.Common.{◌≡◌, ◌∙◌, ◌++◌, IfOk, string_bytes, codes, decimal}
use Rattle.std.proofs.lemmas.Result.{IfOk-weaker}
use Rattle.alog_sink.specs.Names.{numbered}
use Rattle.alog_sink.proofs.NamesCut.{named}
use Rattle.alog_sink.proofs.names.numbered.Goals as goal

pub returns : goal.returns
returns c =
    let front = c.split_at.result.0.now in
    let back = c.split_at.result.1.now in
    let written : IfOk c.format.result (λ s. string_bytes s ≡ front ++ (codes "." ++ (decimal c.args.i ++ back))) = c.format.ensures.ok in
    IfOk-weaker c.format.result (λ s. string_bytes s ≡ front ++ (codes "." ++ (decimal c.args.i ++ back)))
    (λ s. string_bytes s ≡ numbered c.args.name.now c.args.i)
    (λ s e. e ∙ named c.args.name.now front back c.args.i c.if-i-eq0.false (c.split_at.ensures.front ∙ c.extension_at.ensures.before)
    (c.split_at.ensures.back ∙ c.extension_at.ensures.after)) written
