use Rattle.std.proofs.Common.{[], sym, ap, ◌∙◌, length, string_bytes, arith}
use Rattle.std.proofs.lemmas.List.{length-map}
use Rattle.std.specs.Option.{unwrap_or}
use Rattle.alog_sink.specs.Files.{bytes_of}
use Rattle.alog_sink.specs.contracts.rotation.Rotation.{the_view}
use Rattle.alog_sink.proofs.RotatedOn.{opens, stands_alike}
use Rattle.alog_sink.proofs.RotatedPut.{size_told}
use Rattle.alog_sink.proofs.rotation.Rotation.open.Goals as goal

pub returns-clause-stands : goal.returns-clause-stands
returns-clause-stands g c = λ tells.
    let r = the_view (record { names = c.in_ok-names.names; size = c.unwrap_or-size.result; max_size = c.args.max_size }) in
    let old = g.S.Store.files c.args.store.now in
    let base = c.in_ok-names.ensures.numbered 0
    (omega (arith, c.in_ok-names.ensures.count, length-map c.in_ok-names.names.items string_bytes)) in
    stands_alike r old [] old (g.S.Store.files c.size.new.self) (c.in_ok-size.ensures.same tells)
    (opens r old (c.unwrap_or-size.ensures ∙ (ap (λ size. unwrap_or size 0) (c.in_ok-size.ensures.size tells)
    ∙ (size_told (old c.args.file.now) ∙ ap (λ name. length (bytes_of old name)) (sym base)))))
