use Rattle.std.proofs.lemmas.Result.{IfOk-weaker}
use Rattle.alog_program.proofs.Commands.{argument_added}
use Rattle.alog_program.proofs.command.with_origin.Goals as goal

pub returns : goal.returns
returns c app was =
    let l1 = argument_added _ _ _ c.in_ok-arg.ensures c.option.ensures.global c.option.ensures.rule was in
    let l2 = argument_added _ _ _ c.in_ok-arg-2.ensures c.option-2.ensures.global c.option-2.ensures.rule l1 in
    let l3 = argument_added _ _ _ c.in_ok-arg-3.ensures c.option-3.ensures.global c.option-3.ensures.rule l2 in
    let l4 = argument_added _ _ _ c.in_ok-arg-4.ensures c.option-4.ensures.global c.option-4.ensures.rule l3 in
    let l5 = argument_added _ _ _ c.in_ok-arg-5.ensures c.option-5.ensures.global c.option-5.ensures.rule l4 in
    let l6 = argument_added _ _ _ c.in_ok-arg-6.ensures c.option-6.ensures.global c.option-6.ensures.rule l5 in
    IfOk-weaker c.arg-7.result _ _ (λ command adds. argument_added _ _ _ adds c.option-7.ensures.global c.option-7.ensures.rule l6) c.arg-7.ensures
