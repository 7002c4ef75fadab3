use Rattle.std.proofs.Common.{arith}
use Rattle.bstr.proofs.lemmas.PieceLemmas.{size-within}
use Rattle.alog_lines.proofs.build.adds.Goals as goal

pub overflow_add-built-2 : goal.overflow_add-built-2
overflow_add-built-2 c =
    let size = size-within c.args.rest.now in
    let few = c.requires.few in
    omega (arith, size, few.1, c.decode-found.ensures.size)
