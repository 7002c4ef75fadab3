use Rattle.test_laws.proofs.PipedLines.{blocks_lose_none, lines_held, lines_kept, lines_told, none_untold, on_ok, overruns_none}
use Rattle.test_laws.proofs.piped_lines.pipe_lines.Goals as goal

pub returns-clause-spared : goal.returns-clause-spared
returns-clause-spared g c =
    on_ok _ (λ p h. overruns_none g.S.Store.tells g.S.Store.files g.S.Store.failures h) c.pipe-piped.result

pub returns-clause-said : goal.returns-clause-said
returns-clause-said g c =
    on_ok _ (λ p h n bytes f. none_untold g.S.Store.tells g.S.Store.files g.S.Store.failures h f) c.pipe-piped.result

pub returns-clause-waits : goal.returns-clause-waits
returns-clause-waits g c =
    on_ok _ (λ p h n bytes f. blocks_lose_none g.S.Store.tells g.S.Store.files g.S.Store.failures h f) c.pipe-piped.result

pub returns-clause-kept : goal.returns-clause-kept
returns-clause-kept g c =
    on_ok _ (λ p h n bytes f. lines_kept g.S.Store.tells g.S.Store.files g.S.Store.failures h f c.one_worker_writes_in_order.ensures)
    c.pipe-piped.result

pub returns-clause-told : goal.returns-clause-told
returns-clause-told g c =
    on_ok _ (λ p h n bytes f keeps. lines_told g.S.Store.tells g.S.Store.files g.S.Store.failures h f c.one_worker_writes_in_order.ensures keeps)
    c.pipe-piped.result

pub returns-clause-held : goal.returns-clause-held
returns-clause-held g c =
    on_ok _ (λ p h n bytes f keeps none. lines_held g.S.Store.tells g.S.Store.files g.S.Store.failures h f c.one_worker_writes_in_order.ensures keeps
    none c.short_lines_are_whole.ensures) c.pipe-piped.result
