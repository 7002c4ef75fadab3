use Rattle.std.proofs.lemmas.Result.{IfOk-weaker}
use Rattle.alog_pool.specs.Pool.{AreParts, PoolView, Staffs}
use Rattle.alog_pool.specs.declared.pool_parts.PoolParts.{PoolParts}
use Rattle.alog_pool.proofs.pool.start_workers.Goals as goal

pub returns : goal.returns
returns g c =
    let S = g.row.S.Denot in
    let setup = c.args.setup in
    let parts = c.in_ok-new.field-0 in
    IfOk-weaker c.staff.result (λ (p : PoolView S). Staffs parts p) (λ p. (h : PoolParts S) × AreParts setup c.args.ring.ring h × Staffs h p)
    (λ p staffed. (parts, c.in_ok-new.ensures, staffed)) c.staff.ensures
