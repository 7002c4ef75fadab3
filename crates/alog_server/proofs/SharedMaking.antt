-- Producers that a pool makes, one after the other.
use Rattle.std.proofs.Common.{◌≡◌, ◌+◌, List, [], ◌∷◌, ◌++◌, length, refl, ap, subst, ◌∙◌, arith}
use Rattle.alog_pool.specs.Pool.{PoolView, Makes}
use Rattle.alog_pool.specs.Producer.{ProducerView}
use Rattle.alog_pool.specs.declared.shared.Shared.{Shared}
use Rattle.alog_server.specs.Making.{AreOf, MakesAll}

module _ {S : Type 0} where
  -- one more
  pub makes_more : (old mid new : PoolView S) (ps : List ProducerView) (p : ProducerView) → MakesAll old ps mid → Makes mid new p
      → MakesAll old (ps ++ p ∷ []) new
  makes_more old mid new [] p all one = (new, subst (λ (o : PoolView S). Makes o new p) all one, refl)
  makes_more old mid new (q ∷ ps) p all one = (all.0, all.1, makes_more all.0 mid new ps p all.2 one)

  -- they are counted
  pub makes_count : (old new : PoolView S) (ps : List ProducerView) → MakesAll old ps new → new.made ≡ old.made + length ps
  makes_count old new [] all = let same = ap (λ (p : PoolView S). p.made) all in omega (arith, same)
  makes_count old new (p ∷ ps) all =
      let rest = makes_count all.0 new ps all.2 in
      let one = all.1.made in
      omega (arith, rest, one)

  -- all share what the pool shares, which stays
  pub makes_shared : (old new : PoolView S) (ps : List ProducerView) → MakesAll old ps new
      → (new.shared ≡ old.shared) × AreOf old.shared ps
  makes_shared old new [] all = (ap (λ (p : PoolView S). p.shared) all, tt)
  makes_shared old new (p ∷ ps) all =
      let rest = makes_shared all.0 new ps all.2 in
      let same = all.1.same.0 in (
        rest.0 ∙ same,
        (all.1.shared, subst (λ (s : Shared). AreOf s ps) same rest.1),
      )
