use Rattle.std.proofs.Common.{◌≡◌, ◌<◌, ℕ, suc, ◌+◌, false, List, [], map, set, take, length, refl, sym, subst, ap, ◌∙◌, arith}
use Rattle.std.proofs.Math.Seq.{map-set_same}
use Rattle.std.proofs.lemmas.List.{length-map}
use Rattle.alog_pool.specs.Deeds.{HasMade}
use Rattle.alog_pool.specs.SinkSeat.{AreFlushed, SinkSeatView, is_unflushed, place_of}
use Rattle.alog_pool.proofs.SharedDeeds.{have_none, own_more}
use Rattle.alog_pool.proofs.SharedFlushed.{all_flushed, flushed_at, more_flushed, same_set}
use Rattle.alog_hosted.proofs.Tries.{lane_at, not_flushed}
use Rattle.alog_hosted.proofs.turns.flush_all.Goals as goal

pub loop-number-init : goal.loop-number-init
loop-number-init g c = record {
  turns = have_none 0 c.args.places.now.items;
  flushed = tt;
  once = λ all. refl;
  places = refl;
  line = c.requires.line;
  end = omega (arith, c.len-number-end.ensures, c.args.places.now.ok.0);
}

-- so many places as at first
long : {A B : Type 0} (f : A → B) (xs ys : List A) → map f xs ≡ map f ys → length xs ≡ length ys
long f xs ys same = sym (length-map xs f) ∙ ap length same ∙ length-map ys f

low : {A B : Type 0} (f : A → B) (xs ys : List A) (i end : ℕ) → map f xs ≡ map f ys → end ≡ length ys → i < end → i < length xs
low f xs ys i end same is less = let e = long f xs ys same in omega (arith, e, is, less)

pub index_mut-requires : goal.index_mut-requires
index_mut-requires g c =
    let i = c.loop-number.invariant in
    let below = low (λ (b : SinkSeatView g.row.S.Denot). place_of b) c.loop-number.places.items c.args.places.now.items
    c.loop-number.number _ i.places i.end c.loop-number-test.true in
    omega (arith, below, c.loop-number.places.ok.0)

pub flush_once-requires-clause-lane : goal.flush_once-requires-clause-lane
flush_once-requires-clause-lane g c =
    let i = c.loop-number.invariant in
    let below = low (λ (b : SinkSeatView g.row.S.Denot). place_of b) c.loop-number.places.items c.args.places.now.items
    c.loop-number.number _ i.places i.end c.loop-number-test.true in
    lane_at c.args.places.now.items c.loop-number.places.items c.args.lanes.now c.loop-number.number i.places c.requires.lanes below
    c.index-lanes-number.is c.index_mut.ensures.value

pub flush_once-requires-clause-line : goal.flush_once-requires-clause-line
flush_once-requires-clause-line g c = c.loop-number.invariant.line

pub returns-in-Err-clause-turns : goal.returns-in-Err-clause-turns
returns-in-Err-clause-turns g c =
    let B : Type 0 = SinkSeatView g.row.S.Denot in
    let i = c.loop-number.invariant in
    let bs = c.loop-number.places.items in
    let below = low (λ (b : B). place_of b) bs c.args.places.now.items c.loop-number.number _ i.places i.end c.loop-number-test.true in
    own_more c.args.places.now.items bs c.loop-number.number c.index_mut.result.now i.turns below
    (subst (λ (b : B). HasMade b c.flush_once.new.self []) c.index_mut.ensures.value c.flush_once.ensures.made)

pub returns-in-Err-clause-held : goal.returns-in-Err-clause-held
returns-in-Err-clause-held g c =
    let B : Type 0 = SinkSeatView g.row.S.Denot in
    let i = c.loop-number.invariant in
    let bs = c.loop-number.places.items in
    let new = c.flush_once.new.self in
    let below = low (λ (b : B). place_of b) bs c.args.places.now.items c.loop-number.number _ i.places i.end c.loop-number-test.true in
    let held = c.in-Err.ensures.held in
    not_flushed bs c.loop-number.number new below (λ e. held.1 (ap (λ (b : B). is_unflushed b) (sym held.0) ∙ e))

pub returns-in-Err-clause-once : goal.returns-in-Err-clause-once
returns-in-Err-clause-once g c = λ all.
    let B : Type 0 = SinkSeatView g.row.S.Denot in
    let i = c.loop-number.invariant in
    let n = c.loop-number.number in
    let bs = c.loop-number.places.items in
    let at = c.index_mut.result.now in
    let below = low (λ (b : B). place_of b) bs c.args.places.now.items n _ i.places i.end c.loop-number-test.true in
    let same = i.once all in
    let here : is_unflushed at ≡ false =
    subst (λ (b : B). is_unflushed b ≡ false) (sym c.index_mut.ensures.value)
    (flushed_at n bs at below (subst (λ (l : List B). AreFlushed l) (sym same) all)) in
    same_set n bs at below (c.flush_once.ensures.once here ∙ c.index_mut.ensures.value) ∙ same

pub returns-in-Err-clause-places : goal.returns-in-Err-clause-places
returns-in-Err-clause-places g c =
    map-set_same place_of c.loop-number.places.items c.loop-number.number c.flush_once.new.self c.index_mut.result.now
    (c.flush_once.ensures.place ∙ ap (λ (b : SinkSeatView g.row.S.Denot). place_of b) c.index_mut.ensures.value) ∙ c.loop-number.invariant.places

pub loop-number-preserved : goal.loop-number-preserved
loop-number-preserved g c =
    let B : Type 0 = SinkSeatView g.row.S.Denot in
    let i = c.loop-number.invariant in
    let n = c.loop-number.number in
    let bs = c.loop-number.places.items in
    let at = c.index_mut.result.now in
    let new = c.flush_once.new.self in
    let below = low (λ (b : B). place_of b) bs c.args.places.now.items n _ i.places i.end c.loop-number-test.true in
    let next : suc n ≡ n + 1 = omega arith in
    record {
      turns = own_more c.args.places.now.items bs n at i.turns below (subst (λ (b : B). HasMade b new []) c.index_mut.ensures.value c.flush_once.ensures.made);
      flushed = subst (λ k. AreFlushed (take k (set bs n new))) next (more_flushed n bs new below i.flushed c.in-Ok.ensures.flushed);
      once = λ all.
          let same = i.once all in
          let here : is_unflushed at ≡ false =
          subst (λ (b : B). is_unflushed b ≡ false) (sym c.index_mut.ensures.value)
          (flushed_at n bs at below (subst (λ (l : List B). AreFlushed l) (sym same) all)) in
          same_set n bs at below (c.flush_once.ensures.once here ∙ c.index_mut.ensures.value) ∙ same;
      places = map-set_same place_of bs n new at (c.flush_once.ensures.place ∙ ap (λ (b : B). place_of b) c.index_mut.ensures.value) ∙ i.places;
      line = c.flush_once.ensures.line;
      end = i.end;
    }

pub returns-clause-turns : goal.returns-clause-turns
returns-clause-turns g c = c.loop-number.invariant.turns

pub returns-clause-flushed : goal.returns-clause-flushed
returns-clause-flushed g c =
    let i = c.loop-number.invariant in
    let bs = c.loop-number.places.items in
    let same = long (λ (b : SinkSeatView g.row.S.Denot). place_of b) bs c.args.places.now.items i.places in
    let past = c.loop-number-test.false in
    let end = i.end in
    all_flushed c.loop-number.number bs (omega (arith, same, past, end)) i.flushed

pub returns-clause-places : goal.returns-clause-places
returns-clause-places g c = c.loop-number.invariant.places

pub returns-clause-line : goal.returns-clause-line
returns-clause-line g c = c.loop-number.invariant.line

pub returns-clause-once : goal.returns-clause-once
returns-clause-once g c = c.loop-number.invariant.once
