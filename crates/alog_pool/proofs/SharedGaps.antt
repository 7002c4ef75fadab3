-- What a worker tells of gaps, item by item.
use Rattle.std.specs.Prelude.{◌&&◌, ◌==◌, if◌then◌else◌, Bool, true, false}
use Rattle.std.proofs.Common.{◌≡◌, ◌<◌, ℕ, zero, suc, Option, Some, None, List, [], ◌∷◌, ◌++◌, refl, sym, ap, subst, ◌∙◌, append_assoc, append-nil, inl, inr, arith}
use Rattle.alog_msg.specs.declared.item.Item.{Item}
use Rattle.alog_msg.specs.declared.item.Item.TheVariants.{Stop}
use Rattle.alog_msg.specs.declared.message.Message.{Message}
use Rattle.alog_pool.specs.SinkSeat.{SinkSeatView}
use Rattle.alog_pool.specs.Deeds.{Due, HaveMade, all_dues, dues_of}
use Rattle.alog_pool.specs.Gaps.{gap_at, gap_item, gap_of, next_after, next_behind, told_from, with_gaps, CountsFromFirst}
use Rattle.alog_pool.specs.declared.setup.Setup.{Setup}
use Rattle.alog_pool.specs.declared.shared.Shared.{Shared}
use Rattle.alog_pool.proofs.SharedDeeds.{all_dues-append, have_none, have_then}
use Rattle.alog_registry.specs.declared.logger.Logger.{Logger}

-- some are missing, or none
pub some_gap : (n t : ℕ) (m : Message) → 0 < n → gap_of n t m ≡ (t, gap_item n m) ∷ []
some_gap zero t m some = absurd (omega (arith, some))
some_gap (suc n) t m some = refl

pub no_gap : (n t : ℕ) (m : Message) → n ≡ 0 → gap_of n t m ≡ []
no_gap zero t m none = refl
no_gap (suc n) t m none = absurd (omega (arith, none))

-- nothing is said in front of a stop, and it is not counted
pub stop_gap : (next : Option ℕ) (t : ℕ) → gap_at next t Stop ≡ []
stop_gap None t = refl
stop_gap (Some n) t = refl

pub stop_next : (next : Option ℕ) (t : ℕ) → next_after next t Stop ≡ next
stop_next None t = refl
stop_next (Some n) t = refl

-- who tells no gaps writes what was taken
pub none_told : (ps : List (ℕ × Item)) → with_gaps None ps ≡ ps
none_told [] = refl
none_told (p ∷ ps) = ap (λ (l : List (ℕ × Item)). p ∷ l) (none_told ps)

-- a pool of a setup tells gaps from its first ticket on, or none
pub counts_from : {S : Type 0} (setup : Setup S) (shared : Shared) → shared.gaps ≡ told_from setup → shared.ring.ring.first ≡ setup.first
    → CountsFromFirst shared
counts_from setup shared gaps first = counted (setup.tells_gaps && (setup.workers == 1)) gaps
  where
    counted : (tells : Bool) → shared.gaps ≡ (if tells then Some setup.first else None) → CountsFromFirst shared
    counted true told = inr (told ∙ ap (λ n. Some n) (sym first))
    counted false told = inl told

-- one item more
next_behind-more : (next : Option ℕ) (ps : List (ℕ × Item)) (p : ℕ × Item)
    → next_behind next (ps ++ p ∷ []) ≡ next_after (next_behind next ps) p.0 p.1
next_behind-more next [] p = refl
next_behind-more next (q ∷ ps) p = next_behind-more (next_after next q.0 q.1) ps p

with_gaps-more : (next : Option ℕ) (ps : List (ℕ × Item)) (p : ℕ × Item)
    → with_gaps next (ps ++ p ∷ []) ≡ with_gaps next ps ++ (gap_at (next_behind next ps) p.0 p.1 ++ p ∷ [])
with_gaps-more next [] p = refl
with_gaps-more next (q ∷ ps) p =
    ap (λ (l : List (ℕ × Item)). gap_at next q.0 q.1 ++ q ∷ l) (with_gaps-more (next_after next q.0 q.1) ps p)
    ∙ sym (append_assoc (gap_at next q.0 q.1) (q ∷ with_gaps (next_after next q.0 q.1) ps)
    (gap_at (next_behind (next_after next q.0 q.1) ps) p.0 p.1 ++ p ∷ []))

-- up to where is counted behind one item more
pub next_more : {now new : Option ℕ} (start : Option ℕ) (gots : List (ℕ × Item)) (got : ℕ × Item) → now ≡ next_behind start gots
    → new ≡ next_after now got.0 got.1 → new ≡ next_behind start (gots ++ got ∷ [])
next_more {now} start gots got counted more =
    more ∙ ap (λ (n : Option ℕ). next_after n got.0 got.1) counted ∙ sym (next_behind-more start gots got)

pub next_stop : {now : Option ℕ} (start : Option ℕ) (gots : List (ℕ × Item)) (t : ℕ) (x : Item) → x ≡ Stop → now ≡ next_behind start gots
    → now ≡ next_behind start (gots ++ (t, x) ∷ [])
next_stop {now} start gots t x is counted =
    next_more start gots (t, x) counted (sym (ap (λ (z : Item). next_after now t z) is ∙ stop_next now t))

-- the dues of an item and of what stands in front of it, and then others
pub dues_behind : (loggers : List Logger) (gap : List (ℕ × Item)) (p : ℕ × Item) (ps qs : List (ℕ × Item)) → all_dues loggers ps ≡ all_dues loggers qs
    → all_dues loggers (gap ++ p ∷ ps) ≡ all_dues loggers (gap ++ p ∷ qs)
dues_behind loggers gap p ps qs same =
    all_dues-append loggers gap (p ∷ ps)
    ∙ ap (λ (l : List Due). all_dues loggers gap ++ (dues_of loggers p.0 p.1 ++ l)) same
    ∙ sym (all_dues-append loggers gap (p ∷ qs))

-- the dues with one item more
dues_more : (loggers : List Logger) (start : Option ℕ) (gots : List (ℕ × Item)) (got : ℕ × Item)
    → all_dues loggers (with_gaps start (gots ++ got ∷ []))
    ≡ all_dues loggers (with_gaps start gots) ++ (all_dues loggers (gap_at (next_behind start gots) got.0 got.1) ++ dues_of loggers got.0 got.1)
dues_more loggers start gots got =
    let gap : List (ℕ × Item) = gap_at (next_behind start gots) got.0 got.1 in
    let last : all_dues loggers (got ∷ []) ≡ dues_of loggers got.0 got.1 = append-nil (dues_of loggers got.0 got.1) in
    ap (λ (l : List (ℕ × Item)). all_dues loggers l) (with_gaps-more start gots got)
    ∙ all_dues-append loggers (with_gaps start gots) (gap ++ got ∷ [])
    ∙ ap (λ (l : List Due). all_dues loggers (with_gaps start gots) ++ l)
    (all_dues-append loggers gap (got ∷ []) ∙ ap (λ (l : List Due). all_dues loggers gap ++ l) last)

module _ {S : Type 0} (loggers : List Logger) (start : Option ℕ) where
  -- the turns for the items of a worker's takes, and of what it told of gaps, after one more
  pub made_for : {now : Option ℕ} (bs cs ds es : List (SinkSeatView S)) (gots : List (ℕ × Item)) (got : ℕ × Item)
      → now ≡ next_behind start gots → HaveMade 0 bs cs (all_dues loggers (with_gaps start gots))
      → HaveMade 0 cs ds (all_dues loggers (gap_at now got.0 got.1)) → HaveMade 0 ds es (dues_of loggers got.0 got.1)
      → HaveMade 0 bs es (all_dues loggers (with_gaps start (gots ++ got ∷ [])))
  made_for {now} bs cs ds es gots got counted made told more =
      let gap : List Due = all_dues loggers (gap_at (next_behind start gots) got.0 got.1) in
      let says : HaveMade 0 cs ds gap = subst (λ (n : Option ℕ). HaveMade 0 cs ds (all_dues loggers (gap_at n got.0 got.1))) counted told in
      subst (λ (l : List Due). HaveMade 0 bs es l) (sym (dues_more loggers start gots got))
      (have_then 0 bs cs es (all_dues loggers (with_gaps start gots)) (gap ++ dues_of loggers got.0 got.1) made
      (have_then 0 cs ds es gap (dues_of loggers got.0 got.1) says more))

  pub made_for_stop : (bs cs : List (SinkSeatView S)) (gots : List (ℕ × Item)) (t : ℕ) (x : Item) → x ≡ Stop
      → HaveMade 0 bs cs (all_dues loggers (with_gaps start gots))
      → HaveMade 0 bs cs (all_dues loggers (with_gaps start (gots ++ (t, x) ∷ [])))
  made_for_stop bs cs gots t x is made =
      let now : Option ℕ = next_behind start gots in
      let none : [] ≡ gap_at now t Stop = sym (stop_gap now t) in
      subst (λ (z : Item). HaveMade 0 bs cs (all_dues loggers (with_gaps start (gots ++ (t, z) ∷ [])))) (sym is)
      (made_for {now = now} bs cs cs cs gots (t, Stop) refl made
      (subst (λ (l : List (ℕ × Item)). HaveMade 0 cs cs (all_dues loggers l)) none (have_none 0 cs)) (have_none 0 cs))
