-- Each move keeps the rule of the queue of full areas.
use Rattle.std.proofs.Common.{◌≡◌, ◌≢◌, ℕ, zero, suc, true, false, true≢false, List, [], ◌∷◌, ◌++◌, length, set, sym, refl, ap, ◌∙◌, subst, ⊎_elim, append_assoc, append-nil}
use Rattle.std.specs.List.{AllByRecursion}
use mathlib.Core.Option.{some, some-ne-none}
use lib.ListN.{get_elem?}
use Rattle.crossbeam_queue.specs.Fifo.{Pushes, Pops, Forks, Merges, Learns}
use Rattle.crossbeam_queue.proofs.Lists.{at_set, at_snoc}
use Rattle.alog_outbox.specs.Calls.{encoded}
use Rattle.alog_outbox.specs.declared.call.Call.{Call}
use Rattle.alog_outbox.specs.declared.letter.Letter.{Letter}
use Rattle.alog_outbox.specs.declared.letter.Letter.TheVariants.{Area, End}
use Rattle.alog_outbox.specs.declared.line.Log.{Log}
use Rattle.alog_outbox.specs.Line.{carried, ending, getting, log, sending, EndsBy, Fits, Gets, IsClosed, IsLetter, IsSent, Relayed}

at_end : (l : List Log) (a b : Log) (j : ℕ) → get_elem? l j ≢ some b → get_elem? (l ++ a ∷ []) j ≡ some b → j ≡ length l
at_end [] a b zero n e = refl
at_end [] a b (suc j) n e = absurd (some-ne-none b (sym e))
at_end (x ∷ xs) a b zero n e = absurd (n e)
at_end (x ∷ xs) a b (suc j) n e = ap suc (at_end xs a b j n e)

abbrev All : (ℕ → Log → Type 0) → List Log → Type 0
All F views = (port : ℕ) (v : Log) → get_elem? views port ≡ some v → F port v

abbrev nobody : Log
nobody = log false false [] [] []

all_set : (F : ℕ → Log → Type 0) (views : List Log) (port : ℕ) (w : Log) → F port w
    → ((j : ℕ) (u : Log) → j ≢ port → get_elem? views j ≡ some u → F j u) → All F (set views port w)
all_set F views port w mine others j u e = ⊎_elim (λ (x : (j ≡ port) × (w ≡ u)). subst (λ (y : ℕ × Log). F y.0 y.1) (λ i. (sym x.0 i, x.1 i)) mine)
    (λ (x : (j ≢ port) × (get_elem? views j ≡ some u)). others j u x.0 x.1) (at_set views port j w u e)

-- no pass may push, where the one that changes may not, and none of the others
abbrev Bars : ℕ → Log → Type 0
Bars port v = v.pushes ≢ true

all_and : (items : List Letter) (x : Letter) → AllByRecursion IsLetter items → IsLetter x → AllByRecursion IsLetter (items ++ x ∷ [])
all_and [] x all full = (full, tt)
all_and (y ∷ ys) x all full = (all.0, all_and ys x all.1 full)

carried_and : (items : List Letter) (x : Letter) → carried (items ++ x ∷ []) ≡ carried items ++ carried (x ∷ [])
carried_and [] x = refl
carried_and (Area a ∷ ys) x = ap (λ l. a ++ l) (carried_and ys x) ∙ sym (append_assoc a (carried ys) (carried (x ∷ [])))
carried_and (End ∷ ys) x = carried_and ys x

ends_as : (P Q : Type 0) → (P → Q) → (items : List Letter) → EndsBy P items → EndsBy Q items
ends_as P Q f [] e = tt
ends_as P Q f (Area a ∷ ys) e = ends_as P Q f ys e
ends_as P Q f (End ∷ ys) e = (e.0, f e.1)

-- where the end cannot lie there, more may come behind
ends_and : (P Q : Type 0) → ¬ P → (items : List Letter) (x : Letter) → EndsBy P items → EndsBy Q (x ∷ []) → EndsBy Q (items ++ x ∷ [])
ends_and P Q n [] x e q = q
ends_and P Q n (Area a ∷ ys) x e q = ends_and P Q n ys x e q
ends_and P Q n (End ∷ ys) x e q = absurd (n e.1)

-- a pass that may push is one too many
open_at : (sent : List ℕ) (views : List Log) (port : ℕ) (v : Log) → v.pushes ≡ true → get_elem? views port ≡ some v → ¬ (IsClosed sent views)
open_at sent views port v may at c = c.1 port v at may

-- it stays so where a pass may push no more than before
closed_still : (sent : List ℕ) (views : List Log) (port : ℕ) (v w : Log) → get_elem? views port ≡ some v → w.pushes ≡ v.pushes
    → IsClosed sent views → IsClosed sent (set views port w)
closed_still sent views port v w at same c = (c.0, all_set Bars views port w (λ p. c.1 port v at (sym same ∙ p)) (λ j u other e. c.1 j u e))

pub begins : Relayed [] (log true true [] [] [] ∷ [])
begins = (
  0,
  0,
  [],
  [],
  refl,
  tt,
  tt,
  all_set (Fits 0 0 [] []) (log true true [] [] [] ∷ []) 0 (log true true [] [] []) ((λ _. (refl, refl)), λ _. (refl, refl))
      (λ j u other e. absurd (other (at_end [] _ u j (λ x. some-ne-none u (sym x)) e))),
)

pub sends : (n port : ℕ) (v : Log) (area : List ℕ) → v.pushes ≡ true → IsSent area
    → Pushes Relayed n port v (Area area) (λ w. w ≡ sending (carried (Area area ∷ [])) v)
sends n port v area may full items views _ h at = let x : List ℕ = carried (Area area ∷ []) in let w : Log = sending x v in let mine = h.7 port v at in
    let sent = h.2 ++ x in (
      w,
      (
        h.0,
        h.1,
        sent,
        h.3,
        ap (λ l. l ++ x) h.4 ∙ append_assoc h.3 (carried items) x ∙ ap (λ l. h.3 ++ l) (sym (carried_and items (Area area))),
        all_and items (Area area) h.5 full,
        ends_and (IsClosed h.2 views) (IsClosed sent (set views port w)) (open_at h.2 views port v may at) items (Area area) h.6 tt,
        all_set (Fits h.0 h.1 sent h.3) views port w ((λ _. ((mine.0 may).0, ap (λ l. l ++ x) (mine.0 may).1)), mine.1)
            (λ j u other e. ((λ p. absurd (other (((h.7 j u e).0 p).0 ∙ sym (mine.0 may).0))), (h.7 j u e).1)),
      ),
      refl,
    )

pub closes : (n port : ℕ) (v : Log) → v.pushes ≡ true → v.sent ≡ encoded v.calls → Pushes Relayed n port v End (λ w. w ≡ record v { pushes = false })
closes n port v may all items views _ h at = let w : Log = record v { pushes = false } in let mine = h.7 port v at in
    let closed : IsClosed h.2 (set views port w) = (
      (v.calls, sym (mine.0 may).1 ∙ all),
      all_set Bars views port w (λ p. true≢false (sym p)) (λ j u other e p. other (((h.7 j u e).0 p).0 ∙ sym (mine.0 may).0)),
    ) in (
      w,
      (
        h.0,
        h.1,
        h.2,
        h.3,
        h.4 ∙ ap (λ l. h.3 ++ l) (sym (carried_and items End ∙ append-nil (carried items))),
        all_and items End h.5 tt,
        ends_and (IsClosed h.2 views) (IsClosed h.2 (set views port w)) (open_at h.2 views port v may at) items End h.6 (refl, closed),
        all_set (Fits h.0 h.1 h.2 h.3) views port w ((λ p. absurd (true≢false (sym p))), mine.1) (λ j u other e. h.7 j u e),
      ),
      refl,
    )

pub gets : (port : ℕ) (v : Log) → v.pops ≡ true → Pops Relayed port v (Gets v)
gets port v may (Area x) items views h at = let w : Log = getting x v in let mine = h.7 port v at in let got = h.3 ++ x in (
  w,
  (
    h.0,
    h.1,
    h.2,
    got,
    h.4 ∙ sym (append_assoc h.3 x (carried items)),
    h.5.1,
    ends_as (IsClosed h.2 views) (IsClosed h.2 (set views port w)) (closed_still h.2 views port v w at refl) items h.6,
    all_set (Fits h.0 h.1 h.2 got) views port w (mine.0, λ _. ((mine.1 may).0, ap (λ l. l ++ x) (mine.1 may).1))
        (λ j u other e. ((h.7 j u e).0, λ p. absurd (other (((h.7 j u e).1 p).0 ∙ sym (mine.1 may).0)))),
  ),
  (refl, h.5.0),
)
gets port v may End items views h at = let calls : List Call = h.6.1.0.0 in let w : Log = ending calls v in let mine = h.7 port v at in (
  w,
  (
    h.0,
    h.1,
    h.2,
    h.3,
    h.4,
    h.5.1,
    subst (EndsBy (IsClosed h.2 (set views port w))) (sym h.6.0) tt,
    all_set (Fits h.0 h.1 h.2 h.3) views port w mine (λ j u other e. h.7 j u e),
  ),
  (calls, refl, (mine.1 may).1 ∙ sym (h.4 ∙ ap (λ l. h.3 ++ carried l) h.6.0 ∙ append-nil h.3) ∙ h.6.1.0.1),
)

-- one pass of both kinds becomes one of each
pub forks : (port : ℕ) (v : Log) → v.pushes ≡ true → v.pops ≡ true
    → Forks Relayed port v (log true false v.calls v.sent []) (log false true [] [] v.got)
forks port v a b items views h at = let l : Log = log true false v.calls v.sent [] in let r : Log = log false true [] [] v.got in let mine = h.7 port v at in
    let vs : List Log = set views port l in
    let Old : ℕ → Log → Type 0 = λ j u. (u.pushes ≡ true → (j ≡ h.0) × (u.sent ≡ h.2)) × (u.pops ≢ true) in
    let old : All Old vs = all_set Old views port l ((λ _. mine.0 a), λ p. true≢false (sym p)) (λ j u other e. ((h.7 j u e).0, λ p. other (((h.7 j u e).1 p).0 ∙ sym (mine.1 b).0))) in (
      h.0,
      length vs,
      h.2,
      h.3,
      h.4,
      h.5,
      ends_as (IsClosed h.2 views) (IsClosed h.2 (vs ++ r ∷ [])) (λ c. absurd (open_at h.2 views port v a at c)) items h.6,
      λ j u e. ⊎_elim (λ x. ((old j u x).0, λ p. absurd ((old j u x).1 p)))
          (λ (is : r ≡ u). ((λ p. absurd (true≢false (sym (ap (λ (y : Log). y.pushes) is ∙ p)))), λ p. (at_end vs r u j (λ x. (old j u x).1 p) e, ap (λ (y : Log). y.got) (sym is) ∙ (mine.1 b).1))) (at_snoc vs r u j e),
    )

-- one more pass that may do nothing, while the calls are noted
pub idles : (port : ℕ) (v : Log) (calls : List Call) → Forks Relayed port v (record v { calls = calls }) nobody
idles port v calls items views h at = let w : Log = record v { calls = calls } in let vs : List Log = set views port w in
    let all : All (Fits h.0 h.1 h.2 h.3) vs = all_set (Fits h.0 h.1 h.2 h.3) views port w (h.7 port v at) (λ j u other e. h.7 j u e) in
    let closed : IsClosed h.2 views → IsClosed h.2 (vs ++ nobody ∷ []) = λ c. let d = closed_still h.2 views port v w at refl c in (
      d.0,
      λ j u e. ⊎_elim (λ x. d.1 j u x) (λ (is : nobody ≡ u) p. true≢false (sym (ap (λ (y : Log). y.pushes) is ∙ p))) (at_snoc vs nobody u j e),
    ) in (
      h.0,
      h.1,
      h.2,
      h.3,
      h.4,
      h.5,
      ends_as (IsClosed h.2 views) (IsClosed h.2 (vs ++ nobody ∷ [])) closed items h.6,
      λ j u e. ⊎_elim (λ x. all j u x)
          (λ (is : nobody ≡ u). ((λ p. absurd (true≢false (sym (ap (λ (y : Log). y.pushes) is ∙ p)))), λ p. absurd (true≢false (sym (ap (λ (y : Log). y.pops) is ∙ p))))) (at_snoc vs nobody u j e),
    )

pub merges : (port : ℕ) (v : Log) (other : ℕ) (u : Log) → v.pushes ≡ true → u.pops ≡ true → Merges Relayed port v other u (log true true v.calls v.sent u.got) nobody
merges port v other u a b items views h at two at' = let both : Log = log true true v.calls v.sent u.got in let mine = h.7 port v at in let vs : List Log = set views port both in
    let was : get_elem? views other ≡ some u = ⊎_elim (λ x. absurd (two x.0)) (λ x. x.1) (at_set views port other both u at') in let theirs = (h.7 other u was).1 b in
    let Now : ℕ → Log → Type 0 = λ j y. j ≢ other → Fits h.0 port h.2 h.3 j y in
    let now : All Now vs = all_set Now views port both (λ _. ((λ _. mine.0 a), λ _. (refl, theirs.1))) (λ j y _ e apart. ((h.7 j y e).0, λ p. absurd (apart (((h.7 j y e).1 p).0 ∙ sym theirs.0)))) in (
      h.0,
      port,
      h.2,
      h.3,
      h.4,
      h.5,
      ends_as (IsClosed h.2 views) (IsClosed h.2 (set vs other nobody)) (λ c. absurd (open_at h.2 views port v a at c)) items h.6,
      all_set (Fits h.0 port h.2 h.3) vs other nobody ((λ p. absurd (true≢false (sym p))), λ p. absurd (true≢false (sym p))) (λ j y apart e. now j y e apart),
    )

pub totals : (port : ℕ) (v : Log) → v.pushes ≡ true → v.pops ≡ true → Learns Relayed port v (λ items. v.sent ≡ v.got ++ carried items)
totals port v a b items views h at = let mine = h.7 port v at in (mine.0 a).1 ∙ h.4 ∙ ap (λ l. l ++ carried items) (sym (mine.1 b).1)
