-- What an actor of a desk did first, and what it did then.
use Rattle.std.proofs.Common.{◌≡◌, ℕ, zero, suc, ◌+◌, List, [], ◌∷◌, ◌++◌, refl, sym, ap, subst, ◌∙◌, add-zero, add-suc}
use Rattle.alog_core.specs.Queue.{Event}
use Rattle.alog_core.specs.History.{Entry}
use Rattle.alog_core.specs.Run.{GoesOn}
use Rattle.alog_core.specs.World.{Machine}
use Rattle.alog_core.proofs.SharedFronts.{goes_further}
use Rattle.alog_lane.proofs.SharedLists.{each_append}
use Rattle.alog_policy.specs.Desk.{DeskView, one_more}
use Rattle.alog_policy.specs.DeskOutlet.{more, with_losses, IsUnbeaten, DeskDid}
use Rattle.alog_policy.specs.Rounds.{entries_by, Makes}
use Rattle.alog_policy.specs.declared.counts.Counts.{Counts}

pub entries_by-append : {T : Type 0} (a : ℕ) (es fs : List (Event T))
    → entries_by a (es ++ fs) ≡ entries_by a es ++ entries_by a fs
entries_by-append a [] fs = refl
entries_by-append {T} a (e ∷ es) fs =
    ap (λ (h : List (Entry T (Unit {0}))). record { actor = a; event = e; note = tt } ∷ h) (entries_by-append a es fs)

more-add : (n k m : ℕ) → more n (k + m) ≡ more (more n k) m
more-add n k zero = ap (more n) (add-zero k)
more-add n k (suc m) = ap (more n) (add-suc k m) ∙ ap one_more (more-add n k m)

pub with_losses-add : (c : Counts) (k l m n : ℕ) → with_losses (with_losses c k l) m n ≡ with_losses c (k + m) (l + n)
with_losses-add c k l m n =
    let C : ℕ → ℕ → Counts = λ o d. record { overrun = o; discarded = d } in
    ap (λ o. C o (more (more c.discarded l) n)) (sym (more-add c.overrun k m))
    ∙ ap (λ d. C (more c.overrun (k + m)) d) (sym (more-add c.discarded l n))

makes_together : {T : Type 0} (a : ℕ) (u v w : Machine T) (es fs : List (Event T)) → Makes a u es v → Makes a v fs w
    → Makes a u (es ++ fs) w
makes_together {T} a u v w es fs first then =
    record {
      places = then.places ∙ first.places;
      rounds = then.rounds ∙ first.rounds;
      history = subst (λ (h : List (Entry T (Unit {0}))). GoesOn u h w) (sym (entries_by-append a es fs))
          (goes_further u v w (entries_by a es) (entries_by a fs) first.history then.history);
    }

pub did_together : {T : Type 0} (a : ℕ) (u v w : DeskView T) (es fs : List (Event T)) (k l m n : ℕ) → DeskDid a u es k l v
    → DeskDid a v fs m n w → DeskDid a u (es ++ fs) (k + m) (l + n) w
did_together a u v w es fs k l m n first then =
    record {
      makes = makes_together a u.world v.world w.world es fs first.makes then.makes;
      unbeaten = each_append IsUnbeaten es fs first.unbeaten then.unbeaten;
      posts = then.posts ∙ first.posts;
      counts = then.counts ∙ (ap (λ c. with_losses c m n) first.counts ∙ with_losses-add u.counts k l m n);
    }
