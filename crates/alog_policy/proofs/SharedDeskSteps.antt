-- A step of a desk whose actor is in a post.
use Rattle.std.proofs.Common.{◌≡◌, ◌≢◌, ℕ, ◌<◌, Option, None, Some, Ok, Err, List, [], ◌++◌, length}
use Rattle.std.proofs.Common.{refl, sym, ap, subst, ◌∙◌, arith, get_or, set, length-set, get_or-set_same, set-set, append-nil}
use Rattle.std.proofs.lemmas.List.{get_or_read, get_or-replicate, length-replicate}
use Rattle.alog_core.specs.Queue.{Event}
use Rattle.alog_core.specs.History.{Entry}
use Rattle.alog_core.specs.Run.{GoesOn, HasItsCell, entries_of_step}
use Rattle.alog_core.specs.World.{Machine, fresh, round_of, is_idle, began, next_move, stepped, told}
use Rattle.alog_core.specs.declared.TheConstants.{ACTORS}
use Rattle.alog_core.specs.declared.round.Round.{Round}
use Rattle.alog_core.specs.declared.round.Round.TheVariants as round
use Rattle.alog_core.specs.declared.said.Said.{Said}
use Rattle.alog_core.specs.declared.mark.Mark.TheVariants.{Emptying}
use Rattle.alog_core.proofs.SharedFronts.{goes_same, goes_began, goes_further}
use Rattle.alog_policy.specs.Post.{Pushing, IsPost}
use Rattle.alog_policy.specs.Progress.{IsSoFar, begun}
use Rattle.alog_policy.specs.Desk.{DeskView, fresh_desk, post_of, Follows, Stays, Ends, Leads, follows, value_in, with_said, Turn}
use Rattle.alog_policy.specs.Desk.{turn_to, turn_of, after_step, desk_stepped, answer_of, desk_told, said_in_post}
use Rattle.alog_policy.specs.Desk.{event_of, call_of, IsAt, IsPosting, Continues, PostGoesOn}
use Rattle.alog_policy.specs.DeskInside.{Fits, IsKeptDesk}
use Rattle.alog_policy.specs.Following.{MayGoOn}
use Rattle.alog_policy.specs.declared.counts.Counts.{Counts}
use Rattle.alog_policy.specs.declared.policy.Policy.{Policy}
use Rattle.alog_policy.specs.declared.policy.Outcome.{Outcome}
use Rattle.alog_policy.specs.declared.post.Post.{Post}
use Rattle.alog_policy.specs.declared.post.Stepped.{Stepped}
use Rattle.alog_policy.specs.declared.progress.Side.{Side}
use Rattle.alog_policy.specs.declared.progress.Side.TheVariants.{Push, Pop}
use Rattle.alog_policy.proofs.Posts.{begun_agrees}
use Rattle.alog_policy.proofs.Keeping.{kept_begun}
use Rattle.alog_policy.proofs.SharedStepKinds.{Kind, kind_of}
use Rattle.alog_policy.proofs.Desks.{kept_set, has_value, led_is_idle, round_set, turn_rounds}
use Rattle.alog_policy.proofs.Turns.{turn_fits, turn_comes, CameTo}

-- the post that was taken out is the actor's
pub post_read : {T : Type 0} (ps : List (Option (Post T))) (a : ℕ) {lent taken : Option (Post T)} {p : Post T}
    → a < length ps → lent ≡ get_or ps a lent → taken ≡ lent → taken ≡ Some p → get_or ps a None ≡ Some p
post_read ps a {lent} lt e f g = sym (get_or_read ps a lent lt e None) ∙ (sym f ∙ g)

-- a turn by its parts
pub turn_is : {T : Type 0} {v w : Machine T} (a : ℕ) (p : Post T) (c : Counts) {s t : Said T} → v ≡ w → s ≡ t
    → turn_of v a p c s ≡ turn_of w a p c t
turn_is {T} {w} a p c {s} e f =
    ap (λ (m : Machine T). turn_of m a p c s) e ∙ ap (λ (u : Said T). turn_of w a p c u) f

stepped_is : {T : Type 0} (s : Stepped T) (x : Said T) (o : Option (Outcome T)) → s.said ≡ x → s.outcome ≡ o
    → s ≡ record { said = x; outcome = o }
stepped_is {T} s x o e f =
    let S : Said T → Option (Outcome T) → Stepped T = λ y q. record { said = y; outcome = q } in
    ap (λ (y : Said T). S y s.outcome) e ∙ ap (λ (q : Option (Outcome T)). S x q) f

pub desk_is : {T : Type 0} (d : DeskView T) (w : Machine T) (ps : List (Option (Post T))) (c : Counts) → d.world ≡ w
    → d.posts ≡ ps → d.counts ≡ c → d ≡ record { world = w; posts = ps; counts = c }
desk_is {T} d w ps c e f g =
    let D : Machine T → List (Option (Post T)) → Counts → DeskView T = λ m qs k. record { world = m; posts = qs; counts = k } in
    ap (λ (m : Machine T). D m d.posts d.counts) e
    ∙ (ap (λ (qs : List (Option (Post T))). D w qs d.counts) f ∙ ap (λ (k : Counts). D w ps k) g)

begins_no_look : {T : Type 0} (s : Side) (v : Option T) (t : ℕ) → call_of s v ≢ round.PopFronted t
begins_no_look Push None t e = cc
begins_no_look Push (Some x) t e = cc
begins_no_look Pop v t e = cc

-- and each history that leads to the machine that the step left leads to the turn's: the next call may have begun
pub turn_goes : {T : Type 0} (w : Machine T) (a : ℕ) (p : Post T) (c : Counts) (v : Option T) (f : Follows)
    → length w.rounds ≡ ACTORS → a < ACTORS → GoesOn {N = Unit {0}} w [] (turn_to w a p c v f).world
turn_goes w a p c v Stays all lt = goes_same w
turn_goes w a p c v (Ends t) all lt = goes_same w
turn_goes w a p c v (Leads (Ok g)) all lt = goes_began w a (call_of g.side v) all lt (begins_no_look g.side v)
turn_goes w a p c v (Leads (Err l)) all lt = goes_same w

continues_from : {T : Type 0} (e : DeskView T) (a : ℕ) {q r : Policy} (x : T) (fs : List (Event T)) {o : Option (Post T)}
    {s : Round T} (out : Option (Outcome T)) → q ≡ r → (post_of e a ≡ o) × (round_of e.world a ≡ s) → CameTo q x fs o s out
    → Continues e a r x fs out
continues_from {T} e a x fs None same there came =
    record {
      post = came.post;
      there = there.0 ∙ came.there;
      under = came.under ∙ same;
      part = came.part;
      at = subst (λ (u : Round T). IsAt x came.post.hand came.post.progress.side u came.part) (sym there.1) came.at;
      so_far = came.so_far;
    }
continues_from {T} e a x fs (Some out) same there came =
    (subst (λ k. IsPost k x x fs out) same came.0, there.0 ∙ came.1)

module _ {T : Type 0} (d : DeskView T) (a : ℕ) (p : Post T) (kept : IsKeptDesk d) (lt : a < ACTORS)
    (there : post_of d a ≡ Some p) (cell : HasItsCell d.world a) where
  abbrev pub left : Machine T
  left = stepped d.world a

  abbrev pub turn : Turn T
  turn = turn_of left a p d.counts (told d.world a)

  fits : Fits (Some p) (round_of d.world a)
  fits = subst (λ (o : Option (Post T)). Fits o (round_of d.world a)) there (kept.fit a lt)

  kind : Kind T (round_of d.world a) (next_move d.world a)
  kind =
      kind_of d.world.places d.world.queue (round_of d.world a)
      (λ t e. let c = cell.takes t e in (record { ticket = t; mark = Emptying; item = c.0; actor = a }, c.1))

  in_rounds : a < length d.world.rounds
  in_rounds = omega (arith, lt, kept.actors)

  in_left : a < length left.rounds
  in_left = let same = length-set d.world.rounds a (next_move d.world a).round in omega (arith, lt, kept.actors, same)

  here : round_of left a ≡ (next_move d.world a).round
  here = round_set left d.world.rounds a (next_move d.world a).round in_rounds refl

  pub may_go_on : MayGoOn left a p (told d.world a)
  may_go_on =
      record {
        actor = lt;
        kept = fits.0;
        value = has_value p (round_of d.world a) (next_move d.world a) kind fits.1;
        idle = λ next leads.
            ap is_idle (here ∙ led_is_idle p (round_of d.world a) (next_move d.world a) kind fits.1 next leads);
      }

  pub rounds_after : turn.world.rounds ≡ set d.world.rounds a (round_of turn.world a)
  rounds_after =
      turn_rounds left a p (with_said d.counts (told d.world a)) (value_in p.hand (told d.world a))
      (follows p.progress (told d.world a)) in_left
      ∙ set-set d.world.rounds a (next_move d.world a).round (round_of turn.world a)

  pub kept_after : (e : DeskView T) → e.world ≡ turn.world → e.posts ≡ set d.posts a turn.post → IsKeptDesk e
  kept_after e world posts =
      kept_set {e = e} a (round_of turn.world a) turn.post kept lt
      (turn_fits left a p d.counts (round_of d.world a) (next_move d.world a) fits.0 in_left here kind fits.1)
      (ap (λ (w : Machine T). w.rounds) world ∙ rounds_after) posts

  pub post_goes_on : (e : DeskView T) (o : Option (Outcome T)) → e.world ≡ turn.world → e.posts ≡ set d.posts a turn.post
      → o ≡ turn.outcome → PostGoesOn d a o e
  post_goes_on e o world posts outcome q x es posting =
      let same : posting.post ≡ p = let f = sym posting.there ∙ there in cc in
      let at = subst (λ (k : Post T). IsAt x k.hand k.progress.side (round_of d.world a) posting.part) same posting.at in
      let way = subst (λ (k : Post T). IsSoFar k.progress x posting.part es) same posting.so_far in
      let under = subst (λ (k : Post T). k.progress.policy ≡ q) same posting.under in
      let in_posts : a < length d.posts = omega (arith, lt, kept.posts) in
      let post : post_of e a ≡ turn.post =
      ap (λ (ps : List (Option (Post T))). get_or ps a None) posts ∙ get_or-set_same d.posts a turn.post None in_posts in
      let came =
      turn_comes left a p d.counts x es in_left (round_of d.world a) (next_move d.world a) posting.part here fits.0 at way kind in
      subst (λ (w : Option (Outcome T)). Continues e a q x (es ++ event_of (next_move d.world a).event) w) (sym outcome)
      (continues_from e a x (es ++ event_of (next_move d.world a).event) turn.outcome under
      (post, ap (λ (w : Machine T). round_of w a) world) came)

  pub stepped_after : (e : DeskView T) → e.world ≡ turn.world → e.posts ≡ set d.posts a turn.post
      → e.counts ≡ turn.counts → e ≡ desk_stepped d a
  stepped_after e world posts counts =
      desk_is e turn.world (set d.posts a turn.post) turn.counts world posts counts
      ∙ ap (λ (o : Option (Post T)). after_step d a o) (sym there)

  pub told_after : (s : Stepped T) → s.said ≡ said_in_post (told d.world a) → s.outcome ≡ turn.outcome → s ≡ desk_told d a
  told_after s said outcome =
      stepped_is s (said_in_post (told d.world a)) turn.outcome said outcome
      ∙ ap (λ (o : Option (Post T)). answer_of d a o) (sym there)

  pub history_after : (w : Machine T) → w ≡ turn.world → GoesOn d.world (entries_of_step d.world a) left
      → GoesOn d.world (entries_of_step d.world a) w
  history_after w world goes =
      let all : length left.rounds ≡ ACTORS = length-set d.world.rounds a (next_move d.world a).round ∙ kept.actors in
      let more =
      turn_goes left a p (with_said d.counts (told d.world a)) (value_in p.hand (told d.world a))
      (follows p.progress (told d.world a)) all lt in
      let both = goes_further d.world left turn.world (entries_of_step d.world a) [] goes more in
      subst (λ (m : Machine T). GoesOn d.world (entries_of_step d.world a) m) (sym world)
      (subst (λ (h : List (Entry T (Unit {0}))). GoesOn d.world h turn.world) (append-nil (entries_of_step d.world a)) both)

-- the desk that was made
pub kept_fresh : {T : Type 0} (d : DeskView T) (n f : ℕ) → d ≡ fresh_desk n f → IsKeptDesk d
kept_fresh {T} d n f e =
    subst (λ (k : DeskView T). IsKeptDesk k) (sym e)
    (record {
      actors = length-replicate ACTORS (let r : Round T = round.Idle in r);
      posts = length-replicate ACTORS (let o : Option (Post T) = None in o);
      fit = λ a lt.
          subst (λ (o : Option (Post T)). Fits o (round_of (fresh n f) a)) (sym (get_or-replicate ACTORS a None None lt)) tt;
    })

-- a post that has begun
pub post_begins : {T : Type 0} {d e : DeskView T} {a : ℕ} {p : Policy} {x : T} → IsKeptDesk d → a < ACTORS
    → e.world ≡ began d.world a (round.Push x) → e.posts ≡ set d.posts a (Some (record { progress = begun p; hand = None }))
    → IsKeptDesk e × IsPosting e a p x []
post_begins {T} {d} {e} {a} {p} {x} kept lt world posts =
    let post : Post T = record { progress = begun p; hand = None } in
    let rounds : e.world.rounds ≡ set d.world.rounds a (round.Push x) = ap (λ (w : Machine T). w.rounds) world in
    let in_rounds : a < length d.world.rounds = omega (arith, lt, kept.actors) in
    let in_posts : a < length d.posts = omega (arith, lt, kept.posts) in
    let there : post_of e a ≡ Some post =
    ap (λ (ps : List (Option (Post T))). get_or ps a None) posts ∙ get_or-set_same d.posts a (Some post) None in_posts in
    let here : round_of e.world a ≡ round.Push x = round_set e.world d.world.rounds a (round.Push x) in_rounds rounds in (
      kept_set {e = e} a (round.Push x) (Some post) kept lt (kept_begun p, (refl, refl)) rounds posts,
      record {
        post = post;
        there = there;
        under = refl;
        part = Pushing;
        at = subst (λ (u : Round T). IsAt x None post.progress.side u Pushing) (sym here) (refl, refl, refl, refl);
        so_far = begun_agrees p x;
      },
    )
