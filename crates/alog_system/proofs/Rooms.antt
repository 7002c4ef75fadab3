-- What loggers keep.
use Rattle.std.proofs.Common.{◌≡◌, ◌<◌, ℕ, List, [], ◌∷◌, length, map, refl, sym, ap, ◌∙◌, get_or, set, arith}
use Rattle.std.proofs.Common.{◌+◌, ◌++◌, take, drop, zero, suc, Option, Some}
use Rattle.std.specs.Prelude.{unwrap_or}
use Rattle.std.proofs.Math.Seq.{map-set_same}
use Rattle.alog_msg.specs.declared.level.Level.{Level}
use Rattle.alog_msg.specs.declared.limits.TheConstants.{TEXT_LIMIT_MAX}
use Rattle.alog_registry.specs.Backtrace.{Room}
use Rattle.alog_registry.specs.Listed.{spec_at}
use Rattle.alog_registry.specs.declared.logger.Logger.{Logger}
use Rattle.alog_registry.specs.declared.logger.Spec.{Spec}
use Rattle.std.proofs.lemmas.List.{length-map}
use Rattle.std.proofs.lemmas.Option.{slice_get_read, get_or_from_slice_get}
use Rattle.alog_system.specs.Roster.{RosterView, IsRoster, backtrace_in, backtrace_at, first_level, room, room_of, empty_of, with_room, emptied, kept_at}

-- another room of the same size in its place
pub same_rooms : (loggers : List Logger) (levels : List Level) (kept : List Room) (n : ℕ) (other : Room)
    → empty_of other ≡ empty_of (get_or kept n (room 0)) → IsRoster loggers levels kept → IsRoster loggers levels (set kept n other)
same_rooms loggers levels kept n other e r =
    record { each = r.each; rooms = map-set_same empty_of kept n other (room 0) e ∙ r.rooms }

-- where a list is made element by element of the specs of loggers
pub more_made : {X : Type 0} (f : Spec → X) (loggers : List Logger) (i : ℕ) (s : Spec) → spec_at loggers i ≡ Some s
    → map (λ (l : Logger). f l.spec) (take (i + 1) loggers) ≡ map (λ (l : Logger). f l.spec) (take i loggers) ++ f s ∷ []
more_made f [] i s e = absurd (cc)
more_made f (l ∷ ls) zero s e = ap (λ (o : Option Spec). f (unwrap_or o s) ∷ []) e
more_made f (l ∷ ls) (suc i) s e =
    let one : suc i + 1 ≡ suc (i + 1) = omega arith in
    ap (λ k. map (λ (l : Logger). f l.spec) (take k (l ∷ ls))) one ∙ ap (λ xs. f l.spec ∷ xs) (more_made f ls i s e)

-- a logger's room is as large as its spec says
pub room_at : (loggers : List Logger) (kept : List Room) (n : ℕ) → map empty_of kept ≡ map room_of loggers
    → empty_of (get_or kept n (room 0)) ≡ room (backtrace_in (spec_at loggers n))
room_at [] [] n e = refl
room_at [] (k ∷ ks) n e = absurd (cc)
room_at (l ∷ ls) [] n e = absurd (cc)
room_at (l ∷ ls) (k ∷ ks) zero e = ap (λ xs. get_or xs 0 (room 0)) e
room_at (l ∷ ls) (k ∷ ks) (suc n) e = room_at ls ks n (ap (drop 1) e)

-- the room that is lent is the logger's
pub lent_room : (kept : List Room) (n : ℕ) (lent : Room) → n < length kept → lent ≡ get_or kept n lent → lent ≡ get_or kept n (room 0)
lent_room kept n lent lt e = sym (get_or_from_slice_get kept n lent (room 0) (slice_get_read kept (length kept) n lent refl lt e))

-- What a dump finds and leaves.
pub record Dumping (r : RosterView) (n number : ℕ) (lent after : Room) (most : ℕ) : Type 0 where
  pub whole : IsRoster r.loggers r.levels r.kept
  pub same : n ≡ number
  pub lent_is : lent ≡ get_or r.kept n lent
  pub most_is : most ≡ backtrace_at r number
  pub there : number < length r.loggers

kept_length : (loggers : List Logger) (levels : List Level) (kept : List Room) → IsRoster loggers levels kept → length kept ≡ length loggers
kept_length loggers levels kept r = sym (length-map kept empty_of) ∙ (ap length r.rooms ∙ length-map loggers room_of)

pub lent_most : {r : RosterView} {n number : ℕ} {lent after : Room} {most : ℕ} → Dumping r n number lent after most
    → empty_of lent ≡ room most
lent_most {r} {n} {number} {lent} {after} {most} d =
    let below : n < length r.kept = rw (kept_length r.loggers r.levels r.kept d.whole) (rw d.same d.there) in
    ap empty_of (lent_room r.kept n lent below d.lent_is)
    ∙ (room_at r.loggers r.kept n d.whole.rooms ∙ (ap (λ k. room (backtrace_at r k)) d.same ∙ ap room (sym d.most_is)))

pub dumped_whole : {r : RosterView} {n number : ℕ} {lent after : Room} {most : ℕ} → Dumping r n number lent after most → after ≡ room most
    → IsRoster r.loggers r.levels (set r.kept n after)
dumped_whole {r} {n} {number} {lent} {after} {most} d e =
    let below : n < length r.kept = rw (kept_length r.loggers r.levels r.kept d.whole) (rw d.same d.there) in
    same_rooms r.loggers r.levels r.kept n after
    (ap empty_of e ∙ (sym (lent_most d) ∙ ap empty_of (lent_room r.kept n lent below d.lent_is))) d.whole

pub dumped_emptied : {r : RosterView} {n number : ℕ} {lent after : Room} {most : ℕ} → Dumping r n number lent after most → after ≡ room most
    → with_room r n after ≡ emptied r number
dumped_emptied {r} {n} {number} {lent} {after} {most} d e =
    let below : n < length r.kept = rw (kept_length r.loggers r.levels r.kept d.whole) (rw d.same d.there) in
    let size : room most ≡ empty_of (kept_at r n) = sym (lent_most d) ∙ ap empty_of (lent_room r.kept n lent below d.lent_is) in
    ap (with_room r n) (e ∙ size) ∙ ap (λ k. with_room r k (empty_of (kept_at r k))) d.same

rooms_most : (loggers : List Logger) → map empty_of (map room_of loggers) ≡ map room_of loggers
rooms_most [] = refl
rooms_most (l ∷ ls) = ap (λ xs. room_of l ∷ xs) (rooms_most ls)

-- what is kept by a logger may be as long as any text
pub lent_limit : (loggers : List Logger) (levels : List Level) (kept : List Room) (n : ℕ) (lent : Room) → n < length kept
    → IsRoster loggers levels kept → lent ≡ get_or kept n (room 0) → lent.limit ≡ TEXT_LIMIT_MAX
lent_limit loggers levels kept n lent below whole is =
    ap (λ (b : Room). b.limit) is ∙ ap (λ (b : Room). b.limit) (room_at loggers kept n whole.rooms)

-- each logger has its level and its room
pub fresh_whole : (loggers some : List Logger) (levels : List Level) (kept : List Room) → some ≡ loggers → levels ≡ map first_level some
    → kept ≡ map room_of some → IsRoster loggers levels kept
fresh_whole loggers some levels kept e f g =
    let ls = f ∙ ap (map first_level) e in
    let ks = g ∙ ap (map room_of) e in
    record { each = ap length ls ∙ length-map loggers first_level; rooms = ap (map empty_of) ks ∙ rooms_most loggers }
