-- Producers of a load at their seats.
use Rattle.std.proofs.Common.{◌≡◌, ◌<◌, ◌≤◌, ℕ, zero, suc, List, [], ◌∷◌, ◌++◌, map, length, refl, sym, ap, ◌∙◌, arith}
use Rattle.std.proofs.lemmas.Nat.{mod_below}
use Rattle.std.specs.Prelude.{slice_index_or}
use Rattle.std.specs.List.{AllByRecursion}
use Rattle.alog_load.specs.Load.{Goes, HasServed, load_task_of}
use Rattle.alog_load.specs.Producers.{AreDone, HaveLoggers}
use Rattle.alog_load.specs.declared.load_seat.LoadSeat.{LoadSeat}
use Rattle.alog_pool.specs.Places.{Each2}
use Rattle.alog_pool.specs.Producer.{ProducerView}
use Rattle.alog_pool.specs.declared.shared.Shared.{Shared}
use Rattle.alog_server.specs.Making.{AreOf}

-- a task names a logger, and no more messages than were asked for
pub load_task_known : (p n m : ℕ) → 0 < (load_task_of p n m).messages → (load_task_of p n m).logger < n
load_task_known p zero m some = absurd (omega (arith, some))
load_task_known p (suc n) m some = mod_below p (suc n) (omega arith)

pub task_few : (p n m : ℕ) → (load_task_of p n m).messages ≤ m
task_few p zero m = omega arith
task_few p (suc n) m = omega arith

-- the producers at these seats
abbrev pub producers_at : List LoadSeat → List ProducerView
producers_at seats = map (λ (s : LoadSeat). s.producer) seats

-- what holds of what stands at each place holds of all
pub each_of : {A : Type 0} (R : A → A → Type 0) (xs ys : List A) → length ys ≡ length xs
    → ((i : ℕ) (d : A) → i < length xs → R (slice_index_or xs i d) (slice_index_or ys i d)) → Each2 R xs ys
each_of R [] [] long at = tt
each_of R [] (y ∷ ys) long at = absurd (omega (arith, long))
each_of R (x ∷ xs) [] long at = absurd (omega (arith, long))
each_of {A} R (x ∷ xs) (y ∷ ys) long at =
    (at 0 x (omega arith), each_of R xs ys (omega (arith, long)) (λ i d below. at (suc i) d (omega (arith, below))))

pub at_place : {A : Type 0} (P : A → Type 0) (xs : List A) (i : ℕ) (d : A) → i < length xs → AllByRecursion P xs
    → P (slice_index_or xs i d)
at_place P [] i d below all = absurd (omega (arith, below))
at_place P (x ∷ xs) zero d below all = all.0
at_place P (x ∷ xs) (suc i) d below all = at_place P xs i d (omega (arith, below)) all.1

pub have_loggers : (s : Shared) (n : ℕ) (seats : List LoadSeat) → n ≡ length s.loggers → AreOf s (producers_at seats)
    → AllByRecursion (HaveLoggers n) seats
have_loggers s n [] count own = tt
have_loggers s n (x ∷ seats) count own =
    (count ∙ ap (λ (t : Shared). length t.loggers) (sym own.0), have_loggers s n seats count own.1)

module _ (loggers messages : ℕ) where
  pub goes_length : (old new : List LoadSeat) → Each2 (Goes loggers messages) old new → length new ≡ length old
  goes_length [] [] each = refl
  goes_length [] (y ∷ new) each = absurd each
  goes_length (x ∷ old) [] each = absurd each
  goes_length (x ∷ old) (y ∷ new) each = ap suc (goes_length old new each.1)

  -- they stay of their pool
  pub goes_own : (s : Shared) (old new : List LoadSeat) → Each2 (Goes loggers messages) old new → AreOf s (producers_at old)
      → AreOf s (producers_at new)
  goes_own s [] [] each own = tt
  goes_own s [] (y ∷ new) each own = absurd each
  goes_own s (x ∷ old) [] each own = absurd each
  goes_own s (x ∷ old) (y ∷ new) each own = (each.0.same.shared ∙ own.0, goes_own s old new each.1 own.1)

  -- where all are done, each logged all its messages
  pub served_all : (old new : List LoadSeat) → Each2 (Goes loggers messages) old new → AreDone new
      → Each2 (HasServed loggers messages) (producers_at old) (producers_at new)
  served_all [] [] each done = tt
  served_all [] (y ∷ new) each done = absurd each
  served_all (x ∷ old) [] each done = absurd each
  served_all (x ∷ old) (y ∷ new) each done = (each.0.served done.0, served_all old new each.1 done.1)

-- one more, behind those before
pub at_more : (seats : List LoadSeat) (s : LoadSeat) → producers_at (seats ++ s ∷ []) ≡ producers_at seats ++ s.producer ∷ []
at_more [] s = refl
at_more (x ∷ seats) s = ap (λ (l : List ProducerView). x.producer ∷ l) (at_more seats s)
