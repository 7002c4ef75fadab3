-- What it gives that tickets rise: their bounds, how many they are at most, and that each stands once.
use Rattle.std.proofs.Common.{◌≡◌, ◌≢◌, ℕ, ◌+◌, ◌<◌, ◌≤◌, cond, None, Some, List, [], ◌∷◌, ◌++◌, length, refl, ◌∙◌, arith}
use Rattle.alog_core.specs.Queue.{Cell, cell_of, marked, without, Rises}
use Rattle.alog_core.specs.declared.mark.Mark.{Mark}
use Rattle.alog_core.proofs.SharedCells.{on_test, at_other, remarked}

pub bounds_of_rising : {T : Type 0} (low : ℕ) (cs : List (Cell T)) (high : ℕ) → Rises low cs high → low ≤ high
bounds_of_rising low [] high r = r
bounds_of_rising low (c ∷ cs) high r = let tail : c.ticket + 1 ≤ high = bounds_of_rising (c.ticket + 1) cs high r.1 in
    omega (arith, r.0)

-- at most as many cells as there are tickets
pub length-rising : {T : Type 0} (low : ℕ) (cs : List (Cell T)) (high : ℕ) → Rises low cs high → length cs + low ≤ high
length-rising low [] high r = omega (arith, r)
length-rising low (c ∷ cs) high r =
    let tail : length cs + (c.ticket + 1) ≤ high = length-rising (c.ticket + 1) cs high r.1 in omega (arith, r.0)

-- the bounds may be wider
pub rises_from_lower : {T : Type 0} (lower low : ℕ) (cs : List (Cell T)) (high : ℕ) → lower ≤ low → Rises low cs high
    → Rises lower cs high
rises_from_lower lower low [] high w r = omega (arith, r)
rises_from_lower lower low (c ∷ cs) high w r = (omega (arith, r.0), r.1)

pub rises_to_higher : {T : Type 0} (low : ℕ) (cs : List (Cell T)) (high higher : ℕ) → high ≤ higher → Rises low cs high
    → Rises low cs higher
rises_to_higher low [] high higher w r = omega (arith, r)
rises_to_higher low (c ∷ cs) high higher w r = (r.0, rises_to_higher (c.ticket + 1) cs high higher w r.1)

-- a listed ticket lies within the bounds
pub listed_within : {T : Type 0} (t : ℕ) (low : ℕ) (cs : List (Cell T)) (high : ℕ) (c : Cell T) → Rises low cs high
    → cell_of t cs ≡ Some c → (low ≤ t) × (t < high)
listed_within t low [] high c r h = cc
listed_within t low (d ∷ cs) high c r h =
    on_test
    (λ b. cond b (Some d) (cell_of t cs) ≡ Some c → (low ≤ t) × (t < high))
    d.ticket
    t
    (λ same _.
    let tail : d.ticket + 1 ≤ high = bounds_of_rising (d.ticket + 1) cs high r.1
    in (omega (arith, r.0), omega arith))
    (λ _ found.
    let w : (d.ticket + 1 ≤ t) × (t < high) = listed_within t (d.ticket + 1) cs high c r.1 found
    in (omega (arith, r.0, w.0), w.1))
    h

-- a ticket outside the bounds is not listed
pub unlisted_below : {T : Type 0} (t : ℕ) (low : ℕ) (cs : List (Cell T)) (high : ℕ) → Rises low cs high → t < low
    → cell_of t cs ≡ None
unlisted_below t low [] high r w = refl
unlisted_below t low (c ∷ cs) high r w =
    let apart : c.ticket ≢ t = omega (arith, r.0)
    in at_other c.ticket t (Some c) (cell_of t cs) apart
    ∙ unlisted_below t (c.ticket + 1) cs high r.1 (omega (arith, r.0))

pub unlisted_above : {T : Type 0} (t : ℕ) (low : ℕ) (cs : List (Cell T)) (high : ℕ) → Rises low cs high → high ≤ t
    → cell_of t cs ≡ None
unlisted_above t low [] high r w = refl
unlisted_above t low (c ∷ cs) high r w =
    let tail : c.ticket + 1 ≤ high = bounds_of_rising (c.ticket + 1) cs high r.1
    in let apart : c.ticket ≢ t = omega arith
    in at_other c.ticket t (Some c) (cell_of t cs) apart ∙ unlisted_above t (c.ticket + 1) cs high r.1 w

-- the lowest ticket is not listed: then the rest rise from the next on
pub rises_above_unlisted : {T : Type 0} (low : ℕ) (cs : List (Cell T)) (high : ℕ) → low < high → cell_of low cs ≡ None
    → Rises low cs high → Rises (low + 1) cs high
rises_above_unlisted low [] high w none r = omega arith
rises_above_unlisted low (c ∷ cs) high w none r =
    on_test
    (λ b. cond b (Some c) (cell_of low cs) ≡ None → Rises (low + 1) (c ∷ cs) high)
    c.ticket
    low
    (λ _ found. cc)
    (λ other _. (omega (arith, r.0), r.1))
    none

-- the cells after a claim, a mark and a removal
pub rises-append : {T : Type 0} (low : ℕ) (cs : List (Cell T)) (high : ℕ) (c : Cell T) → Rises low cs high
    → high ≤ c.ticket → Rises low (cs ++ c ∷ []) (c.ticket + 1)
rises-append low [] high c r w = (omega (arith, r), omega arith)
rises-append low (d ∷ cs) high c r w = (r.0, rises-append (d.ticket + 1) cs high c r.1 w)

pub rises-marked : {T : Type 0} (t : ℕ) (m : Mark) (a : ℕ) (low : ℕ) (cs : List (Cell T)) (high : ℕ) → Rises low cs high
    → Rises low (marked t m a cs) high
rises-marked t m a low [] high r = r
rises-marked t m a low (c ∷ cs) high r =
    on_test
    (λ b. Rises low (cond b (remarked c m a ∷ cs) (c ∷ marked t m a cs)) high)
    c.ticket
    t
    (λ _. r)
    (λ _. (r.0, rises-marked t m a (c.ticket + 1) cs high r.1))

pub rises-without : {T : Type 0} (t : ℕ) (low : ℕ) (cs : List (Cell T)) (high : ℕ) → Rises low cs high
    → Rises low (without t cs) high
rises-without t low [] high r = r
rises-without t low (c ∷ cs) high r =
    on_test
    (λ b. Rises low (cond b cs (c ∷ without t cs)) high)
    c.ticket
    t
    (λ _. rises_from_lower low (c.ticket + 1) cs high (omega (arith, r.0)) r.1)
    (λ _. (r.0, rises-without t (c.ticket + 1) cs high r.1))

-- each ticket stands once: removed, it is gone
pub cell_of-without_same : {T : Type 0} (t : ℕ) (low : ℕ) (cs : List (Cell T)) (high : ℕ) → Rises low cs high
    → cell_of t (without t cs) ≡ None
cell_of-without_same t low [] high r = refl
cell_of-without_same t low (c ∷ cs) high r =
    on_test
    (λ b. cell_of t (cond b cs (c ∷ without t cs)) ≡ None)
    c.ticket
    t
    (λ same. unlisted_below t (c.ticket + 1) cs high r.1 (omega arith))
    (λ other.
    at_other c.ticket t (Some c) (cell_of t (without t cs)) other
    ∙ cell_of-without_same t (c.ticket + 1) cs high r.1)
