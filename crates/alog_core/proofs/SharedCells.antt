-- What the look-up of a ticket sees in a changed list of cells.
use Rattle.std.proofs.Common.{◌≡◌, ◌≢◌, ◌⊎◌, ℕ, ◌==◌, Bool, true, false, cond, Option, None, Some, List, [], ◌∷◌, ◌++◌, inl, inr, refl, sym}
use Rattle.std.proofs.Common.{ap, subst, ◌∙◌}
use Rattle.std.proofs.lemmas.Bool.Decides.{eqb_tells}
use Rattle.alog_core.specs.Queue.{Cell, cell_of, marked, without, HasCell}
use Rattle.alog_core.specs.declared.mark.Mark.{Mark}

-- a test of two numbers by its two cases
pub on_test : (P : Bool → Type 0) (a b : ℕ) → (a ≡ b → P true) → (a ≢ b → P false) → P (a == b)
on_test P a b same other =
    elim (eqb_tells a b) [ inl h ↦ subst P (sym h.0) (same h.1) | inr h ↦ subst P (sym h.0) (other h.1) ]

-- a look-up finds nothing, or something
pub on_option : {A : Type 0} (o : Option A) → (o ≡ None) ⊎ ((a : A) × (o ≡ Some a))
on_option None = inl refl
on_option (Some a) = inr (a, refl)

-- a test that comes out true, and one that comes out false
pub at_same : {X : Type 0} (a b : ℕ) (x y : X) → a ≡ b → cond (a == b) x y ≡ x
at_same a b x y e = on_test (λ t. cond t x y ≡ x) a b (λ _. refl) (λ d. absurd (d e))

pub at_other : {X : Type 0} (a b : ℕ) (x y : X) → a ≢ b → cond (a == b) x y ≡ y
at_other a b x y d = on_test (λ t. cond t x y ≡ y) a b (λ e. absurd (d e)) (λ _. refl)

-- the cell with a new mark and a new actor
abbrev pub remarked : {T : Type 0} → Cell T → Mark → ℕ → Cell T
remarked c m a = record { ticket = c.ticket; mark = m; item = c.item; actor = a }

-- the cell that a look-up finds is that of its ticket
pub ticket_of_cell : {T : Type 0} (t : ℕ) (cs : List (Cell T)) (c : Cell T) → cell_of t cs ≡ Some c → c.ticket ≡ t
ticket_of_cell t [] c h = cc
ticket_of_cell {T} t (d ∷ cs) c h =
    on_test
    (λ b. cond b (Some d) (cell_of t cs) ≡ Some c → c.ticket ≡ t)
    d.ticket
    t
    (λ e found. let same : d ≡ c = cc in ap (λ (x : Cell T). x.ticket) (sym same) ∙ e)
    (λ _ found. ticket_of_cell t cs c found)
    h

-- Appending: a listed ticket keeps its cell, and another is looked up in what was appended.
pub cell_of-append_listed : {T : Type 0} (t : ℕ) (cs ds : List (Cell T)) (c : Cell T) → cell_of t cs ≡ Some c
    → cell_of t (cs ++ ds) ≡ Some c
cell_of-append_listed t [] ds c h = cc
cell_of-append_listed t (d ∷ cs) ds c h =
    on_test
    (λ b. cond b (Some d) (cell_of t cs) ≡ Some c → cond b (Some d) (cell_of t (cs ++ ds)) ≡ Some c)
    d.ticket
    t
    (λ _ found. found)
    (λ _ found. cell_of-append_listed t cs ds c found)
    h

pub cell_of-append_unlisted : {T : Type 0} (t : ℕ) (cs ds : List (Cell T)) → cell_of t cs ≡ None
    → cell_of t (cs ++ ds) ≡ cell_of t ds
cell_of-append_unlisted t [] ds h = refl
cell_of-append_unlisted t (d ∷ cs) ds h =
    on_test
    (λ b. cond b (Some d) (cell_of t cs) ≡ None → cond b (Some d) (cell_of t (cs ++ ds)) ≡ cell_of t ds)
    d.ticket
    t
    (λ _ found. cc)
    (λ _ found. cell_of-append_unlisted t cs ds found)
    h

-- one cell appended, for another ticket and for its own
pub cell_of-append_other : {T : Type 0} (t : ℕ) (cs : List (Cell T)) (c : Cell T) → c.ticket ≢ t
    → cell_of t (cs ++ c ∷ []) ≡ cell_of t cs
cell_of-append_other t [] c other = at_other c.ticket t (Some c) None other
cell_of-append_other t (d ∷ cs) c other =
    ap (λ o. cond (d.ticket == t) (Some d) o) (cell_of-append_other t cs c other)

pub cell_of-append_same : {T : Type 0} (t : ℕ) (cs : List (Cell T)) (c : Cell T) → c.ticket ≡ t → cell_of t cs ≡ None
    → cell_of t (cs ++ c ∷ []) ≡ Some c
cell_of-append_same t cs c same none =
    cell_of-append_unlisted t cs (c ∷ []) none ∙ at_same c.ticket t (Some c) None same

-- Marking: the ticket's cell has the mark and the actor, and the others are as they were.
pub cell_of-marked_same : {T : Type 0} (t : ℕ) (m : Mark) (a : ℕ) (cs : List (Cell T)) (c : Cell T) → cell_of t cs ≡ Some c
    → cell_of t (marked t m a cs) ≡ Some (remarked c m a)
cell_of-marked_same t m a [] c h = cc
cell_of-marked_same {T} t m a (d ∷ cs) c h =
    on_test
    (λ b.
    cond b (Some d) (cell_of t cs) ≡ Some c
    → cell_of t (cond b (remarked d m a ∷ cs) (d ∷ marked t m a cs)) ≡ Some (remarked c m a))
    d.ticket
    t
    (λ same found.
    let is : d ≡ c = cc
    in at_same d.ticket t (Some (remarked d m a)) (cell_of t cs) same
    ∙ ap (λ (x : Cell T). Some (remarked x m a)) is)
    (λ other found.
    at_other d.ticket t (Some d) (cell_of t (marked t m a cs)) other ∙ cell_of-marked_same t m a cs c found)
    h

pub cell_of-marked_other : {T : Type 0} (u t : ℕ) (m : Mark) (a : ℕ) (cs : List (Cell T)) → t ≢ u
    → cell_of u (marked t m a cs) ≡ cell_of u cs
cell_of-marked_other u t m a [] other = refl
cell_of-marked_other u t m a (d ∷ cs) other =
    on_test
    (λ b. cell_of u (cond b (remarked d m a ∷ cs) (d ∷ marked t m a cs)) ≡ cell_of u (d ∷ cs))
    d.ticket
    t
    (λ same.
    let apart : d.ticket ≢ u = λ e. other (sym same ∙ e)
    in at_other d.ticket u (Some (remarked d m a)) (cell_of u cs) apart
    ∙ sym (at_other d.ticket u (Some d) (cell_of u cs) apart))
    (λ _. ap (λ o. cond (d.ticket == u) (Some d) o) (cell_of-marked_other u t m a cs other))

pub HasCell-marked : {T : Type 0} (cs : List (Cell T)) (t : ℕ) (m : Mark) (x : T) (a : ℕ) (after_mark : Mark)
    (after_actor : ℕ) → HasCell cs t m x a → HasCell (marked t after_mark after_actor cs) t after_mark x after_actor
HasCell-marked cs t m x a after_mark after_actor h =
    cell_of-marked_same t after_mark after_actor cs (record { ticket = t; mark = m; item = x; actor = a }) h

-- Removing: the other tickets are as they were. (That the ticket itself is gone needs the order of the cells.)
pub cell_of-without_other : {T : Type 0} (u t : ℕ) (cs : List (Cell T)) → t ≢ u → cell_of u (without t cs) ≡ cell_of u cs
cell_of-without_other u t [] other = refl
cell_of-without_other u t (d ∷ cs) other =
    on_test
    (λ b. cell_of u (cond b cs (d ∷ without t cs)) ≡ cell_of u (d ∷ cs))
    d.ticket
    t
    (λ same.
    let apart : d.ticket ≢ u = λ e. other (sym same ∙ e)
    in sym (at_other d.ticket u (Some d) (cell_of u cs) apart))
    (λ _. ap (λ o. cond (d.ticket == u) (Some d) o) (cell_of-without_other u t cs other))
