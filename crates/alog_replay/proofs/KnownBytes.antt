-- Facts of bytes that a reader has left, one after the other.
use Rattle.std.proofs.Common.{◌≡◌, List, [], ◌++◌, ℕ, Option, None, Some, refl, sym, ◌∙◌, append_assoc}
use Rattle.std.specs.Prelude.{IfSome}
use Rattle.std.specs.Io.KnownBytes.{Consumes, prepend_known}
use Rattle.alog_replay.specs.Known.{WhereKnown}

pub known_then : (a b c : Option (List ℕ)) {P Q R : List ℕ → List ℕ → Type 0} → ((x y z : List ℕ) → P x y → Q y z → R x z)
    → WhereKnown a b P → WhereKnown b c Q → WhereKnown a c R
known_then None b c both p q = tt
known_then (Some x) None c both p q = absurd p
known_then (Some x) (Some y) None both p q = absurd q
known_then (Some x) (Some y) (Some z) both p q = both x y z p q

pub known_first : (a b : Option (List ℕ)) (Q : List ℕ → Type 0) → WhereKnown a b (λ x y. Q x) → IfSome a Q
known_first None b Q h = tt
known_first (Some x) None Q h = absurd h
known_first (Some x) (Some y) Q h = h

pub known_same : (a : Option (List ℕ)) (P : List ℕ → List ℕ → Type 0) → ((x : List ℕ) → P x x) → WhereKnown a a P
known_same None P h = tt
known_same (Some x) P h = h x

-- what was read and is in no line yet goes before what is left
pub known_pending : (a left : Option (List ℕ)) (pending : List ℕ) (P : List ℕ → List ℕ → Type 0)
    → WhereKnown a (prepend_known pending left) P → WhereKnown a left (λ x y. P x (pending ++ y))
known_pending None left pending P h = tt
known_pending (Some x) None pending P h = absurd h
known_pending (Some x) (Some y) pending P h = h

-- the first bytes are some that were read, and then the second
abbrev pub IsRead : List ℕ → List ℕ → Type 0
IsRead bytes left = (read : List ℕ) × (bytes ≡ read ++ left)

pub consumed : (a b : Option (List ℕ)) (line : List ℕ) → Consumes a b line → WhereKnown a b IsRead
consumed None b line h = tt
consumed (Some x) None line h = absurd h
consumed (Some x) (Some y) line h = (line, h)

pub known_read : (a b : Option (List ℕ)) (P : List ℕ → List ℕ → Type 0) → ((x y : List ℕ) → P x y → IsRead x y) → WhereKnown a b P
    → WhereKnown a b IsRead
known_read None b P q h = tt
known_read (Some x) None P q h = absurd h
known_read (Some x) (Some y) P q h = q x y h

pub read_same : (a : Option (List ℕ)) → WhereKnown a a IsRead
read_same a = known_same a IsRead (λ x. ([], refl))

pub read_pending : (a left : Option (List ℕ)) (pending : List ℕ) → WhereKnown a (prepend_known pending left) IsRead
    → WhereKnown a left IsRead
read_pending None left pending h = tt
read_pending (Some x) None pending h = absurd h
read_pending (Some x) (Some y) pending h = (h.0 ++ pending, h.1 ∙ sym (append_assoc h.0 pending y))
