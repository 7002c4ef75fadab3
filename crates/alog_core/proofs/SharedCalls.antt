-- A list of calls, one after another.
use Rattle.std.proofs.Common.{◌≡◌, suc, List, [], ◌∷◌, ◌++◌, length, refl, ap, ◌∙◌, arith}
use Rattle.std.proofs.lemmas.List.{append-nil}
use Rattle.std.specs.Iterator.{Yields}
use Rattle.std.specs.Vec.Iter.{into_iter_items, into_iter_len, into_iter_steps}
use Rattle.std.specs.declared.vec.IntoIter.{IntoIter}
use Rattle.alog_core.specs.World.{Machine, reply_to, after_call, replies_to, after_calls}
use Rattle.alog_core.specs.declared.said.Call.{Call}

pub after_calls_last : {T : Type 0} (m : Machine T) (cs : List (Call T)) (c : Call T)
    → after_calls m (cs ++ c ∷ []) ≡ after_call (after_calls m cs) c
after_calls_last m [] c = refl
after_calls_last m (d ∷ cs) c = after_calls_last (after_call m d) cs c

pub replies_to_last : {T : Type 0} (m : Machine T) (cs : List (Call T)) (c : Call T)
    → replies_to m (cs ++ c ∷ []) ≡ replies_to m cs ++ reply_to (after_calls m cs) c ∷ []
replies_to_last m [] c = refl
replies_to_last m (d ∷ cs) c = ap (λ xs. reply_to m d ∷ xs) (replies_to_last (after_call m d) cs c)

pub length-replies_to : {T : Type 0} (m : Machine T) (cs : List (Call T)) → length (replies_to m cs) ≡ length cs
length-replies_to m [] = refl
length-replies_to m (c ∷ cs) = ap suc (length-replies_to (after_call m c) cs)

-- what the iterator of a vector has given is a front of its items
pub given_front : {X A : Type 0} (s : IntoIter X A) (xs : List X) (t : IntoIter X A) → Yields into_iter_steps s xs t
    → into_iter_items s ≡ xs ++ into_iter_items t
given_front s [] t y = ap into_iter_items y
given_front s (x ∷ xs) t y = y.1.0 ∙ ap (λ ys. x ∷ ys) (given_front y.0 xs t y.2)

-- a list of no elements is empty
pub no_more : {A : Type 0} (xs ys : List A) → length ys ≡ 0 → xs ++ ys ≡ xs
no_more xs [] h = append-nil xs
no_more xs (y ∷ ys) h = absurd (omega arith)

-- where it has given all, that is all its items
pub all_given : {X A : Type 0} (s : IntoIter X A) (xs : List X) (t : IntoIter X A) → Yields into_iter_steps s xs t
    → into_iter_len t ≡ 0 → into_iter_items s ≡ xs
all_given s xs t y e = given_front s xs t y ∙ no_more xs (into_iter_items t) (omega (arith, e, t.rest.ok.0))
