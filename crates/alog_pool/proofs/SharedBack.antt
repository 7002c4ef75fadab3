-- What comes back to a pool, one by one, and sums over lists.
use Rattle.std.proofs.Common.{◌≡◌, ℕ, ◌+◌, ◌-◌, ◌%◌, ◌^◌, min, List, [], ◌∷◌, ◌++◌, map, length, length-append, refl, sym, ap, subst, ◌∙◌, append_assoc, append-nil, arith}
use Rattle.std.specs.List.{AllByRecursion, sum_by}
use mathlib.Core.List.{IsPrefix}
use Rattle.std.proofs.Math.Nat.{mod-add-mod}
use Rattle.std.proofs.lemmas.List.Sums.{sum_by-cons, sum_by-append}
use Rattle.alog_lane.specs.Seats as lane
use Rattle.alog_msg.specs.declared.item.Item.{Item}
use Rattle.alog_pool.specs.Back.{HasBack, HasSeatsBack}
use Rattle.alog_registry.specs.BlockPort.{block_note}
use Rattle.alog_ring.specs.Known.{Known, Member}
use Rattle.alog_ring.specs.Made.{IsFaithful}
use Rattle.alog_ring.specs.Share.{Joins}
use Rattle.alog_ring.proofs.SharedLists.{prefix_same, prefix_through}

pub sum_of_map : {A B : Type 0} (f : A → B) (g : B → ℕ) (xs : List A) → sum_by g (map f xs) ≡ sum_by (λ x. g (f x)) xs
sum_of_map f g [] = refl
sum_of_map f g (x ∷ xs) =
    let one : sum_by g (f x ∷ map f xs) ≡ g (f x) + sum_by g (map f xs) = sum_by-cons g (f x) (map f xs) in
    let two : sum_by (λ y. g (f y)) (x ∷ xs) ≡ g (f x) + sum_by (λ y. g (f y)) xs = sum_by-cons (λ y. g (f y)) x xs in
    omega (arith, one, two, sum_of_map f g xs)

-- a sum modulo 2^64, with one more
pub sum_more : {A : Type 0} (f : A → ℕ) (xs : List A) (x : A) (n : ℕ) → n ≡ sum_by f xs % 2 ^ 64
    → (n + f x) % 2 ^ 64 ≡ sum_by f (xs ++ x ∷ []) % 2 ^ 64
sum_more f xs x n is =
    let more : sum_by f (xs ++ x ∷ []) ≡ sum_by f xs + sum_by f (x ∷ []) = sum_by-append f xs (x ∷ []) in
    let last : sum_by f (x ∷ []) ≡ f x + sum_by f [] = sum_by-cons f x [] in
    let all : sum_by f xs + f x ≡ sum_by f (xs ++ x ∷ []) = omega (arith, more, last) in
    ap (λ k. (k + f x) % 2 ^ 64) is ∙ mod-add-mod (sum_by f xs) (2 ^ 64) (f x) ∙ ap (λ k. k % 2 ^ 64) all

-- where each is known modulo 2^64, so is the sum
pub sum_mod : {A : Type 0} (f g : A → ℕ) (xs : List A) → AllByRecursion (λ (x : A). f x ≡ g x % 2 ^ 64) xs
    → sum_by f xs % 2 ^ 64 ≡ sum_by g xs % 2 ^ 64
sum_mod f g [] all = refl
sum_mod f g (x ∷ xs) all =
    let rest = sum_mod f g xs all.1 in
    let one : sum_by f (x ∷ xs) ≡ f x + sum_by f xs = sum_by-cons f x xs in
    let two : g x + sum_by g xs ≡ sum_by g (x ∷ xs) = sym (sum_by-cons g x xs) in
    let swap : f x + sum_by f xs ≡ sum_by f xs + f x = omega arith in
    let back : sum_by g xs + f x ≡ f x + sum_by g xs = omega arith in
    ap (λ k. k % 2 ^ 64) (one ∙ swap)
    ∙ sym (mod-add-mod (sum_by f xs) (2 ^ 64) (f x))
    ∙ ap (λ k. (k + f x) % 2 ^ 64) rest
    ∙ mod-add-mod (sum_by g xs) (2 ^ 64) (f x)
    ∙ ap (λ k. k % 2 ^ 64) back
    ∙ ap (λ k. (k + sum_by g xs) % 2 ^ 64) all.0
    ∙ mod-add-mod (g x) (2 ^ 64) (sum_by g xs)
    ∙ ap (λ k. k % 2 ^ 64) two

-- a sum up to 2^64 - 1, with one more
pub sum_capped_more : {A : Type 0} (f : A → ℕ) (xs : List A) (x : A) (n : ℕ) → n ≡ min (sum_by f xs) (2 ^ 64 - 1)
    → min (n + f x) (2 ^ 64 - 1) ≡ min (sum_by f (xs ++ x ∷ [])) (2 ^ 64 - 1)
sum_capped_more f xs x n is =
    let more : sum_by f (xs ++ x ∷ []) ≡ sum_by f xs + sum_by f (x ∷ []) = sum_by-append f xs (x ∷ []) in
    let last : sum_by f (x ∷ []) ≡ f x + sum_by f [] = sum_by-cons f x [] in omega (arith, is, more, last)

-- where each is known up to 2^64 - 1, so is the sum
pub sum_capped : {A : Type 0} (f g : A → ℕ) (xs : List A) → AllByRecursion (λ (x : A). f x ≡ min (g x) (2 ^ 64 - 1)) xs
    → min (sum_by f xs) (2 ^ 64 - 1) ≡ min (sum_by g xs) (2 ^ 64 - 1)
sum_capped f g [] all = refl
sum_capped f g (x ∷ xs) all =
    let first = all.0 in
    let rest = sum_capped f g xs all.1 in
    let one : sum_by f (x ∷ xs) ≡ f x + sum_by f xs = sum_by-cons f x xs in
    let two : sum_by g (x ∷ xs) ≡ g x + sum_by g xs = sum_by-cons g x xs in omega (arith, first, rest, one, two)

pub back_starts : (k : Known Item block_note) → IsFaithful k → HasBack k k []
back_starts k faithful = record {
  actor = refl;
  own = refl;
  joined = sym (append-nil k.joined);
  parts = omega arith;
  seen = prefix_same k.seen;
  faithful = faithful;
}

pub back_one : {j k p l : Known Item block_note} {ms : List (Member Item block_note)} → HasBack j k ms → Joins k p l → p.joined ≡ []
    → p.parts ≡ 1 → HasBack j l (ms ++ record { actor = p.actor; own = p.own } ∷ [])
back_one {j} {k} {p} {l} {ms} b joins none one =
    let m : Member Item block_note = record { actor = p.actor; own = p.own } in
    let parts : l.parts ≡ k.parts + p.parts = ap (λ (z : Known Item block_note). z.parts) joins.known in
    let few = b.parts in
    let more : length (ms ++ m ∷ []) ≡ length ms + 1 = length-append ms (m ∷ []) in
    record {
      actor = ap (λ (z : Known Item block_note). z.actor) joins.known ∙ b.actor;
      own = ap (λ (z : Known Item block_note). z.own) joins.known ∙ b.own;
      joined = ap (λ (z : Known Item block_note). z.joined) joins.known
          ∙ (λ i. b.joined i ++ m ∷ none i) ∙ append_assoc j.joined ms (m ∷ []);
      parts = omega (arith, parts, few, one, more);
      seen = subst (λ (z : Known Item block_note). IsPrefix j.seen z.seen) (sym joins.known)
          (prefix_through j.seen k.seen joins.seen b.seen joins.longer.first);
      faithful = joins.faithful;
    }

module _ {D : Type 0} where
  pub seats_start : (k : lane.Known D) → HasSeatsBack k k []
  seats_start k = record { own = refl; joined = sym (append-nil k.joined); parts = omega arith }

  pub seats_one : {j k : lane.Known D} (p : lane.Known D) {l : lane.Known D} {ms : List (lane.Member D)} → HasSeatsBack j k ms
      → lane.IsJoined k p l → p.joined ≡ []
      → p.parts ≡ 1 → HasSeatsBack j l (ms ++ record { seat = p.seat; own = p.own } ∷ [])
  seats_one {j} {k} p {l} {ms} b joined none one =
      let m : lane.Member D = record { seat = p.seat; own = p.own } in
      let parts : l.parts ≡ k.parts + p.parts = ap (λ (z : lane.Known D). z.parts) joined.known in
      let few = b.parts in
      let more : length (ms ++ m ∷ []) ≡ length ms + 1 = length-append ms (m ∷ []) in
      record {
        own = ap (λ (z : lane.Known D). z.own) joined.known ∙ b.own;
        joined = ap (λ (z : lane.Known D). z.joined) joined.known
            ∙ (λ i. b.joined i ++ m ∷ none i) ∙ append_assoc j.joined ms (m ∷ []);
        parts = omega (arith, parts, few, one, more);
      }
