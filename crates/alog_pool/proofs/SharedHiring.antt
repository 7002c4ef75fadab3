-- A worker that begins.
use Rattle.std.proofs.Common.{Bool, true, false, ◌≡◌, ◌≤◌, ℕ, zero, suc, ◌+◌, ◌%◌, ◌^◌, List, [], ◌∷◌, ◌++◌, map, take, refl, sym, ap, subst, ◌∙◌, arith}
use Rattle.std.proofs.lemmas.List.{map-append, map-id}
use Rattle.std.proofs.lemmas.List.FromFn.{map-range_with_len_more}
use Rattle.std.specs.List.{AllByRecursion, range_with_len}
use Rattle.alog_core.specs.Accounts.{claims, takes, grabbed, handed_out, taken}
use Rattle.alog_core.specs.History.{Entry}
use Rattle.alog_core.specs.World.{is_size}
use Rattle.alog_core.proofs.SharedSizes.{size_facts}
use Rattle.alog_msg.specs.declared.item.Item.{Item}
use Rattle.alog_pool.specs.Accounts.{of_work, work_tickets}
use Rattle.alog_pool.specs.SinkSeat.{SinkSeatView, places_of}
use Rattle.alog_pool.specs.Working.{AreLimited, IsFresh, IsWorkOf, numbers_of}
use Rattle.alog_pool.specs.declared.worker.Worker.{Worker}
use Rattle.alog_registry.specs.BlockPort.{block_note}
use Rattle.alog_ring.specs.Known.{Known, PassView}
use Rattle.alog_ring.specs.Made.{IsFaithful}
use Rattle.alog_ring.specs.Share.{Splits}

nothing_taken : (n : ℕ) → [] ≡ take {A = ℕ} n []
nothing_taken zero = refl
nothing_taken (suc n) = refl

-- nothing was taken, and nothing recorded
pub fresh_work : (most : ℕ) (k : Known Item block_note) → IsFresh k → IsWorkOf most k [] 0
fresh_work most k f =
    let H : Type 0 = List (Entry Item block_note) in
    record {
      faithful = f.faithful;
      parts = f.parts;
      joined = f.joined;
      puts = ap (λ (h : H). claims h) f.own;
      grabs = subst (λ (h : H). grabbed h ≡ handed_out h) (sym f.own) refl;
      tickets_are = subst (λ (h : H). [] ≡ take most (work_tickets (takes h))) (sym f.own) (nothing_taken most);
      handled_is = subst (λ (h : H). 0 ≡ taken of_work h % 2 ^ 64) (sym f.own) refl;
    }

-- the pass that was split off begins
pub fresh_part : (old new given : PassView Item block_note) → Splits old new given 1 → IsFresh given.known
fresh_part old new given s =
    let known = ap (λ (p : PassView Item block_note). p.known) s.new_pass in
    record {
      faithful = s.faithful;
      parts = ap (λ (k : Known Item block_note). k.parts) known;
      joined = ap (λ (k : Known Item block_note). k.joined) known;
      own = ap (λ (k : Known Item block_note). k.own) known;
    }

-- places of the pool's text limit
pub limited : {S : Type 0} (most limit : ℕ) (bs : List (SinkSeatView S)) → most ≡ limit
    → AllByRecursion (λ (b : SinkSeatView S). b.limit ≡ limit) bs → AreLimited most (places_of bs)
limited most limit [] same all = tt
limited most limit (b ∷ bs) same all = (all.0 ∙ sym same, limited most limit bs same all.1)

-- what the pool has left of its pass
pub one_less : (old new given : PassView Item block_note) (n all : ℕ) → Splits old new given 1 → 1 ≤ old.known.parts
    → old.known.parts + n ≡ all → new.known.parts + (n + 1) ≡ all
one_less old new given n all s some is =
    let kept = ap (λ (p : PassView Item block_note). p.known.parts) s.kept in omega (arith, kept, some, is)

pub still_own : (old new given : PassView Item block_note) → Splits old new given 1
    → (new.known.own ≡ old.known.own) × (new.known.joined ≡ old.known.joined)
still_own old new given s =
    (ap (λ (p : PassView Item block_note). p.known.own) s.kept, ap (λ (p : PassView Item block_note). p.known.joined) s.kept)

pub kept_faithful : (old new given : PassView Item block_note) → Splits old new given 1 → IsFaithful old.known → IsFaithful new.known
kept_faithful old new given s faithful =
    subst (λ (p : PassView Item block_note). IsFaithful p.known) (sym s.kept)
    (record { legal = faithful.legal; own = faithful.own; joined = faithful.joined; distinct = faithful.distinct })

-- a size is at least one
pub some_size : (n : ℕ) (b : Bool) → is_size n ≡ b → ¬ (is_size n ≡ false) → 1 ≤ n
some_size n true is apart = let facts = size_facts n is in omega (arith, facts.1)
some_size n false is apart = absurd (apart is)

-- numbers that go on
pub number_more : {S A : Type 0} (f : A → Worker S) (xs : List A) (a : A) (n : ℕ) → numbers_of (map f xs) ≡ range_with_len 0 n
    → (f a).number ≡ n → numbers_of (map f (xs ++ a ∷ [])) ≡ range_with_len 0 (n + 1)
number_more {S} {A} f xs a n are next =
    let go : List ℕ → List ℕ = λ l. map (λ (i : ℕ). i) l in
    let longer : go (range_with_len 0 (n + 1)) ≡ go (range_with_len 0 n) ++ n ∷ [] = map-range_with_len_more (λ (i : ℕ). i) 0 n n (omega arith) in
    ap (λ l. numbers_of l) (map-append f xs (a ∷ [])) ∙ map-append (λ (h : Worker S). h.number) (map f xs) (f a ∷ [])
    ∙ ap (λ l. l ++ (f a).number ∷ []) are ∙ ap (λ i. range_with_len 0 n ++ i ∷ []) next
    ∙ sym (sym (map-id (range_with_len 0 (n + 1))) ∙ longer ∙ ap (λ l. l ++ n ∷ []) (map-id (range_with_len 0 n)))
