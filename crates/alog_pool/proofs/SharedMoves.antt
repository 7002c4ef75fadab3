-- What a pass put in and took out, over several calls.
use Rattle.std.proofs.Common.{◌≡◌, ℕ, List, [], ◌∷◌, ◌++◌, map, refl, sym, ap, subst, ◌∙◌, append_assoc, append-nil, inl, inr}
use Rattle.alog_core.specs.Queue.{Event, PopBusy, Grab, Take, Claim, Write, Front, Empty, Idle, last}
use Rattle.alog_core.specs.History.{Entry}
use Rattle.alog_core.specs.Accounts.{put_by, got_by, grabbed_by, claims, takes, grabbed}
use Rattle.alog_msg.specs.declared.item.Item.{Item}
use Rattle.std.specs.Prelude.{None, Some}
use Rattle.alog_pool.specs.Accounts.{Moved, SawEnd}
use Rattle.alog_pool.specs.Working.{Finds}
use Rattle.alog_registry.specs.Limit.{KeepsTo}
use Rattle.alog_ring.specs.Calls.{AnsweredAs, FoundUnwrittenAs, PoppedAs, PushedAs}
use Rattle.alog_ring.specs.Known.{Known}
use Rattle.alog_registry.specs.BlockPort.{block_note}
use Rattle.alog_ring.specs.Made.{IsFaithful, entry}
use Rattle.alog_ring.specs.Refused.{PopRefusedAs}
use Rattle.alog_ring.specs.declared.pop.PopError.{PopError}
use Rattle.alog_ring.specs.declared.pop.PopError.TheVariants as pop
use Rattle.alog_ring.proofs.SharedCalling.{made_more}
use Rattle.alog_ring.proofs.SharedLists.{prefix_same}

module _ {T N : Type 0} where
  pub claims-append : (h g : List (Entry T N)) → claims (h ++ g) ≡ claims h ++ claims g
  claims-append [] g = refl
  claims-append (x ∷ h) g = ap (λ (l : List (ℕ × T)). put_by x.event ++ l) (claims-append h g)
      ∙ sym (append_assoc (put_by x.event) (claims h) (claims g))

  pub takes-append : (h g : List (Entry T N)) → takes (h ++ g) ≡ takes h ++ takes g
  takes-append [] g = refl
  takes-append (x ∷ h) g = ap (λ (l : List (ℕ × T)). got_by x.event ++ l) (takes-append h g)
      ∙ sym (append_assoc (got_by x.event) (takes h) (takes g))

  pub grabbed-append : (h g : List (Entry T N)) → grabbed (h ++ g) ≡ grabbed h ++ grabbed g
  grabbed-append [] g = refl
  grabbed-append (x ∷ h) g = ap (λ (l : List ℕ). grabbed_by x.event ++ l) (grabbed-append h g)
      ∙ sym (append_assoc (grabbed_by x.event) (grabbed h) (grabbed g))

pub tickets-append : {T : Type 0} (ps qs : List (ℕ × T)) → map (λ (p : ℕ × T). p.0) (ps ++ qs)
    ≡ map (λ (p : ℕ × T). p.0) ps ++ map (λ (p : ℕ × T). p.0) qs
tickets-append [] qs = refl
tickets-append {T} (p ∷ ps) qs = ap (λ (l : List ℕ). p.0 ∷ l) (tickets-append ps qs)

pub moved_more : {u v w : Known Item block_note} {p q g h : List (ℕ × Item)} → Moved u v p g → Moved v w q h
    → Moved u w (p ++ q) (g ++ h)
moved_more {u} {v} {w} {g} {h} a b = record {
  entries = a.entries ++ b.entries;
  made = made_more u v w a.entries b.entries a.made b.made;
  puts_are = claims-append a.entries b.entries ∙ (λ i. a.puts_are i ++ b.puts_are i);
  gots_are = takes-append a.entries b.entries ∙ (λ i. a.gots_are i ++ b.gots_are i);
  grabs_are = grabbed-append a.entries b.entries ∙ (λ i. a.grabs_are i ++ b.grabs_are i) ∙ sym (tickets-append g h);
}

pub not_moved : (k : Known Item block_note) → IsFaithful k → Moved k k [] []
not_moved k faithful = record {
  entries = [];
  made = record {
    places = refl;
    first = refl;
    actor = refl;
    parts = refl;
    joined = refl;
    seen = prefix_same k.seen;
    own = sym (append-nil k.own);
    faithful = faithful;
  };
  puts_are = refl;
  gots_are = refl;
  grabs_are = refl;
}

pub popped_moved : (old new : Known Item block_note) (note : block_note) (t : ℕ) (x : Item) → PoppedAs None note old new t x
    → Moved old new [] ((t, x) ∷ [])
popped_moved old new note t x popped = record {
  entries = entry None old (Grab t) ∷ entry note old (Take t x) ∷ [];
  made = popped.0;
  puts_are = refl;
  gots_are = refl;
  grabs_are = refl;
}

pub pushed_moved : (old new : Known Item block_note) (t : ℕ) (x : Item) → PushedAs None old new t x → Moved old new ((t, x) ∷ []) []
pushed_moved old new t x pushed = record {
  entries = entry None old (Claim t x) ∷ entry None old (Write t) ∷ [];
  made = pushed.0;
  puts_are = refl;
  gots_are = refl;
  grabs_are = refl;
}

-- an answer that moves nothing
pub answer_moved : (old new : Known Item block_note) (e : Event Item) → put_by e ≡ [] → got_by e ≡ [] → grabbed_by e ≡ []
    → AnsweredAs None old new e → Moved old new [] []
answer_moved old new e puts gots grabs answered = record {
  entries = entry None old e ∷ [];
  made = answered.0;
  puts_are = ap (λ (l : List (ℕ × Item)). l ++ []) puts;
  gots_are = ap (λ (l : List (ℕ × Item)). l ++ []) gots;
  grabs_are = ap (λ (l : List ℕ). l ++ []) grabs;
}

-- and what a pop answers that found the front unwritten
unwritten_moved : (old new : Known Item block_note) (t : ℕ) (e : Event Item) → put_by e ≡ [] → got_by e ≡ [] → grabbed_by e ≡ []
    → FoundUnwrittenAs None old new t e → Moved old new [] []
unwritten_moved old new t e puts gots grabs found = record {
  entries = entry None old (Front t) ∷ entry None old e ∷ [];
  made = found.0;
  puts_are = ap (λ (l : List (ℕ × Item)). l ++ []) puts;
  gots_are = ap (λ (l : List (ℕ × Item)). l ++ []) gots;
  grabs_are = ap (λ (l : List ℕ). l ++ []) grabs;
}

-- an answer behind other entries
saw_behind : (h g : List (Entry Item block_note)) → SawEnd g → SawEnd (h ++ g)
saw_behind [] g saw = saw
saw_behind (y ∷ h) g saw = inr (saw_behind h g saw)

-- a pop that was refused moves nothing
pub refused_moved : (old new : Known Item block_note) (e : PopError) → PopRefusedAs None old new e → Moved old new [] []
refused_moved old new (pop.Empty n) refused = unwritten_moved old new n (Empty n) refl refl refl refused.1
refused_moved old new (pop.Idle n) refused = unwritten_moved old new n (Idle n) refl refl refl refused.1
refused_moved old new (pop.Busy s) refused = answer_moved old new (PopBusy s) refl refl refl refused.1

pub refused_last : (old new : Known Item block_note) (e : PopError) → e ≡ pop.Idle last → PopRefusedAs None old new e → SawEnd new.own
refused_last old new e is refused =
    let end : PopRefusedAs None old new (pop.Idle last) = subst (λ (z : PopError). PopRefusedAs None old new z) is refused in
    subst SawEnd (sym end.1.0.own) (saw_behind old.own (entry None old (Front last) ∷ entry None old (Idle last) ∷ []) (inr (inl refl)))

-- what a pop found, after others that found nothing
pub finds_there : (limit : ℕ) {u v w : Known Item block_note} {note : block_note} (t : ℕ) (x : Item) → Moved u v [] []
    → PoppedAs None note v w t x → KeepsTo limit x → Finds limit u w (Some t) x
finds_there limit {u} {v} {w} {note} t x before popped keeps =
    (moved_more before (popped_moved v w note t x popped), keeps)
