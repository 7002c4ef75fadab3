use Rattle.std.proofs.Common.{◌≡◌, ℕ, ◌+◌, ◌-◌, ◌%◌, ◌<◌, ◌≤◌, Option, None, List, length, replicate, refl, sym, subst, arith}
use Rattle.std.specs.Prelude.{slice_index}
use Rattle.alog_core.specs.Queue.{start}
use Rattle.alog_core.specs.Words.{AreSequences}
use Rattle.alog_core.specs.Table.{AreHeld, queue_in, Shows}
use Rattle.alog_core.specs.declared.table.Held.{Held}
use Rattle.alog_core.specs.declared.table.Table.{Table}
use Rattle.alog_core.proofs.Reading.{settles}
use Rattle.alog_core.proofs.SharedSizes.{size_facts}
use Rattle.alog_core.proofs.SharedSound.{sound_start}
use Rattle.alog_core.proofs.Starting.{first_sequences, first_slots}
use Rattle.alog_core.proofs.table.empty.Goals as goal

starts : {T : Type 0} {t : Table T} {n f : ℕ} → t.mask ≡ n - 1 → 2 ≤ n → t.next ≡ f → t.front ≡ f
    → length t.sequences.items ≡ n
    → ((u : ℕ) → f ≤ u → u < f + n → slice_index t.sequences.items (u % n) ≡ u) → t.slots.items ≡ replicate n None
    → (queue_in t ≡ start f) × Shows t
starts {T} {t} {n} {f} mask two next front wide tickets empty =
    let up : n ≡ t.mask + 1 = omega (arith, mask, two)
    in let A : ℕ → Type 0 = λ k. AreSequences {T = T} k (start f) t.sequences.items
    in let H : ℕ → Type 0 = λ k. AreHeld {T = T} k (start f) t.slots.items
    in let D : List (Option (Held T)) → Type 0 = λ d. AreHeld n (start f) d
    in settles t (start f) next front (sound_start (t.mask + 1) f)
    (subst A up (first_sequences n f t.sequences.items wide tickets)) (subst H up (subst D (sym empty) (first_slots n f)))

pub returns-clause-queue : goal.returns-clause-queue
returns-clause-queue g c =
    let n : ℕ = c.args.places
    in let f : ℕ = c.args.first
    in let t : Table g.row.T.Denot = record {
      mask = n - 1;
      next = f;
      front = f;
      sequences = c.in_ok-first_sequences.field-0;
      slots = c.in_ok-no_items.field-0;
    }
    in (starts {t = t} {f = f} refl (size_facts n c.requires.size).1 refl refl c.in_ok-first_sequences.ensures.count
    c.in_ok-first_sequences.ensures.tickets c.in_ok-no_items.ensures).0

pub returns-clause-shows : goal.returns-clause-shows
returns-clause-shows g c =
    (starts {f = c.args.first} refl (size_facts c.args.places c.requires.size).1 refl refl c.in_ok-first_sequences.ensures.count
    c.in_ok-first_sequences.ensures.tickets c.in_ok-no_items.ensures).1
