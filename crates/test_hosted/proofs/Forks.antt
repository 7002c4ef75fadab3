-- What threads that work on one pool need: what may go to them and be shared by them, and lists whose elements were all replaced.
use denote.Param.Send.{IsSend, recorded_send, sendable}
use Rattle.std.proofs.Common.{◌≡◌, ◌<◌, ◌∙◌, ℕ, suc, List, [], ◌∷◌, ◌++◌, length, take, drop, ap, append-nil, arith}
use Rattle.std.proofs.Math.ListN.{drop_of_length-le}
use Rattle.std.proofs.Math.Seq.{take-length}
use Rattle.std.specs.Prelude.{slice_index_or}
use Rattle.std.specs.List.{AllByRecursion}
use Rattle.alog_sink.proofs.SharedCrosses.{store_send}
use Rattle.alog_sink.specs.contracts.fuse_store.FuseStore as FuseRow
use Rattle.alog_sink.specs.contracts.mem_store.MemStore as MemRow
use Rattle.alog_sink.specs.declared.fuse_store.FuseStore.{FuseStore}
use Rattle.alog_sink.specs.declared.mem_store.MemStore.{MemStore}

abbrev pub Files : Type 0
Files = FuseStore MemStore

pub mem_send : IsSend MemRow.the_row
mem_send = recorded_send (MemRow.the_field).row _ _ (MemRow.the_type).to_one store_send

pub files_send : IsSend (FuseRow.the_row MemRow.the_row)
files_send = search (sendable, mem_send) depth 20

-- what holds at each place holds of all
pub all_of : {A : Type 0} (P : A → Type 0) (ys : List A) → ((i : ℕ) (d : A) → i < length ys → P (slice_index_or ys i d)) → AllByRecursion P ys
all_of P [] at = tt
all_of P (y ∷ ys) at = (at 0 y (omega arith), all_of P ys (λ i d below. at (suc i) d (omega (arith, below))))

-- a list whose elements were all replaced, as a vector that lends all of its own has it
pub refill : {A : Type 0} (n : ℕ) (xs ys : List A) → n ≡ length ys → length xs ≡ length ys → take n (ys ++ drop (length ys) xs) ≡ ys
refill {A} n xs ys n_is same =
    ap (λ (l : List A). take n (ys ++ l)) (drop_of_length-le xs (omega (arith, same))) ∙ ap (take n) (append-nil ys)
    ∙ ap (λ k. take k ys) n_is ∙ take-length ys
