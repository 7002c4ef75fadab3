-- What C holds by a pointer.
use Rattle.std.specs.Prelude.{Option, Some, None}
use Rattle.std.specs.Box.Ownership.{box_owns}
use Rattle.std.specs.contracts.mem.ManuallyDrop as manually_drop
use Rattle.std.specs.contracts.impls.GlobalAllocator.TheImpl as heap
use Rattle.std.specs.declared.alloc.Global.{Global}
use base.Fml.{Fml, ftrue}
use denote.RattleType.{RattleType}
use denote.RawPtr.{Ptr}

-- the heap
abbrev pub the_heap : Global
the_heap = record { memory = record { seal = tt } }

-- where there is something, it lies at this pointer, in a block of the heap that is its own
abbrev pub held_at : (R : RattleType) → Ptr → Option R.Denot → Fml
held_at R p None = ftrue
held_at R p (Some x) = box_owns (heap.ghosts.dealloc_token the_heap) (manually_drop.the_row R) p (record { value = x })
