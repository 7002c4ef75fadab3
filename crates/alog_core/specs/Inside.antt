-- What a world keeps, seen as the machine.
use Rattle.std.specs.Prelude.{◌≡◌, true}
use Rattle.alog_core.specs.World.{Machine, is_size}
use Rattle.alog_core.specs.Staged.{IsReached}
use Rattle.alog_core.specs.Table.{places_of, queue_in, Shows}
use Rattle.alog_core.specs.declared.world.World.TheInside.{Inside}

abbrev pub machine_in : {T : Type 0} → Inside T → Machine T
machine_in w = record { places = places_of w.table; queue = queue_in w.table; rounds = w.rounds.items }

pub record IsKept {T : Type 0} (w : Inside T) : Type 0 where
  pub size : is_size (places_of w.table) ≡ true
  pub reached : IsReached (machine_in w)
  pub shows : Shows w.table
