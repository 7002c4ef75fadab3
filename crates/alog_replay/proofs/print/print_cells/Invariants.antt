use Rattle.std.proofs.Common.{◌≡◌, ◌++◌, take, string_bytes}
use Rattle.std.specs.Prelude.{codes}
use Rattle.std.specs.List.{flat_map}
use Rattle.alog_replay.specs.Texts.{cell_text}
use Rattle.alog_replay.proofs.print.print_cells.Given as goal

abbrev pub invariant-loop-cell : goal.invariant-loop-cell
invariant-loop-cell l = string_bytes l.out ≡ string_bytes l.fn.out ++ (codes "cells" ++ flat_map cell_text (take l.cell-index l.cells))
