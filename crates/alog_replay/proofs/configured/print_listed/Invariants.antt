use Rattle.std.proofs.Common.{◌≡◌, ◌++◌, string_bytes}
use Rattle.std.specs.Prelude.{map}
use Rattle.alog_replay.specs.Configured.{listed_text}
use Rattle.alog_replay.specs.Rows.{row_of}
use Rattle.alog_replay.proofs.configured.print_listed.Given as goal

-- what was printed, and then the files that are left, are all the files
abbrev pub invariant-loop-file : goal.invariant-loop-file
invariant-loop-file l =
    l.out.items ++ listed_text l.sink (map (λ e. (string_bytes e.0, e.1.items)) l.file-iterator)
    ≡ l.fn.out.items ++ listed_text l.sink (row_of l.store)
