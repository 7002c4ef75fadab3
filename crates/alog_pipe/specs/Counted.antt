-- What is counted of pieces.
use Rattle.std.specs.Prelude.{◌+◌, ◌^◌, ◌%◌, List, length, fold, if◌then◌else◌}
use Rattle.alog_lines.specs.Pieces.{Piece}
use Rattle.alog_pipe.specs.declared.counts.Counts.{Counts}

-- a piece more: its bytes, its mends, and a line or a cut
abbrev pub with_piece : Counts → Piece → Counts
with_piece c p = record {
  lines = if p.ends then (c.lines + 1) % 2 ^ 64 else c.lines;
  bytes = (c.bytes + length p.text) % 2 ^ 64;
  mended = (c.mended + p.mended) % 2 ^ 64;
  cut = if p.ends then c.cut else (c.cut + 1) % 2 ^ 64;
}

-- all of them
abbrev pub counted : List Piece → Counts → Counts
counted ps c = fold with_piece c ps
