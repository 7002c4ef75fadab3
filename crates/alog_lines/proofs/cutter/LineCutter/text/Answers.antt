use Rattle.std.proofs.lemmas.Str.{IsUtf8-had}
use Rattle.alog_lines.proofs.cutter.LineCutter.text.Goals as goal

pub from_utf8_unchecked-requires : goal.from_utf8_unchecked-requires
from_utf8_unchecked-requires c = rw c.part.ensures (IsUtf8-had _ c.self.invariant.6)
