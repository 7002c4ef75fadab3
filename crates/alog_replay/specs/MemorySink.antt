-- The sink behind the memory file: a memory sink of the file `memory` that takes every level and whose lines are their texts.
use Rattle.std.specs.Prelude.{◌≡◌, ℕ, Bool, true, None, [], ◌∷◌}
use Rattle.alog_msg.specs.declared.level.Level.TheVariants.{Trace}
use Rattle.alog_msg.specs.declared.limits.TheConstants.{DEFAULT_TEXT_LIMIT}
use Rattle.alog_pattern.specs.Compiled.{longest}
use Rattle.alog_pattern.specs.declared.flags.Flag.TheVariants.{Text}
use Rattle.alog_pattern.specs.declared.items.Item.TheVariants.{Flag}
use Rattle.alog_sink.specs.Files.{Files}
use Rattle.alog_sink.specs.Turn.{LeafView}
use Rattle.alog_sink.specs.declared.sink.Sink.{Sink}
use Rattle.alog_sink.specs.declared.sink.Sink.TheVariants.{Leaf, Fan}
use Rattle.alog_sink.specs.declared.target.Target.TheVariants.{Memory}
use Rattle.alog_replay.specs.Memory.{MemoryFile, memory_name, no_file}

-- what the sink shows
abbrev pub file_of : {S : Type 0} → (S → Files) → Sink S → MemoryFile
file_of files (Leaf l) = record { bytes = files l.store memory_name; broken = l.broken }
file_of files (Fan f) = no_file

-- its store tells what its files have, and the buffer has room for the longest line
pub record IsMemoryLeaf {S : Type 0} (tells : Bool) (leaf : LeafView S) (capacity : ℕ) : Type 0 where
  pub tells_all : tells ≡ true
  pub target : leaf.target ≡ Memory (record { file = memory_name })
  pub level : leaf.face.level ≡ Trace
  pub items : leaf.face.pattern.items ≡ Flag Text None ∷ []
  pub limit : leaf.face.pattern.text_limit ≡ DEFAULT_TEXT_LIMIT
  pub room : longest leaf.face.pattern ≡ capacity

abbrev pub IsMemorySink : {S : Type 0} → Bool → Sink S → ℕ → Type 0
IsMemorySink tells (Leaf l) capacity = IsMemoryLeaf tells l capacity
IsMemorySink tells (Fan f) capacity = ⊥
