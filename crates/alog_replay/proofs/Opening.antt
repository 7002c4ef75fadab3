-- The sink `memory` and the queue as they are opened.
use Rattle.std.proofs.Common.{◌≡◌, ℕ, Bool, true, None, List, [], ◌∷◌, replicate, refl, sym, ap, subst, ◌∙◌}
use Rattle.alog_msg.specs.declared.level.Level.TheVariants.{Trace}
use Rattle.alog_msg.specs.declared.limits.TheConstants.{DEFAULT_TEXT_LIMIT}
use Rattle.alog_pattern.specs.Compiled.{longest}
use Rattle.alog_pattern.specs.Flag.{flag_of}
use Rattle.alog_pattern.specs.Grammar.{IsReading}
use Rattle.alog_pattern.specs.Scan.{items_of}
use Rattle.alog_pattern.specs.declared.flags.Flag.TheVariants.{Text}
use Rattle.alog_pattern.specs.declared.items.Item.{Item}
use Rattle.alog_pattern.specs.declared.items.Item.TheVariants.{Flag}
use Rattle.alog_pattern.proofs.SharedReadings.{only_reading}
use Rattle.alog_sink.specs.Files.{Files}
use Rattle.alog_sink.specs.Opened.{Opened}
use Rattle.alog_sink.specs.declared.face.Face.{Face}
use Rattle.alog_sink.specs.declared.sink.Sink.{Sink}
use Rattle.alog_sink.specs.declared.target.Target.TheVariants.{Memory}
use Rattle.alog_policy.specs.Desk.{DeskView, fresh_desk}
use Rattle.alog_core.specs.declared.TheConstants.{ACTORS}
use Rattle.alog_msg.specs.declared.message.Message.{Message}
use Rattle.alog_replay.specs.Memory.{MemoryFile, memory_name, no_file}
use Rattle.alog_replay.specs.MemorySink.{IsMemorySink}
use Rattle.alog_replay.specs.Session.{Stage, opened}
use Rattle.alog_replay.specs.declared.duty.Duty.{Duty}
use Rattle.alog_replay.specs.declared.duty.Duty.TheVariants.{Free}

-- the pattern `%v` has one item, the text without a padding
text_items : items_of (37 ∷ 118 ∷ []) ≡ Flag Text None ∷ []
unfolding flag_of
text_items = refl

pub text_alone : (items : List Item) → IsReading (37 ∷ 118 ∷ []) items → items ≡ Flag Text None ∷ []
text_alone items reading = only_reading (37 ∷ 118 ∷ []) items reading ∙ text_items

pub opened_sink : {S : Type 0} {tells : Bool} {files : S → Files} {face : Face} {opening : Files} {sink : Sink S} {capacity : ℕ}
    → tells ≡ true → Opened tells files face (λ t. t ≡ Memory (record { file = memory_name })) opening sink → face.level ≡ Trace
    → IsReading (37 ∷ 118 ∷ []) face.pattern.items → face.pattern.text_limit ≡ DEFAULT_TEXT_LIMIT
    → longest face.pattern ≡ capacity → IsMemorySink tells sink capacity
opened_sink {S} {tells} {face} {capacity} tells_all o level reading limit room =
    let same = o.same in
    subst (λ (s : Sink S). IsMemorySink tells s capacity) (sym o.is) (record {
      tells_all = tells_all;
      target = o.such;
      level = ap (λ (f : Face). f.level) same ∙ level;
      items = ap (λ (f : Face). f.pattern.items) same ∙ text_alone face.pattern.items reading;
      limit = ap (λ (f : Face). f.pattern.text_limit) same ∙ limit;
      room = subst (λ (f : Face). longest f.pattern ≡ capacity) (sym same) room;
    })

abbrev pub stage_of : DeskView Message → List Duty → MemoryFile → Stage
stage_of desk duties memory = record { desk = desk; duties = duties; memory = memory }

pub opened_stage : {desk : DeskView Message} {duties : List Duty} {memory : MemoryFile} {n places first : ℕ}
    → desk ≡ fresh_desk places first → duties ≡ replicate n Free → n ≡ ACTORS → memory ≡ no_file
    → stage_of desk duties memory ≡ opened places first
opened_stage {duties} {memory} {places} {first} w d e m =
    ap (λ x. stage_of x duties memory) w
    ∙ (ap (λ x. stage_of (fresh_desk places first) x memory) (d ∙ ap (λ (k : ℕ). replicate k Free) e)
    ∙ ap (λ x. stage_of (fresh_desk places first) (replicate ACTORS Free) x) m)
