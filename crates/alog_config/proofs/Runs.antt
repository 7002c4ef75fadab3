-- Tables that are read one behind the other.
use Rattle.std.proofs.Common.{◌≡◌, ℕ, zero, suc, ◌+◌, ◌<◌, List, [], ◌∷◌, ◌++◌, length, get_or, take, map, Some}
use Rattle.std.proofs.Common.{None, slice_get, refl, sym, ap, subst, ◌∙◌, arith, append_assoc, append-nil}
use Rattle.alog_config.specs.declared.config.LoggerConfig.{LoggerConfig}
use Rattle.alog_config.specs.declared.config.SinkConfig.{SinkConfig}
use Rattle.std.specs.declared.result.Result.TheVariants.{Err}
use Rattle.alog_config.specs.Fields.{AreTopFields}
use Rattle.alog_config.specs.Meaning.{AreLoggers, AreSinks, Has, IsAnswer, IsLogger, IsLoggersFault, IsRefusedLogger}
use Rattle.alog_config.specs.Meaning.{IsRefusedSink, IsSink, IsSinksFault, IsTableAnswer, IsTop, fault_at}
use Rattle.alog_config.specs.Meaning.{limit_of}
use Rattle.alog_config.specs.Rules.{IsFirst, TopBreaks, order}
use Rattle.alog_config.specs.Values.{LentTables, tables_in}
use Rattle.alog_config.specs.declared.fault.ConfigFault.{ConfigFault}
use Rattle.alog_config.specs.declared.fault.ConfigFault.TheVariants as faults
use Rattle.alog_config.specs.declared.fault.Place.TheVariants as places
use Rattle.alog_config.specs.declared.field.Field.{Field}
use Rattle.alog_config.specs.declared.field.Field.TheVariants.{Given}
use Rattle.alog_config.specs.declared.reading.TableFault.{TableFault}
use Rattle.alog_config.specs.declared.reading.TableFault.TheVariants.{Broken, OutOfMemory}
use Rattle.alog_config.specs.declared.top.TopFields.{TopFields}
use Rattle.toml.specs.Data.{Members}

-- one sink more, and one logger more
pub sinks_more : (limit : ℕ) (before : List SinkConfig) (ts : List Members) (ss : List SinkConfig) (t : Members) (s : SinkConfig)
    → AreSinks limit before ts ss → IsSink limit (before ++ ss) t s → AreSinks limit before (ts ++ t ∷ []) (ss ++ s ∷ [])
sinks_more limit before [] [] t s h is = (subst (λ (b : List SinkConfig). IsSink limit b t s) (append-nil before) is, tt)
sinks_more limit before [] (x ∷ ss) t s h is = absurd h
sinks_more limit before (u ∷ ts) [] t s h is = absurd h
sinks_more limit before (u ∷ ts) (x ∷ ss) t s h is = (
  h.0,
  sinks_more limit (before ++ x ∷ []) ts ss t s h.1
      (subst (λ (b : List SinkConfig). IsSink limit b t s) (sym (append_assoc before (x ∷ []) ss)) is),
)

pub loggers_more : (sinks : List SinkConfig) (before : List LoggerConfig) (ts : List Members) (ls : List LoggerConfig)
    (t : Members) (l : LoggerConfig)
    → AreLoggers sinks before ts ls → IsLogger sinks (before ++ ls) t l → AreLoggers sinks before (ts ++ t ∷ []) (ls ++ l ∷ [])
loggers_more sinks before [] [] t l h is = (subst (λ (b : List LoggerConfig). IsLogger sinks b t l) (append-nil before) is, tt)
loggers_more sinks before [] (x ∷ ls) t l h is = absurd h
loggers_more sinks before (u ∷ ts) [] t l h is = absurd h
loggers_more sinks before (u ∷ ts) (x ∷ ls) t l h is = (
  h.0,
  loggers_more sinks (before ++ x ∷ []) ts ls t l h.1
      (subst (λ (b : List LoggerConfig). IsLogger sinks b t l) (sym (append_assoc before (x ∷ []) ls)) is),
)

-- one table more
pub take_more : (ts : List Members) (i : ℕ) (t : Members) → slice_get ts i ≡ Some t → take (i + 1) ts ≡ take i ts ++ t ∷ []
take_more [] i t e = absurd (cc e)
take_more (u ∷ ts) zero t e = let same : u ≡ t = cc in ap (λ (x : Members). x ∷ []) same
take_more (u ∷ ts) (suc i) t e =
    let next : suc i + 1 ≡ suc (i + 1) = omega arith in
    ap (λ n. take n (u ∷ ts)) next ∙ ap (λ (xs : List Members). u ∷ xs) (take_more ts i t e)

pub seen_at : {X : Type 0} (f : X → Members) (xs : List X) (i : ℕ) (x : X) → i < length xs → x ≡ get_or xs i x
    → slice_get (map f xs) i ≡ Some (f x)
seen_at f [] i x h e = absurd (omega arith)
seen_at f (y ∷ xs) zero x h e = ap (λ (z : _). Some (f z)) (sym e)
seen_at f (y ∷ xs) (suc i) x h e = seen_at f xs i x (omega arith) e

-- the next table: what it says, or its fault
pub sinks_step : {limit : ℕ} (ts : List Members) (i : ℕ) {ss : List SinkConfig} {t : Members} {s : SinkConfig}
    → AreSinks limit [] (take i ts) ss
    → slice_get ts i ≡ Some t → IsSink limit ss t s → AreSinks limit [] (take (i + 1) ts) (ss ++ s ∷ [])
sinks_step {limit} ts i {ss} {t} {s} h at is =
    subst (λ (us : List Members). AreSinks limit [] us (ss ++ s ∷ [])) (sym (take_more ts i t at)) (sinks_more limit []
    (take i ts) ss t s h is)

pub loggers_step : {sinks : List SinkConfig} (ts : List Members) (i : ℕ) {ls : List LoggerConfig} {t : Members} {l : LoggerConfig}
    → AreLoggers sinks [] (take i ts) ls → slice_get ts i ≡ Some t → IsLogger sinks ls t l
    → AreLoggers sinks [] (take (i + 1) ts) (ls ++ l ∷ [])
loggers_step {sinks} ts i {ls} {t} {l} h at is =
    subst (λ (us : List Members). AreLoggers sinks [] us (ls ++ l ∷ [])) (sym (take_more ts i t at)) (loggers_more sinks []
    (take i ts) ls t l h is)

pub sinks_refused : (limit : ℕ) (ts : List Members) (i : ℕ) (ss : List SinkConfig) {t : Members} (fault : TableFault)
    → AreSinks limit [] (take i ts) ss → slice_get ts i ≡ Some t
    → IsTableAnswer (IsSink limit ss t) (IsRefusedSink limit ss t) (Err fault) → IsSinksFault limit ts (fault_at (places.Sink i) fault)
sinks_refused limit ts i ss {t} (Broken rule) h at broken = record { earlier = ss; before = h; t = t; at = at; refused = broken }
sinks_refused limit ts i ss OutOfMemory h at broken = tt

pub loggers_refused : (sinks : List SinkConfig) (ts : List Members) (i : ℕ) (ls : List LoggerConfig) {t : Members} (fault : TableFault)
    → AreLoggers sinks [] (take i ts) ls → slice_get ts i ≡ Some t
    → IsTableAnswer (IsLogger sinks ls t) (IsRefusedLogger sinks ls t) (Err fault)
    → IsLoggersFault sinks ts (fault_at (places.Logger i) fault)
loggers_refused sinks ts i ls {t} (Broken rule) h at broken = record { earlier = ls; before = h; t = t; at = at; refused = broken }
loggers_refused sinks ts i ls OutOfMemory h at broken = tt

-- the tables that the top has
pub tables_had : (f : Field LentTables) (v : LentTables) → f ≡ Given v → Has f (tables_in v)
tables_had f v e = subst (λ (x : Field LentTables). Has x (tables_in v)) (sym e) refl

pub top_had : (t : Members) (f : TopFields) (v w : LentTables) → AreTopFields t f → IsFirst order (TopBreaks f) None → f.sinks ≡ Given v
    → f.loggers ≡ Given w → IsTop t f (tables_in v) (tables_in w)
top_had t f v w are kept sinks loggers = record {
  are = are;
  kept = kept;
  sinks = tables_had f.sinks v sinks;
  loggers = tables_had f.loggers w loggers;
}

-- the first fault of the document, in a sink or in a logger
pub sink_fault : (t : Members) (f : TopFields) (v w : LentTables) (fault : ConfigFault) → IsTop t f (tables_in v) (tables_in w)
    → IsSinksFault (limit_of f) (tables_in v) fault → IsAnswer t (Err fault)
sink_fault t f v w faults.NotToml top h = absurd h
sink_fault t f v w faults.OutOfMemory top h = tt
sink_fault t f v w (faults.Broken rule places.Top) top h = absurd h
sink_fault t f v w (faults.Broken rule (places.Sink i)) top h =
    record { fields = f; sink_tables = tables_in v; logger_tables = tables_in w; top = top; refused = h }
sink_fault t f v w (faults.Broken rule (places.Logger i)) top h = absurd h

pub logger_fault : {t : Members} {f : TopFields} (v w : LentTables) (sinks : List SinkConfig) (fault : ConfigFault)
    → IsTop t f (tables_in v) (tables_in w) → AreSinks (limit_of f) [] (tables_in v) sinks → IsLoggersFault sinks (tables_in w) fault
    → IsAnswer t (Err fault)
logger_fault v w sinks faults.NotToml top are h = absurd h
logger_fault v w sinks faults.OutOfMemory top are h = tt
logger_fault v w sinks (faults.Broken rule places.Top) top are h = absurd h
logger_fault v w sinks (faults.Broken rule (places.Sink i)) top are h = absurd h
logger_fault {f} v w sinks (faults.Broken rule (places.Logger i)) top are h =
    record { fields = f; sink_tables = tables_in v; logger_tables = tables_in w; top = top; sinks = sinks; are = are; refused = h }
