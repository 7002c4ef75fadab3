-- The turns that are due on a sink of a logger for texts of it.
use Rattle.std.proofs.Common.{◌≡◌, ◌≢◌, ℕ, ◌+◌, ◌==◌, Bool, true, false, cond, Option, Some, List, [], ◌∷◌, ◌++◌, length, map, count_by}
use Rattle.std.proofs.Common.{refl, sym, ap, subst, ◌∙◌, arith}
use Rattle.std.specs.List.{AllByRecursion}
use Rattle.std.proofs.lemmas.List.{map-append}
use Rattle.std.proofs.lemmas.List.Sums.{sum_by-cons}
use Rattle.alog_core.proofs.SharedCells.{on_test}
use Rattle.alog_core.specs.Accounts.{weigh}
use Rattle.alog_msg.specs.declared.item.Item.{Item}
use Rattle.alog_msg.specs.declared.item.Item.TheVariants.{Flush, Stop, Text}
use Rattle.alog_msg.specs.declared.message.Message.{Message}
use Rattle.alog_pool.specs.Accounts.{of_work}
use Rattle.alog_pool.specs.Deeds.{Due, all_dues, due_by, dues_by, dues_of, dues_on, given_by}
use Rattle.alog_pool.specs.OneWorker.{texts_in}
use Rattle.alog_registry.specs.Listed.{spec_at}
use Rattle.alog_registry.specs.Work.{is_flush_due, turns_on}
use Rattle.alog_registry.specs.declared.logger.Logger.{Logger}
use Rattle.alog_registry.specs.declared.logger.Spec.{Spec}
use Rattle.alog_registry.specs.declared.work.SinkDeed.{SinkDeed}
use Rattle.alog_registry.specs.declared.work.SinkDeed.TheVariants as deed
use Rattle.alog_registry.specs.declared.work.SinkTurn.{SinkTurn}
use Rattle.alog_sink.specs.LaneRuns.{with_text}
use Rattle.test_laws.proofs.Claims.{Given}

-- a text of this logger
abbrev pub IsFor : ℕ → Item → Type 0
IsFor logger (Text m) = m.logger ≡ logger
IsFor logger (Flush k) = ⊥
IsFor logger Stop = ⊥

no_stop : (logger : ℕ) (x : Item) → IsFor logger x → x ≢ Stop
no_stop logger (Text m) is same = absurd (cc same)
no_stop logger (Flush k) is same = is
no_stop logger Stop is same = is

pub no_stops : (logger : ℕ) (items : List Given) → AllByRecursion (λ (i : Given). IsFor logger i.1) items
    → AllByRecursion (λ (i : Given). i.1 ≢ Stop) items
no_stops logger [] all = tt
no_stops logger (i ∷ items) all = (no_stop logger i.1 all.0, no_stops logger items all.1)

-- the texts of two lists, one behind the other
with_more : (x : Item) (ms ns : List Message) → with_text x (ms ++ ns) ≡ with_text x ms ++ ns
with_more (Text m) ms ns = refl
with_more (Flush k) ms ns = refl
with_more Stop ms ns = refl

-- of texts as many as weigh one each
pub count_texts : (logger : ℕ) (items : List Given) → AllByRecursion (λ (i : Given). IsFor logger i.1) items
    → length (texts_in items) ≡ weigh of_work items
count_texts logger [] all = refl
count_texts logger ((t, Text m) ∷ items) all = let rest = count_texts logger items all.1 in omega (arith, rest)
count_texts logger ((t, Flush k) ∷ items) all = absurd all.0
count_texts logger ((t, Stop) ∷ items) all = absurd all.0

pub texts_more : (xs ys : List Given) → texts_in (xs ++ ys) ≡ texts_in xs ++ texts_in ys
texts_more [] ys = refl
texts_more (x ∷ xs) ys = ap (λ (ms : List Message). with_text x.1 ms) (texts_more xs ys) ∙ with_more x.1 (texts_in xs) (texts_in ys)

module _ (n : ℕ) where
  pub dues_more : (ds es : List Due) → dues_on n (ds ++ es) ≡ dues_on n ds ++ dues_on n es
  dues_more [] es = refl
  dues_more (d ∷ ds) es =
      on_test (λ b. cond b ((d.tag, d.item) ∷ dues_on n (ds ++ es)) (dues_on n (ds ++ es))
      ≡ cond b ((d.tag, d.item) ∷ dues_on n ds) (dues_on n ds) ++ dues_on n es) d.sink n
      (λ _. ap (λ (l : List Given). (d.tag, d.item) ∷ l) (dues_more ds es))
      (λ _. dues_more ds es)

  -- how often the sink stands among these
  abbrev often : List ℕ → ℕ
  often sinks = count_by (λ (s : ℕ). s == n) sinks

  often_more : (s : ℕ) (sinks : List ℕ) → often (s ∷ sinks) ≡ cond (s == n) 1 0 + often sinks
  often_more s sinks = sum_by-cons (λ (s : ℕ). cond (s == n) 1 0) s sinks

  pub once_alone : often (n ∷ []) ≡ 1
  once_alone = often_more n [] ∙ on_test (λ b. cond b 1 0 + often [] ≡ 1) n n (λ _. refl) (λ other. absurd (other refl))

  -- what these turns, one on each of some sinks, give the sink
  module _ (k t : ℕ) (x : Item) (d : SinkDeed) where
    abbrev given : List ℕ → List Given
    given sinks = dues_on n (map (λ (u : SinkTurn). due_by k x u) (turns_on sinks t d))

    none_given : (sinks : List ℕ) → often sinks ≡ 0 → given sinks ≡ []
    none_given [] none = refl
    none_given (s ∷ sinks) none =
        on_test (λ b. often (s ∷ sinks) ≡ cond b 1 0 + often sinks → cond b ((t, given_by k x d) ∷ given sinks) (given sinks) ≡ []) s n
        (λ _ is. absurd (omega (arith, is, none))) (λ _ is. none_given sinks (omega (arith, is, none))) (often_more s sinks)

    once_given : (sinks : List ℕ) → often sinks ≡ 1 → given sinks ≡ (t, given_by k x d) ∷ []
    once_given [] once = absurd (omega (arith, once))
    once_given (s ∷ sinks) once =
        on_test (λ b. often (s ∷ sinks) ≡ cond b 1 0 + often sinks
        → cond b ((t, given_by k x d) ∷ given sinks) (given sinks) ≡ (t, given_by k x d) ∷ []) s n
        (λ _ is. ap (λ (l : List Given). (t, given_by k x d) ∷ l) (none_given sinks (omega (arith, is, once))))
        (λ _ is. once_given sinks (omega (arith, is, once))) (often_more s sinks)

  -- turns that give the sink just this item's text, if it is one
  abbrev IsGood : Item → List Given → Type 0
  IsGood x turns = texts_in turns ≡ with_text x []

  abbrev turns_at : ℕ → List ℕ → Bool → List SinkTurn
  turns_at t sinks due = turns_on sinks t deed.Take ++ cond due (turns_on sinks t deed.Flush) []

  good_text : (t : ℕ) (m : Message) (sinks : List ℕ) (due : Bool) → often sinks ≡ 1
      → IsGood (Text m) (dues_on n (map (λ (u : SinkTurn). due_by m.logger (Text m) u) (turns_at t sinks due)))
  good_text t m sinks due once =
      let f : SinkTurn → Due = λ u. due_by m.logger (Text m) u in
      let take : given m.logger t (Text m) deed.Take sinks ≡ (t, Text m) ∷ [] = once_given m.logger t (Text m) deed.Take sinks once in
      let flush : List SinkTurn = cond due (turns_on sinks t deed.Flush) [] in
      let both : dues_on n (map f (turns_at t sinks due)) ≡ (t, Text m) ∷ dues_on n (map f flush) =
      ap (λ (ds : List Due). dues_on n ds) (map-append f (turns_on sinks t deed.Take) flush)
      ∙ dues_more (map f (turns_on sinks t deed.Take)) (map f flush) ∙ ap (λ (l : List Given). l ++ dues_on n (map f flush)) take in
      subst (λ (l : List Given). IsGood (Text m) l) (sym both) (behind due)
    where
      behind : (due : Bool)
          → IsGood (Text m) ((t, Text m) ∷ dues_on n (map (λ (u : SinkTurn). due_by m.logger (Text m) u) (cond due (turns_on sinks t deed.Flush) [])))
      behind true =
          subst (λ (l : List Given). IsGood (Text m) ((t, Text m) ∷ l)) (sym (once_given m.logger t (Text m) deed.Flush sinks once)) refl
      behind false = refl

module _ (loggers : List Logger) (logger n : ℕ) (s : Spec) (found : spec_at loggers logger ≡ Some s) (once : often n s.sinks.items ≡ 1) where
  spec_of : (k : ℕ) → k ≡ logger → spec_at loggers k ≡ Some s
  spec_of k is = subst (λ (j : ℕ). spec_at loggers j ≡ Some s) (sym is) found

  good_item : (t : ℕ) (x : Item) → IsFor logger x → IsGood n x (dues_on n (dues_of loggers t x))
  good_item t (Text m) is =
      subst (λ (o : Option Spec). IsGood n (Text m) (dues_on n (dues_by o m.logger t (Text m)))) (sym (spec_of m.logger is))
      (good_text n t m s.sinks.items (is_flush_due s m.level) once)
  good_item t (Flush k) is = absurd is
  good_item t Stop is = absurd is

  -- for all of them it is given their texts
  pub due_texts : (items : List Given) → AllByRecursion (λ (i : Given). IsFor logger i.1) items
      → texts_in (dues_on n (all_dues loggers items)) ≡ texts_in items
  due_texts [] all = refl
  due_texts (i ∷ items) all =
      let here = good_item i.0 i.1 all.0 in
      let rest = due_texts items all.1 in
      let now : List Given = dues_on n (dues_of loggers i.0 i.1) in
      let then : List Given = dues_on n (all_dues loggers items) in
      let parts : dues_on n (all_dues loggers (i ∷ items)) ≡ now ++ then = dues_more n (dues_of loggers i.0 i.1) (all_dues loggers items) in
      ap (λ (l : List Given). texts_in l) parts ∙ texts_more now then ∙ (λ j. here j ++ rest j) ∙ sym (with_more i.1 [] (texts_in items))
