-- Arguments of a form: they are spelled in one way, and whether a text spells any can be told.
use Rattle.std.proofs.Common.{◌≡◌, ◌↔◌, ◌⊎◌, ℕ, ℤ, pos, neg_ℤ, List, [], ◌∷◌, ◌++◌, ◌-◌, ◌^◌, length, refl, sym, ◌∙◌, ap, subst, arith}
use Rattle.std.proofs.Common.{Bool, true, false, cond, eqb, eq-eqb}
use Rattle.std.proofs.Common.{inl, inr, Option, None, Some, unwrap_or}
use mathlib.Core.Logic.{dite}
use native.Mathlib.Decide.{dec_le, dec_lt, ℕ_discrete}
use Rattle.std.proofs.lemmas.Bool.{false≢true}
use Rattle.std.proofs.lemmas.List.{append-nil}
use Rattle.std.proofs.lemmas.Option.{none-some, same_Some}
use Rattle.std.proofs.lemmas.Slice.Eq.{bytes_eq-Decides}
use Rattle.std.proofs.lemmas.Str.Parse.{digit_from_value}
use Rattle.std.specs.Prelude.{codes}
use Rattle.std.specs.Str.{bytes_eq}
use Rattle.std.specs.Str.Parse.{AllDigits, digits_value}
use Rattle.std.specs.Char.{digit_value}
use Rattle.alog_core.specs.declared.TheConstants.{ACTORS}
use Rattle.alog_msg.specs.Level.{Names, row_of}
use Rattle.alog_msg.specs.declared.level.Level.{Level}
use Rattle.alog_msg.specs.declared.level.Level.TheVariants.{Trace, Debug, Info, Warning, Error, Critical, Off}
use Rattle.alog_policy.specs.declared.policy.Policy.{Policy}
use Rattle.alog_policy.specs.declared.policy.Policy.TheVariants.{Block, OverrunOldest, DiscardNew}
use Rattle.alog_replay.specs.declared.limits.TheConstants.{STEPS_MAX}
use Rattle.alog_replay.specs.Cut.{tail_of, IsWord, IsCut}
use Rattle.alog_replay.specs.Command.{SpellsNumber, SpellsCount, SpellsTime, Word, Value, SpellsWord, Form, Given, SpellsForm, policy_name}
use Rattle.alog_replay.specs.Command.{Number, AnActor, Time, APolicy, ALevel, AName, NoArgument, AText, ACount, Only, Then}
use Rattle.alog_replay.proofs.CutLemmas.{cut_of, cut_once, digits_are_word, none_of, one_of}

-- a fact of some value, or of none
abbrev pub Decided : {X : Type 0} → (X → Type 0) → Type 0
Decided {X} P = ((x : X) × P x) ⊎ ((x : X) → P x → ⊥)

-- digits have one value
same_count : (t : Option (List ℕ)) (n m : ℕ) → SpellsCount t n → SpellsCount t m → n ≡ m
same_count None n m h g = h ∙ sym g
same_count (Some digits) n m h g = sym h.1 ∙ g.1

-- a minus is no digit
no_minus : (w digits : List ℕ) → AllDigits 10 w → w ≡ 45 ∷ digits → ⊥
no_minus w digits h e = let range = digit_from_value 45 (subst (AllDigits 10) e h).0 in omega (arith, range.0)

same_time : (w : List ℕ) (t u : ℤ) → SpellsTime w t → SpellsTime w u → t ≡ u
same_time w t u (inl h) (inl g) = h.2 ∙ (ap pos (sym h.1.1 ∙ g.1.1) ∙ sym g.2)
same_time w t u (inl h) (inr g) = absurd (no_minus w g.0 h.1.0.1 g.2)
same_time w t u (inr h) (inl g) = absurd (no_minus w h.0 g.1.0.1 h.2)
same_time w t u (inr h) (inr g) =
    let digits : h.0 ≡ g.0 = let e : 45 ∷ h.0 ≡ 45 ∷ g.0 = sym h.2 ∙ g.2 in cc in
    h.4 ∙ (ap (λ n. neg_ℤ (pos n)) (sym h.3.1 ∙ (ap (digits_value 10) digits ∙ g.3.1)) ∙ sym g.4)

-- a name of a policy or of a level has no space
no_space : List ℕ → Bool
no_space [] = true
no_space (b ∷ w) = cond (eqb b 32) false (no_space w)

one_spaceless : (b : ℕ) (w : List ℕ) (t : Bool) → eqb b 32 ≡ t → (no_space w ≡ true → IsWord w)
    → cond t false (no_space w) ≡ true → IsWord (b ∷ w)
one_spaceless b w true e rest h = absurd (false≢true h)
one_spaceless b w false e rest h = ((λ same. false≢true (sym e ∙ eq-eqb b 32 same)), rest h)

spaceless : (w : List ℕ) → no_space w ≡ true → IsWord w
unfolding no_space
spaceless [] h = tt
spaceless (b ∷ w) h = one_spaceless b w (eqb b 32) refl (spaceless w) h

policy_is_word : (p : Policy) → IsWord (policy_name p)
unfolding no_space
policy_is_word Block = spaceless (policy_name Block) refl
policy_is_word OverrunOldest = spaceless (policy_name OverrunOldest) refl
policy_is_word DiscardNew = spaceless (policy_name DiscardNew) refl

-- the policy of a name
policy_of : List ℕ → Option Policy
policy_of w =
    cond (bytes_eq w (policy_name Block)) (Some Block)
    (cond (bytes_eq w (policy_name OverrunOldest)) (Some OverrunOldest) (Some DiscardNew))

policy_of_name : (p : Policy) → policy_of (policy_name p) ≡ Some p
unfolding policy_of
policy_of_name Block = refl
policy_of_name OverrunOldest = refl
policy_of_name DiscardNew = refl

pub same_policy : (p q : Policy) → policy_name p ≡ policy_name q → p ≡ q
same_policy p q e = same_Some p q (sym (policy_of_name p) ∙ (ap policy_of e ∙ policy_of_name q))

level_is_word : (level : Level) → IsWord (row_of level).name
unfolding no_space
level_is_word Trace = spaceless (row_of Trace).name refl
level_is_word Debug = spaceless (row_of Debug).name refl
level_is_word Info = spaceless (row_of Info).name refl
level_is_word Warning = spaceless (row_of Warning).name refl
level_is_word Error = spaceless (row_of Error).name refl
level_is_word Critical = spaceless (row_of Critical).name refl
level_is_word Off = spaceless (row_of Off).name refl

other_is_word : (w : List ℕ) (level : Level) → Names w level → IsWord w
unfolding no_space
other_is_word w level (inl e) = subst IsWord (sym e) (level_is_word level)
other_is_word w Warning (inr e) = subst IsWord (sym e) (spaceless (codes "warn") refl)
other_is_word w Error (inr e) = subst IsWord (sym e) (spaceless (codes "err") refl)
other_is_word w Trace (inr e) = absurd e
other_is_word w Debug (inr e) = absurd e
other_is_word w Info (inr e) = absurd e
other_is_word w Critical (inr e) = absurd e
other_is_word w Off (inr e) = absurd e

-- the level of a name
level_of : List ℕ → Option Level
level_of w =
    cond (bytes_eq w (codes "trace")) (Some Trace)
    (cond (bytes_eq w (codes "debug")) (Some Debug)
    (cond (bytes_eq w (codes "info")) (Some Info)
    (cond (bytes_eq w (codes "warning")) (Some Warning)
    (cond (bytes_eq w (codes "warn")) (Some Warning)
    (cond (bytes_eq w (codes "error")) (Some Error)
    (cond (bytes_eq w (codes "err")) (Some Error)
    (cond (bytes_eq w (codes "critical")) (Some Critical) (Some Off))))))))

level_of_name : (level : Level) → level_of (row_of level).name ≡ Some level
unfolding level_of
level_of_name Trace = refl
level_of_name Debug = refl
level_of_name Info = refl
level_of_name Warning = refl
level_of_name Error = refl
level_of_name Critical = refl
level_of_name Off = refl

level_of_named : (w : List ℕ) (level : Level) → Names w level → level_of w ≡ Some level
unfolding level_of
level_of_named w level (inl e) = ap level_of e ∙ level_of_name level
level_of_named w Warning (inr e) = ap level_of e
level_of_named w Error (inr e) = ap level_of e
level_of_named w Trace (inr e) = absurd e
level_of_named w Debug (inr e) = absurd e
level_of_named w Info (inr e) = absurd e
level_of_named w Critical (inr e) = absurd e
level_of_named w Off (inr e) = absurd e

-- a word has no space
is_word : (word : Word) (w : List ℕ) (v : Value word) → SpellsWord word w v → IsWord w
is_word Number w n h = digits_are_word w h.0.1
is_word AnActor w n h = digits_are_word w h.0.1
is_word Time w t (inl h) = digits_are_word w h.1.0.1
is_word Time w t (inr h) = subst IsWord (sym h.2) ((λ e. absurd (omega (arith, e))), digits_are_word h.0 h.3.0.1)
is_word APolicy w p h = subst IsWord (sym h) (policy_is_word p)
is_word ALevel w level h = other_is_word w level h
is_word AName w name h = h.1

-- and says one thing
word_once : (word : Word) (w : List ℕ) (u v : Value word) → SpellsWord word w u → SpellsWord word w v → u ≡ v
word_once Number w u v h g = sym h.1 ∙ g.1
word_once AnActor w u v h g = sym h.1 ∙ g.1
word_once Time w u v h g = same_time w u v h g
word_once APolicy w u v h g = same_policy u v (sym h ∙ g)
word_once ALevel w u v h g = same_Some u v (sym (level_of_named w u h) ∙ level_of_named w v g)
word_once AName w u v h g = sym h.0 ∙ g.0

-- what is spelled of arguments that begin with a word
pub parts : {rest : Option (List ℕ)} {r : List ℕ} (word : Word) (form : Form) (w : List ℕ) (t : Option (List ℕ)) (g : Given (Then word form))
    → rest ≡ Some r → IsCut r w t → SpellsForm (Then word form) rest g → SpellsWord word w g.0 × SpellsForm form t g.1
parts {rest} {r} word form w t g e cut h =
    let whole : r ≡ h.0 ++ tail_of h.1 = same_Some _ _ (sym e ∙ h.2) in
    let once = cut_once h.0 w h.1 t (is_word word h.0 g.0 h.3) cut.1 (sym whole ∙ cut.0) in
    (subst (λ x. SpellsWord word x g.0) once.0 h.3, subst (λ x. SpellsForm form x g.1) once.1 h.4)

pair_is : {X Y : Type 0} (g h : X × Y) → g.0 ≡ h.0 → g.1 ≡ h.1 → g ≡ h
pair_is g h p q = λ i. (p i, q i)

-- a text spells one thing of a form
pub given_once : (form : Form) (rest : Option (List ℕ)) (g h : Given form) → SpellsForm form rest g → SpellsForm form rest h → g ≡ h
given_once NoArgument rest g h p q = refl
given_once AText rest g h p q = p ∙ sym q
given_once ACount rest g h p q = same_count rest g h p q
given_once (Only word) None g h p q = absurd p
given_once (Only word) (Some w) g h p q = word_once word w g h p q
given_once (Then word form) rest g h p q =
    let cut : IsCut (q.0 ++ tail_of q.1) q.0 q.1 = (refl, is_word word q.0 h.0 q.3) in
    let both = parts word form q.0 q.1 g q.2 cut p in
    pair_is g h (word_once word q.0 g.0 h.0 both.0 q.3) (given_once form q.1 g.1 h.1 both.1 q.4)

-- what is given for a form is what is spelled
is_given : (form : Form) (rest : Option (List ℕ)) (g : Given form) → SpellsForm form rest g → (h : Given form)
    → (Some g ≡ Some h) ↔ SpellsForm form rest h
is_given form rest g p = one_of (SpellsForm form rest) g p (λ h q. given_once form rest g h p q)

-- arguments begin with a word that spells this, and then there are these
pub record BeginsWith (word : Word) (rest : Option (List ℕ)) (v : Value word) (then : Option (List ℕ)) : Type 0 where
  pub first : List ℕ
  pub cut : rest ≡ Some (first ++ tail_of then)
  pub spells : SpellsWord word first v

pub begins : {word : Word} {rest : Option (List ℕ)} {r : List ℕ} {v : Value word} (w : List ℕ) (t : Option (List ℕ)) → rest ≡ Some r
    → IsCut r w t → SpellsWord word w v → BeginsWith word rest v t
begins w t e cut p = record { first = w; cut = e ∙ ap Some cut.0; spells = p }

pub spelled : {rest t : Option (List ℕ)} (word : Word) (form : Form) (v : Value word) (more : Given form) → BeginsWith word rest v t
    → SpellsForm form t more → SpellsForm (Then word form) rest (v, more)
spelled {t} word form v more b q = (b.first, t, b.cut, b.spells, q)

pub is_then : {rest t : Option (List ℕ)} (word : Word) (form : Form) {v : Value word} {more : Given form} → BeginsWith word rest v t
    → SpellsForm form t more → (h : Given (Then word form)) → (Some (v, more) ≡ Some h) ↔ SpellsForm (Then word form) rest h
is_then {rest} {t} word form {v} {more} b q = is_given (Then word form) rest (v, more) (spelled {t = t} word form v more b q)

-- what is made of what is given
pub is_made : {X : Type 0} (form : Form) (make : Given form → X) (rest : Option (List ℕ)) (g : Given form) → SpellsForm form rest g
    → (x : X) → (Some (make g) ≡ Some x) ↔ ((h : Given form) × SpellsForm form rest h × (make h ≡ x))
is_made form make rest g p =
    one_of (λ x. (h : Given form) × SpellsForm form rest h × (make h ≡ x)) (make g) (g, p, refl)
    (λ y s. ap make (given_once form rest g s.0 p s.1) ∙ s.2)

-- whether bytes are digits
digits_or_not : (ds : List ℕ) → AllDigits 10 ds ⊎ (AllDigits 10 ds → ⊥)
digits_or_not [] = inl tt
digits_or_not (d ∷ ds) =
    dite (dec_lt (digit_value d) 10)
    (λ y. elim (digits_or_not ds) [ inl r ↦ inl (y, r) | inr n ↦ inr (λ h. n h.1) ])
    (λ n. inr (λ h. n h.0))

-- whether a word spells a number of a range
pub number_or_none : (least most : ℕ) (w : List ℕ) → Decided (SpellsNumber least most w)
number_or_none least most w =
    dite (dec_lt 0 (length w))
    (λ some. elim (digits_or_not w) [
      | inl ds ↦ dite (dec_le least (digits_value 10 w))
          (λ lo. dite (dec_le (digits_value 10 w) most)
          (λ hi. inl (digits_value 10 w, ((some, ds), refl, lo, hi)))
          (λ n. inr (λ x h. n (omega (arith, h.1, h.3)))))
          (λ n. inr (λ x h. n (omega (arith, h.1, h.2))))
      | inr n ↦ inr (λ x h. n h.0.1)
    ])
    (λ n. inr (λ x h. n h.0.0))

count_or_none : (t : Option (List ℕ)) → Decided (SpellsCount t)
count_or_none None = inl (1, refl)
count_or_none (Some digits) = number_or_none 1 STEPS_MAX digits

-- whether a word is the name of a policy
name_or_not : (w v : List ℕ) (b : Bool) → bytes_eq w v ≡ b → (w ≡ v) ⊎ (w ≡ v → ⊥)
name_or_not w v true e = inl ((bytes_eq-Decides w v).0 e)
name_or_not w v false e = inr (λ h. false≢true (sym e ∙ (bytes_eq-Decides w v).1 h))

no_policy : (w : List ℕ) → (w ≡ policy_name Block → ⊥) → (w ≡ policy_name OverrunOldest → ⊥) → (w ≡ policy_name DiscardNew → ⊥)
    → (p : Policy) → w ≡ policy_name p → ⊥
no_policy w b o d Block h = b h
no_policy w b o d OverrunOldest h = o h
no_policy w b o d DiscardNew h = d h

policy_or_none : (w : List ℕ) → Decided (λ p. w ≡ policy_name p)
policy_or_none w = elim (name_or_not w (policy_name Block) _ refl) [
  | inl h ↦ inl (Block, h)
  | inr b ↦ elim (name_or_not w (policy_name OverrunOldest) _ refl) [
    | inl h ↦ inl (OverrunOldest, h)
    | inr o ↦ elim (name_or_not w (policy_name DiscardNew) _ refl) [ inl h ↦ inl (DiscardNew, h) | inr d ↦ inr (no_policy w b o d) ]
  ]
]

-- a word is this name, or another
named_or : (w v : List ℕ) (level : Level) → (w ≡ v → Names w level) → ((w ≡ v → ⊥) → Decided (Names w)) → Decided (Names w)
named_or w v level is other = elim (name_or_not w v (bytes_eq w v) refl) [ inl e ↦ inl (level, is e) | inr n ↦ other n ]

no_level : (w : List ℕ) → ((level : Level) → w ≡ (row_of level).name → ⊥) → (w ≡ codes "warn" → ⊥) → (w ≡ codes "err" → ⊥)
    → (level : Level) → Names w level → ⊥
no_level w other n e level (inl h) = other level h
no_level w other n e Warning (inr h) = n h
no_level w other n e Error (inr h) = e h
no_level w other n e Trace (inr h) = h
no_level w other n e Debug (inr h) = h
no_level w other n e Info (inr h) = h
no_level w other n e Critical (inr h) = h
no_level w other n e Off (inr h) = h

-- a word that is no name in the table of levels
record IsNoName (w : List ℕ) : Type 0 where
  trace : w ≡ codes "trace" → ⊥
  debug : w ≡ codes "debug" → ⊥
  info : w ≡ codes "info" → ⊥
  warning : w ≡ codes "warning" → ⊥
  error : w ≡ codes "error" → ⊥
  critical : w ≡ codes "critical" → ⊥
  off : w ≡ codes "off" → ⊥

no_row : {w : List ℕ} → IsNoName w → (level : Level) → w ≡ (row_of level).name → ⊥
no_row none Trace h = none.trace h
no_row none Debug h = none.debug h
no_row none Info h = none.info h
no_row none Warning h = none.warning h
no_row none Error h = none.error h
no_row none Critical h = none.critical h
no_row none Off h = none.off h

level_or_none : (w : List ℕ) → Decided (Names w)
level_or_none w =
    named_or w (codes "trace") Trace (λ e. inl e) (λ t.
    named_or w (codes "debug") Debug (λ e. inl e) (λ d.
    named_or w (codes "info") Info (λ e. inl e) (λ i.
    named_or w (codes "warning") Warning (λ e. inl e) (λ g.
    named_or w (codes "warn") Warning (λ e. inr e) (λ n.
    named_or w (codes "error") Error (λ e. inl e) (λ e.
    named_or w (codes "err") Error (λ e. inr e) (λ r.
    named_or w (codes "critical") Critical (λ e. inl e) (λ c.
    named_or w (codes "off") Off (λ e. inl e) (λ o.
    let none : IsNoName w =
    record { trace = t; debug = d; info = i; warning = g; error = e; critical = c; off = o } in
    inr (no_level w (no_row none) n r))))))))))

-- whether a word is a time
no_time : (w : List ℕ) → ((n : ℕ) → SpellsNumber 0 (2 ^ 63 - 1) w n → ⊥)
    → ((digits : List ℕ) (n : ℕ) → w ≡ 45 ∷ digits → SpellsNumber 0 (2 ^ 63) digits n → ⊥) → (t : ℤ) → SpellsTime w t → ⊥
no_time w one other t (inl h) = one h.0 h.1
no_time w one other t (inr h) = other h.0 h.1 h.2 h.3

-- the digits behind a minus
pub behind_minus : (w d e : List ℕ) (n : ℕ) → w ≡ 45 ∷ d → w ≡ 45 ∷ e → SpellsNumber 0 (2 ^ 63) e n → SpellsNumber 0 (2 ^ 63) d n
behind_minus w d e n one other h =
    let same : e ≡ d = let both : 45 ∷ e ≡ 45 ∷ d = sym other ∙ one in cc in subst (λ x. SpellsNumber 0 (2 ^ 63) x n) same h

minus_or_none : (w : List ℕ) → Decided (λ (d : List ℕ). w ≡ 45 ∷ d)
minus_or_none [] = inr (λ d e. absurd cc)
minus_or_none (b ∷ w) =
    dite (ℕ_discrete b 45) (λ e. inl (w, ap (λ x. x ∷ w) e)) (λ n. inr (λ d e. n (let h : b ≡ 45 = cc in h)))

negative_or_none : (w : List ℕ) → ((n : ℕ) → SpellsNumber 0 (2 ^ 63 - 1) w n → ⊥) → Decided (SpellsTime w)
negative_or_none w positive = elim (minus_or_none w) [
  | inl d ↦ elim (number_or_none 0 (2 ^ 63) d.0) [
    | inl n ↦ inl (neg_ℤ (pos n.0), inr (d.0, n.0, d.1, n.1, refl))
    | inr other ↦ inr (no_time w positive (λ digits n e h. other n (behind_minus w d.0 digits n d.1 e h)))
  ]
  | inr none ↦ inr (no_time w positive (λ digits n e h. none digits e))
]

time_or_none : (w : List ℕ) → Decided (SpellsTime w)
time_or_none w = elim (number_or_none 0 (2 ^ 63 - 1) w) [
  | inl n ↦ inl (pos n.0, inl (n.0, n.1, refl))
  | inr other ↦ negative_or_none w other
]

-- whether a text without a space spells a word
word_or_none : (word : Word) (w : List ℕ) → IsWord w → Decided (SpellsWord word w)
word_or_none Number w h = number_or_none 0 (2 ^ 64 - 1) w
word_or_none AnActor w h = number_or_none 0 (ACTORS - 1) w
word_or_none Time w h = time_or_none w
word_or_none APolicy w h = policy_or_none w
word_or_none ALevel w h = level_or_none w
word_or_none AName w h = inl (w, (refl, h))

-- a text has a space, or none
only_or_none : (word : Word) (r w : List ℕ) (t : Option (List ℕ)) → IsCut r w t → Decided (SpellsWord word r)
only_or_none word r w None cut =
    let whole : r ≡ w = cut.0 ∙ append-nil w in
    subst (λ x. Decided (SpellsWord word x)) (sym whole) (word_or_none word w cut.1)
only_or_none word r w (Some more) cut = inr (λ v h.
    none-some more (cut_once r w None (Some more) (is_word word r v h) cut.1 (append-nil r ∙ cut.0)).1)

then_or_none : (word : Word) (form : Form) (r w : List ℕ) (t : Option (List ℕ)) → IsCut r w t → Decided (SpellsWord word w)
    → Decided (SpellsForm form t) → Decided (SpellsForm (Then word form) (Some r))
then_or_none word form r w t cut (inl v) (inl more) = inl ((v.0, more.0), (w, t, ap Some cut.0, v.1, more.1))
then_or_none word form r w t cut (inr none) more = inr (λ g h. none g.0 (parts word form w t g refl cut h).0)
then_or_none word form r w t cut (inl v) (inr none) = inr (λ g h. none g.1 (parts word form w t g refl cut h).1)

-- whether a text spells arguments of a form
pub given_or_none : (form : Form) (rest : Option (List ℕ)) → Decided (SpellsForm form rest)
given_or_none NoArgument None = inl (tt, refl)
given_or_none NoArgument (Some r) = inr (λ g h. none-some _ (sym h))
given_or_none AText rest = inl (unwrap_or rest [], refl)
given_or_none ACount rest = count_or_none rest
given_or_none (Only word) None = inr (λ g h. h)
given_or_none (Only word) (Some r) = let c = cut_of r in only_or_none word r c.0 c.1 c.2
given_or_none (Then word form) None = inr (λ g h. none-some _ h.2)
given_or_none (Then word form) (Some r) =
    let c = cut_of r in then_or_none word form r c.0 c.1 c.2 (word_or_none word c.0 c.2.1) (given_or_none form c.1)

-- a number, with a minus before it or without, is a time
pub is_natural : {w : List ℕ} (n : ℕ) → SpellsNumber 0 (2 ^ 63 - 1) w n → (t : ℤ) → (Some (pos n) ≡ Some t) ↔ SpellsTime w t
is_natural {w} n p = one_of (SpellsTime w) (pos n) (inl (n, p, refl)) (λ u h. same_time w (pos n) u (inl (n, p, refl)) h)

pub is_negative : {w d : List ℕ} (n : ℕ) → w ≡ 45 ∷ d → SpellsNumber 0 (2 ^ 63) d n → (t : ℤ)
    → (Some (neg_ℤ (pos n)) ≡ Some t) ↔ SpellsTime w t
is_negative {w} {d} n e p =
    let spelled : SpellsTime w (neg_ℤ (pos n)) = inr (d, n, e, p, refl) in
    one_of (SpellsTime w) (neg_ℤ (pos n)) spelled (λ u h. same_time w (neg_ℤ (pos n)) u spelled h)

pub is_no_time : {r : Option ℤ} (w : List ℕ) → r ≡ None → ((n : ℕ) → SpellsNumber 0 (2 ^ 63 - 1) w n → ⊥)
    → ((d : List ℕ) (n : ℕ) → w ≡ 45 ∷ d → SpellsNumber 0 (2 ^ 63) d n → ⊥) → (t : ℤ) → (r ≡ Some t) ↔ SpellsTime w t
is_no_time {r} w e one other = none_of (SpellsTime w) r e (no_time w one other)

-- a minus within is in no number
pub within : (before after : List ℕ) → AllDigits 10 (before ++ 45 ∷ after) → ⊥
within [] after h = no_minus (45 ∷ after) after h refl
within (b ∷ before) after h = within before after h.1

pub is_negative_not : {r : Option ℤ} (w d : List ℕ) → w ≡ 45 ∷ d → r ≡ None → ((n : ℕ) → SpellsNumber 0 (2 ^ 63) d n → ⊥)
    → (t : ℤ) → (r ≡ Some t) ↔ SpellsTime w t
is_negative_not w d e none other =
    is_no_time w none (λ n p. no_minus w d p.0.1 e) (λ x n is p. other n (behind_minus w d x n e is p))

-- a text with a space is no name
pub is_no_name : {rest : Option (List ℕ)} {r : List ℕ} (w : List ℕ) (t : Option (List ℕ)) (s : List ℕ) → rest ≡ Some r → IsCut r w t
    → t ≡ Some s → (name : List ℕ) → (None ≡ Some name) ↔ SpellsForm (Only AName) rest name
is_no_name {rest} {r} w t s e cut more =
    none_of (SpellsForm (Only AName) rest) None refl (λ name h.
    let word : SpellsWord AName r name = subst (λ x. SpellsForm (Only AName) x name) e h in
    none-some s ((cut_once r w None t word.1 cut.1 (append-nil r ∙ cut.0)).1 ∙ more))
