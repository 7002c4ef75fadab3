-- Messages that are posted one after another.
use Rattle.std.proofs.Common.{◌≡◌, ◌≢◌, ◌==◌, Bool, true, false, eq-eqb, ℕ, ℤ, List, [], ◌∷◌, ◌++◌, length, drop, Some}
use Rattle.std.proofs.Common.{slice_get, refl, sym, ap, subst, ◌∙◌, append_assoc, codes}
use Rattle.alog_msg.specs.declared.item.Item.{Item}
use Rattle.alog_msg.specs.declared.item.Item.TheVariants.{Text}
use Rattle.alog_msg.specs.declared.message.Message.{Message}
use Rattle.alog_policy.specs.Outlet.{Doing}
use Rattle.alog_policy.specs.declared.policy.Policy.{Policy}
use Rattle.alog_policy.specs.declared.policy.Outcome.{Outcome}
use Rattle.alog_registry.specs.ItemOutlet.{PostsItem}
use Rattle.alog_registry.specs.Dumping.{marker, posted_of, PostsEach}

abbrev pub Outcomes : Type 0
Outcomes = List (Outcome (Unit {0}))

-- a message was taken from the front of what is left
pub first_and_rest : (xs : List Message) (m : Message) → Some m ≡ slice_get xs 0 → xs ≡ m ∷ drop 1 xs
first_and_rest [] m e = absurd (cc e)
first_and_rest (x ∷ xs) m e = let same : x ≡ m = cc e in ap (λ y. y ∷ xs) same

pub taken_from : (all gone left rest : List Message) (m : Message) → all ≡ gone ++ left → Some m ≡ slice_get left 0 → rest ≡ drop 1 left
    → all ≡ (gone ++ m ∷ []) ++ rest
taken_from all gone left rest m e first then =
    e ∙ (ap (λ xs. gone ++ xs) (first_and_rest left m first ∙ ap (λ xs. m ∷ xs) (sym then)) ∙ sym (append_assoc gone (m ∷ []) rest))

pub not_none : (b : Bool) (n : ℕ) → b ≡ (n == 0) → b ≡ false → n ≢ 0
not_none b n e f z = let all : (n == 0) ≡ true = eq-eqb n 0 z in cc

module _ {S : Type 0} (did : Doing S Item) (p : Policy) where
  -- one message more
  pub posts_more : (ms : List Message) (a : S) {b c : S} (os : Outcomes) {m : Message} {o : Outcome (Unit {0})} → PostsEach did p ms a os b
      → PostsItem did p (Text m) b c o → PostsEach did p (ms ++ m ∷ []) a (os ++ o ∷ []) c
  posts_more [] a {c} [] {m} {o} e q = (c, subst (λ z. PostsItem did p (Text m) z c o) e q, refl)
  posts_more [] a (o' ∷ os) h q = absurd h
  posts_more (m' ∷ ms) a [] h q = absurd h
  posts_more (m' ∷ ms) a {b} {c} (o' ∷ os) {m} {o} h q = (h.0, h.1, posts_more ms h.0 os h.2 q)

  -- A dump posts a marker, all messages, and a marker.
  pub record PostsDump (n : ℕ) (t : ℤ) (th : ℕ) (ms : List Message) (a : S) (all : Outcomes) (d : S) : Type 0 where
    pub start : Message
    pub starts : start ≡ marker n t th (codes "=== backtrace start ===")
    pub end : Message
    pub ends : end ≡ marker n t th (codes "=== backtrace end ===")
    pub first : Outcomes
    pub outcome : Outcome (Unit {0})
    pub first_is : first ≡ outcome ∷ []
    pub more : Outcomes
    pub last : Outcome (Unit {0})
    pub all_is : all ≡ more ++ last ∷ []
    pub b : S
    pub c : S
    pub opens : PostsItem did p (Text start) a b outcome
    pub between : (s : S) (before : List Message) → PostsEach did p before s first b → PostsEach did p (before ++ ms) s more c
    pub closes : PostsItem did p (Text end) c d last

  -- so it posts what a dump is to post
  pub dump_posts : {n : ℕ} {t : ℤ} {th : ℕ} {ms : List Message} {a : S} {all : Outcomes} {d : S} → length ms ≢ 0
      → PostsDump n t th ms a all d → PostsEach did p (posted_of n t th ms) a all d
  dump_posts {ms = []} some h = absurd (some refl)
  dump_posts {n} {t} {th} {ms = m ∷ ms} {a} {all} {d} some h =
      let list : List Message = m ∷ ms in
      let one : PostsEach did p (h.start ∷ []) a h.first h.b =
      subst (λ z. PostsEach did p (h.start ∷ []) a z h.b) (sym h.first_is) (h.b, h.opens, refl) in
      let two : PostsEach did p (h.start ∷ list) a h.more h.c = h.between a (h.start ∷ []) one in
      let three : PostsEach did p ((h.start ∷ list) ++ h.end ∷ []) a (h.more ++ h.last ∷ []) d =
      posts_more (h.start ∷ list) a h.more two h.closes in
      let P : Message → Message → Outcomes → Type 0 = λ x y ws. PostsEach did p (x ∷ list ++ y ∷ []) a ws d in
      subst (λ x. P x (marker n t th (codes "=== backtrace end ===")) all) h.starts
      (subst (λ y. P h.start y all) h.ends (subst (λ ws. P h.start h.end ws) (sym h.all_is) three))
