-- Sinks under locks: what whole histories of turns lead to.
use Rattle.std.proofs.Common.{◌≡◌, ℕ, Bool, true, false, cond, is_ok, List, [], ◌∷◌, ◌++◌, map, Result, Ok, Err, refl, sym, ap, subst, ◌∙◌, append_assoc}
use Rattle.std.proofs.lemmas.List.{append-nil}
use Rattle.std.proofs.lemmas.List.Elements.{All-head, All-tail}
use Rattle.alog_format.specs.Buffer.{Buffer}
use Rattle.alog_lane.specs.Seats.{Entry}
use Rattle.alog_lane.specs.Turns.{Turned, Leads}
use Rattle.alog_msg.specs.declared.item.Item.{Item}
use Rattle.alog_msg.specs.declared.item.Item.TheVariants.{Text, Flush, Stop}
use Rattle.alog_msg.specs.declared.level.Level.{Level}
use Rattle.alog_msg.specs.declared.message.Message.{Message}
use Rattle.alog_sink.specs.Files.{Files}
use Rattle.alog_sink.specs.LaneRuns.{History, Stood, AllStand, AreServed, with_text, texts_of}
use Rattle.alog_sink.specs.Lines.{admits, admitted}
use Rattle.alog_sink.specs.Sinks.{Turns, as_taken, as_flushed}
use Rattle.alog_sink.specs.Turn.{Answer, LeafView, FanView, EachDoes, StandsFor, Takes, Flushes, FanTakes, FanFlushes, first_fault}
use Rattle.alog_sink.specs.declared.leaf.SinkError.{SinkError}
use Rattle.alog_sink.specs.declared.leaf.Taken.TheVariants.{Written}
use Rattle.alog_sink.specs.declared.sink.Sink.{Sink}
use Rattle.alog_sink.specs.declared.sink.Sink.TheVariants.{Leaf, Fan}
use Rattle.alog_sink.specs.declared.turn.Served.{Served}

abbrev Reply : Type 0
Reply = Result Served SinkError

-- the texts of one item and of those behind it
text_first : (i : Item) (before behind : List Message) → (before ++ with_text i []) ++ behind ≡ before ++ with_text i behind
text_first (Text m) before behind = append_assoc before (m ∷ []) behind
text_first (Flush logger) before behind = ap (λ x. x ++ behind) (append-nil before)
text_first Stop before behind = ap (λ x. x ++ behind) (append-nil before)

-- the same of those that pass a level
pass_first : (level : Level) (i : Item) (before behind : List Message)
    → (before ++ admitted level (with_text i [])) ++ admitted level behind ≡ before ++ admitted level (with_text i behind)
pass_first level (Text m) before behind = at (admits level m.level)
  where
    at : (b : Bool) → (before ++ cond b (m ∷ []) []) ++ admitted level behind ≡ before ++ cond b (m ∷ admitted level behind) (admitted level behind)
    at true = append_assoc before (m ∷ []) (admitted level behind)
    at false = ap (λ x. x ++ admitted level behind) (append-nil before)
pass_first level (Flush logger) before behind = ap (λ x. x ++ admitted level behind) (append-nil before)
pass_first level Stop before behind = ap (λ x. x ++ admitted level behind) (append-nil before)

-- an answer that is passed on is no fault
no_fault : {A : Type 0} (e : SinkError) (r : Reply) → r ≡ Err e → is_ok r ≡ true → A
no_fault e r is ok = absurd (let no : false ≡ true = subst (λ (x : Reply). is_ok x ≡ true) is ok in cc)

-- what more each of some sinks stands for
abbrev grown : (List Message → List Message) → Stood → Stood
grown more s = (s.0, more s.1)

module _ {S : Type 0} (tells : Bool) (files : S → Files) (failures : S → ℕ) (told : tells ≡ true) where
  abbrev Turned' : Sink S → Buffer → Item → Reply → Sink S → Buffer → Type 0
  Turned' = Turns tells files failures

  took : {o n : LeafView S} {m : Message} {a : Answer} {r : Reply} {opening : Files} {ms : List Message}
      → Takes tells files failures o m a n → r ≡ as_taken a → is_ok r ≡ true → StandsFor files o opening ms
      → StandsFor files n opening (ms ++ m ∷ [])
  took {a = Ok taken} {opening} {ms} takes same ok stood = takes.stands told opening ms stood
  took {a = Err e} {r} takes same ok stood = no_fault e r same ok

  flushed : {o n : LeafView S} {a : Result Unit SinkError} {r : Reply} {opening : Files} {ms : List Message}
      → Flushes tells files failures o a n → r ≡ as_flushed a → is_ok r ≡ true → StandsFor files o opening ms
      → StandsFor files n opening (ms ++ [])
  flushed {n} {a = Ok u} {opening} {ms} does same ok stood =
      subst (λ xs. StandsFor files n opening xs) (sym (append-nil ms)) (does.stands told opening ms stood)
  flushed {a = Err e} {r} does same ok stood = no_fault e r same ok

  one_turn : {o n : LeafView S} (line after : Buffer) (i : Item) (r : Reply) {opening : Files} {ms : List Message}
      → Turned' (Leaf o) line i r (Leaf n) after → is_ok r ≡ true → StandsFor files o opening ms
      → StandsFor files n opening (ms ++ with_text i [])
  one_turn {o} {n} line after (Text m) r {opening} {ms} turn ok stood = took turn.1 turn.2 ok stood
  one_turn {o} {n} line after (Flush logger) r {opening} {ms} turn ok stood = flushed turn.1 turn.2 ok stood
  one_turn line after Stop r turn ok stood = absurd turn

  -- a turn leaves a sink of the same kind
  no_fan : {A : Type 0} (o : LeafView S) (n : FanView S) (line after : Buffer) (i : Item) (r : Reply) → Turned' (Leaf o) line i r (Fan n) after → A
  no_fan o n line after (Text m) r turn = absurd turn.1
  no_fan o n line after (Flush logger) r turn = absurd turn.1
  no_fan o n line after Stop r turn = absurd turn

  no_leaf : {A : Type 0} (o : FanView S) (n : LeafView S) (line after : Buffer) (i : Item) (r : Reply) → Turned' (Fan o) line i r (Leaf n) after → A
  no_leaf o n line after (Text m) r turn = absurd turn.1
  no_leaf o n line after (Flush logger) r turn = absurd turn.1
  no_leaf o n line after Stop r turn = absurd turn

  pub leaf_writes : (o n : LeafView S) (h : History) (opening : Files) (ms : List Message) → Leads Turned' (Leaf o) h (Leaf n)
      → AreServed h → StandsFor files o opening ms → StandsFor files n opening (ms ++ texts_of h)
  leaf_writes o n [] opening ms leads served stood =
      let same : o ≡ n = cc
      in subst (λ (l : LeafView S). StandsFor files l opening (ms ++ [])) same
      (subst (λ xs. StandsFor files o opening xs) (sym (append-nil ms)) stood)
  leaf_writes o n (x ∷ h) opening ms leads served stood = at
      (λ p rest first. leaf_writes p n h opening (ms ++ with_text x.deed.item []) rest (All-tail Ok' x h served) first) leads.0 leads.1 leads.2
    where
      Ok' : Entry (Turned Item Buffer Reply) → Type 0
      Ok' = λ y. is_ok y.deed.reply ≡ true

      at : ((p : LeafView S) → Leads Turned' (Leaf p) h (Leaf n) → StandsFor files p opening (ms ++ with_text x.deed.item [])
          → StandsFor files n opening ((ms ++ with_text x.deed.item []) ++ texts_of h)) → (u : Sink S)
          → Turned' (Leaf o) x.deed.before x.deed.item x.deed.reply u x.deed.after → Leads Turned' u h (Leaf n)
          → StandsFor files n opening (ms ++ texts_of (x ∷ h))
      at then (Leaf p) turn rest =
          subst (λ xs. StandsFor files n opening xs) (text_first x.deed.item ms (texts_of h))
          (then p rest (one_turn {n = p} x.deed.before x.deed.after x.deed.item x.deed.reply turn (All-head Ok' x h served) stood))
      at then (Fan p) turn rest = no_fan o p x.deed.before x.deed.after x.deed.item x.deed.reply turn

  -- a leaf that did so stands for more
  record Grows {A : Type 0} (Does : LeafView S → Result A SinkError → LeafView S → Type 0) (more : List Message → List Message) : Type 0 where
    grows : (o n : LeafView S) (a : A) (opening : Files) (ms : List Message) → Does o (Ok a) n → StandsFor files o opening ms
        → StandsFor files n opening (more ms)

  -- each member did so, and none met a fault
  record AllDid {A : Type 0} (done : A) (Does : LeafView S → Result A SinkError → LeafView S → Type 0) (olds : List (LeafView S))
      (answers : List (Result A SinkError)) (news : List (LeafView S)) : Type 0 where
    each : EachDoes Does olds answers news
    ok : is_ok (first_fault done answers) ≡ true

  -- so each stands for more
  each_stands : {A : Type 0} {done : A} {Does : LeafView S → Result A SinkError → LeafView S → Type 0} {more : List Message → List Message}
      → Grows Does more → (olds : List (LeafView S)) (answers : List (Result A SinkError)) (news : List (LeafView S))
      (stood : List Stood) → AllDid done Does olds answers news → AllStand files olds stood → AllStand files news (map (grown more) stood)
  each_stands one [] [] [] [] did all = tt
  each_stands {done} one (o ∷ os) (Ok a ∷ answers) (n ∷ ns) (s ∷ stood) did all = (
    one.grows o n a s.0 s.1 did.each.0 all.0,
    each_stands {done = done} one os answers ns stood (record { each = did.each.1; ok = did.ok }) all.1,
  )
  each_stands one (o ∷ os) (Err e ∷ answers) (n ∷ ns) (s ∷ stood) did all = absurd (let ok = did.ok in cc)
  each_stands one (o ∷ os) (a ∷ answers) (n ∷ ns) [] did all = absurd all
  each_stands one [] [] [] (s ∷ stood) did all = absurd all
  each_stands one [] (a ∷ answers) ns stood did all = absurd did.each
  each_stands one [] [] (n ∷ ns) stood did all = absurd did.each
  each_stands one (o ∷ os) [] ns stood did all = absurd did.each
  each_stands one (o ∷ os) (a ∷ answers) [] stood did all = absurd did.each

  -- what more is stood for, said otherwise
  grown_same : (more same : List Message → List Message) → ((ms : List Message) → more ms ≡ same ms) → (leaves : List (LeafView S))
      (stood : List Stood) → AllStand files leaves (map (grown more) stood) → AllStand files leaves (map (grown same) stood)
  grown_same more same is [] [] all = tt
  grown_same more same is (l ∷ ls) (s ∷ stood) all =
      (subst (λ ms. StandsFor files l s.0 ms) (is s.1) all.0, grown_same more same is ls stood all.1)
  grown_same more same is [] (s ∷ stood) all = absurd all
  grown_same more same is (l ∷ ls) [] all = absurd all

  grown_twice : (more again : List Message → List Message) (leaves : List (LeafView S)) (stood : List Stood)
      → AllStand files leaves (map (grown again) (map (grown more) stood)) → AllStand files leaves (map (grown (λ ms. again (more ms))) stood)
  grown_twice more again [] [] all = tt
  grown_twice more again (l ∷ ls) (s ∷ stood) all = (all.0, grown_twice more again ls stood all.1)
  grown_twice more again [] (s ∷ stood) all = absurd all
  grown_twice more again (l ∷ ls) [] all = absurd all

  not_grown : (leaves : List (LeafView S)) (stood : List Stood) → AllStand files leaves stood
      → AllStand files leaves (map (grown (λ ms. ms ++ [])) stood)
  not_grown [] [] all = tt
  not_grown (l ∷ ls) (s ∷ stood) all =
      (subst (λ ms. StandsFor files l s.0 ms) (sym (append-nil s.1)) all.0, not_grown ls stood all.1)
  not_grown [] (s ∷ stood) all = absurd all
  not_grown (l ∷ ls) [] all = absurd all

  fan_took : {o n : FanView S} {m : Message} {a : Answer} {r : Reply} (stood : List Stood) → FanTakes tells files failures o m a n
      → r ≡ as_taken a → is_ok r ≡ true → AllStand files o.members stood
      → AllStand files n.members (map (grown (λ ms. ms ++ admitted o.level (m ∷ []))) stood)
  fan_took {a = Err e} {r} stood takes same ok all = no_fault e r same ok
  fan_took {o} {n} {m} {a = Ok taken} stood takes same ok all = at (admits o.level m.level) refl
    where
      at : (b : Bool) → admits o.level m.level ≡ b → AllStand files n.members (map (grown (λ ms. ms ++ cond b (m ∷ []) [])) stood)
      at false e = subst (λ (f : FanView S). AllStand files f.members (map (grown (λ ms. ms ++ [])) stood)) (sym (takes.below e).1)
          (not_grown o.members stood all)
      at true e =
          let given = takes.given e in
          let one : Grows (λ p a q. Takes tells files failures p m a q) (λ ms. ms ++ m ∷ []) =
          record { grows = λ p q a opening ms takes stood. takes.stands told opening ms stood } in
          each_stands {done = Written} one o.members given.0 n.members stood
          (record { each = given.1; ok = ap (λ (x : Answer). is_ok x) (sym given.2) }) all

  fan_flushed : {o n : FanView S} {a : Result Unit SinkError} {r : Reply} (stood : List Stood) → FanFlushes tells files failures o a n
      → r ≡ as_flushed a → is_ok r ≡ true → AllStand files o.members stood → AllStand files n.members (map (grown (λ ms. ms ++ [])) stood)
  fan_flushed {a = Err e} {r} stood does same ok all = no_fault e r same ok
  fan_flushed {o} {n} {a = Ok u} stood does same ok all =
      let one : Grows (λ p a q. Flushes tells files failures p a q) (λ ms. ms ++ []) = record {
        grows = λ p q a opening ms does stood.
            subst (λ xs. StandsFor files q opening xs) (sym (append-nil ms)) (does.stands told opening ms stood);
      } in
      each_stands {done = tt} one o.members does.answers n.members stood
      (record { each = does.given; ok = ap (λ (x : Result Unit SinkError). is_ok x) (sym does.first) }) all

  fan_turn : (o n : FanView S) (deed : Turned Item Buffer Reply) (stood : List Stood)
      → Turned' (Fan o) deed.before deed.item deed.reply (Fan n) deed.after → is_ok deed.reply ≡ true → AllStand files o.members stood
      → AllStand files n.members (map (grown (λ ms. ms ++ admitted o.level (with_text deed.item []))) stood)
  fan_turn o n deed stood turn ok all = by_item deed.item turn
    where
      by_item : (i : Item) → Turned' (Fan o) deed.before i deed.reply (Fan n) deed.after
          → AllStand files n.members (map (grown (λ ms. ms ++ admitted o.level (with_text i []))) stood)
      by_item (Text m) turn = fan_took stood turn.1 turn.2 ok all
      by_item (Flush logger) turn = fan_flushed stood turn.1 turn.2 ok all
      by_item Stop turn = absurd turn

  fan_level : (o n : FanView S) (line after : Buffer) (i : Item) (r : Reply) → Turned' (Fan o) line i r (Fan n) after → n.level ≡ o.level
  fan_level o n line after (Text m) r turn = turn.1.level
  fan_level o n line after (Flush logger) r turn = turn.1.level
  fan_level o n line after Stop r turn = absurd turn

  pub fan_writes : (o n : FanView S) (h : History) (stood : List Stood) → Leads Turned' (Fan o) h (Fan n) → AreServed h
      → AllStand files o.members stood → AllStand files n.members (map (grown (λ ms. ms ++ admitted o.level (texts_of h))) stood)
  fan_writes o n [] stood leads served all =
      let same : o ≡ n = cc
      in subst (λ (f : FanView S). AllStand files f.members (map (grown (λ ms. ms ++ [])) stood)) same (not_grown o.members stood all)
  fan_writes o n (x ∷ h) stood leads served all = at
      (λ p rest first. fan_writes p n h (map (grown more) stood) rest (All-tail Ok' x h served) first) leads.0 leads.1 leads.2
    where
      Ok' : Entry (Turned Item Buffer Reply) → Type 0
      Ok' = λ y. is_ok y.deed.reply ≡ true

      more : List Message → List Message
      more = λ ms. ms ++ admitted o.level (with_text x.deed.item [])

      at : ((p : FanView S) → Leads Turned' (Fan p) h (Fan n) → AllStand files p.members (map (grown more) stood)
          → AllStand files n.members (map (grown (λ ms. ms ++ admitted p.level (texts_of h))) (map (grown more) stood))) → (u : Sink S)
          → Turned' (Fan o) x.deed.before x.deed.item x.deed.reply u x.deed.after → Leads Turned' u h (Fan n)
          → AllStand files n.members (map (grown (λ ms. ms ++ admitted o.level (texts_of (x ∷ h)))) stood)
      at then (Leaf p) turn rest = no_leaf o p x.deed.before x.deed.after x.deed.item x.deed.reply turn
      at then (Fan p) turn rest =
          let behind : List Message → List Message = λ ms. ms ++ admitted p.level (texts_of h)
          in let level : p.level ≡ o.level = fan_level o p x.deed.before x.deed.after x.deed.item x.deed.reply turn
          in let first = fan_turn o p x.deed stood turn (All-head Ok' x h served) all
          in grown_same (λ ms. behind (more ms)) (λ ms. ms ++ admitted o.level (texts_of (x ∷ h)))
          (λ ms. ap (λ l. more ms ++ admitted l (texts_of h)) level ∙ pass_first o.level x.deed.item ms (texts_of h))
          n.members stood (grown_twice more behind n.members stood (then p rest first))
