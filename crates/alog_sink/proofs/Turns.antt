-- What a sink stands for after one message more, and the turns of a sink case by case.
use Rattle.std.proofs.Common.{◌≡◌, ◌⊎◌, ℕ, ℤ, Bool, true, false, cond, List, [], ◌∷◌, ◌++◌, Option, None, Some, Result, Ok, Err, OnOk}
use Rattle.std.proofs.Common.{refl, sym, ap, subst, ◌∙◌, inl, inr}
use Rattle.std.proofs.lemmas.List.{append-nil}
use Rattle.alog_msg.specs.declared.level.Level.{Level}
use Rattle.alog_msg.specs.declared.message.Message.{Message}
use Rattle.alog_sink.specs.Calls.{Counts}
use Rattle.alog_sink.specs.Deeds.{Does}
use Rattle.alog_sink.specs.Files.{Files}
use Rattle.alog_sink.specs.Kept.{IsKept, IsSameTarget, deeds_of}
use Rattle.alog_sink.specs.Lines.{Written, IsShownTo, IsWrittenOf, IsLineOf, AreWrittenOf, admits, admitted, last_time}
use Rattle.alog_sink.specs.Turn.{Answer, LeafView, Takes}
use Rattle.alog_sink.specs.declared.face.Face.{Face}
use Rattle.alog_sink.specs.declared.target.Target.{Target}
use Rattle.alog_sink.specs.declared.target.Target.TheVariants.{Memory, Rotating, Daily}
use Rattle.alog_sink.specs.declared.leaf.SinkError.TheVariants as errors
use Rattle.alog_sink.specs.declared.leaf.Taken.TheVariants.{Below, Written as Wrote}

-- a message more, which is taken or not
admitted_more : (own : Level) (ms : List Message) (m : Message) (b : Bool) → admits own m.level ≡ b
    → admitted own (ms ++ m ∷ []) ≡ admitted own ms ++ cond b (m ∷ []) []
admitted_more own [] m b e = ap (λ c. cond c (m ∷ []) []) e
admitted_more own (l ∷ ms) m b e = at (admits own l.level) (admitted_more own ms m b e)
  where
    at : (c : Bool) → admitted own (ms ++ m ∷ []) ≡ admitted own ms ++ cond b (m ∷ []) []
        → cond c (l ∷ admitted own (ms ++ m ∷ [])) (admitted own (ms ++ m ∷ []))
        ≡ cond c (l ∷ admitted own ms) (admitted own ms) ++ cond b (m ∷ []) []
    at true more = ap (λ x. l ∷ x) more
    at false more = more

written_more : (face : Face) (previous : Option ℤ) (ms : List Message) (ws : List Written) (m : Message) (w : Written)
    → AreWrittenOf face previous ms ws → IsWrittenOf face (last_time previous ms) m w
    → AreWrittenOf face previous (ms ++ m ∷ []) (ws ++ w ∷ [])
written_more face previous [] [] m w are is = (is, tt)
written_more face previous [] (v ∷ ws) m w are is = absurd are
written_more face previous (l ∷ ms) [] m w are is = absurd are
written_more face previous (l ∷ ms) (v ∷ ws) m w are is = (are.0, written_more face (Some l.time) ms ws m w are.1 is)

-- the last of them is the time of that message
last_time_more : (previous : Option ℤ) (ms : List Message) (m : Message) → last_time previous (ms ++ m ∷ []) ≡ Some m.time
last_time_more previous [] m = refl
last_time_more previous (l ∷ ms) m = last_time_more (Some l.time) ms m

same_target : (t : Target) → IsSameTarget t t
same_target (Memory j) = refl
same_target (Rotating j) = refl
same_target (Daily j) = refl

-- a line written, or a fault met now, is neither below the level nor an earlier fault
wrote_something : (answer : Answer) → answer ≡ Ok Wrote → (answer ≡ Ok Below) ⊎ (answer ≡ Err errors.Broken) → ⊥
wrote_something answer is (inl e) = cc
wrote_something answer is (inr e) = cc

failed_now : (answer : Answer) → answer ≡ Err errors.Store → (answer ≡ Ok Below) ⊎ (answer ≡ Err errors.Broken) → ⊥
failed_now answer is (inl e) = cc
failed_now answer is (inr e) = cc

module _ {S : Type 0} (tells : Bool) (files : S → Files) (failures : S → ℕ) where
  module _ (old : LeafView S) (m : Message) where
    pub takes_below : admits old.face.level m.level ≡ false → Takes tells files failures old m (Ok Below) old
    takes_below e = record {
      below = (λ _. e, λ _. refl);
      broken = (λ x. absurd (cc), λ x. absurd (let h = x.0 in cc));
      nothing = λ _. refl;
      face = refl;
      target = same_target old.target;
      wrote = λ x. absurd (cc);
      failed = λ x. absurd (cc);
      rose = λ x. absurd (cc);
      stayed = refl;
      stands = λ t o ms s. record {
        whole = s.whole;
        written = s.written;
        lines = subst (λ a. AreWrittenOf old.face None a s.written) (sym (not_more ms)) s.lines;
        kept = s.kept;
        previous = s.previous ∙ ap (last_time None) (sym (not_more ms));
      };
      writes = λ t x. absurd (cc);
      breaks = λ t x. absurd (cc);
    }
      where
        not_more : (ms : List Message) → admitted old.face.level (ms ++ m ∷ []) ≡ admitted old.face.level ms
        not_more ms = admitted_more old.face.level ms m false e ∙ append-nil (admitted old.face.level ms)

  module _ (old : LeafView S) (next : Target) (after : S) (m : Message) (w : Written) (whole : old.broken ≡ false)
      (e : admits old.face.level m.level ≡ true) (is : IsWrittenOf old.face old.previous m w) (same : IsSameTarget old.target next) where
    abbrev now : Bool → Option ℤ → LeafView S
    now b previous = record { face = old.face; target = next; store = after; broken = b; previous = previous }

    pub takes_wrote : {E : Type 0} (u : Unit {0}) → Counts {A = Unit {0}} {E = E} (failures old.store) (failures after) (Ok u)
        → (tells ≡ true → Does {A = Unit {0}} {E = E} (deeds_of old.target w) (files old.store) (files after) (Ok u))
        → (tells ≡ true → (o : Files) (ws : List Written) → IsKept old.target o ws (files old.store)
        → IsKept next o (ws ++ w ∷ []) (files after))
        → Takes tells files failures old m (Ok Wrote) (now old.broken (Some m.time))
    takes_wrote u counts does kept = record {
      below = (λ x. absurd (cc), λ x. absurd (cc));
      broken = (λ x. absurd (cc), λ x. absurd (let h = x.1 in cc));
      nothing = λ x. absurd (wrote_something (Ok Wrote) refl x);
      face = refl;
      target = same;
      wrote = λ _. whole;
      failed = λ x. absurd (cc);
      rose = λ x. absurd (cc);
      stayed = counts.done;
      stands = λ t o ms s. record {
        whole = whole;
        written = s.written ++ w ∷ [];
        lines = subst (λ a. AreWrittenOf old.face None a (s.written ++ w ∷ [])) (sym (admitted_more old.face.level ms m true e))
            (written_more old.face None (admitted old.face.level ms) s.written m w s.lines
            (subst (λ p. IsWrittenOf old.face p m w) s.previous is));
        kept = kept t o s.written s.kept;
        previous = sym (ap (last_time None) (admitted_more old.face.level ms m true e)
            ∙ last_time_more None (admitted old.face.level ms) m);
      };
      writes = λ t _. (w, is, (does t).done);
      breaks = λ t x. absurd (cc);
    }

    pub takes_fault : {A E : Type 0} (x : E) → Counts {A = A} {E = E} (failures old.store) (failures after) (Err x)
        → (tells ≡ true → Does {A = A} {E = E} (deeds_of old.target w) (files old.store) (files after) (Err x))
        → Takes tells files failures old m (Err errors.Store) (now true old.previous)
    takes_fault x counts does = record {
      below = (λ x. absurd (cc), λ x. absurd (cc));
      broken = (λ x. absurd (cc), λ x. absurd (let h = x.1 in cc));
      nothing = λ x. absurd (failed_now (Err errors.Store) refl x);
      face = refl;
      target = same;
      wrote = λ x. absurd (cc);
      failed = λ _. refl;
      rose = λ _. counts.failed;
      stayed = tt;
      stands = λ t o ms s. tt;
      writes = λ t x. absurd (cc);
      breaks = λ t _. (w, is, (does t).failed);
    }

-- The same of a sink that was opened: v is its view, and old the sink as it was given.
module _ {S : Type 0} (tells : Bool) (files : S → Files) (failures : S → ℕ) (old v : LeafView S) (is_view : v ≡ old) (next : Target)
    (after : S) (m : Message) (line text : List ℕ) (whole : old.broken ≡ false) (e : admits old.face.level m.level ≡ true)
    (same_line : line ≡ text) (is : IsLineOf v.face v.previous m text) (same : IsSameTarget v.target next) where
  abbrev its : Written
  its = record { at = is.1.1.0; line = line }

  its_line : IsWrittenOf v.face v.previous m its
  its_line = (subst (λ bytes. IsLineOf v.face v.previous m bytes) (sym same_line) is, is.1.1.1)

  v_whole : v.broken ≡ false
  v_whole = subst (λ (o : LeafView S). o.broken ≡ false) (sym is_view) whole

  v_takes : admits v.face.level m.level ≡ true
  v_takes = subst (λ (o : LeafView S). admits o.face.level m.level ≡ true) (sym is_view) e

  pub given_wrote : {E : Type 0} (u : Unit {0}) (answer : Result (Unit {0}) E) → answer ≡ Ok u
      → Counts (failures v.store) (failures after) answer
      → (tells ≡ true → (w : Written) → IsShownTo v.face.context.zone m w.at → w.line ≡ line
      → Does (deeds_of v.target w) (files v.store) (files after) answer)
      → (tells ≡ true → (o : Files) (ws : List Written) (w : Written) → IsShownTo v.face.context.zone m w.at → w.line ≡ line
      → IsKept v.target o ws (files v.store) → OnOk answer (IsKept next o (ws ++ w ∷ []) (files after)))
      → Takes tells files failures old m (Ok Wrote) (record { face = v.face; target = next; store = after; broken = v.broken; previous = Some m.time })
  given_wrote {E} u answer is_ok counts does kept =
      let P : LeafView S → Type 0 = λ o. Takes tells files failures o m (Ok Wrote)
      (record { face = v.face; target = next; store = after; broken = v.broken; previous = Some m.time })
      in subst P is_view (takes_wrote tells files failures v next after m its v_whole v_takes its_line same u
      (subst (λ r. Counts (failures v.store) (failures after) r) is_ok counts)
      (λ t. subst (λ r. Does (deeds_of v.target its) (files v.store) (files after) r) is_ok (does t its its_line.1 refl))
      (λ t o ws k. subst (λ r. OnOk r (IsKept next o (ws ++ its ∷ []) (files after))) is_ok (kept t o ws its its_line.1 refl k)))

  pub given_fault : {A E : Type 0} (x : E) (answer : Result A E) → answer ≡ Err x → Counts (failures v.store) (failures after) answer
      → (tells ≡ true → (w : Written) → IsShownTo v.face.context.zone m w.at → w.line ≡ line
      → Does (deeds_of v.target w) (files v.store) (files after) answer)
      → Takes tells files failures old m (Err errors.Store) (record { face = v.face; target = next; store = after; broken = true; previous = v.previous })
  given_fault x answer is_err counts does =
      let P : LeafView S → Type 0 = λ o. Takes tells files failures o m (Err errors.Store)
      (record { face = v.face; target = next; store = after; broken = true; previous = v.previous })
      in subst P is_view (takes_fault tells files failures v next after m its v_whole v_takes its_line same x
      (subst (λ r. Counts (failures v.store) (failures after) r) is_err counts)
      (λ t. subst (λ r. Does (deeds_of v.target its) (files v.store) (files after) r) is_err (does t its its_line.1 refl)))
