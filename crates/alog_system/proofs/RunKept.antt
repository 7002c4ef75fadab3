-- What the loggers of a system keep after a run.
use Rattle.std.proofs.Common.{◌≡◌, ◌≢◌, ◌⊎◌, ℕ, zero, suc, ◌+◌, ◌-◌, ◌<◌, ◌≤◌, ◌==◌, Bool, cond, List, [], ◌∷◌, ◌++◌, length, map, drop, get_or, set, refl, sym, ap, subst, ◌∙◌, arith, inl, inr}
use Rattle.std.proofs.Common.{get_or-set_same, get_or-set_other}
use Rattle.std.proofs.Math.Seq.{drop-nil}
use Rattle.std.proofs.lemmas.List.{drop-append-le, drop-drop, length-append, length-drop}
use Rattle.alog_core.proofs.SharedCells.{on_test}
use Rattle.alog_msg.specs.declared.level.Level.{Level}
use Rattle.alog_msg.specs.declared.message.Message.{Message}
use Rattle.alog_registry.specs.Backtrace.{Room, Keeps, last_of, kept_with}
use Rattle.alog_registry.specs.declared.logger.Logger.{Logger}
use Rattle.alog_sink.specs.Files.{Files}
use Rattle.alog_sink.specs.declared.sink.Sink.{Sink}
use Rattle.std.specs.Prelude.{slice_set}
use Rattle.alog_system.specs.Begin.{begun}
use Rattle.alog_system.specs.Roster.{RosterView, kept_at, keeping, emptied, policy_at, room, room_of, empty_of, with_room}
use Rattle.alog_system.specs.Acts.{Did, Made, Act, BeginsDeed, MakesStep, SetsLevel, steps_in, first_level, levels_after, most, kept_by, kept_since, kept_after}
use Rattle.alog_system.specs.Runs.{Leads, starts, begins, steps, sets}
use Rattle.alog_system.specs.Step.{dumped_by}
use Rattle.alog_system.specs.System.{SystemView, fresh_system, with_roster}
use Rattle.alog_system.specs.declared.stepped.Stepped.{Stepped}
use Rattle.alog_system.proofs.RunLists.{steps_begun, steps_made, steps_set, levels_last}
use Rattle.alog_system.proofs.RunCases.{Case, queued, kept, dumped, served, case_of}
use Rattle.alog_system.proofs.RunSame.{after_round_same, begun_same, posting_same}

since_last : (n : ℕ) (before : List Message) (m : Made) (ms : List Made) → kept_since n before (ms ++ m ∷ []) ≡ kept_by n (kept_since n before ms) m.did
since_last n before m [] = refl
since_last n before m (x ∷ ms) = since_last n (kept_by n before x.did) m ms

last_again : (most : ℕ) (xs : List Message) (m : Message) → last_of most (last_of most xs ++ m ∷ []) ≡ last_of most (xs ++ m ∷ [])
last_again most xs m =
    let k = length xs - most in
    let le : k ≤ length xs = omega arith in
    let short = length-drop k xs in
    let more = length-append (drop k xs) (m ∷ []) in
    let all = length-append xs (m ∷ []) in
    let moved : drop k xs ++ m ∷ [] ≡ drop k (xs ++ m ∷ []) = sym (drop-append-le k xs (m ∷ []) le) in
    let steps : k + (length (drop k xs ++ m ∷ []) - most) ≡ length (xs ++ m ∷ []) - most = omega (arith, short, more, all) in
    ap (λ (ys : List Message). drop (length (drop k xs ++ m ∷ []) - most) ys) moved
    ∙ (drop-drop (length (drop k xs ++ m ∷ []) - most) k (xs ++ m ∷ []) ∙ ap (λ j. drop j (xs ++ m ∷ [])) steps)

keeps_more : (r : Room) (xs : List Message) (m : Message) → Keeps r xs → Keeps (kept_with r m) (xs ++ m ∷ [])
keeps_more r xs m h = ap (λ (ys : List Message). last_of r.most (ys ++ m ∷ [])) h ∙ last_again r.most xs m

nothing_last : (k : ℕ) → last_of k [] ≡ []
nothing_last k = drop-nil (0 - k)

-- a place past the end keeps nothing, and so it is there at each time
drop_past : {X : Type 0} (xs : List X) → drop (length xs) xs ≡ []
drop_past [] = refl
drop_past (x ∷ xs) = drop_past xs

get_past : {X : Type 0} (xs : List X) (k : ℕ) (d y : X) → length xs ≤ k → get_or (set xs k y) k d ≡ d
get_past [] k d y le = refl
get_past (x ∷ xs) zero d y le = absurd (omega (arith, le))
get_past (x ∷ xs) (suc k) d y le = get_past xs k d y (omega (arith, le))

get_none : {X : Type 0} (xs : List X) (k : ℕ) (d : X) → length xs ≤ k → get_or xs k d ≡ d
get_none [] k d le = refl
get_none (x ∷ xs) zero d le = absurd (omega (arith, le))
get_none (x ∷ xs) (suc k) d le = get_none xs k d (omega (arith, le))

keeps_none : (xs : List Message) → Keeps (room 0) xs
keeps_none xs = (let n : length xs - 0 ≡ length xs = omega arith in sym (ap (λ k. drop k xs) n ∙ drop_past xs))

less_or : (a b : ℕ) → (a < b) ⊎ (b ≤ a)
less_or a zero = inr (omega arith)
less_or zero (suc b) = inl (omega arith)
less_or (suc a) (suc b) = elim (less_or a b) [ inl lt ↦ inl (omega (arith, lt)) | inr le ↦ inr (omega (arith, le)) ]

-- the room of a logger, where it is there or not
room_set : (r : RosterView) (n : ℕ) (found : Room) (xs : List Message) → Keeps found xs → Keeps (kept_at (with_room r n found) n) xs
room_set r n found xs h =
    elim (less_or n (length r.kept)) [
      | inl lt ↦ subst (λ (x : Room). Keeps x xs) (sym (get_or-set_same r.kept n found (room 0) lt)) h
      | inr le ↦ subst (λ (x : Room). Keeps x xs) (sym (get_past r.kept n (room 0) found le)) (keeps_none xs)
    ]

room_other : (r : RosterView) (k n : ℕ) (found : Room) → n ≢ k → kept_at (with_room r k found) n ≡ kept_at r n
room_other r k n found other = get_or-set_other r.kept k n found (room 0) other

-- the most that a logger keeps stays
most_set : (r : RosterView) (k n : ℕ) (found : Room) → found.most ≡ (kept_at r k).most → (kept_at (with_room r k found) n).most ≡ (kept_at r n).most
most_set r k n found is =
    on_test (λ _. (kept_at (with_room r k found) n).most ≡ (kept_at r n).most) k n
    (λ same. subst (λ j. (kept_at (with_room r k found) j).most ≡ (kept_at r j).most) same mine)
    (λ other. ap (λ (x : Room). x.most) (room_other r k n found (λ e. other (sym e))))
  where
    mine : (kept_at (with_room r k found) k).most ≡ (kept_at r k).most
    mine =
        elim (less_or k (length r.kept)) [
          | inl lt ↦ ap (λ (x : Room). x.most) (get_or-set_same r.kept k found (room 0) lt) ∙ is
          | inr le ↦ ap (λ (x : Room). x.most) (get_past r.kept k (room 0) found le ∙ sym (get_none r.kept k (room 0) le))
        ]

fresh_most : (loggers : List Logger) (n : ℕ) → (get_or (map room_of loggers) n (room 0)).most ≡ most loggers n
fresh_most [] n = refl
fresh_most (l ∷ ls) zero = refl
fresh_most (l ∷ ls) (suc n) = fresh_most ls n

-- these rosters have the same loggers and levels
record IsAlike (r s : RosterView) : Type 0 where
  pub loggers : r.loggers ≡ s.loggers
  pub levels : r.levels ≡ s.levels

alike : (r s : RosterView) → r ≡ s → IsAlike r s
alike r s is = record { loggers = ap (λ (x : RosterView). x.loggers) is; levels = ap (λ (x : RosterView). x.levels) is }

module _ {S : Type 0} where
  -- What is known of the loggers after some acts: their levels, and what each keeps.
  pub record IsKept (ls : List Logger) (run : List Act) (v : SystemView S) : Type 0 where
    pub loggers : v.roster.loggers ≡ ls
    pub levels : v.roster.levels ≡ levels_after ls run
    pub mosts : (n : ℕ) → (kept_at v.roster n).most ≡ most ls n
    pub keeps : (n : ℕ) → Keeps (kept_at v.roster n) (kept_since n [] (steps_in run))

  pub kept_messages : (ls : List Logger) (run : List Act) (v : SystemView S) → IsKept ls run v → (n : ℕ)
      → (kept_at v.roster n).messages ≡ kept_after ls run n
  kept_messages ls run v h n = h.keeps n ∙ ap (λ k. last_of k (kept_since n [] (steps_in run))) (h.mosts n)

module _ {S : Type 0} (tells : Bool) (files : S → Files) (failures : S → ℕ) where
  keeps_case : (n : ℕ) (xs : List Message) {w u : SystemView S} {a : ℕ} {said : Stepped} {did : Did}
      → Case tells files failures w a said u did
      → Keeps (kept_at w.roster n) xs → Keeps (kept_at u.roster n) (kept_by n xs did)
  keeps_case n xs {w} {a} (queued busy same after) h =
      subst (λ (r : RosterView). Keeps (kept_at r n) xs) (sym (ap (λ (v : SystemView S). v.roster) after ∙ (after_round_same w a).roster)) h
  keeps_case n xs {w} (kept m idle was same after) h =
      subst (λ (v : SystemView S). Keeps (kept_at v.roster n) (cond (m.logger == n) (xs ++ m ∷ []) xs)) (sym after)
      (on_test (λ b. Keeps (kept_at (keeping w.roster m) n) (cond b (xs ++ m ∷ []) xs)) m.logger n
      (λ mine.
      subst (λ k. Keeps (kept_at (keeping w.roster m) k) (xs ++ m ∷ [])) mine
      (room_set w.roster m.logger (kept_with (kept_at w.roster m.logger) m) (xs ++ m ∷ [])
      (keeps_more (kept_at w.roster m.logger) xs m (subst (λ k. Keeps (kept_at w.roster k) xs) (sym mine) h))))
      (λ other.
      subst (λ (r : Room). Keeps r xs) (sym (room_other w.roster m.logger n (kept_with (kept_at w.roster m.logger) m) (λ e. other (sym e)))) h))
  keeps_case n xs {w} {u} {a} (dumped d idle was same after) h =
      let after_is : u.roster ≡ emptied w.roster d.logger =
      ap (λ (v : SystemView S). v.roster) after
      ∙ (posting_same (with_roster w (emptied w.roster d.logger)) a (policy_at w.roster d.logger) (dumped_by w d)).roster in
      subst (λ (r : RosterView). Keeps (kept_at r n) (cond (d.logger == n) [] xs)) (sym after_is)
      (on_test (λ b. Keeps (kept_at (emptied w.roster d.logger) n) (cond b [] xs)) d.logger n
      (λ mine.
      subst (λ k. Keeps (kept_at (emptied w.roster d.logger) k) []) mine
      (room_set w.roster d.logger (empty_of (kept_at w.roster d.logger)) [] (sym (nothing_last (kept_at w.roster d.logger).most))))
      (λ other.
      subst (λ (r : Room). Keeps r xs) (sym (room_other w.roster d.logger n (empty_of (kept_at w.roster d.logger)) (λ e. other (sym e)))) h))
  keeps_case n xs (served turn i s) h =
      subst (λ (v : SystemView S). Keeps (kept_at v.roster n) xs) (sym s.after) h

  fresh_keeps : (loggers : List Logger) (n : ℕ) → Keeps (get_or (map room_of loggers) n (room 0)) []
  fresh_keeps [] n = refl
  fresh_keeps (l ∷ ls) zero = sym (nothing_last l.spec.backtrace)
  fresh_keeps (l ∷ ls) (suc n) = fresh_keeps ls n

  most_case : (n : ℕ) (w u : SystemView S) (a : ℕ) (said : Stepped) (did : Did) → Case tells files failures w a said u did
      → (kept_at u.roster n).most ≡ (kept_at w.roster n).most
  most_case n w u a said did (queued busy same after) =
      ap (λ (r : RosterView). (kept_at r n).most) (ap (λ (v : SystemView S). v.roster) after ∙ (after_round_same w a).roster)
  most_case n w u a said did (kept m idle was same after) =
      ap (λ (v : SystemView S). (kept_at v.roster n).most) after
      ∙ most_set w.roster m.logger n (kept_with (kept_at w.roster m.logger) m) refl
  most_case n w u a said did (dumped d idle was same after) =
      ap (λ (r : RosterView). (kept_at r n).most)
      (ap (λ (v : SystemView S). v.roster) after
      ∙ (posting_same (with_roster w (emptied w.roster d.logger)) a (policy_at w.roster d.logger) (dumped_by w d)).roster)
      ∙ most_set w.roster d.logger n (empty_of (kept_at w.roster d.logger)) refl
  most_case n w u a said did (served turn i s) =
      ap (λ (v : SystemView S). (kept_at v.roster n).most) s.after

  alike_case : (w u : SystemView S) (a : ℕ) (said : Stepped) (did : Did) → Case tells files failures w a said u did → IsAlike u.roster w.roster
  alike_case w u a said did (queued busy same after) =
      alike u.roster w.roster (ap (λ (v : SystemView S). v.roster) after ∙ (after_round_same w a).roster)
  alike_case w u a said did (kept m idle was same after) =
      record { loggers = ap (λ (v : SystemView S). v.roster.loggers) after; levels = ap (λ (v : SystemView S). v.roster.levels) after }
  alike_case w u a said did (dumped d idle was same after) =
      let is : u.roster ≡ emptied w.roster d.logger =
      ap (λ (v : SystemView S). v.roster) after
      ∙ (posting_same (with_roster w (emptied w.roster d.logger)) a (policy_at w.roster d.logger) (dumped_by w d)).roster in
      record { loggers = ap (λ (x : RosterView). x.loggers) is; levels = ap (λ (x : RosterView). x.levels) is }
  alike_case w u a said did (served turn i s) =
      record { loggers = ap (λ (v : SystemView S). v.roster.loggers) s.after; levels = ap (λ (v : SystemView S). v.roster.levels) s.after }

  is_kept_case : {ls : List Logger} {xs : List Act} {w u : SystemView S} {a : ℕ} {said : Stepped} {did : Did}
      → Case tells files failures w a said u did → IsKept ls xs w → IsKept ls (xs ++ MakesStep (record { actor = a; did = did; told = said }) ∷ []) u
  is_kept_case {ls} {xs} {w} {u} {a} {said} {did} case h =
      let same = alike_case w u a said did case in
      let m : Made = record { actor = a; did = did; told = said } in
      record {
        loggers = same.loggers ∙ h.loggers;
        levels = same.levels ∙ (h.levels ∙ sym (levels_last (map first_level ls) xs (MakesStep m)));
        mosts = λ n. most_case n w u a said did case ∙ h.mosts n;
        keeps = λ n.
            subst (λ (ms : List Message). Keeps (kept_at u.roster n) ms)
            (sym (ap (kept_since n []) (steps_made xs m) ∙ since_last n [] m (steps_in xs)))
            (keeps_case n (kept_since n [] (steps_in xs)) case (h.keeps n));
      }

  -- so it is after each run
  pub is_kept : (k limit : ℕ) (loggers : List Logger) (first : List (Sink S)) (run : List Act) (v : SystemView S)
      → Leads tells files failures (fresh_system k limit loggers first) run v → IsKept loggers run v
  is_kept k limit loggers first run v starts = record {
    loggers = refl;
    levels = refl;
    mosts = fresh_most loggers;
    keeps = fresh_keeps loggers;
  }
  is_kept k limit loggers first run v (begins {run = xs} {w = w} a d leads may) =
      let h = is_kept k limit loggers first xs w leads in
      let is = (begun_same w a d).roster in
      record {
        loggers = ap (λ (r : RosterView). r.loggers) is ∙ h.loggers;
        levels = ap (λ (r : RosterView). r.levels) is ∙ (h.levels ∙ sym (levels_last (map first_level loggers) xs (BeginsDeed a d)));
        mosts = λ n. ap (λ (r : RosterView). (kept_at r n).most) is ∙ h.mosts n;
        keeps = λ n.
            subst (λ (ms : List Made). Keeps (kept_at (begun w a d).roster n) (kept_since n [] ms)) (sym (steps_begun xs a d))
            (subst (λ (r : RosterView). Keeps (kept_at r n) (kept_since n [] (steps_in xs))) (sym is) (h.keeps n));
      }
  is_kept k limit loggers first run v (steps {run = xs} {w = w} {u = u} a said leads lt h) =
      is_kept_case (case_of tells files failures w a said u h) (is_kept k limit loggers first xs w leads)
  is_kept k limit loggers first run v (sets {run = xs} {w = w} j level leads) =
      let h = is_kept k limit loggers first xs w leads in
      record {
        loggers = h.loggers;
        levels = ap (λ (ls : List Level). slice_set ls j level) h.levels
            ∙ sym (levels_last (map first_level loggers) xs (SetsLevel j level));
        mosts = h.mosts;
        keeps = λ n.
            subst (λ (ms : List Made). Keeps (kept_at w.roster n) (kept_since n [] ms)) (sym (steps_set xs j level)) (h.keeps n);
      }
