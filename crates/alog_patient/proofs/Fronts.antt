-- Appends that go on behind the bytes that were taken.
use Rattle.std.proofs.Common.{◌≡◌, ℕ, ◌+◌, Bool, true, false, cond, Some, List, [], ◌++◌, take, drop, refl, sym, ap, ◌∙◌, subst, inl, inr, append_assoc, arith}
use Rattle.std.proofs.Common.{take-add}
use Rattle.std.proofs.lemmas.List.{take-append-drop}
use Rattle.std.specs.Option.{unwrap_or}
use Rattle.std.specs.Str.{bytes_eq}
use Rattle.std.specs.Cmp.Lexicographic.{bytes_decides}
use Rattle.alog_sink.specs.Files.{Files, AreSame, appended, bytes_of}
use Rattle.alog_sink.specs.Calls.{LeavesFront, TakesFront}

pub same_again : (old mid new : Files) → AreSame old mid → AreSame mid new → AreSame old new
same_again old mid new one two x = two x ∙ one x

module _ (name : List ℕ) (old mid new : Files) where
  -- what is appended to the same files
  pub append_kept : (bytes : List ℕ) → AreSame old mid → AreSame (appended name bytes mid) new → AreSame (appended name bytes old) new
  append_kept bytes same done x = done x ∙ (ap (λ f. cond (bytes_eq name x) (Some (unwrap_or f [] ++ bytes)) (mid x)) (same name)
      ∙ ap (λ f. cond (bytes_eq name x) (Some (bytes_of old name ++ bytes)) f) (same x))

  -- one append behind another
  pub append_twice : (one two : List ℕ) → AreSame (appended name one old) mid → AreSame (appended name two mid) new
      → AreSame (appended name (one ++ two) old) new
  append_twice one two first second x = second x ∙ (ap (λ f. cond (bytes_eq name x) (Some (unwrap_or f [] ++ two)) (mid x)) there
      ∙ (ap (λ bs. cond (bytes_eq name x) (Some bs) (mid x)) (append_assoc (bytes_of old name) one two) ∙ others (bytes_eq name x) refl))
    where
      there : mid name ≡ Some (bytes_of old name ++ one)
      there = first name ∙ ap (λ b. cond b (Some (bytes_of old name ++ one)) (old name)) ((bytes_decides name name).1 refl)

      others : (b : Bool) → bytes_eq name x ≡ b → cond b (Some (bytes_of old name ++ (one ++ two))) (mid x)
          ≡ cond b (Some (bytes_of old name ++ (one ++ two))) (old x)
      others true e = refl
      others false e = first x ∙ ap (λ b. cond b (Some (bytes_of old name ++ one)) (old x)) e

module _ (name bytes : List ℕ) (old mid new : Files) where
  -- what is left is done, or a front of it
  pub append_ended : (taken : ℕ) → TakesFront taken name bytes old mid → AreSame (appended name (drop taken bytes) mid) new
      → AreSame (appended name bytes old) new
  append_ended taken (inl (none, same)) done = append_kept name old mid new bytes same (subst (λ n. AreSame (appended name (drop n bytes) mid) new) none done)
  append_ended taken (inr front) done = subst (λ bs. AreSame (appended name bs old) new) (take-append-drop taken bytes)
      (append_twice name old mid new (take taken bytes) (drop taken bytes) front done)

  pub append_more : (taken more : ℕ) → TakesFront taken name bytes old mid → TakesFront more name (drop taken bytes) mid new
      → TakesFront (taken + more) name bytes old new
  append_more taken more (inl (none, same)) (inl (too, kept)) = inl (omega (arith, none, too), same_again old mid new same kept)
  append_more taken more (inl (none, same)) (inr front) = inr (subst (λ n. AreSame (appended name (take n bytes) old) new) e
      (append_kept name old mid new (take more bytes) same (subst (λ n. AreSame (appended name (take more (drop n bytes)) mid) new) none front)))
    where
      e : more ≡ taken + more
      e = omega (arith, none)
  append_more taken more (inr first) (inl (none, kept)) = inr (subst (λ n. AreSame (appended name (take n bytes) old) new) e
      (same_again (appended name (take taken bytes) old) mid new first kept))
    where
      e : taken ≡ taken + more
      e = omega (arith, none)
  append_more taken more (inr first) (inr second) = inr (subst (λ bs. AreSame (appended name bs old) new) (sym (take-add taken more bytes))
      (append_twice name old mid new (take taken bytes) (take more (drop taken bytes)) first second))

-- what was taken is a front
pub front_taken : (name bytes : List ℕ) (old new : Files) (taken : ℕ) → TakesFront taken name bytes old new → LeavesFront name bytes old new
front_taken name bytes old new taken (inl (none, same)) = inl same
front_taken name bytes old new taken (inr front) = inr (take taken bytes, drop taken bytes, sym (take-append-drop taken bytes), front)
