-- What a store leaves that appends a front alone.
use Rattle.std.proofs.Common.{◌≡◌, ℕ, true, false, List, ◌++◌, Result, Ok, Err, is_err, OnOk, OnErr, inl, inr, ap, ◌∙◌, append_assoc}
use Rattle.alog_sink.specs.Files.{Files, AreSame, appended}
use Rattle.alog_sink.specs.Calls.{LeavesFront}

pub from_err : {A E P : Type 0} (r : Result A E) → is_err r ≡ true → OnErr r P → P
from_err (Err e) _ h = h
from_err (Ok a) e h = absurd (cc)

pub from_ok : {A E P : Type 0} (r : Result A E) → is_err r ≡ false → OnOk r P → P
from_ok (Ok a) _ h = h
from_ok (Err a) e h = absurd (cc)

module _ (name bytes cut rest : List ℕ) (old new : Files) (parts : bytes ≡ cut ++ rest) where
  -- a front of a front is a front
  pub front_of_front : LeavesFront name cut old new → LeavesFront name bytes old new
  front_of_front (inl same) = inl same
  front_of_front (inr (front, more, e, same)) =
      inr (front, more ++ rest, parts ∙ (ap (λ xs. xs ++ rest) e ∙ append_assoc front more rest), same)

  pub front_left : AreSame (appended name cut old) new → LeavesFront name bytes old new
  front_left same = inr (cut, rest, parts, same)
