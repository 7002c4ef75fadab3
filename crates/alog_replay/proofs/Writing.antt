-- What a writer holds after several writes.
use Rattle.std.proofs.Common.{◌≡◌, ℕ, ◌≤◌, List, [], ◌++◌, length, take, drop, Option, Some, None, sym, ap, ◌∙◌}
use Rattle.std.proofs.Common.{append_assoc, arith}
use Rattle.std.proofs.lemmas.List.{append-nil, take-append-drop}
use Rattle.std.proofs.lemmas.Grind.{common_steps}
use Rattle.std.specs.Io.KnownBytes.{Appends, Keeps}

pub appends_nothing : (old : Option (List ℕ)) → Appends old old []
appends_nothing None = tt
appends_nothing (Some xs) = sym (append-nil xs)

pub appends_kept : (old now new : Option (List ℕ)) (bs : List ℕ) → Appends old now bs → Keeps now new → Appends old new bs
appends_kept None now new bs h k = tt
appends_kept (Some xs) None new bs h k = absurd h
appends_kept (Some xs) (Some ys) None bs h k = absurd k
appends_kept (Some xs) (Some ys) (Some zs) bs h k = k ∙ h

pub appends_more : (old now new : Option (List ℕ)) (bs cs : List ℕ) → Appends old now bs → Appends now new cs → Appends old new (bs ++ cs)
appends_more None now new bs cs h k = tt
appends_more (Some xs) None new bs cs h k = absurd h
appends_more (Some xs) (Some ys) None bs cs h k = absurd k
appends_more (Some xs) (Some ys) (Some zs) bs cs h k = k ∙ (ap (λ ws. ws ++ cs) h ∙ append_assoc xs bs cs)

-- a front of the bytes is written, and this rest is not
pub record HasWritten (old now : Option (List ℕ)) (bytes rest : List ℕ) : Type 0 where
  pub front : List ℕ
  pub split : bytes ≡ front ++ rest
  pub written : Appends old now front

pub written_more : {old now : Option (List ℕ)} {bytes rest after : List ℕ} (new : Option (List ℕ)) (n : ℕ) → HasWritten old now bytes rest
    → Appends now new (take n rest)
    → after ≡ drop n rest → HasWritten old new bytes after
written_more {old} {now} {bytes} {rest} {after} new n h a e =
    record {
      front = h.front ++ take n rest;
      split = h.split
          ∙ (ap (λ ws. h.front ++ ws) (sym (take-append-drop n rest))
          ∙ (sym (append_assoc h.front (take n rest) (drop n rest)) ∙ ap (λ ws. (h.front ++ take n rest) ++ ws) (sym e)));
      written = appends_more old now new h.front (take n rest) h.written a;
    }

pub written_kept : {old now : Option (List ℕ)} {bytes rest after : List ℕ} (new : Option (List ℕ)) → HasWritten old now bytes rest
    → Keeps now new → after ≡ rest
    → HasWritten old new bytes after
written_kept {old} {now} {bytes} {rest} {after} new h k e =
    record { front = h.front; split = h.split ∙ ap (λ ws. h.front ++ ws) (sym e); written = appends_kept old now new h.front h.written k }

pub take_all : (n : ℕ) (xs : List ℕ) → length xs ≤ n → take n xs ≡ xs
take_all n xs h = grind (arith, common_steps)
