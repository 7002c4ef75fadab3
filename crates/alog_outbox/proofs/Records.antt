-- Records of calls, and what an append leaves.
use Rattle.std.proofs.Common.{◌≡◌, ℕ, List, ◌∷◌, ◌++◌, length, ap, ◌∙◌, append_assoc, Result, Ok, Err, OnOk}
use Rattle.alog_outbox.specs.Calls.{after, call, found_in, number, number_of, record_of}
use Rattle.alog_outbox.specs.Views.{files_of, OutboxView}
use Rattle.alog_outbox.specs.declared.call.Call.{Call}
use Rattle.alog_outbox.specs.declared.call.Kind.{Kind}
use Rattle.alog_outbox.specs.declared.call.Kind.TheVariants.{Append}
use Rattle.alog_outbox.specs.declared.found.FoundFile.{FoundFile}
use Rattle.alog_sink.specs.Files.{AreSame, appended}

pub written : (kind : Kind) (name rest old : List ℕ)
    → ((old ++ (number (number_of kind) ++ number (length name) ++ number (length rest) ++ number 0)) ++ name) ++ rest ≡ old ++ record_of (call kind name rest)
unfolding record_of
written kind name rest old = simp append_assoc

pub appends : (o n : OutboxView) (name text bytes : List ℕ) → text ≡ name → n.calls ≡ call Append text bytes ∷ o.calls → n.found ≡ o.found
    → AreSame (appended name bytes (files_of o)) (files_of n)
appends o n name text bytes e told found key = ap (λ (x : List Call × List FoundFile). after x.0 (found_in x.1) key) (λ i. (told i, found i))
    ∙ ap (λ (t : List ℕ). appended t bytes (files_of o) key) e

pub map_ok : {A E : Type 0} (r : Result A E) (P Q : Type 0) → (P → Q) → OnOk r P → OnOk r Q
map_ok (Ok x) P Q f p = f p
map_ok (Err e) P Q f p = p
