use Rattle.std.proofs.Common.{ℕ, ap, refl}
use Rattle.std.proofs.lemmas.Result.{IfOk-weaker, IfErr-weaker}
use Rattle.alog_hosted.proofs.Pushing.{hand_pushed, hand_refused}
use Rattle.alog_registry.specs.BlockPort.{item_in}
use Rattle.alog_hosted.proofs.log_once.push_hand.Goals as goal

pub returns-clause-pushed : goal.returns-clause-pushed
returns-clause-pushed c =
    IfOk-weaker c.push_swap_from.result _ _
    (λ (t : ℕ) did.
    hand_pushed (record {
      ring = refl;
      book = refl;
      pass = refl;
      seat = refl;
      hand = refl;
      spare = refl;
      pace = refl;
      seat_is = refl;
      fit = c.requires;
      still = c.push_swap_from.ensures.ring;
      ready = ((c.push_swap_from.ensures.ring, c.requires.0.1, c.requires.0.2), (refl, c.push_swap_from.ensures.limit));
    }) t _ _ (ap item_in c.in-Some.ensures.value) did.0) c.push_swap_from.ensures.pushed

pub returns-clause-refused : goal.returns-clause-refused
returns-clause-refused c =
    IfErr-weaker c.push_swap_from.result _ _
    (hand_refused (record {
      ring = refl;
      book = refl;
      pass = refl;
      seat = refl;
      hand = refl;
      spare = refl;
      pace = refl;
      seat_is = refl;
      fit = c.requires;
      still = c.push_swap_from.ensures.ring;
      ready = ((c.push_swap_from.ensures.ring, c.requires.0.1, c.requires.0.2), (refl, c.push_swap_from.ensures.limit));
    })) c.push_swap_from.ensures.refused
