use Rattle.std.proofs.Common.{◌≡◌, All, subst}
use Rattle.std.proofs.lemmas.Result.{IfOk-weaker, MatchResult-weaker}
use Rattle.alog_patient.specs.declared.patience.Patience.{Patience}
use Rattle.alog_server.proofs.Refusing.{of_stores}
use Rattle.alog_server.proofs.opening.start_with.Goals as goal

pub returns-clause-started : goal.returns-clause-started
returns-clause-started g c =
    λ document reads.
    IfOk-weaker c.holding.result _ _ (λ s h. record {
      config = c.args.config.now;
      reads = reads;
      stores = c.in_ok-stores.stores.items;
      fresh = c.in_ok-stores.ensures.fresh;
      patient = subst (λ (p : Patience). All (λ s. g.R.Folders.tries s ≡ p) c.in_ok-stores.stores.items) c.patience_of-patience.ensures
          c.in_ok-stores.ensures.tries;
      server = h;
    }) c.holding.ensures.started

pub returns-clause-refused : goal.returns-clause-refused
returns-clause-refused g c =
    λ document reads.
    MatchResult-weaker c.holding.result c.holding.ensures.refused (λ s h. h) (λ e h. of_stores document c.args.config.now reads e h)
