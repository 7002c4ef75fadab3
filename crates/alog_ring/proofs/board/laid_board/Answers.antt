use Rattle.std.proofs.Common.{ℕ, ◌≡◌, ◌+◌, ◌-◌, ◌≤◌, List, subst, sym, ap, ◌∙◌, refl, arith}
use Rattle.alog_core.specs.declared.TheConstants.{PLACES_MAX}
use Rattle.alog_core.proofs.SharedSizes.{size_facts}
use Rattle.alog_ring.specs.Kinds.{swap_kind}
use Rattle.alog_ring.specs.Rule.{word_count}
use Rattle.alog_ring.specs.Board.{AreFirstWords}
use Rattle.alog_ring.proofs.Limits.{at_home}
use Rattle.alog_ring.proofs.Starting.{masks, starts, AreFirst, spares_first}
use Rattle.alog_ring.proofs.board.laid_board.Goals as goal

pub new-requires : goal.new-requires
new-requires g c =
    let P : List ℕ → Type 0 = λ w. AreFirstWords c.args.places c.args.first w
    in let n : ℕ = c.args.places
    in let two : 2 ≤ n = (size_facts c.args.places c.requires.size).1
    in let spares = c.args.spares.items
    in let Q : List g.row.B.Denot → Type 0 = λ fs. AreFirst (swap_kind g.W.Shows.shows) fs spares n c.args.first
    in record {
      ruled = starts (swap_kind g.W.Shows.shows) c.of.result.value.items spares two
          c.requires.first (subst P (sym c.as_slice.ensures.value) c.in-Ok.ensures) c.requires.spares
          (subst Q (ap (λ v. v.items) (sym c.of.ensures))
          (spares_first g.W.Shows.shows spares n c.args.first (omega arith) c.requires.spares));
      values = at_home (g.L.Limit.admits c.args.limit) spares c.requires.limit;
    }

pub invariant_of-result : goal.invariant_of-result
invariant_of-result g c =
    let n : ℕ = c.args.places
    in let two : 2 ≤ n = (size_facts c.args.places c.requires.size).1
    in let most : n ≤ PLACES_MAX = (size_facts c.args.places c.requires.size).2
    in let up : n ≡ n - 1 + 1 = omega arith
    in let made = c.in-Ok-new.ensures.ok
    in let P : List ℕ → Type 0 = λ w. AreFirstWords c.args.places c.args.first w
    in let are : P c.as_slice.result.now = subst P (sym c.as_slice.ensures.value) c.in-Ok.ensures
    in record {
      sized = (
        made.0 ∙ are.count ∙ ap (λ (z : ℕ). word_count z) up,
        made.1 ∙ c.requires.spares ∙ up,
        ap (λ k. k.places) made.5 ∙ up,
        omega arith,
        masks n (n - 1) (size_facts c.args.places c.requires.size).0 refl up,
      );
    }
