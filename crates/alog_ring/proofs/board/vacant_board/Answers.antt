use Rattle.std.proofs.Common.{ℕ, ◌≡◌, ◌+◌, ◌-◌, ◌≤◌, None, List, [], replicate, subst, sym, ap, ◌∙◌, refl, arith}
use Rattle.std.proofs.lemmas.List.{length-replicate}
use Rattle.std.specs.Prelude.{IfSome}
use Rattle.alog_core.specs.declared.TheConstants.{PLACES_MAX}
use Rattle.alog_core.proofs.SharedSizes.{size_facts}
use Rattle.alog_ring.specs.Kinds.{plain_kind}
use Rattle.alog_ring.specs.Rule.{word_count}
use Rattle.alog_ring.specs.Board.{AreFirstWords}
use Rattle.alog_ring.proofs.Limits.{at_home, none_admitted}
use Rattle.alog_ring.proofs.Starting.{masks, starts, none_first}
use Rattle.alog_ring.proofs.board.vacant_board.Goals as goal

pub vacant-requires : goal.vacant-requires
vacant-requires g c =
    let P : List ℕ → Type 0 = λ w. AreFirstWords c.args.places c.args.first w
    in let n : ℕ = c.args.places
    in let two : 2 ≤ n = (size_facts c.args.places c.requires.size).1
    in record {
      ruled = starts (plain_kind g.row.T.Denot) [] (replicate n None) two c.requires.first
          (subst P (sym c.as_slice.ensures.value) c.in_ok-words.ensures) (length-replicate n None)
          (none_first [] n c.args.first (omega arith));
      values = at_home (λ place. IfSome place (g.L.Limit.admits c.args.limit)) (replicate n None)
          (none_admitted (g.L.Limit.admits c.args.limit) n);
    }

pub invariant_of-result : goal.invariant_of-result
invariant_of-result g c =
    let n : ℕ = c.args.places
    in let two : 2 ≤ n = (size_facts c.args.places c.requires.size).1
    in let most : n ≤ PLACES_MAX = (size_facts c.args.places c.requires.size).2
    in let up : n ≡ n - 1 + 1 = omega arith
    in let made = c.in_ok-table.ensures
    in let P : List ℕ → Type 0 = λ w. AreFirstWords c.args.places c.args.first w
    in let are : P c.as_slice.result.now = subst P (sym c.as_slice.ensures.value) c.in_ok-words.ensures
    in record {
      sized = (
        made.0 ∙ are.count ∙ ap (λ (z : ℕ). word_count z) up,
        made.1 ∙ up,
        ap (λ k. k.places) made.5 ∙ up,
        omega arith,
        masks n (n - 1) (size_facts c.args.places c.requires.size).0 refl up,
      );
    }
