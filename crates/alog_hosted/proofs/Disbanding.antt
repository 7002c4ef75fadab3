-- The turns that a pool makes at its end, and what it counts there.
use Rattle.std.proofs.Common.{◌≡◌, ◌≢◌, ℕ, ◌+◌, ◌%◌, ◌^◌, List, [], ◌∷◌, ◌++◌, refl, sym, ap, ◌∙◌, append_assoc, append-nil, arith}
use Rattle.std.proofs.Math.Nat.{mod-add-mod}
use Rattle.std.proofs.lemmas.List.{map-append}
use Rattle.std.specs.Prelude.{drop}
use Rattle.alog_core.proofs.SharedAccounts.{weigh-append}
use Rattle.alog_core.specs.Accounts.{weigh}
use Rattle.alog_hosted.specs.Closing.{items_of, owed_in}
use Rattle.alog_hosted.specs.declared.blank.Half.{Half}
use Rattle.alog_msg.specs.Block.{BlockFields}
use Rattle.alog_msg.specs.declared.item.Item.{Item}
use Rattle.alog_msg.specs.declared.item.Item.TheVariants.{Text, Flush, Stop}
use Rattle.alog_pool.proofs.SharedDeeds.{all_dues-append}
use Rattle.alog_pool.specs.Accounts.{of_work, work}
use Rattle.alog_pool.specs.Deeds.{Due, all_dues, dues_of}
use Rattle.alog_registry.specs.declared.logger.Logger.{Logger}

-- one more item that is half done
pub owed_more : (loggers : List Logger) (hs : List Half) (h : Half) → owed_in loggers (hs ++ h ∷ [])
    ≡ owed_in loggers hs ++ drop h.owed.place (dues_of loggers h.owed.ticket h.block.item)
owed_more loggers [] h = append-nil (drop h.owed.place (dues_of loggers h.owed.ticket h.block.item))
owed_more loggers (g ∷ hs) h =
    let first : List Due = drop g.owed.place (dues_of loggers g.owed.ticket g.block.item) in
    ap (λ (l : List Due). first ++ l) (owed_more loggers hs h)
    ∙ sym (append_assoc first (owed_in loggers hs) (drop h.owed.place (dues_of loggers h.owed.ticket h.block.item)))

-- one more item that was left
pub items_more : (cells : List (ℕ × BlockFields)) (t : ℕ) (b : BlockFields) → items_of (cells ++ (t, b) ∷ []) ≡ items_of cells ++ (t, b.item) ∷ []
items_more cells t b = map-append (λ (p : ℕ × BlockFields). (p.0, p.1.item)) cells ((t, b) ∷ [])

pub dues_more : (loggers : List Logger) (cells : List (ℕ × BlockFields)) (t : ℕ) (b : BlockFields) → all_dues loggers (items_of (cells ++ (t, b) ∷ []))
    ≡ all_dues loggers (items_of cells) ++ dues_of loggers t b.item
dues_more loggers cells t b =
    ap (λ (ps : List (ℕ × Item)). all_dues loggers ps) (items_more cells t b)
    ∙ all_dues-append loggers (items_of cells) ((t, b.item) ∷ [])
    ∙ ap (λ (l : List Due). all_dues loggers (items_of cells) ++ l) (append-nil (dues_of loggers t b.item))

weigh_more : (cells : List (ℕ × BlockFields)) (t : ℕ) (b : BlockFields) → weigh of_work (items_of (cells ++ (t, b) ∷ []))
    ≡ weigh of_work (items_of cells) + work b.item
weigh_more cells t b =
    let all = ap (λ (ps : List (ℕ × Item)). weigh of_work ps) (items_more cells t b)
    ∙ weigh-append of_work (items_of cells) ((t, b.item) ∷ []) in
    omega (arith, all)

is_work : (x : Item) → x ≢ Stop → work x ≡ 1
is_work (Text m) other = refl
is_work (Flush n) other = refl
is_work Stop other = absurd (other refl)

-- what was counted, with one more text or flush, or a stop
pub counts_work : (taken n : ℕ) (cells : List (ℕ × BlockFields)) (t : ℕ) (b : BlockFields) → n ≡ (taken + weigh of_work (items_of cells)) % 2 ^ 64
    → b.item ≢ Stop → (n + 1) % 2 ^ 64 ≡ (taken + weigh of_work (items_of (cells ++ (t, b) ∷ []))) % 2 ^ 64
counts_work taken n cells t b is other =
    let w = weigh of_work (items_of cells) in
    let one = is_work b.item other in
    let more = weigh_more cells t b in
    let same : taken + w + 1 ≡ taken + weigh of_work (items_of (cells ++ (t, b) ∷ [])) = omega (arith, one, more) in
    ap (λ k. (k + 1) % 2 ^ 64) is ∙ mod-add-mod (taken + w) (2 ^ 64) 1 ∙ ap (λ k. k % 2 ^ 64) same

pub counts_stop : (taken n : ℕ) (cells : List (ℕ × BlockFields)) (t : ℕ) (b : BlockFields) → n ≡ (taken + weigh of_work (items_of cells)) % 2 ^ 64
    → b.item ≡ Stop → n ≡ (taken + weigh of_work (items_of (cells ++ (t, b) ∷ []))) % 2 ^ 64
counts_stop taken n cells t b is stop =
    let w = weigh of_work (items_of cells) in
    let none : work b.item ≡ 0 = ap (λ (x : Item). work x) stop in
    let more = weigh_more cells t b in
    let same : taken + w ≡ taken + weigh of_work (items_of (cells ++ (t, b) ∷ [])) = omega (arith, none, more) in
    is ∙ ap (λ k. k % 2 ^ 64) same
