-- Writing up to an end, once and again.
use Rattle.std.proofs.Common.{◌≡◌, ℕ, suc, ◌+◌, ◌-◌, ◌/◌, ◌%◌, ◌≤◌, ◌<◌, ◌↔◌, min, List, [], ◌∷◌, ◌++◌, length, take, drop, set, Result, Ok}
use Rattle.std.proofs.Common.{Err, refl, ap, sym, ◌∙◌, append_assoc, arith, inl, inr, length-take}
use Rattle.std.specs.Prelude.{OnOk, IsErr}
use Rattle.std.proofs.Math.Seq.{take-append-add}
use Rattle.std.proofs.lemmas.Bool.{cases_lt}
use Rattle.std.proofs.lemmas.List.{take_all, take_min, take-take, take-append-le, drop-set}
use Rattle.alog_format.specs.Buffer.{Buffer, appended, LacksRoom}
use Rattle.alog_format.specs.Clip.{clipped, HasEnd}
use Rattle.alog_format.specs.Text.{digits}

take_clip : (xs ys : List ℕ) (end : ℕ) → length xs ≤ end → xs ++ take (min (end - length xs) (length ys)) ys ≡ take end (xs ++ ys)
take_clip xs ys end le =
    let all : length xs + (end - length xs) ≡ end = omega arith in
    ap (λ t. xs ++ t) (take_min (end - length xs) ys) ∙ sym (take-append-add xs ys (end - length xs)) ∙ ap (λ n. take n (xs ++ ys)) all

-- what a write of the bytes that fit makes
pub write_is : {E : Type 0} (b new : Buffer) (end : ℕ) (bytes : List ℕ) (r : Result (Unit {0}) E) → HasEnd b end
    → OnOk r (new ≡ appended b (take (min (end - length b.bytes) (length bytes)) bytes))
    → (IsErr r ↔ LacksRoom b (length (take (min (end - length b.bytes) (length bytes)) bytes)))
    → new ≡ clipped b end bytes
unfolding clipped HasEnd
write_is b new end bytes (Ok x) h ok room = ok ∙ ap (λ (l : List ℕ). record b { bytes = l }) (take_clip b.bytes bytes end h.0)
write_is b new end bytes (Err e) h ok room =
    let lacks = room.0 refl in
    absurd (omega (arith, h.0, h.1, lacks, length-take (min (end - length b.bytes) (length bytes)) bytes))

take_again : (xs ys : List ℕ) (end : ℕ) → take end (take end xs ++ ys) ≡ take end (xs ++ ys)
take_again xs ys end =
    elim (cases_lt end (length xs)) [
      | inl less ↦
          take-append-le end (take end xs) ys (omega (arith, length-take end xs)) ∙ take-take end end xs (omega arith)
          ∙ sym (take-append-le end xs ys (omega arith))
      | inr within ↦ ap (λ t. take end (t ++ ys)) (take_all end xs within)
    ]

-- one write and another are a write of both
pub clipped-clipped : (b : Buffer) (end : ℕ) (xs ys : List ℕ) → clipped (clipped b end xs) end ys ≡ clipped b end (xs ++ ys)
unfolding clipped
clipped-clipped b end xs ys =
    ap (λ (l : List ℕ). record b { bytes = l }) (take_again (b.bytes ++ xs) ys end ∙ ap (take end) (append_assoc b.bytes xs ys))

pub then_written : (a b c : Buffer) (end : ℕ) (xs ys : List ℕ) → b ≡ clipped a end xs → c ≡ clipped b end ys → c ≡ clipped a end (xs ++ ys)
then_written a b c end xs ys e f = f ∙ ap (λ (x : Buffer). clipped x end ys) e ∙ clipped-clipped a end xs ys

-- one more digit in front
pub digits_more : (text : List ℕ) (left count rest : ℕ) → 0 < left → left ≤ count → left ≤ length text
    → digits (left - 1) (rest / 10) ++ take (count - (left - 1)) (drop (left - 1) (set text (left - 1) (48 + rest % 10)))
    ≡ digits left rest ++ take (count - left) (drop left text)
unfolding digits
digits_more text left count rest some less room =
    let j : ℕ = left - 1 in
    let next : left ≡ suc j = omega arith in
    let on : j + 1 ≡ left = omega arith in
    let more : count - j ≡ suc (count - left) = omega arith in
    let d : ℕ = 48 + rest % 10 in
    let cut : drop j (set text j d) ≡ d ∷ drop left text = drop-set text j d (omega arith) ∙ ap (λ k. d ∷ drop k text) on in
    ap (λ l. digits j (rest / 10) ++ take (count - j) l) cut
    ∙ ap (λ n. digits j (rest / 10) ++ take n (d ∷ drop left text)) more
    ∙ sym (append_assoc (digits j (rest / 10)) (d ∷ []) (take (count - left) (drop left text)))
    ∙ ap (λ n. digits n rest ++ take (count - left) (drop left text)) (sym next)
