-- A text that is written as far as its padding lets it, and then padded.
use Rattle.std.proofs.Common.{◌≡◌, ℕ, ◌+◌, ◌-◌, ◌≤◌, max, cond, ltb, Bool, true, false, List, ◌++◌, length, take, drop, refl, ap, sym, ◌∙◌}
use Rattle.std.proofs.Common.{arith, inl, inr, length-append, length-take}
use Rattle.std.proofs.Math.Seq.{take-append-add}
use Rattle.std.proofs.lemmas.Bool.{cases_lt, lt-ltb, le-ltb, cond-true, cond-false}
use Rattle.std.proofs.lemmas.List.{take_all, take_at, drop_at}
use Rattle.alog_pattern.specs.declared.items.Padding.{Padding}
use Rattle.alog_pattern.specs.declared.items.Side.{Side}
use Rattle.alog_pattern.specs.Padding.{pad}
use Rattle.alog_pattern.proofs.SharedPaddedLength.{length-pad}
use Rattle.alog_format.specs.Buffer.{Buffer, appended}
use Rattle.alog_format.specs.Clip.{clipped, HasEnd, limit_of, padded_from}

-- what of a text is written
abbrev pub kept : ℕ → Bool → List ℕ → List ℕ
kept width true text = take width text
kept width false text = text

-- an end, and what is written up to it
abbrev end_by : Buffer → ℕ → Bool → ℕ
end_by b width cut = cond cut (length b.bytes + width) b.capacity

has_end_by : (b : Buffer) (width : ℕ) (side : Side) (cut : Bool) (text : List ℕ)
    → length b.bytes + length (pad width side cut text) ≤ b.capacity → HasEnd b (end_by b width cut)
unfolding HasEnd
has_end_by b width side true text room = (omega arith, omega (arith, length-pad width side true text))
has_end_by b width side false text room = (omega arith, omega arith)

pub has_end : (b : Buffer) (p : Padding) (text : List ℕ) → length b.bytes + length (pad p.width p.side p.cut text) ≤ b.capacity
    → HasEnd b (limit_of b p)
has_end b p text room = has_end_by b p.width p.side p.cut text room

kept_by : (b : Buffer) (width : ℕ) (side : Side) (cut : Bool) (text : List ℕ)
    → length b.bytes + length (pad width side cut text) ≤ b.capacity
    → clipped b (end_by b width cut) text ≡ appended b (kept width cut text)
unfolding clipped
kept_by b width side true text room = ap (λ (l : List ℕ). record b { bytes = l }) (take-append-add b.bytes text width)
kept_by b width side false text room =
    let len = length-pad width side false text in
    ap (λ (l : List ℕ). record b { bytes = l }) (take_all b.capacity (b.bytes ++ text) (omega (arith, length-append b.bytes text)))

-- the width, or the text's length where it is greater and not cut
kept_len : (width : ℕ) (side : Side) (cut : Bool) (text : List ℕ)
    → max width (length (kept width cut text)) ≡ length (pad width side cut text)
kept_len width side true text = omega (arith, length-pad width side true text, length-take width text)
kept_len width side false text = omega (arith, length-pad width side false text)

-- to pad what is left of a cut text is to pad and cut it
pad-kept : (width : ℕ) (side : Side) (cut : Bool) (text : List ℕ) → pad width side false (kept width cut text) ≡ pad width side cut text
pad-kept width side false text = refl
pad-kept width side true text =
    elim (cases_lt (length text) width) [
      | inl short ↦
          let all : take width text ≡ text = take_all width text (omega arith) in
          let test : ltb (length text) width ≡ true = lt-ltb (length text) width short in
          ap (pad width side false) all ∙ cond-true _ _ _ test ∙ sym (cond-true _ _ _ test)
      | inr long ↦
          let here : ltb (length (take width text)) width ≡ false = le-ltb (length (take width text)) width (omega (
            arith,
            length-take width text,
          )) in
          let there : ltb (length text) width ≡ false = le-ltb (length text) width long in
          cond-false _ _ _ here ∙ sym (cond-false _ _ _ there)
    ]

-- the text was written, behind what stood before
pub is_kept : (b new : Buffer) (p : Padding) (text : List ℕ) (end : ℕ)
    → length b.bytes + length (pad p.width p.side p.cut text) ≤ b.capacity → end ≡ limit_of b p → new ≡ clipped b end text
    → new ≡ appended b (kept p.width p.cut text)
is_kept b new p text end room e w = w ∙ ap (λ n. clipped b n text) e ∙ kept_by b p.width p.side p.cut text room

pub kept_fits : (b : Buffer) {new : Buffer} (p : Padding) (text : List ℕ) {start width : ℕ}
    → length b.bytes + length (pad p.width p.side p.cut text) ≤ b.capacity → start ≡ length b.bytes → width ≡ p.width
    → new ≡ appended b (kept p.width p.cut text) → start + max width (length new.bytes - start) ≤ new.capacity
kept_fits b {new} p text room e f w =
    let whole = kept_len p.width p.side p.cut text in
    let bytes : length new.bytes ≡ length b.bytes + length (kept p.width p.cut text) = ap (λ (x : Buffer). length x.bytes) w
    ∙ length-append b.bytes (kept p.width p.cut text) in
    let capacity : new.capacity ≡ b.capacity = ap (λ (x : Buffer). x.capacity) w in
    omega arith

pub kept_behind : (b new : Buffer) (p : Padding) (text : List ℕ) (start : ℕ) → start ≡ length b.bytes
    → new ≡ appended b (kept p.width p.cut text) → start ≤ length new.bytes
kept_behind b new p text start e w =
    omega (arith, ap (λ (x : Buffer). length x.bytes) w, length-append b.bytes (kept p.width p.cut text))

from_start : (b : Buffer) (width : ℕ) (side : Side) (text : List ℕ)
    → padded_from (appended b text) (length b.bytes) width side ≡ appended b (pad width side false text)
from_start b width side text =
    let front = take_at b.bytes text (length b.bytes) refl in
    let back = drop_at b.bytes text (length b.bytes) refl in
    ap (λ (l : List ℕ). record b { bytes = l ++ pad width side false (drop (length b.bytes) (b.bytes ++ text)) }) front
    ∙ ap (λ (l : List ℕ). record b { bytes = b.bytes ++ pad width side false l }) back

-- and then padded
pub padded_is : (b : Buffer) {new out : Buffer} (p : Padding) (text : List ℕ) {start width : ℕ} → start ≡ length b.bytes → width ≡ p.width
    → new ≡ appended b (kept p.width p.cut text) → out ≡ padded_from new start width p.side
    → out ≡ appended b (pad p.width p.side p.cut text)
padded_is b p text {start} {width} e f w last =
    last ∙ ap (λ (x : Buffer). padded_from x start width p.side) w
    ∙ ap (λ n. padded_from (appended b (kept p.width p.cut text)) n width p.side) e
    ∙ ap (λ n. padded_from (appended b (kept p.width p.cut text)) (length b.bytes) n p.side) f
    ∙ from_start b p.width p.side (kept p.width p.cut text)
    ∙ ap (appended b) (pad-kept p.width p.side p.cut text)

-- a text for which there is room is written whole
pub whole_end : (b : Buffer) (end : ℕ) → length b.bytes ≤ end → end ≡ b.capacity → HasEnd b end
unfolding HasEnd
whole_end b end le e = (le, omega arith)

pub whole_is : (b new : Buffer) (text : List ℕ) (end : ℕ) → length b.bytes + length text ≤ b.capacity → end ≡ b.capacity
    → new ≡ clipped b end text → new ≡ appended b text
unfolding clipped
whole_is b new text end room e w =
    w ∙ ap (λ (l : List ℕ). record b { bytes = l }) (take_all end (b.bytes ++ text) (omega (arith, length-append b.bytes text)))
