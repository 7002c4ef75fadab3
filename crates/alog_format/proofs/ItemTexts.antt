-- How long the texts of items are at most, and the texts of a row of items.
use Rattle.std.proofs.Common.{◌≡◌, ℕ, ◌+◌, ◌≤◌, ◌<◌, max, cond, Bool, true, false, List, [], ◌∷◌, ◌++◌, length, take, drop, get_or, sum_by}
use Rattle.std.proofs.Common.{Option, Some, None, ap, sym, ◌∙◌, arith, append_assoc, append-nil, length-append}
use Rattle.std.specs.List.{flat_map}
use Rattle.std.proofs.lemmas.List.{take_more}
use Rattle.std.proofs.lemmas.List.Sums.{sum_by-drop_more}
use Rattle.std.proofs.lemmas.Grind.{flat_map-append}
use Rattle.alog_pattern.specs.declared.items.Padding.{Padding}
use Rattle.alog_pattern.specs.declared.items.Side.{Side}
use Rattle.alog_pattern.specs.declared.items.Item.{Item}
use Rattle.alog_pattern.specs.declared.items.Item.TheVariants as items
use Rattle.alog_pattern.specs.declared.flags.Flag.TheVariants as flags
use Rattle.alog_pattern.specs.Flag.{greatest_len, ignores_padding}
use Rattle.alog_pattern.specs.Length.{item_len, padded_len}
use Rattle.alog_pattern.specs.Padding.{pad, padded}
use Rattle.alog_pattern.proofs.SharedPaddedLength.{length-pad}
use Rattle.alog_format.specs.Buffer.{Buffer, appended}
use Rattle.alog_format.specs.Line.{IsShowable, item_text}
use Rattle.alog_format.specs.Text.{Shown, flag_text, of_source}
use Rattle.alog_format.proofs.TextLengths.{flag_len}

pad_len : (width : ℕ) (side : Side) (cut : Bool) (text : List ℕ) (len : ℕ) → length text ≤ len
    → length (pad width side cut text) ≤ cond cut width (max width len)
pad_len width side true text len h = omega (arith, length-pad width side true text)
pad_len width side false text len h = omega (arith, length-pad width side false text)

padded_text_len : (padding : Option Padding) (text : List ℕ) (len : ℕ) → length text ≤ len
    → length (padded padding text) ≤ padded_len padding len
padded_text_len None text len h = h
padded_text_len (Some p) text len h = pad_len p.width p.side p.cut text len h

chosen_len : (ignores : Bool) (padding : Option Padding) (text : List ℕ) (len : ℕ) → length text ≤ len
    → length (cond ignores text (padded padding text)) ≤ cond ignores len (padded_len padding len)
chosen_len true padding text len h = h
chosen_len false padding text len h = padded_text_len padding text len h

-- no item's text is longer than the pattern counts for it
pub item_text_len : (limit : ℕ) (s : Shown) → IsShowable limit s → (item : Item) → length (item_text s item) ≤ item_len limit item
unfolding flag_text
item_text_len limit s h (items.Byte b) = omega arith
item_text_len limit s h (items.Flag flag padding) = chosen_len (ignores_padding flag) padding (flag_text s flag)
    (greatest_len limit flag) (flag_len limit s h flag)
item_text_len limit s h (items.Unknown b) = omega arith
item_text_len limit s h (items.Function width side next) =
    let text : List ℕ = of_source (λ source. source.function) s.message.source in
    let fits : length text ≤ 128 = flag_len limit s h flags.Function in
    omega (arith, pad_len width side false text 128 fits, length-append (pad width side false text) (next ∷ []))

module _ (limit : ℕ) (s : Shown) (h : IsShowable limit s) (is : List Item) (i : ℕ) (d : Item) (inside : i < length is) where
  abbrev here : Item
  here = get_or is i d

  left : sum_by (item_len limit) (drop i is) ≡ item_len limit here + sum_by (item_len limit) (drop (i + 1) is)
  left = sum_by-drop_more (item_len limit) is i d inside

  -- there is room for the text of the next item
  pub item_fits : (len cap : ℕ) → len + sum_by (item_len limit) (drop i is) < cap → len + length (item_text s here) ≤ cap
  item_fits len cap room = omega (arith, left, item_text_len limit s h here)

  -- and for what is left after it
  pub rest_fits : (old new : Buffer) → new ≡ appended old (item_text s here)
      → length old.bytes + sum_by (item_len limit) (drop i is) < old.capacity
      → length new.bytes + sum_by (item_len limit) (drop (i + 1) is) < new.capacity
  rest_fits old new e room =
      let bytes : length new.bytes ≡ length old.bytes + length (item_text s here) = ap (λ (b : Buffer). length b.bytes) e
      ∙ length-append old.bytes (item_text s here) in
      let capacity : new.capacity ≡ old.capacity = ap (λ (b : Buffer). b.capacity) e in
      omega (arith, left, item_text_len limit s h here)

  -- the texts with one more
  texts_more : flat_map (item_text s) (take (i + 1) is) ≡ flat_map (item_text s) (take i is) ++ item_text s here
  texts_more =
      ap (flat_map (item_text s)) (take_more is i d inside)
      ∙ flat_map-append (item_text s) (take i is) (here ∷ [])
      ∙ ap (λ l. flat_map (item_text s) (take i is) ++ l) (append-nil (item_text s here))

  pub texts_written : (old mid new : Buffer) → mid ≡ appended old (flat_map (item_text s) (take i is))
      → new ≡ appended mid (item_text s here) → new ≡ appended old (flat_map (item_text s) (take (i + 1) is))
  texts_written old mid new e f =
      f ∙ ap (λ (b : Buffer). appended b (item_text s here)) e
      ∙ ap (λ (l : List ℕ). record old { bytes = l }) (append_assoc old.bytes (flat_map (item_text s) (take i is)) (item_text s here))
      ∙ ap (appended old) (sym texts_more)

-- the texts and then a newline
pub line_written : (old mid new : Buffer) (texts : List ℕ) → mid ≡ appended old texts → new ≡ appended mid (10 ∷ [])
    → new ≡ appended old (texts ++ 10 ∷ [])
line_written old mid new texts e f =
    f ∙ ap (λ (b : Buffer). appended b (10 ∷ [])) e ∙ ap (λ (l : List ℕ). record old { bytes = l }) (append_assoc old.bytes texts (10 ∷ []))
