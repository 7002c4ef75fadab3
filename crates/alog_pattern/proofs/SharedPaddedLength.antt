-- How long a padded text is.
use Rattle.std.proofs.Common.{◌≡◌, ℕ, ◌-◌, ◌≤◌, ◌<◌, max, cond, ltb, Bool, true, false, List, ◌++◌, ap, ◌∙◌, length, take, refl}
use Rattle.std.proofs.Common.{arith, inl, inr, length-append, length-take}
use Rattle.std.proofs.lemmas.Bool.{cases_lt, lt-ltb, le-ltb, cond-true, cond-false}
use Rattle.std.proofs.lemmas.List.{length-replicate}
use Rattle.alog_pattern.specs.declared.items.Side.{Side}
use Rattle.alog_pattern.specs.declared.items.Side.TheVariants.{Right, Left, Centre}
use Rattle.alog_pattern.specs.Padding.{spaces, spaces_before, HasPaddedLength}

pub spaces_before-le : (side : Side) (n : ℕ) → spaces_before side n ≤ n
spaces_before-le Right n = omega arith
spaces_before-le Left n = omega arith
spaces_before-le Centre n = omega arith

short_len : (width before : ℕ) (text : List ℕ) → before ≤ width - length text → length text < width
    → length (spaces before ++ text ++ spaces (width - length text - before)) ≡ width
short_len width before text fits short =
    simp (length-append, length-replicate) (omega arith)

long_len : (width : ℕ) (cut : Bool) (text : List ℕ) → width ≤ length text
    → length (cond cut (take width text) text) ≡ cond cut width (max width (length text))
long_len width true text long = omega (arith, length-take width text)
long_len width false text long = omega arith

same_width : (width len : ℕ) (cut : Bool) → len < width → width ≡ cond cut width (max width len)
same_width width len true short = refl
same_width width len false short = omega arith

pub length-pad : HasPaddedLength
length-pad width side cut text =
    let before = spaces_before side (width - length text) in
    let whole = spaces before ++ text ++ spaces (width - length text - before) in
    elim (cases_lt (length text) width) [
      | inl short ↦
          ap length (cond-true (ltb (length text) width) whole (cond cut (take width text) text) (lt-ltb (length text) width short))
          ∙ short_len width before text (spaces_before-le side (width - length text)) short
          ∙ same_width width (length text) cut short
      | inr long ↦
          ap length (cond-false (ltb (length text) width) whole (cond cut (take width text) text) (le-ltb (length text) width long))
          ∙ long_len width cut text long
    ]
