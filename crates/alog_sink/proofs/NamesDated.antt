-- Names with a date.
use Rattle.std.proofs.Common.{◌≡◌, ℕ, zero, suc, ◌+◌, ◌/◌, ◌%◌, ◌<◌, Result, Ok, Err, IsOk, is_ok, cond, length, List, [], ◌∷◌, ◌++◌}
use Rattle.std.proofs.Common.{ap, ◌∙◌, arith}
use Rattle.std.proofs.lemmas.Str.{IsUtf8-from_ascii}
use Rattle.std.specs.Str.{IsUtf8, IsAscii}
use Rattle.std.proofs.lemmas.List.{append_cancel_left, append_cancel_right}
use Rattle.alog_sink.specs.declared.names.Date.{Date}
use Rattle.alog_sink.specs.Names.{date_text, dated, digits, extension, stem, IsDate, DatedNamesDiffer}

pub four_digits : (a b : ℕ) → a < 10000 → b < 10000 → digits 4 a ≡ digits 4 b → a ≡ b
four_digits a b small small' e =
    let e3 : 48 + a / 10 / 10 / 10 % 10 ≡ 48 + b / 10 / 10 / 10 % 10 = cc in
    let e2 : 48 + a / 10 / 10 % 10 ≡ 48 + b / 10 / 10 % 10 = cc in
    let e1 : 48 + a / 10 % 10 ≡ 48 + b / 10 % 10 = cc in
    let e0 : 48 + a % 10 ≡ 48 + b % 10 = cc in
    omega arith

pub two_digits : (a b : ℕ) → a < 100 → b < 100 → digits 2 a ≡ digits 2 b → a ≡ b
two_digits a b small small' e =
    let e1 : 48 + a / 10 % 10 ≡ 48 + b / 10 % 10 = cc in
    let e0 : 48 + a % 10 ≡ 48 + b % 10 = cc in
    omega arith

pub same_dates : (a b : Date) → a.year ≡ b.year → a.month ≡ b.month → a.day ≡ b.day → a ≡ b
same_dates a b y m d =
    ap (λ n. record a { year = n }) y ∙ (ap (λ n. record a { year = b.year; month = n }) m ∙ ap (λ n. record b { day = n }) d)

same_text : (a b : Date) → IsDate a → IsDate b → date_text a ≡ date_text b → a ≡ b
same_text a b is is' e =
    same_dates a b
    (four_digits a.year b.year is.year is'.year (cc))
    (two_digits a.month b.month is.month is'.month (cc))
    (two_digits a.day b.day is.day is'.day (cc))

pub dated_names_differ : DatedNamesDiffer
dated_names_differ name a b is is' e =
    same_text a b is is'
    (append_cancel_left (stem name) (date_text a) (date_text b)
    (append_cancel_right (stem name ++ date_text a) (stem name ++ date_text b) (extension name) e))

-- what was written into a text with room
pub pushed : {E : Type 0} (r : Result (Unit {0}) E) (old text : List ℕ) {new : List ℕ} (count : ℕ) {after : ℕ} → IsOk r
    → new ≡ cond (is_ok r) (old ++ text) old → after ≡ cond (is_ok r) (count + length text) count
    → (new ≡ old ++ text) × (after ≡ count + length text)
pushed (Ok _) old text count ok is counted = (is, counted)
pushed (Err e) old text count ok is counted = absurd (cc)

-- the three parts, one after another
pub three_parts : (name : List ℕ) {front middle back first second third : List ℕ} (date : Date) → front ≡ stem name
    → middle ≡ date_text date
    → back ≡ extension name → first ≡ [] ++ front → second ≡ first ++ middle → third ≡ second ++ back → third ≡ dated name date
three_parts name {middle} {back} date f m b e1 e2 e3 =
    e3 ∙ (ap (λ xs. xs ++ back) (e2 ∙ (ap (λ xs. xs ++ middle) (e1 ∙ f) ∙ ap (λ xs. stem name ++ xs) m))
    ∙ ap (λ xs. stem name ++ date_text date ++ xs) b)

-- a date's text is ASCII
abbrev AreAscii : List ℕ → Type 0
AreAscii [] = Unit {0}
AreAscii (b ∷ bs) = (b < 128) × AreAscii bs

is_ascii : (bs : List ℕ) → AreAscii bs → IsAscii bs
is_ascii [] h i = omega arith
is_ascii (b ∷ bs) h zero = h.0
is_ascii (b ∷ bs) h (suc i) = is_ascii bs h.1 i

digit : (n : ℕ) → 48 + n % 10 < 128
digit n = omega arith

pub text_is_utf8 : (date : Date) → IsUtf8 (date_text date)
text_is_utf8 date = IsUtf8-from_ascii (date_text date) (is_ascii (date_text date) (
  omega arith,
  (
    digit (date.year / 10 / 10 / 10),
    (
      digit (date.year / 10 / 10),
      (
        digit (date.year / 10),
        (
          digit date.year,
          (
            omega arith,
            (digit (date.month / 10), (digit date.month, (omega arith, (digit (date.day / 10), (digit date.day, tt))))),
          ),
        ),
      ),
    ),
  ),
))
