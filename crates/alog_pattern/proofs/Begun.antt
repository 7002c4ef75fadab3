-- Where the plain program stands, beside what it has read of a spelling, and what the next byte does there.
use Rattle.std.proofs.Common.{◌≡◌, ◌≢◌, ℕ, ◌+◌, ◌-◌, ◌*◌, ◌≤◌, min, cond, Bool, true, false, List, [], ◌∷◌, ◌++◌, Option, Some}
use Rattle.std.proofs.Common.{None, refl, sym, ap, ◌∙◌, append-nil, append_assoc, arith, inl, inr, IsTrue}
use Rattle.std.specs.Char.{is_ascii_digit}
use Rattle.std.specs.List.{AllByRecursion}
use Rattle.std.proofs.lemmas.Bool.{and_parts, both_ways, cases_Bool, ne_eqb, leb-true}
use Rattle.std.proofs.lemmas.Bool.Decides.{eqb_tells}
use Rattle.std.proofs.lemmas.List.Sums.{fold-append}
use Rattle.alog_pattern.specs.declared.items.Side.{Side}
use Rattle.alog_pattern.specs.declared.items.Side.TheVariants.{Right, Left, Centre}
use Rattle.alog_pattern.specs.declared.items.Item.{Item}
use Rattle.alog_pattern.specs.declared.flags.Flag.{Flag}
use Rattle.alog_pattern.specs.declared.scan.Scan.{Scan}
use Rattle.alog_pattern.specs.declared.scan.Scan.TheVariants.{Between, Opened, Sided, Wide, Cut}
use Rattle.alog_pattern.specs.Flag.{flag_of}
use Rattle.alog_pattern.specs.Grammar.{Spelling, opening, number, Piece, Single, Spelled, IsPiece, piece_bytes, item}
use Rattle.alog_pattern.specs.Grammar.{spelled_item, side_bytes}
use Rattle.alog_pattern.specs.Scan.{step, item_by, completed}

abbrev pub IsDigit : ℕ → Type 0
IsDigit b = IsTrue (is_ascii_digit b)

-- where the program stands behind a side
abbrev pub behind_side : Side → Scan
behind_side Right = Opened
behind_side Left = Sided Left
behind_side Centre = Sided Centre

abbrev pub behind_width : Side → ℕ → Bool → Scan
behind_width side width false = Wide side width
behind_width side width true = Cut side width

abbrev pub behind : Side → List ℕ → Bool → Scan
behind side [] cut = behind_side side
behind side (d ∷ ds) cut = behind_width side (min 64 (number (d ∷ ds))) cut

-- what is read and not whole: nothing, or the opening of a spelling, whose flag byte does not count
abbrev pub read : Option Spelling → List ℕ
read None = []
read (Some s) = opening s

abbrev pub scan_of : Option Spelling → Scan
scan_of None = Between
scan_of (Some s) = behind s.side s.digits s.cut

pub record IsOpening (s : Spelling) : Type 0 where
  pub digits : AllByRecursion IsDigit s.digits
  pub cut : IsTrue s.cut → s.digits ≢ []

abbrev pub IsBegun : Option Spelling → Type 0
IsBegun None = Unit {0}
IsBegun (Some s) = IsOpening s

-- what a byte does: the spelling goes on, or a piece is whole
pub data Move (begun : Option Spelling) (b : ℕ) (out : Scan × Option Item) : Type 0 where
  GoesOn : (next : Spelling) → IsOpening next → opening next ≡ read begun ++ b ∷ [] → out ≡ (scan_of (Some next), None) → Move begun b out
  Ends : (piece : Piece) → IsPiece piece → piece_bytes piece ≡ read begun ++ b ∷ [] → out ≡ (Between, Some (item piece)) → Move begun b out

pub digit_range : (b : ℕ) → IsDigit b → (48 ≤ b) × (b ≤ 57)
digit_range b h = let p = and_parts _ _ h in (leb-true 48 b p.0, leb-true b 57 p.1)

-- the program completes the item of the grammar
pub plain_item : (o : Option Flag) (side : Side) (b : ℕ)
    → item_by o None b ≡ spelled_item o (record { side = side; digits = []; cut = false; flag = b })
plain_item None side b = refl
plain_item (Some flag) side b = refl

pub padded_item : (o : Option Flag) (side : Side) (d : ℕ) (ds : List ℕ) (cut : Bool) (b : ℕ)
    → item_by o (Some (record {
      width = min 64 (number (d ∷ ds));
      side = side;
      cut = cut;
    })) b ≡ spelled_item o (record { side = side; digits = d ∷ ds; cut = cut; flag = b })
padded_item None side d ds true b = refl
padded_item None side d ds false b = refl
padded_item (Some flag) side d ds cut b = refl

-- an opening with digits is more than `%`
long_opening : (side : Side) (d : ℕ) (ds : List ℕ) (cut : Bool) (b : ℕ)
    → opening (record { side = side; digits = d ∷ ds; cut = cut; flag = b }) ≢ 37 ∷ []
long_opening Right d ds cut b e = cc
long_opening Left d ds cut b e = cc
long_opening Centre d ds cut b e = cc

-- the first digit
pub first_digit : (side : Side) (b : ℕ) → IsDigit b → (Wide side (b - 48)) ≡ behind side (b ∷ []) false
first_digit side b h =
    let r = digit_range b h in
    let e : b - 48 ≡ min 64 (10 * 0 + (b - 48)) = omega (arith, r.0, r.1) in
    ap (Wide side) e

AllDigits-push : (ds : List ℕ) (b : ℕ) → AllByRecursion IsDigit ds → IsDigit b → AllByRecursion IsDigit (ds ++ b ∷ [])
AllDigits-push [] b all h = (h, tt)
AllDigits-push (d ∷ ds) b all h = (all.0, AllDigits-push ds b all.1 h)

-- one more digit makes the width wider, up to 64
wider_width : (ds : List ℕ) (b : ℕ) → min 64 (10 * min 64 (number ds) + (b - 48)) ≡ min 64 (number (ds ++ b ∷ []))
wider_width ds b = rw (fold-append (λ n x. 10 * n + (x - 48)) 0 ds (b ∷ [])) (omega arith)

-- Behind the side comes the flag byte, or the first digit.
pub after_side : (side : Side) (b : ℕ) → (side ≡ Right → (b ≢ 45) × (b ≢ 61))
    → step (behind_side side) b ≡ cond (is_ascii_digit b) (Wide side (b - 48), None) (Between, Some (completed None b))
after_side Right b h = let p = h refl in rw (ne_eqb b 45 p.0, ne_eqb b 61 p.1) refl
after_side Left b h = refl
after_side Centre b h = refl

abbrev pub flagged : Side → List ℕ → Bool → ℕ → Spelling
flagged side digits cut b = record { side = side; digits = digits; cut = cut; flag = b }

-- no `-` or `=` stands directly behind `%`
abbrev pub NoSide : Side → ℕ → Type 0
NoSide side b = side ≡ Right → (b ≢ 45) × (b ≢ 61)

pub opening_alone : (side : Side) (b : ℕ) → opening (flagged side [] false b) ≡ 37 ∷ [] → side ≡ Right
opening_alone Right b e = refl
opening_alone Left b e = cc
opening_alone Centre b e = cc

push_opening : (side : Side) (b : ℕ) → 37 ∷ (side_bytes side ++ (b ∷ [])) ≡ (37 ∷ (side_bytes side ++ [])) ++ b ∷ []
push_opening Right b = refl
push_opening Left b = refl
push_opening Centre b = refl

goes_sided : (side : Side) (flag b : ℕ) → NoSide side b → Move (Some (flagged side [] false flag)) b (step (behind_side side) b)
goes_sided side flag b free = elim (cases_Bool (is_ascii_digit b)) [
  | inl digit ↦ GoesOn (flagged side (b ∷ []) false 0) (record { digits = (digit, tt); cut = λ e. absurd cc }) (push_opening side b)
      (after_side side b free ∙ rw digit (ap (λ (scan : Scan). (scan, None)) (first_digit side b digit)))
  | inr other ↦ Ends (Spelled (flagged side [] false b))
      (record {
        digits = tt;
        cut = λ e. absurd cc;
        no_digit = λ e. absurd (both_ways _ other e);
        no_side = λ e. free (opening_alone side b e);
        no_cut = λ ne e. absurd (ne refl);
      })
      refl
      (after_side side b free ∙ rw other (ap (λ (i : Item). (Between, Some i)) (plain_item (flag_of b) side b)))
]

goes_opened : (flag b : ℕ) → Move (Some (flagged Right [] false flag)) b (step Opened b)
goes_opened flag b = elim (eqb_tells b 45) [
  | inl left ↦ GoesOn (flagged Left [] false 0) (record {
    digits = tt;
    cut = λ e. absurd cc;
  }) (ap (λ x. 37 ∷ x ∷ []) (sym left.1)) (rw left.0 refl)
  | inr not_left ↦ elim (eqb_tells b 61) [
    | inl centre ↦ GoesOn (flagged Centre [] false 0) (record {
      digits = tt;
      cut = λ e. absurd cc;
    }) (ap (λ x. 37 ∷ x ∷ []) (sym centre.1)) (rw (not_left.0, centre.0) refl)
    | inr not_centre ↦ goes_sided Right flag b (λ e. (not_left.1, not_centre.1))
  ]
]

-- one more byte at the end of an opening
opening_push : (side : Side) (ds more : List ℕ) → 37 ∷ (side_bytes side ++ (ds ++ more)) ≡ (37 ∷ (side_bytes side ++ (ds ++ []))) ++ more
opening_push side ds more = simp (append-nil, append_assoc)

digits_push : (side : Side) (ds more : List ℕ)
    → 37 ∷ (side_bytes side ++ ((ds ++ more) ++ [])) ≡ (37 ∷ (side_bytes side ++ (ds ++ []))) ++ more
digits_push side ds more = simp (append-nil, append_assoc)

goes_wide : (side : Side) (d : ℕ) (ds : List ℕ) (flag b : ℕ) → AllByRecursion IsDigit (d ∷ ds)
    → Move (Some (flagged side (d ∷ ds) false flag)) b (step (behind side (d ∷ ds) false) b)
goes_wide side d ds flag b all = elim (cases_Bool (is_ascii_digit b)) [
  | inl digit ↦ GoesOn (flagged side (d ∷ (ds ++ b ∷ [])) false 0) (record {
    digits = (all.0, AllDigits-push ds b all.1 digit);
    cut = λ e. absurd cc;
  }) (digits_push side (d ∷ ds) (b ∷ []))
      (rw digit (ap (λ w. (Wide side w, None)) (wider_width (d ∷ ds) b)))
  | inr other ↦ elim (eqb_tells b 33) [
    | inl cut ↦ GoesOn (flagged side (d ∷ ds) true 0) (record {
      digits = all;
      cut = λ e. λ n. cc;
    }) (rw cut.1 (opening_push side (d ∷ ds) (33 ∷ []))) (rw (other, cut.0) refl)
    | inr not_cut ↦ Ends (Spelled (flagged side (d ∷ ds) false b))
        (record {
          digits = all;
          cut = λ e. absurd cc;
          no_digit = λ e. absurd (both_ways _ other e);
          no_side = λ e. absurd (long_opening side d ds false b e);
          no_cut = λ ne e. absurd (not_cut.1 e);
        })
        refl
        (rw (other, not_cut.0) (ap (λ (i : Item). (Between, Some i)) (padded_item (flag_of b) side d ds false b)))
  ]
]

goes_cut : (side : Side) (d : ℕ) (ds : List ℕ) (flag b : ℕ) → AllByRecursion IsDigit (d ∷ ds)
    → Move (Some (flagged side (d ∷ ds) true flag)) b (step (behind side (d ∷ ds) true) b)
goes_cut side d ds flag b all =
    Ends (Spelled (flagged side (d ∷ ds) true b))
    (record {
      digits = all;
      cut = λ e n. cc;
      no_digit = λ e. refl;
      no_side = λ e. absurd (long_opening side d ds true b e);
      no_cut = λ ne e. refl;
    })
    refl
    (ap (λ (i : Item). (Between, Some i)) (padded_item (flag_of b) side d ds true b))

goes_between : (b : ℕ) → Move None b (step Between b)
goes_between b = elim (eqb_tells b 37) [
  | inl percent ↦ GoesOn (flagged Right [] false 0) (record {
    digits = tt;
    cut = λ e. absurd cc;
  }) (ap (λ x. x ∷ []) (sym percent.1)) (rw percent.0 refl)
  | inr other ↦ Ends (Single b) other.1 refl (rw other.0 refl)
]

goes_by : (side : Side) (digits : List ℕ) (cut : Bool) (flag b : ℕ) → IsOpening (flagged side digits cut flag)
    → Move (Some (flagged side digits cut flag)) b (step (behind side digits cut) b)
goes_by side [] true flag b h = absurd (h.cut refl refl)
goes_by Right [] false flag b h = goes_opened flag b
goes_by Left [] false flag b h = goes_sided Left flag b (λ e. absurd cc)
goes_by Centre [] false flag b h = goes_sided Centre flag b (λ e. absurd cc)
goes_by side (d ∷ ds) false flag b h = goes_wide side d ds flag b h.digits
goes_by side (d ∷ ds) true flag b h = goes_cut side d ds flag b h.digits

-- each byte goes on with the spelling or ends a piece
pub goes : (begun : Option Spelling) (b : ℕ) → IsBegun begun → Move begun b (step (scan_of begun) b)
goes None b h = goes_between b
goes (Some s) b h = goes_by s.side s.digits s.cut s.flag b h
