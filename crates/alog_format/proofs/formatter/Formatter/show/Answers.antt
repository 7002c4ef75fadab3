use Rattle.std.proofs.Common.{◌≡◌, ◌∙◌, false, true, not, nat_eq, ℕ, ℤ, pos, ◌≤◌, ◌+ℤ◌, All, ap, arith, drop, length, take, refl, sym, subst, unsigned_abs, FitsSigned, w32, w64, rules}
use Rattle.std.specs.Int.{int_div_euclid, int_rem_euclid}
use Rattle.std.proofs.lemmas.Int.{to_z-of_z}
use Rattle.std.proofs.lemmas.Bool.Decides.{nat_tests}
use Rattle.jiff.specs.Words.{civil_seconds}
use Rattle.alog_format.specs.declared.formatter.Formatter.TheInside.{Inside}
use Rattle.alog_format.specs.Civil.{fields, offset_seconds, with_nanosecond}
use Rattle.alog_format.specs.Lasting.{AreFirst, FormatterView}
use Rattle.alog_format.specs.Naming.{Remembers}
use Rattle.alog_format.proofs.Seconds.{rest_is, seconds_are, shown_in}
use Rattle.alog_format.proofs.formatter.Formatter.show.Goals as goal
use Rattle.alog_format.proofs.formatter.Formatter.show.Goals.{then-second-self, else-second-self, then-offset-self, else-offset-self}

-- a formatter of the pattern of another knows this second at an offset
record Knows (offset : ℤ) (second : ℤ) (o : Inside) (i : Inside) : Type 0 where
  pattern_is : i.pattern ≡ o.pattern
  offset_is : i.offset ≡ offset
  second_is : i.second ≡ second
  in_second : civil_seconds i.at ≡ i.second +ℤ i.offset
  shows : i.civil ≡ with_nanosecond i.civil.nanosecond (fields i.offset i.at)
  within : i.from ≤ length i.pattern.items
  first : AreFirst (take i.from i.pattern.items) i.civil i.count i.first.items
  named : All (Remembers (drop i.from i.pattern.items)) i.names

same_numbers : (a b : ℕ) → not (nat_eq a b) ≡ false → a ≡ b
same_numbers a b h = grind (arith, nat_tests)

-- where nothing was worked out anew
same_second : (c : goal.After-self-2-1) → c.if-second-self.value ≡ false
    → (c.self.inside.offset ≡ c.offset_seconds-offset.result) × (c.self.inside.second ≡ c.div_euclid-second.result)
same_second c known =
    let fits : FitsSigned w64 c.div_euclid-second.result = search rules in
    elim c.if-second-self.branch [
      | then-second-self v ↦ absurd (v.if-second-self.true (same_numbers _ _ (sym v.value-is ∙ known)))
      | else-second-self v ↦ (search rules, search rules)
    ]

knows : (c : goal.After-self-2-1) → Knows c.offset_seconds-offset.result c.div_euclid-second.result c.self.inside c.if-offset-self.self-inside
knows c =
    let time : FitsSigned w64 c.args.time = search rules in
    let fits : FitsSigned w64 c.div_euclid-second.result = search rules in
    let small : FitsSigned w32 c.offset_seconds-offset.result = search rules in
    let divided : c.div_euclid-second.result ≡ int_div_euclid c.args.time (pos 1_000_000_000) = simp to_z-of_z at c.div_euclid-second.ensures in
    let Here = Knows c.offset_seconds-offset.result c.div_euclid-second.result c.self.inside in
    elim c.if-offset-self.branch [
      | then-offset-self w ↦
          let at = w.local-self-inside.result in
          let shown = simp to_z-of_z at w.local-self-inside.ensures in
          let now : Here (record {
            pattern = c.self.inside.pattern;
            second = c.div_euclid-second.result;
            offset = c.offset_seconds-offset.result;
            at = at;
            civil = w.fields_of-self-inside.result;
            from = c.self.inside.from;
            count = 0;
            first = w.clear.new.self;
            is_fresh = true;
            names = c.self.inside.names;
          }) = record {
            pattern_is = refl;
            offset_is = refl;
            second_is = refl;
            in_second = seconds_are c.offset_seconds-offset.result c.args.time c.div_euclid-second.result at shown divided;
            shows = rw (simp to_z-of_z at w.fields_of-self-inside.ensures) refl;
            within = c.self.invariant.2;
            first = (omega arith, (λ k d short. absurd (omega arith)), w.clear.ensures);
            named = c.self.invariant.4;
          } in
          subst Here (sym (simp to_z-of_z at w.self-inside-is)) now
      | else-offset-self w ↦
          let same = same_second c w.if-offset-self.false in
          let now : Here c.self.inside = record {
            pattern_is = refl;
            offset_is = same.0;
            second_is = same.1;
            in_second = c.self.invariant.0;
            shows = c.self.invariant.1;
            within = c.self.invariant.2;
            first = c.self.invariant.3;
            named = c.self.invariant.4;
          } in
          subst Here (sym w.self-inside-is) now
    ]

pub invariant_of-self : goal.invariant_of-self
invariant_of-self c =
    let k = knows c in
    (k.in_second, ap (with_nanosecond c.unsigned_abs.result) k.shows, k.within, k.first, k.named)

pub returns-clause-same : goal.returns-clause-same
returns-clause-same c = (knows c).pattern_is ∙ ap (λ (v : FormatterView). v.pattern) c.self.view_is

pub returns-clause-shown : goal.returns-clause-shown
returns-clause-shown c =
    let k = knows c in
    let i = c.if-offset-self.self-inside in
    let time : FitsSigned w64 c.args.time = search rules in
    let fits : FitsSigned w64 c.div_euclid-second.result = search rules in
    let left : FitsSigned w64 c.rem_euclid.result = search rules in
    let small : FitsSigned w32 c.offset_seconds-offset.result = search rules in
    let divided : c.div_euclid-second.result ≡ int_div_euclid c.args.time (pos 1_000_000_000) = simp to_z-of_z at c.div_euclid-second.ensures in
    let value : c.rem_euclid.result ≡ int_rem_euclid c.args.time (pos 1_000_000_000) = simp to_z-of_z at c.rem_euclid.ensures.value in
    let whole : c.unsigned_abs.result ≡ unsigned_abs c.rem_euclid.result = simp to_z-of_z at c.unsigned_abs.ensures.value in
    let rest : pos c.unsigned_abs.result ≡ int_rem_euclid c.args.time (pos 1_000_000_000) =
    ap pos whole ∙ (ap (λ (r : ℤ). pos (unsigned_abs r)) value ∙ rest_is c.args.time (pos 1_000_000_000)) in
    let offset : i.offset ≡ offset_seconds c.args.zone.now c.args.time = k.offset_is ∙ (simp to_z-of_z at c.offset_seconds-offset.ensures.value) in
    let seconds : civil_seconds i.at ≡ i.second +ℤ offset_seconds c.args.zone.now c.args.time = k.in_second ∙ ap (λ (o : ℤ). i.second +ℤ o) offset in
    let shows : i.civil ≡ with_nanosecond i.civil.nanosecond (fields (offset_seconds c.args.zone.now c.args.time) i.at) =
    k.shows ∙ ap (λ (o : ℤ). with_nanosecond i.civil.nanosecond (fields o i.at)) offset in
    shown_in c.args.zone.now c.args.time i.at c.unsigned_abs.result seconds shows (k.second_is ∙ divided) rest
