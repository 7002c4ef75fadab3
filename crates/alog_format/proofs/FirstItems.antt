-- What lasts a second is what each line of that second shows.
use Rattle.std.proofs.Common.{◌≡◌, ℕ, ◌+◌, ◌-◌, ◌≤◌, ◌<◌, true, false, List, [], ◌∷◌, ◌++◌, length, take, drop, sum_by, All, Some, None, zero, suc, ap, subst, get_or, refl, sym, ◌∙◌, arith, length-append, append_assoc}
use Rattle.std.specs.List.{flat_map}
use Rattle.std.proofs.lemmas.Grind.{flat_map-append}
use Rattle.std.proofs.Math.Seq.{drop-append_seam, take-length}
use Rattle.std.proofs.lemmas.List.{length-drop, take-append-drop, take_all, take_more}
use Rattle.std.proofs.lemmas.List.Sums.{sum_by-cons, sum_by-take-drop, sum_by-take-le}
use Rattle.std.proofs.lemmas.List.Elements.{All-append}
use Rattle.alog_pattern.specs.declared.flags.Flag.TheVariants as flags
use Rattle.alog_pattern.specs.declared.items.Item.{Item}
use Rattle.alog_pattern.specs.declared.items.Item.TheVariants as items
use Rattle.alog_pattern.specs.Length.{item_len}
use Rattle.alog_format.specs.declared.civil.Civil.{Civil}
use Rattle.alog_format.specs.Buffer.{Buffer, appended}
use Rattle.alog_format.specs.Lasting.{AreFirst, lasts, second_text}
use Rattle.alog_format.specs.Line.{IsShowable, item_text}
use Rattle.alog_format.specs.Text.{Shown, flag_text, time_text, short_weekday, short_month, date_and_time, short_date, half_day_time, short_time, time}
use Rattle.alog_format.proofs.ItemTexts.{item_text_len}

not_so : {A : Type 0} → false ≡ true → A
not_so h = absurd (cc)

one_lasts : (s : Shown) (item : Item) → lasts item ≡ true → item_text s item ≡ second_text s.at item
unfolding flag_text time_text short_weekday short_month date_and_time short_date half_day_time short_time time
one_lasts s (items.Byte b) h = refl
one_lasts s (items.Unknown b) h = not_so h
one_lasts s (items.Function width side next) h = not_so h
one_lasts s (items.Flag flag (Some padding)) h = not_so h
one_lasts s (items.Flag flags.ShortWeekday None) h = refl
one_lasts s (items.Flag flags.Weekday None) h = refl
one_lasts s (items.Flag flags.ShortMonth None) h = refl
one_lasts s (items.Flag flags.Month None) h = refl
one_lasts s (items.Flag flags.DateTime None) h = refl
one_lasts s (items.Flag flags.ShortYear None) h = refl
one_lasts s (items.Flag flags.Year None) h = refl
one_lasts s (items.Flag flags.ShortDate None) h = refl
one_lasts s (items.Flag flags.MonthNumber None) h = refl
one_lasts s (items.Flag flags.Day None) h = refl
one_lasts s (items.Flag flags.Hour None) h = refl
one_lasts s (items.Flag flags.HalfDayHour None) h = refl
one_lasts s (items.Flag flags.Minute None) h = refl
one_lasts s (items.Flag flags.Second None) h = refl
one_lasts s (items.Flag flags.HalfDay None) h = refl
one_lasts s (items.Flag flags.HalfDayTime None) h = refl
one_lasts s (items.Flag flags.ShortTime None) h = refl
one_lasts s (items.Flag flags.Time None) h = refl
one_lasts s (items.Flag flags.Text None) h = not_so h
one_lasts s (items.Flag flags.Thread None) h = not_so h
one_lasts s (items.Flag flags.Process None) h = not_so h
one_lasts s (items.Flag flags.Name None) h = not_so h
one_lasts s (items.Flag flags.Level None) h = not_so h
one_lasts s (items.Flag flags.ShortLevel None) h = not_so h
one_lasts s (items.Flag flags.Milliseconds None) h = not_so h
one_lasts s (items.Flag flags.Microseconds None) h = not_so h
one_lasts s (items.Flag flags.Nanoseconds None) h = not_so h
one_lasts s (items.Flag flags.Offset None) h = not_so h
one_lasts s (items.Flag flags.Epoch None) h = not_so h
one_lasts s (items.Flag flags.ElapsedNanoseconds None) h = not_so h
one_lasts s (items.Flag flags.ElapsedMicroseconds None) h = not_so h
one_lasts s (items.Flag flags.ElapsedMilliseconds None) h = not_so h
one_lasts s (items.Flag flags.ElapsedSeconds None) h = not_so h
one_lasts s (items.Flag flags.Percent None) h = not_so h
one_lasts s (items.Flag flags.Default None) h = not_so h
one_lasts s (items.Flag flags.ColourStart None) h = not_so h
one_lasts s (items.Flag flags.ColourEnd None) h = not_so h
one_lasts s (items.Flag flags.Location None) h = not_so h
one_lasts s (items.Flag flags.FileBase None) h = not_so h
one_lasts s (items.Flag flags.File None) h = not_so h
one_lasts s (items.Flag flags.Line None) h = not_so h
one_lasts s (items.Flag flags.Function None) h = not_so h

abbrev pub Last : List Item → Type 0
Last = All (λ (item : Item). lasts item ≡ true)

one_item : (item : Item) → lasts item ≡ true → Last (item ∷ [])
one_item item h zero d _ = h
one_item item h (suc k) d short = absurd (omega arith)

-- those of one item more last
pub one_more : (is : List Item) (i : ℕ) (d : Item) → i < length is → Last (take i is) → lasts (get_or is i d) ≡ true → Last (take (i + 1) is)
one_more is i d inside before here =
    subst Last (sym (take_more is i d inside)) (All-append (λ (item : Item). lasts item ≡ true) (take i is) (get_or is i d ∷ []) before (one_item (get_or is i d) here))

-- the texts of items that last
pub they_last : (s : Shown) (is : List Item) → Last is → flat_map (item_text s) is ≡ flat_map (second_text s.at) is
they_last s [] h = refl
they_last s (i ∷ is) h =
    ap (λ (l : List ℕ). l ++ flat_map (item_text s) is) (one_lasts s i (h zero i (omega arith)))
    ∙ ap (λ (l : List ℕ). second_text s.at i ++ l) (they_last s is (λ k d short. h (suc k) d (omega arith)))

-- the texts of items are no longer than the pattern counts for them
pub texts_len : (limit : ℕ) (s : Shown) → IsShowable limit s → (is : List Item)
    → length (flat_map (item_text s) is) ≤ sum_by (item_len limit) is
texts_len limit s h [] = omega arith
texts_len limit s h (i ∷ is) =
    let texts : length (flat_map (item_text s) (i ∷ is)) ≡ length (item_text s i) + length (flat_map (item_text s) is) =
    length-append (item_text s i) (flat_map (item_text s) is) in
    omega (arith, sum_by-cons (item_len limit) i is, item_text_len limit s h i, texts_len limit s h is)

-- there is room for the texts of the first items of the front, and for what is left behind them
pub first_fit : (limit : ℕ) (is : List Item) (n m len cap : ℕ) → len + (sum_by (item_len limit) is + 1) ≤ cap
    → len + sum_by (item_len limit) (take n (take m is)) < cap
first_fit limit is n m len cap room = omega (arith, sum_by-take-le (item_len limit) (take m is) n, sum_by-take-le (item_len limit) is m)

-- there is room for the texts of the front
pub front_fits : (limit : ℕ) (is : List Item) (n len cap : ℕ) → len + (sum_by (item_len limit) is + 1) ≤ cap
    → len + sum_by (item_len limit) (take n is) < cap
front_fits limit is n len cap room = omega (arith, sum_by-take-le (item_len limit) is n)

-- what is remembered is what each line of that second begins with
pub first_texts : (s : Shown) (at : Civil) (is : List Item) (n : ℕ) (bytes : List ℕ) → s.at ≡ at → AreFirst is at n bytes
    → bytes ≡ flat_map (item_text s) (take n is)
first_texts s at is n bytes same first =
    first.2 ∙ ap (λ (a : Civil). flat_map (second_text a) (take n is)) (sym same) ∙ sym (they_last s (take n is) first.1)

-- and what such a line begins with may be remembered
pub are_first : (s : Shown) {at : Civil} (is : List Item) (n : ℕ) {bytes : List ℕ} → s.at ≡ at → n ≤ length is → Last (take n is)
    → bytes ≡ flat_map (item_text s) (take n is) → AreFirst is at n bytes
are_first s is n same within last written =
    (within, last, written ∙ they_last s (take n is) last ∙ ap (λ (a : Civil). flat_map (second_text a) (take n is)) same)

-- what was written behind the bytes of a buffer
pub behind : (old new : Buffer) (texts : List ℕ) → new ≡ appended old texts
    → take (length new.bytes - length old.bytes) (drop (length old.bytes) new.bytes) ≡ texts
behind old new texts e =
    let bytes : new.bytes ≡ old.bytes ++ texts = ap (λ (b : Buffer). b.bytes) e in
    let rest : drop (length old.bytes) new.bytes ≡ texts = ap (drop (length old.bytes)) bytes ∙ drop-append_seam old.bytes texts in
    let lens : length new.bytes ≡ length old.bytes + length texts = ap length bytes ∙ length-append old.bytes texts in
    let many : length new.bytes - length old.bytes ≡ length texts = omega arith in
    ap (take (length new.bytes - length old.bytes)) rest ∙ ap (λ (n : ℕ). take n texts) many ∙ take-length texts

-- the texts of the first items and of the rest are those of all
pub all_texts : (s : Shown) (is : List Item) (n : ℕ)
    → flat_map (item_text s) (take n is) ++ flat_map (item_text s) (drop n is) ≡ flat_map (item_text s) is
all_texts s is n = sym (flat_map-append (item_text s) (take n is) (drop n is)) ∙ ap (flat_map (item_text s)) (take-append-drop n is)

pub rest_is : (is : List Item) (n : ℕ) → take (length is - n) (drop n is) ≡ drop n is
rest_is is n = take_all (length is - n) (drop n is) (omega (arith, length-drop n is))

-- there is room for a remembered text, and for what is left behind it
pub first_room : {limit : ℕ} {s : Shown} → IsShowable limit s → (is : List Item) (n : ℕ) {bytes : List ℕ} (len cap : ℕ)
    → bytes ≡ flat_map (item_text s) (take n is) → len + sum_by (item_len limit) is < cap
    → len + length bytes + sum_by (item_len limit) (drop n is) < cap
first_room {limit} {s} h is n len cap written room =
    omega (arith, ap length written, texts_len limit s h (take n is), sum_by-take-drop (item_len limit) is n)

pub both_written : (old mid new : Buffer) (xs ys : List ℕ) → mid ≡ appended old xs → new ≡ appended mid ys → new ≡ appended old (xs ++ ys)
both_written old mid new xs ys e f =
    f ∙ ap (λ (b : Buffer). appended b ys) e ∙ ap (λ (l : List ℕ). record old { bytes = l }) (append_assoc old.bytes xs ys)
