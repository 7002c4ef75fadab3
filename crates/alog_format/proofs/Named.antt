-- What hangs on name and level alone is what each line of that name and level shows.
use Rattle.std.proofs.Common.{◌≡◌, ℕ, ◌+◌, ◌<◌, true, false, List, [], ◌∷◌, ◌++◌, length, take, All, Some, None, zero, suc, ap, subst, get_or, refl, sym, ◌∙◌, arith}
use Rattle.std.specs.List.{flat_map}
use Rattle.std.proofs.lemmas.List.{take_more}
use Rattle.std.proofs.lemmas.List.Elements.{All-append}
use Rattle.alog_msg.specs.declared.level.Level.{Level}
use Rattle.alog_pattern.specs.declared.flags.Flag.TheVariants as flags
use Rattle.alog_pattern.specs.declared.items.Item.{Item}
use Rattle.alog_pattern.specs.declared.items.Item.TheVariants as items
use Rattle.alog_format.specs.Line.{item_text}
use Rattle.alog_format.specs.Naming.{names, named_text}
use Rattle.alog_format.specs.Text.{Shown, flag_text}

not_so : {A : Type 0} → false ≡ true → A
not_so h = absurd (cc)

one_named : (s : Shown) (item : Item) → names item ≡ true → item_text s item ≡ named_text s.name s.message.level item
unfolding flag_text
one_named s (items.Byte b) h = refl
one_named s (items.Unknown b) h = refl
one_named s (items.Function width side next) h = not_so h
one_named s (items.Flag flag (Some padding)) h = not_so h
one_named s (items.Flag flags.ShortWeekday None) h = not_so h
one_named s (items.Flag flags.Weekday None) h = not_so h
one_named s (items.Flag flags.ShortMonth None) h = not_so h
one_named s (items.Flag flags.Month None) h = not_so h
one_named s (items.Flag flags.DateTime None) h = not_so h
one_named s (items.Flag flags.ShortYear None) h = not_so h
one_named s (items.Flag flags.Year None) h = not_so h
one_named s (items.Flag flags.ShortDate None) h = not_so h
one_named s (items.Flag flags.MonthNumber None) h = not_so h
one_named s (items.Flag flags.Day None) h = not_so h
one_named s (items.Flag flags.Hour None) h = not_so h
one_named s (items.Flag flags.HalfDayHour None) h = not_so h
one_named s (items.Flag flags.Minute None) h = not_so h
one_named s (items.Flag flags.Second None) h = not_so h
one_named s (items.Flag flags.HalfDay None) h = not_so h
one_named s (items.Flag flags.HalfDayTime None) h = not_so h
one_named s (items.Flag flags.ShortTime None) h = not_so h
one_named s (items.Flag flags.Time None) h = not_so h
one_named s (items.Flag flags.Text None) h = not_so h
one_named s (items.Flag flags.Thread None) h = not_so h
one_named s (items.Flag flags.Process None) h = not_so h
one_named s (items.Flag flags.Milliseconds None) h = not_so h
one_named s (items.Flag flags.Microseconds None) h = not_so h
one_named s (items.Flag flags.Nanoseconds None) h = not_so h
one_named s (items.Flag flags.Offset None) h = not_so h
one_named s (items.Flag flags.Epoch None) h = not_so h
one_named s (items.Flag flags.ElapsedNanoseconds None) h = not_so h
one_named s (items.Flag flags.ElapsedMicroseconds None) h = not_so h
one_named s (items.Flag flags.ElapsedMilliseconds None) h = not_so h
one_named s (items.Flag flags.ElapsedSeconds None) h = not_so h
one_named s (items.Flag flags.Default None) h = not_so h
one_named s (items.Flag flags.Location None) h = not_so h
one_named s (items.Flag flags.FileBase None) h = not_so h
one_named s (items.Flag flags.File None) h = not_so h
one_named s (items.Flag flags.Line None) h = not_so h
one_named s (items.Flag flags.Function None) h = not_so h
one_named s (items.Flag flags.Name None) h = refl
one_named s (items.Flag flags.Level None) h = refl
one_named s (items.Flag flags.ShortLevel None) h = refl
one_named s (items.Flag flags.Percent None) h = refl
one_named s (items.Flag flags.ColourStart None) h = refl
one_named s (items.Flag flags.ColourEnd None) h = refl

abbrev pub Named : List Item → Type 0
Named = All (λ (item : Item). names item ≡ true)

one_item : (item : Item) → names item ≡ true → Named (item ∷ [])
one_item item h zero d _ = h
one_item item h (suc k) d short = absurd (omega arith)

-- those of one item more hang on these alone
pub one_more : (is : List Item) (i : ℕ) (d : Item) → i < length is → Named (take i is) → names (get_or is i d) ≡ true → Named (take (i + 1) is)
one_more is i d inside before here =
    subst Named (sym (take_more is i d inside)) (All-append (λ (item : Item). names item ≡ true) (take i is) (get_or is i d ∷ []) before (one_item (get_or is i d) here))

they_are_named : (s : Shown) (is : List Item) → Named is → flat_map (item_text s) is ≡ flat_map (named_text s.name s.message.level) is
they_are_named s [] h = refl
they_are_named s (i ∷ is) h =
    ap (λ (l : List ℕ). l ++ flat_map (item_text s) is) (one_named s i (h zero i (omega arith)))
    ∙ ap (λ (l : List ℕ). named_text s.name s.message.level i ++ l) (they_are_named s is (λ k d short. h (suc k) d (omega arith)))

-- the texts of such items in a line of this name and level
pub named_texts : (s : Shown) {name : List ℕ} {level : Level} (is : List Item) → name ≡ s.name → level ≡ s.message.level → Named is
    → flat_map (item_text s) is ≡ flat_map (named_text name level) is
named_texts s {name} is n l h =
    they_are_named s is h ∙ ap (λ (m : List ℕ). flat_map (named_text m s.message.level) is) (sym n)
    ∙ ap (λ (k : Level). flat_map (named_text name k) is) (sym l)
