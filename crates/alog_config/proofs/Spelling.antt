-- What a key holds, from the value at it and from its text.
use Rattle.std.proofs.Common.{◌≡◌, ℕ, List, Option, Some, None, IsSome, Bor, sym, ap, subst, ◌∙◌}
use Rattle.alog_config.specs.Values.{IsField, IsTextAt, Spelled}
use Rattle.alog_config.specs.declared.field.Field.TheVariants.{Bad, Given}
use Rattle.toml.specs.Data.{Data, as_str}

pub field_bad : {A : Type 0} (reads : Data → A → Type 0) (o : Option Data) (d : Data) → Some d ≡ o → ((a : A) → ¬ reads d a)
    → IsField reads o Bad
field_bad reads None d e r = absurd (cc e)
field_bad reads (Some x) d e r = let same : d ≡ x = cc in λ a y. r a (subst (λ z. reads z a) (sym same) y)

pub none_is_none : {A : Type 0} (o : Option A) → o ≡ None → ¬ IsSome o
none_is_none None e h = absurd (cc h)
none_is_none (Some x) e h = absurd (cc e)

-- the same, from the text at the key
pub spelled_not : {A : Type 0} (P : List ℕ → A → Type 0) (o : Option Data) (s : Bor (List ℕ))
    → IsTextAt o (Given s) → ((a : A) → ¬ P s.now a) → IsField (Spelled P) o Bad
spelled_not P None s h p = absurd (cc h)
spelled_not P (Some d) s h p = λ a r.
    let e : Some s.now ≡ Some r.0 = ap as_str (sym h ∙ r.1) in
    let same : s.now ≡ r.0 = cc in
    p a (subst (λ t. P t a) (sym same) r.2)
