-- No clock is further from UTC than jiff has offsets; and a text is a rule where a zone is its rule.
use Rattle.std.proofs.Common.{ℕ, ℤ, pos, negsuc, int_div, FitsSigned, w16, List, Option, IsSome, arith, refl, subst, sym}
use Rattle.jiff_core.specs.Timestamp.{IsOffsetSeconds}
use Rattle.jiff_core.proofs.SignedLemmas.{signed_arith}
use Rattle.jiff_tz.specs.PosixRule.{offset_at}
use Rattle.jiff_tz.specs.PosixText.{TzText}
use Rattle.alog_format.specs.Civil.{offset_seconds, IsRuleOf, IsRuleText, IsZone}
use Rattle.alog_format.specs.declared.context.Zone.{Zone}
use Rattle.alog_format.specs.declared.context.Zone.TheVariants.{Fixed, Rule}

pub offset_near : (zone : Zone) (time : ℤ) → IsZone zone → IsOffsetSeconds (offset_seconds zone time)
offset_near (Fixed minutes) time near = (omega (arith, signed_arith), omega (arith, signed_arith))
offset_near (Rule rule) time near = (offset_at rule time).in_range

-- the whole minutes of an offset are few
pub minutes_fit : (seconds : ℤ) → IsOffsetSeconds seconds → FitsSigned w16 (int_div seconds (pos 60))
minutes_fit (pos n) near = omega (arith, signed_arith)
minutes_fit (negsuc n) near = omega (arith, signed_arith)

-- a text that some zone is the rule of is a rule
pub is_rule : (text : List ℕ) (zone : Zone) → IsRuleOf text zone → IsRuleText text
is_rule text (Fixed minutes) h = absurd h
is_rule text (Rule rule) h = (h.0, subst (λ (o : Option TzText). IsSome o) (sym h.1) refl)
