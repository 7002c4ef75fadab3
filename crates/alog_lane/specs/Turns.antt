-- The history of a lane: one turn after another, each from the value that the one before it left.
use Rattle.std.specs.Prelude.{◌≡◌, ℕ, List, [], ◌∷◌}
use Rattle.alog_lane.specs.Seats.{Entry}

-- A turn: its tag, what it was given, and what it answered.
pub record Turned (I S R : Type 0) : Type 0 where
  pub tag : ℕ
  pub item : I
  pub before : S
  pub reply : R
  pub after : S

module _ {T I S R : Type 0} (turns : T → S → I → R → T → S → Type 0) where
  -- this turn leads from one value to another
  abbrev pub Turns : T → Turned I S R → T → Type 0
  Turns v t w = turns v t.before t.item t.reply w t.after

  -- these turns lead, one after another, from one value to another
  abbrev pub Leads : T → List (Entry (Turned I S R)) → T → Type 0
  Leads v [] w = v ≡ w
  Leads v (x ∷ h) w = (u : T) × Turns v x.deed u × Leads u h w
