-- What a dump of a backtrace posts.
use Rattle.std.specs.Prelude.{◌≡◌, ℕ, ℤ, List, [], ◌∷◌, ◌++◌, None, codes}
use Rattle.alog_msg.specs.declared.item.Item.{Item}
use Rattle.alog_msg.specs.declared.item.Item.TheVariants.{Text}
use Rattle.alog_msg.specs.declared.level.Level.TheVariants.{Info}
use Rattle.alog_msg.specs.declared.message.Message.{Message}
use Rattle.alog_policy.specs.Outlet.{Doing}
use Rattle.alog_policy.specs.declared.policy.Policy.{Policy}
use Rattle.alog_policy.specs.declared.policy.Outcome.{Outcome}
use Rattle.alog_registry.specs.ItemOutlet.{PostsItem}

-- a marker of a dump: level info, no source
abbrev pub marker : ℕ → ℤ → ℕ → List ℕ → Message
marker logger time thread text = record { logger = logger; level = Info; time = time; thread = thread; text = text; source = None }

-- what is posted of these kept messages: all of them, oldest first, between two markers, or nothing where none was kept
abbrev pub posted_of : ℕ → ℤ → ℕ → List Message → List Message
posted_of logger time thread [] = []
posted_of logger time thread (m ∷ ms) =
    marker logger time thread (codes "=== backtrace start ===") ∷ (m ∷ ms) ++ marker logger time thread (codes "=== backtrace end ===") ∷ []

module _ {S : Type 0} (did : Doing S Item) (p : Policy) where
  -- Each of these messages is posted, one after another, with one outcome each.
  abbrev pub PostsEach : List Message → S → List (Outcome (Unit {0})) → S → Type 0
  PostsEach [] old [] new = new ≡ old
  PostsEach (m ∷ ms) old (o ∷ os) new = (mid : S) × PostsItem did p (Text m) old mid o × PostsEach ms mid os new
  PostsEach _ _ _ _ = ⊥
