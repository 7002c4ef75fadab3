-- The accounts of a queue: what the claims of a history put in, what its takes took out, and what is listed still.
use Rattle.std.specs.Prelude.{◌≡◌, ◌≢◌, ◌⊎◌, ◌↔◌, ℕ, ◌+◌, ◌-◌, ◌<◌, ◌≤◌, List, [], ◌∷◌, ◌++◌, map}
use Rattle.std.specs.List.{AllPairs, Contains, range_with_len}
use Rattle.alog_core.specs.Queue.{Cell, Event, Claim, Grab, Take, IsListed, start}
use Rattle.alog_core.specs.History.{Entry, left_by, own_of, IsLegal}

-- the ticket and the item that an event puts in, if it is a claim
abbrev pub put_by : {T : Type 0} → Event T → List (ℕ × T)
put_by (Claim t x) = (t, x) ∷ []
put_by e = []

-- the ticket and the item that an event takes out, if it is a take
abbrev pub got_by : {T : Type 0} → Event T → List (ℕ × T)
got_by (Take t x) = (t, x) ∷ []
got_by e = []

-- the ticket that an event grabs, if it is a grab
abbrev pub grabbed_by : {T : Type 0} → Event T → List ℕ
grabbed_by (Grab t) = t ∷ []
grabbed_by e = []

-- the tickets and items of a history's claims, in order
abbrev pub claims : {T N : Type 0} → List (Entry T N) → List (ℕ × T)
claims [] = []
claims (x ∷ h) = put_by x.event ++ claims h

-- the tickets and items of its takes, in order
abbrev pub takes : {T N : Type 0} → List (Entry T N) → List (ℕ × T)
takes [] = []
takes (x ∷ h) = got_by x.event ++ takes h

-- the tickets and items of cells
abbrev pub held : {T : Type 0} → List (Cell T) → List (ℕ × T)
held cs = map (λ c. (c.ticket, c.item)) cs

-- the tickets that were issued, in order: those of the claims
abbrev pub issued : {T N : Type 0} → List (Entry T N) → List ℕ
issued h = map (λ p. p.0) (claims h)

-- the tickets that were handed out, in order: those of the takes
abbrev pub handed_out : {T N : Type 0} → List (Entry T N) → List ℕ
handed_out h = map (λ p. p.0) (takes h)

-- the tickets that a history grabs, in order
abbrev pub grabbed : {T N : Type 0} → List (Entry T N) → List ℕ
grabbed [] = []
grabbed (x ∷ h) = grabbed_by x.event ++ grabbed h

-- what tickets and items weigh together, each by its weight
abbrev pub weigh : {T : Type 0} → (ℕ → T → ℕ) → List (ℕ × T) → ℕ
weigh w [] = 0
weigh w (p ∷ ps) = w p.0 p.1 + weigh w ps

-- what all claims weigh
abbrev pub claimed : {T N : Type 0} → (ℕ → T → ℕ) → List (Entry T N) → ℕ
claimed w h = weigh w (claims h)

-- what all takes weigh
abbrev pub taken : {T N : Type 0} → (ℕ → T → ℕ) → List (Entry T N) → ℕ
taken w h = weigh w (takes h)

-- what the cells weigh
abbrev pub listed : {T : Type 0} → (ℕ → T → ℕ) → List (Cell T) → ℕ
listed w cs = weigh w (held cs)

-- By whatever weight: what was claimed was taken, or is listed in the cells that the history leaves.
abbrev pub AccountsBalance : Type 0 → Type 0 → Type 0
AccountsBalance T N = (n f : ℕ) (h : List (Entry T N)) (w : ℕ → T → ℕ) → IsLegal n f h
    → claimed w h ≡ taken w h + listed w (left_by (start f) h).cells

-- The tickets issued are those from the first on, up to the next one, each once.
abbrev pub TicketsAreIssuedInOrder : Type 0 → Type 0 → Type 0
TicketsAreIssuedInOrder T N = (n f : ℕ) (h : List (Entry T N)) → IsLegal n f h → (f ≤ (left_by (start f) h).next)
    × (issued h ≡ range_with_len f ((left_by (start f) h).next - f))

-- No ticket is handed out twice.
abbrev pub NoTicketIsHandedOutTwice : Type 0 → Type 0 → Type 0
NoTicketIsHandedOutTwice T N = (n f : ℕ) (h : List (Entry T N)) → IsLegal n f h → AllPairs (λ t u. t ≢ u) (handed_out h)

-- An issued ticket was handed out or is listed, never both; and no other ticket was handed out or is listed.
abbrev pub TicketsAreHandedOutOrListed : Type 0 → Type 0 → Type 0
TicketsAreHandedOutOrListed T N = (n f : ℕ) (h : List (Entry T N)) (t : ℕ) → IsLegal n f h
    → (Contains (issued h) t ↔ (Contains (handed_out h) t ⊎ IsListed t (left_by (start f) h).cells))
    × (Contains (handed_out h) t → ¬ IsListed t (left_by (start f) h).cells)

-- What is handed out or listed under a ticket is what was claimed under it, and no other item was.
abbrev pub TicketsKeepTheirItems : Type 0 → Type 0 → Type 0
TicketsKeepTheirItems T N = (n f : ℕ) (h : List (Entry T N)) (t : ℕ) (x : T) → IsLegal n f h
    → Contains (takes h) (t, x) ⊎ Contains (held (left_by (start f) h).cells) (t, x)
    → Contains (claims h) (t, x) × ((y : T) → Contains (claims h) (t, y) → y ≡ x)

-- A take comes after the claim of its ticket and item.
abbrev pub TakesFollowTheirClaims : Type 0 → Type 0 → Type 0
TakesFollowTheirClaims T N = (n f : ℕ) (before later : List (Entry T N)) (e : Entry T N) (t : ℕ) (x : T)
    → IsLegal n f (before ++ e ∷ later) → e.event ≡ Take t x → Contains (claims before) (t, x)

-- The tickets grabbed are those from the first on, up to the front, each once.
abbrev pub TicketsAreGrabbedInOrder : Type 0 → Type 0 → Type 0
TicketsAreGrabbedInOrder T N = (n f : ℕ) (h : List (Entry T N)) → IsLegal n f h → (f ≤ (left_by (start f) h).front)
    × (grabbed h ≡ range_with_len f ((left_by (start f) h).front - f))

-- An actor grabs rising tickets, and takes rising ones where it takes in the order in which it grabs. (A legal history alone
-- lets it grab twice and take the later ticket first.)
abbrev pub AnActorsTicketsRise : Type 0 → Type 0 → Type 0
AnActorsTicketsRise T N = (n f : ℕ) (h : List (Entry T N)) (a : ℕ) → IsLegal n f h
    → AllPairs (λ t u. t < u) (grabbed (own_of a h))
    × ((yet : List ℕ) → grabbed (own_of a h) ≡ handed_out (own_of a h) ++ yet → AllPairs (λ t u. t < u) (handed_out (own_of a h)))
