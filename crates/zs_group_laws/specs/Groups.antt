-- Two linked sessions of a group: the tokens that each holds, and those of the other that it hears of.
use Rattle.std.specs.Prelude.{◌≡◌, ℕ, ◌+◌, ◌==◌, Bool, true, false, List, [], ◌∷◌, ◌++◌, map, find, Option, Some, None, option_map, codes, bytes_eq, encode_utf8_all, if◌then◌else◌}
use Rattle.std.specs.List.{AllByRecursion}
use Rattle.std.specs.Str.{chars}
use Rattle.zs_keys.specs.Key.{undeclared}
use Rattle.zs_subscriptions.specs.Ascending.{Ascend}
use Rattle.zs_tables.specs.Types.{LivelinessSub, RemoteToken}
use Rattle.zs_events.specs.declared.entity_kind.EntityKind.{EntityKind}
use Rattle.zs_events.specs.declared.entity_kind.EntityKind.TheVariants.{Token as token_kind}
use Rattle.zs_events.specs.declared.event.Event.{Event}
use Rattle.zs_events.specs.declared.event.Event.TheVariants.{Token as token_event, Undeclare, Lsub}
use Rattle.zs_events.specs.declared.key_arg.KeyArg.{KeyArg}
use Rattle.zs_events.specs.declared.key_arg.KeyArg.TheVariants.{Text}
use Rattle.zs_events.specs.declared.turn.Turn.{Turn}
use Rattle.zs_model.specs.declared.settings.Settings.{Settings}
use Rattle.zs_model.specs.Settings.{default_settings}
use Rattle.zs_model.specs.Entry.{Entry, is_closed}
use Rattle.zs_model.specs.Live.{live_lsubs}
use Rattle.zs_model.specs.Past.{past_of}
use Rattle.zs_model.specs.Effects.{effects}
use Rattle.zs_model.specs.Received.{AreSpelled}
use Rattle.zs_model.specs.Tokens.{remote_tokens}
use Rattle.zs_delivery.specs.declared.side.LinkSide.TheVariants.{A, B}
use Rattle.zs_delivery.specs.Linked.{Side, LinkLine, Take, Deliver, other, linked_after}
use Rattle.zs_delivery.specs.Links.{AreSpelledLines}
use Rattle.zs_delivery.specs.Tokens.{token_now, told_as}
use Rattle.zs_members.specs.Members.{count_of}
use Rattle.zs_members.specs.Names.{name_in}
use Rattle.zs_group_lines.specs.declared.membership.Membership.{Membership}
use Rattle.zs_group_lines.specs.declared.tokens.Token.{Token}
use Rattle.zs_group_lines.specs.Membership.{hearer, nobody, noted, view_of}

-- a side declares first the liveliness subscriber by which it hears of the other's tokens
abbrev pub hearing : Event
hearing = Lsub true (Text (chars (codes "group/*")))

abbrev pub first_events : List Event
first_events = hearing ∷ []

-- both sides do, the first side first; the newest first
abbrev pub first_links : List LinkLine
first_links = Take B hearing ∷ Take A hearing ∷ []

abbrev pub hearer_row : LivelinessSub
hearer_row = record { id = hearer; history = true; key = undeclared (codes "group/*") }

-- a session of these settings is open behind that, and has this liveliness subscriber alone
pub record Starts (s : Settings) : Type 0 where
  pub unshut : is_closed (past_of s first_events) ≡ false
  pub subs : live_lsubs (past_of s first_events) ≡ hearer_row ∷ []

-- so do the sessions of a program
pub record DefaultSessionsStart : Type 0 where
  pub first : Starts default_settings
  pub second : Starts (other default_settings)

-- the turn of an event behind a history
unfoldable pub turn_behind : Settings → List Event → Event → Turn
turn_behind s h e = effects s h e

-- what the turns of a history leave in the membership of its side
abbrev pub kept : Settings → List Event → Membership
kept s [] = nobody
kept s (e ∷ h) = noted e (turn_behind s h e) (kept s h)

-- what a side takes by itself behind its first event: tokens on texts, and their ends
abbrev pub IsText : KeyArg → Type 0
IsText (Text text) = Unit {0}
IsText key = ⊥

abbrev pub IsTokenKind : EntityKind → Type 0
IsTokenKind token_kind = Unit {0}
IsTokenKind kind = ⊥

abbrev pub IsMemberEvent : Event → Type 0
IsMemberEvent (token_event key) = IsText key
IsMemberEvent (Undeclare kind id) = IsTokenKind kind
IsMemberEvent e = ⊥

abbrev pub IsMemberLine : LinkLine → Type 0
IsMemberLine (Take side e) = IsMemberEvent e
IsMemberLine (Deliver from) = Unit {0}

abbrev pub AreMemberLines : List LinkLine → Type 0
AreMemberLines lines = AllByRecursion IsMemberLine lines

-- whether a key stands for a name
abbrev pub stands_for : List ℕ → Option (List ℕ) → Bool
stands_for name None = false
stands_for name (Some other) = bytes_eq name other

abbrev pub one_if : Bool → ℕ → ℕ
one_if there count = if there then count + 1 else count

-- how many of the tokens that a side holds stand for a name
abbrev pub held_count : List ℕ → List Token → ℕ
held_count name [] = 0
held_count name (token ∷ tokens) = one_if (stands_for name (name_in (encode_utf8_all token.key))) (held_count name tokens)

-- and how many of those that it was told and that were not ended
abbrev pub remote_token_count : List ℕ → List RemoteToken → ℕ
remote_token_count name [] = 0
remote_token_count name (token ∷ tokens) = one_if (stands_for name (name_in token.key.text)) (remote_token_count name tokens)

-- a side sees of each name as many as it holds and as it was told
abbrev pub SeesMembers : Settings → Side → Type 0
SeesMembers s side =
    (name : List ℕ) → count_of name (view_of (kept s side.history)) ≡ held_count name (kept s side.history).tokens + remote_token_count name (remote_tokens s (past_of s side.history))

-- a token that a side holds, as the other is told of it
abbrev pub told_of : Token → RemoteToken
told_of token = told_as token.id (encode_utf8_all token.key)

abbrev pub as_told : List Token → List RemoteToken
as_told tokens = map told_of tokens

-- the tokens that a side holds are those that its accepted events declared and did not end: under each number that one, and they ascend
pub record HoldsDeclared (past : List Entry) (tokens : List Token) : Type 0 where
  pub ascend : Ascend (λ token. token.number) (as_told tokens)
  pub declared : (id : ℕ) → find (λ token. token.number == id) (as_told tokens) ≡ option_map (told_as id) (token_now id past)

abbrev pub HoldsMembers : Settings → Side → Type 0
HoldsMembers s side = HoldsDeclared (past_of s side.history) (kept s side.history).tokens

-- where nothing of the other waits, a side sees of each name as many as both hold
abbrev pub SeesAll : Settings → Settings → Side → Side → Type 0
SeesAll s t side opposite =
    opposite.waiting ≡ [] → (name : List ℕ)
    → count_of name (view_of (kept s side.history)) ≡ held_count name (kept s side.history).tokens + held_count name (kept t opposite.history).tokens

-- both sides do; and where nothing waits, they see all, and the same
pub record BothSee (s : Settings) (a b : Side) : Type 0 where
  pub of_a : SeesMembers s a
  pub of_b : SeesMembers (other s) b
  pub holds_a : HoldsMembers s a
  pub holds_b : HoldsMembers (other s) b
  pub all_a : SeesAll s (other s) a b
  pub all_b : SeesAll (other s) s b a
  pub same : a.waiting ≡ [] → b.waiting ≡ [] → view_of (kept s a.history) ≡ view_of (kept (other s) b.history)

-- behind every schedule
abbrev pub SidesSeeMembers : Type 0
SidesSeeMembers =
    (s : Settings) (lines : List LinkLine) → AreSpelled s → Starts s → Starts (other s) → AreMemberLines lines → AreSpelledLines lines
    → BothSee s (linked_after s (lines ++ first_links)).a (linked_after s (lines ++ first_links)).b
