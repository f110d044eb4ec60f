-- What an event sends, case by case: of an entity nothing, a declaration or an end, and beside that a key, the end of one, a
-- publication or the close. Proofs on what is sent stand on these, and need not walk the kinds of events.
use Rattle.std.proofs.Common.{◌≡◌, ℕ, List, [], ◌∷◌, Bool, true, false, Option, Some, None, refl}
use Rattle.std.specs.Prelude.{option_map, is_some, nat_le, if◌then◌else◌}
use Rattle.zs_keys.specs.Key.{Key as a_key}
use Rattle.zs_wire.specs.declared.interest.InterestMode.{InterestMode}
use Rattle.zs_wire.specs.declared.interest.InterestMode.TheVariants.{CurrentFuture, Current, Final}
use Rattle.zs_wire.specs.declared.interest.InterestWhat.TheVariants.{Subscribers as of_subscribers, Queryables as of_queryables, Tokens as of_tokens, Nothing as of_nothing}
use Rattle.zs_wire.specs.declared.message.Message.{Message}
use Rattle.zs_wire.specs.declared.message.Message.TheVariants.{DeclareKeyExpr, UndeclareKeyExpr, Close as close_message, DeclareSubscriber, UndeclareSubscriber, DeclareQueryable, UndeclareQueryable, DeclareToken, UndeclareToken, Interest}
use Rattle.zs_wire.specs.declared.wire_expr.WireExpr.{WireExpr}
use Rattle.zs_subscriptions.specs.Recipients.{has_network}
use Rattle.zs_tables.specs.Types.{Subscribers, Publishers, Queriers}
use Rattle.zs_tables.specs.declared.queryable.QueryableRow.{QueryableRow}
use Rattle.zs_events.specs.declared.event.Event.{Event}
use Rattle.zs_events.specs.declared.event.Event.TheVariants.{Key, UndeclareKey, Sub, Pub, Queryable, Querier, Undeclare, Close, Token, Lsub, LivelinessGet}
use Rattle.zs_events.specs.declared.entity_kind.EntityKind.TheVariants.{Sub as sub_kind, Pub as pub_kind, Queryable as queryable_sort, Querier as querier_sort, Token as token_sort, Lsub as lsub_sort}
use Rattle.zs_events.specs.declared.key_arg.KeyArg.{KeyArg}
use Rattle.zs_events.specs.declared.key_arg.KeyArg.TheVariants.{Text, Number, Declared as declared_text}
use Rattle.zs_events.specs.declared.publication.Content.{Content}
use Rattle.zs_events.specs.declared.turn.Effect.{Effect}
use Rattle.zs_events.specs.declared.turn.Effect.TheVariants.{Send}
use Rattle.zs_events.specs.Kinds.{NamedKey, Publishes, NoContent, OwnContent, ByPublisher, row_of}
use Rattle.zs_model.specs.declared.publisher.PubRow.{PubRow}
use Rattle.zs_model.specs.Subscribers.{sub_at}
use Rattle.zs_model.specs.Publishers.{pub_at, resolved}
use Rattle.zs_model.specs.Queryables.{queryable_at}
use Rattle.zs_model.specs.Queriers.{querier_at}
use Rattle.zs_model.specs.Groups.{Shared, sub_shared, pub_shared, querier_shared, Company, joins_first, last_number, sends_if, last_sends, leaving, subscriber_end, interest_end, querier_end}
use Rattle.zs_model.specs.Sends.{OwnKeys, full_wire, group_wire, wire_form, declaration_of, key_sends, return_sends_of, is_sent, push_with, publication_sends, sends_of}
use Rattle.zs_model.specs.Effects.{Known, key_wire, queryable_leaves, declared_sends, lsub_mode, token_interest, token_declaration, entity_sends}

-- what the network is told of when something is declared
pub data Announced : Type 0 where
  ASubscriber : Announced
  APublisher : Announced
  AQueryable : (complete : Bool) → Announced
  AQuerier : Announced
  AToken : Announced
  AnInterest : (mode : InterestMode) → Announced

-- by which message, given its number and the form of its key
abbrev pub announcement : Announced → ℕ → WireExpr → Message
announcement ASubscriber id wire = DeclareSubscriber id wire
announcement APublisher id wire = Interest id CurrentFuture of_subscribers (Some wire)
announcement (AQueryable complete) id wire = DeclareQueryable id complete wire
announcement AQuerier id wire = Interest id CurrentFuture of_queryables (Some wire)
announcement AToken id wire = DeclareToken id wire None
announcement (AnInterest mode) id wire = Interest id mode of_tokens (Some wire)

-- the aggregates that its key goes by
abbrev pub aggregates_for : Known → Announced → List a_key
aggregates_for known ASubscriber = (known.company Subscribers).aggregates
aggregates_for known APublisher = (known.company Publishers).aggregates
aggregates_for known what = []

-- so the form of that key
abbrev pub announced_wire : Known → Announced → List ℕ → KeyArg → WireExpr
announced_wire known what text key = group_wire (aggregates_for known what) text (key_wire known.keys text key)

-- what the network is told of when something ends
pub data Retracted : Type 0 where
  OfSubscriber : Retracted
  OfPublisher : Retracted
  OfQueryable : Retracted
  OfQuerier : Retracted
  OfToken : Retracted
  OfInterest : Retracted

-- and by which message
abbrev pub retraction : Retracted → ℕ → Message
retraction OfSubscriber id = UndeclareSubscriber id
retraction OfPublisher id = Interest id Final of_subscribers None
retraction OfQueryable id = UndeclareQueryable id
retraction OfQuerier id = Interest id Final of_nothing None
retraction OfToken id = UndeclareToken id None None
retraction OfInterest id = Interest id Final of_tokens None

-- what an event may tell the network in one of these ways
abbrev pub announced : Event → Option Announced
announced (Sub origin key to) = Some ASubscriber
announced (Pub key settings) = Some APublisher
announced (Queryable origin complete key) = Some (AQueryable complete)
announced (Querier key settings) = Some AQuerier
announced (Token key) = Some AToken
announced (Lsub history key) = Some (AnInterest (lsub_mode history))
announced (LivelinessGet key timeout token to) = Some (AnInterest Current)
announced e = None

abbrev pub retracted : Event → Option Retracted
retracted (Undeclare sub_kind id) = Some OfSubscriber
retracted (Undeclare pub_kind id) = Some OfPublisher
retracted (Undeclare queryable_sort id) = Some OfQueryable
retracted (Undeclare querier_sort id) = Some OfQuerier
retracted (Undeclare token_sort id) = Some OfToken
retracted (Undeclare lsub_sort id) = Some OfInterest
retracted e = None

-- what is sent under a condition, by who leaves a group, of a queryable, and with a number and a key
sent_if : (P : List Effect → Type 0) → P [] → (b : Bool) (message : Message) → P (Send message ∷ []) → P (sends_if b message)
sent_if P none true message holds = holds
sent_if P none false message holds = none

sent_leaving : (P : List Effect → Type 0) → P [] → (c : Company) (end : ℕ → Message) (x : Option Shared) → ((n : ℕ) → P (Send (end n) ∷ [])) → P (leaving c end x)
sent_leaving P none c end None holds = none
sent_leaving P none c end (Some x) holds = go (last_number c x)
  where
    go : (o : Option ℕ) → P (last_sends end o)
    go None = none
    go (Some n) = holds n

sent_queryable : (P : List Effect → Type 0) → P [] → (o : Option QueryableRow) → ((n : ℕ) → P (Send (UndeclareQueryable n) ∷ [])) → P (queryable_leaves o)
sent_queryable P none None holds = none
sent_queryable P none (Some row) holds = sent_if P none (has_network row.origin) (UndeclareQueryable row.id) (holds row.id)

sent_declared : (P : List Effect → Type 0) → P [] → (message : ℕ → WireExpr → Message) (k : OwnKeys) (number : Option ℕ) (text : Option (List ℕ)) (key : KeyArg)
    → ((id : ℕ) (t : List ℕ) → text ≡ Some t → P (Send (message id (key_wire k t key)) ∷ [])) → P (declared_sends message k number text key)
sent_declared P none message k (Some id) (Some text) key holds = holds id text refl
sent_declared P none message k (Some id) None key holds = none
sent_declared P none message k None text key holds = none

-- what holds of nothing, of what an event announces and of what it retracts holds of what it sends of an entity
pub entity_cases : (P : List Effect → Type 0) → P [] → (known : Known) (e : Event) (number : Option ℕ) (text : Option (List ℕ))
    → ((what : Announced) (id : ℕ) (t : List ℕ) (key : KeyArg) → announced e ≡ Some what → text ≡ Some t → P (Send (announcement what id (announced_wire known what t key)) ∷ []))
    → ((what : Retracted) (id : ℕ) → retracted e ≡ Some what → P (Send (retraction what id) ∷ []))
    → P (entity_sends known e number text)
entity_cases P none known (Sub origin key to) (Some id) (Some text) told ended =
    sent_if P none (joins_first (known.company Subscribers) (record { id = id; is_announced = has_network origin; text = text })) _ (told ASubscriber id text key refl refl)
entity_cases P none known (Pub key settings) (Some id) (Some text) told ended =
    sent_if P none (joins_first (known.company Publishers) (record { id = id; is_announced = has_network settings.destination; text = text })) _ (told APublisher id text key refl refl)
entity_cases P none known (Queryable origin complete key) (Some id) (Some text) told ended = sent_if P none (has_network origin) _ (told (AQueryable complete) id text key refl refl)
entity_cases P none known (Querier key settings) (Some id) (Some text) told ended =
    sent_if P none (joins_first (known.company Queriers) (record { id = id; is_announced = has_network settings.destination; text = text })) _ (told AQuerier id text key refl refl)
entity_cases P none known (Token key) number text told ended = sent_declared P none token_declaration known.keys number text key (λ id t is. told AToken id t key refl is)
entity_cases P none known (Lsub history key) number text told ended =
    sent_declared P none (token_interest (lsub_mode history)) known.keys number text key (λ id t is. told (AnInterest (lsub_mode history)) id t key refl is)
entity_cases P none known (LivelinessGet key timeout token to) number text told ended =
    sent_declared P none (token_interest Current) known.keys number text key (λ id t is. told (AnInterest Current) id t key refl is)
entity_cases P none known (Undeclare sub_kind id) number text told ended =
    sent_leaving P none (known.company Subscribers) subscriber_end (option_map sub_shared (sub_at id known.subs)) (λ n. ended OfSubscriber n refl)
entity_cases P none known (Undeclare pub_kind id) number text told ended =
    sent_leaving P none (known.company Publishers) interest_end (option_map pub_shared (pub_at id known.pubs)) (λ n. ended OfPublisher n refl)
entity_cases P none known (Undeclare querier_sort id) number text told ended =
    sent_leaving P none (known.company Queriers) querier_end (option_map querier_shared (querier_at id known.queriers)) (λ n. ended OfQuerier n refl)
entity_cases P none known (Undeclare queryable_sort id) number text told ended = sent_queryable P none (queryable_at id known.queryables) (λ n. ended OfQueryable n refl)
entity_cases P none known (Undeclare token_sort id) number text told ended = ended OfToken id refl
entity_cases P none known (Undeclare lsub_sort id) number text told ended = ended OfInterest id refl
entity_cases P none known e number text told ended = none

-- such an event sends nothing else
pub sends_alone : (k : OwnKeys) (pubs : List PubRow) (number : Option ℕ) (text : Option (List ℕ)) (e : Event) (what : Announced) → announced e ≡ Some what → sends_of k pubs number text e ≡ []
sends_alone k pubs number text Close what is = cc
sends_alone k pubs number text e what is = cc

pub ends_alone : (k : OwnKeys) (pubs : List PubRow) (number : Option ℕ) (text : Option (List ℕ)) (e : Event) (what : Retracted) → retracted e ≡ Some what → sends_of k pubs number text e ≡ []
ends_alone k pubs number text (Undeclare kind id) what is = refl
ends_alone k pubs number text e what is = cc

-- a publication is sent where it goes to the network
pub publication_cases : (P : List Effect → Type 0) → P [] → (k : OwnKeys) (key : NamedKey) (text : Option (List ℕ)) (p : Publishes)
    → ((t : List ℕ) (c : Content) → text ≡ Some t → p ≡ OwnContent c → is_sent c ≡ true → P (Send (push_with (wire_form k t (declaration_of k t key)) c) ∷ [])) → P (publication_sends k key text p)
publication_cases P none k key text NoContent holds = none
publication_cases P none k key None (OwnContent c) holds = none
publication_cases P none k key None (ByPublisher id c) holds = none
publication_cases P none k key (Some t) (ByPublisher id c) holds = none
publication_cases P none k key (Some t) (OwnContent c) holds = go (is_sent c) refl
  where
    go : (b : Bool) → is_sent c ≡ b → P (if b then Send (push_with (wire_form k t (declaration_of k t key)) c) ∷ [] else [])
    go true sent = holds t c refl refl sent
    go false sent = none

-- what holds of nothing, of a declared key, of one that is given back, of the close and of a publication holds of what an event sends beside
pub sends_cases : (P : List Effect → Type 0) → P [] → (k : OwnKeys) (pubs : List PubRow) (number : Option ℕ) (text : Option (List ℕ)) (e : Event)
    → ((n : ℕ) (t : List ℕ) → number ≡ Some n → text ≡ Some t → P (Send (DeclareKeyExpr n (full_wire t)) ∷ [])) → ((n : ℕ) → P (Send (UndeclareKeyExpr n) ∷ [])) → P (Send close_message ∷ [])
    → ((t : List ℕ) (c : Content) → text ≡ Some t → resolved pubs (row_of e).publishes ≡ OwnContent c → is_sent c ≡ true → P (Send (push_with (wire_form k t (declaration_of k t (row_of e).key)) c) ∷ []))
    → P (sends_of k pubs number text e)
sends_cases P none k pubs number text (Key key) declared returned closed pushed = go number text declared
  where
    if_new : (n : ℕ) (t : List ℕ) → P (Send (DeclareKeyExpr n (full_wire t)) ∷ []) → (b : Bool) → P (if b then [] else Send (DeclareKeyExpr n (full_wire t)) ∷ [])
    if_new n t holds true = none
    if_new n t holds false = holds

    go : (number : Option ℕ) (text : Option (List ℕ)) → ((n : ℕ) (t : List ℕ) → number ≡ Some n → text ≡ Some t → P (Send (DeclareKeyExpr n (full_wire t)) ∷ [])) → P (key_sends k number text)
    go number None declared = none
    go None (Some t) declared = none
    go (Some n) (Some t) declared = if_new n t (declared n t refl refl) (is_some (k.number_of t))
sends_cases P none k pubs number text (UndeclareKey key) declared returned closed pushed = go key
  where
    if_last : (n : ℕ) (b : Bool) → P (if b then Send (UndeclareKeyExpr n) ∷ [] else [])
    if_last n true = returned n
    if_last n false = none

    go : (key : KeyArg) → P (return_sends_of k key)
    go (Text text) = none
    go (Number n suffix) = if_last n (nat_le (k.count_of n) 1)
    go (declared_text text n prefix_len) = if_last n (nat_le (k.count_of n) 1)
sends_cases P none k pubs number text Close declared returned closed pushed = closed
sends_cases P none k pubs number text e declared returned closed pushed = publication_cases P none k (row_of e).key text (resolved pubs (row_of e).publishes) pushed
