-- Behind every history each group of subscribers has a subscription that was sent and not ended, and so each subscriber that the
-- network is told of is covered.
use Rattle.std.proofs.Common.{◌≡◌, ◌≤◌, ℕ, ◌+◌, List, [], ◌∷◌, ◌++◌, Bool, true, false, Option, Some, None, refl, sym, ◌∙◌, ap, subst, arith, length, map, cond}
use Rattle.std.specs.Prelude.{◌==◌, ◌&&◌, ◌||◌, filter, option_map, if◌then◌else◌, IsUtf8}
use Rattle.std.specs.List.{AllByRecursion, list_any, find}
use Rattle.std.specs.Option.{IfSome}
use Rattle.std.proofs.lemmas.Bool.Decides.{nat_tests}
use Rattle.std.proofs.lemmas.Slice.Eq.{bytes_eq-Decides}
use Rattle.zs_keys.specs.Key.{Key as a_key, undeclared}
use Rattle.zs_wire.specs.declared.message.Message.{Message}
use Rattle.zs_wire.specs.declared.message.Message.TheVariants.{DeclareSubscriber, Close as close_message}
use Rattle.zs_wire.specs.declared.wire_expr.WireExpr.{WireExpr}
use Rattle.zs_sample.specs.declared.locality.Locality.{Locality}
use Rattle.zs_tables.specs.Groups.{Group, number_of_group, members_of, joined, left}
use Rattle.zs_subscriptions.specs.Recipients.{has_network}
use Rattle.zs_tables.specs.Types.{Subscribers}
use Rattle.zs_subscriptions.specs.declared.subscriber.SubRow.{SubRow}
use Rattle.zs_events.specs.declared.event.Event.{Event}
use Rattle.zs_events.specs.declared.event.Event.TheVariants.{Sub, Undeclare, Close, Net}
use Rattle.zs_events.specs.declared.entity_kind.EntityKind.TheVariants.{Sub as sub_kind}
use Rattle.zs_events.specs.declared.chan.Chan.{Chan}
use Rattle.zs_events.specs.declared.key_arg.KeyArg.{KeyArg}
use Rattle.zs_events.specs.declared.turn.Kind.TheVariants.{Subscriber}
use Rattle.zs_events.specs.Kinds.{NamedKey, Question, ToGets, NoGet, Asks, AsksBy, Answers, EndsSide, Reaches, EndsQuerier, Cancels, EndsAll, ToValues, row_of}
use Rattle.zs_model.specs.declared.publisher.PubRow.{PubRow}
use Rattle.zs_model.specs.declared.settings.Settings.{Settings}
use Rattle.zs_world.specs.declared.change.Change.{Change}
use Rattle.zs_world.specs.declared.change.Change.TheVariants.{OfEntities, Shut, OfLiveliness}
use Rattle.zs_world.specs.declared.change.EntityChange.TheVariants.{Add as AddEntity, End as EndEntity}
use Rattle.zs_world.specs.declared.change.EntityRow.TheVariants.{Sub as new_sub}
use Rattle.zs_world.specs.declared.change.Decision.{Decision}
use Rattle.zs_world.specs.World.{World}
use Rattle.zs_model.specs.Entry.{Entry}
use Rattle.zs_model.specs.Live.{drew, ends}
use Rattle.zs_model.specs.Past.{past_of}
use Rattle.zs_world.specs.Keys.{key_of}
use Rattle.zs_model.specs.Subscribers.{sub_at}
use Rattle.zs_model.specs.Groups.{is_empty, Shared, share_text, shares, sharing, sub_shared, company_at, sends_if, last_sends, leaving, left_found, subscriber_end}
use Rattle.zs_model.specs.Sends.{OwnKeys, group_wire, wire_form, declaration_of, sends_of}
use Rattle.zs_query.specs.Types.{QueryValue}
use Rattle.zs_model.specs.GetEffects.{asked_effects, request_effects}
use Rattle.zs_model.specs.ValueEffects.{Answering, value_effects}
use Rattle.zs_model.specs.Effects.{Known, to_gets_for, draws_of, answering, key_wire, entity_sends, effects}
use Rattle.zs_world.specs.Changes.{change_for, added, with_change}
use Rattle.zs_world.specs.Decisions.{text_for, number_for, known_at, decision}
use Rattle.zs_standing.specs.Stands.{world_of, world_after}
use Rattle.zs_model.specs.Received.{messages_of, sent_behind, sent, read_as, spoken_by, spoken_text, AreReadAs, AreSpelled, AreUtf8}
use Rattle.zs_model.specs.Covered.{subscription_text, covers, IsCovered}
use Rattle.zs_standing.specs.Laws.{SubscribersAreCovered}
use Rattle.zs_model.proofs.Filters.{all_weaker}
use Rattle.zs_standing.proofs.Decisions.{entry_for, cases}
use Rattle.zs_standing.proofs.Saying.{IsMade}
use Rattle.zs_standing.proofs.Changes.{made}
use Rattle.zs_standing.proofs.Watching.{never_down}
use Rattle.zs_model.proofs.Groups.{AreApart}
use Rattle.zs_standing.proofs.GroupNumbers.{AreShared}
use Rattle.zs_standing.proofs.Stands.{AreStanding, standing, same_text, steps}
use Rattle.zs_laws.proofs.SentMessages.{same_messages, asked_by, answered_by, told_by_event, value_cases, all_messages, behind_both}
use Rattle.zs_laws.proofs.Reading.{request_cases}
use Rattle.zs_laws.proofs.Received.{keys_read}
use Rattle.zs_laws.proofs.CoveredGroups.{AreSubscribed, number_there, subscribed_more, subscribed_less}
use Rattle.zs_laws.proofs.CoveredKeys.{shared_includes}
use Rattle.zs_laws.proofs.Sends.{Announced, ASubscriber, announcement, announced_wire, Retracted, OfSubscriber, retraction, announced, retracted, entity_cases, sends_cases}

-- messages of which none declares a subscription or ends one
abbrev AreBeside : List Message → Type 0
AreBeside ms = (before : List Message) (n : ℕ) → subscription_text n (sent_behind ms before) ≡ subscription_text n before

beside_sends : (k : OwnKeys) (pubs : List PubRow) (number : Option ℕ) (text : Option (List ℕ)) (e : Event) → AreBeside (messages_of (sends_of k pubs number text e))
beside_sends k pubs number text e =
    sends_cases (λ fx. AreBeside (messages_of fx)) (λ before n. refl) k pubs number text e
    (λ m t drew named before n. refl) (λ m before n. refl) (λ before n. refl) (λ t c named is sent before n. refl)

beside_asked : (default : ℕ) (k : OwnKeys) (key : NamedKey) (values : List QueryValue) (number : Option ℕ) (text : Option (List ℕ)) (q : Question)
    → AreBeside (messages_of (asked_effects default k key values number text q))
beside_asked default k key values None None q = λ before n. refl
beside_asked default k key values None (Some text) q = λ before n. refl
beside_asked default k key values (Some number) None q = λ before n. refl
beside_asked default k key values (Some number) (Some text) q =
    request_cases AreBeside (λ before n. refl) default (wire_form k text (declaration_of k text key)) number q values (λ before n. refl)

beside_request : (default : ℕ) (k : OwnKeys) (key : NamedKey) (values : List QueryValue) (number : Option ℕ) (text : Option (List ℕ)) (to : ToGets) → AreBeside (messages_of (request_effects default k key values number text to))
beside_request default k key values number text (Asks q) = beside_asked default k key values number text q
beside_request default k key values number text NoGet = λ before n. refl
beside_request default k key values number text (AsksBy id q) = λ before n. refl
beside_request default k key values number text (EndsQuerier id) = λ before n. refl
beside_request default k key values number text (Cancels token) = λ before n. refl
beside_request default k key values number text (Answers response) = λ before n. refl
beside_request default k key values number text (EndsSide rid) = λ before n. refl
beside_request default k key values number text (Reaches moment) = λ before n. refl
beside_request default k key values number text EndsAll = λ before n. refl

-- nor does an answer
beside_answer : (a : Answering) (key : NamedKey) (drawn : List QueryValue) (text : Option (List ℕ)) (to : ToValues) → AreBeside (messages_of (value_effects a key drawn text to))
beside_answer a key drawn text to = value_cases AreBeside (λ before n. refl) (λ r before n. refl) (λ rid before n. refl) a key drawn text to

-- nor does what is sent of any entity but a subscriber
beside_begun : (what : Announced) (id : ℕ) (wire : WireExpr) → (what ≡ ASubscriber → ⊥) → AreBeside (announcement what id wire ∷ [])
beside_begun ASubscriber id wire other = absurd (other refl)
beside_begun what id wire other = λ before n. refl

beside_ended : (what : Retracted) (id : ℕ) → (what ≡ OfSubscriber → ⊥) → AreBeside (retraction what id ∷ [])
beside_ended OfSubscriber id other = absurd (other refl)
beside_ended what id other = λ before n. refl

beside_entity : (known : Known) (e : Event) (number : Option ℕ) (text : Option (List ℕ)) → ((announced e ≡ Some ASubscriber) → ⊥) → ((retracted e ≡ Some OfSubscriber) → ⊥)
    → AreBeside (messages_of (entity_sends known e number text))
beside_entity known e number text begins ends =
    entity_cases (λ fx. AreBeside (messages_of fx)) (λ before n. refl) known e number text
    (λ what id t key is named. beside_begun what id (announced_wire known what t key) (λ same. begins (is ∙ ap (λ (a : Announced). Some a) same)))
    (λ what id is. beside_ended what id (λ same. ends (is ∙ ap (λ (r : Retracted). Some r) same)))

-- the groups of a world's subscribers, each with its subscription
abbrev Covers : World → List Message → Type 0
Covers w messages = AreSubscribed w.groups.subscribers w.counters.entity messages

beside_covers : (gs : List Group) (next after : ℕ) (ms before : List Message) → AreBeside ms → next ≤ after → AreSubscribed gs next before → AreSubscribed gs after (sent_behind ms before)
beside_covers gs next after ms before aside up are = record {
  stands = λ text n is. aside before n ∙ are.stands text n is;
  below = λ text n is. omega (arith, are.below text n is, up);
}

-- a change of no subscriber leaves their groups
same_number : (n : ℕ) → (n == n) ≡ true
same_number n = grind (arith, nat_tests)

same : (n : ℕ) → n ≤ n
same n = omega arith

unmoved : (w : World) (x : Entry) (c : Change) → IsMade w x c → ((id : ℕ) → drew Subscriber id x.event x.number ≡ false) → ((id : ℕ) → ends Subscriber id x.event ≡ false)
    → ((with_change c w).groups.subscribers ≡ w.groups.subscribers) × (w.counters.entity ≤ (with_change c w).counters.entity)
unmoved w x (OfEntities (AddEntity (new_sub row))) m drew ended = let no : true ≡ false = sym (same_number row.id) ∙ sym (m.entities.subs.drew row.id) ∙ drew row.id in cc
unmoved w x (OfEntities (EndEntity sub_kind id)) m drew ended = let no : true ≡ false = sym (same_number id) ∙ sym (m.entities.subs.ended id) ∙ ended id in cc
unmoved w x Shut m drew ended = let no : true ≡ false = sym (m.entities.subs.ended 0) ∙ ended 0 in cc
unmoved w x (OfEntities (AddEntity row)) m drew ended = (refl, omega arith)
unmoved w x (OfLiveliness change) m drew ended = (refl, never_down change w.counters.entity)
unmoved w x c m drew ended = (refl, same w.counters.entity)

kept : (w : World) (e : Event) (ms before : List Message) → IsMade w (entry_for w e) (change_for w e) → AreBeside ms
    → ((id : ℕ) → drew Subscriber id e (number_for w e) ≡ false) → ((id : ℕ) → ends Subscriber id e ≡ false)
    → Covers w before → Covers (with_change (change_for w e) w) (sent_behind ms before)
kept w e ms before m aside drew ended are =
    let stay = unmoved w (entry_for w e) (change_for w e) m drew ended in
    subst (λ (gs : List Group). AreSubscribed gs (with_change (change_for w e) w).counters.entity (sent_behind ms before)) (sym stay.0)
    (beside_covers w.groups.subscribers w.counters.entity (with_change (change_for w e) w).counters.entity ms before aside stay.1 are)

-- a subscriber that is declared
join_told : (s : Settings) (text : List ℕ) (id : ℕ) (wire : WireExpr) (gs : List Group) (before : List Message) → AreApart gs → AreSubscribed gs id before → (told : Bool)
    → AreReadAs s (Some text) before (messages_of (sends_if (told && length (members_of (share_text s.aggregated_subscribers text) gs) == 0) (DeclareSubscriber id wire)))
    → AreSubscribed (if told then joined (share_text s.aggregated_subscribers text) id gs else gs) (id + 1)
    (sent_behind (messages_of (sends_if (told && length (members_of (share_text s.aggregated_subscribers text) gs) == 0) (DeclareSubscriber id wire))) before)
join_told s text id wire gs before apart are false read = beside_covers gs id (id + 1) [] before (λ before n. refl) (omega arith) are
join_told s text id wire gs before apart are true read =
    subscribed_more (share_text s.aggregated_subscribers text) id wire gs before apart are
    (length (members_of (share_text s.aggregated_subscribers text) gs) == 0) refl (reads (length (members_of (share_text s.aggregated_subscribers text) gs) == 0) read)
  where
    reads : (f : Bool) → AreReadAs s (Some text) before (messages_of (sends_if f (DeclareSubscriber id wire))) → f ≡ true → read_as before wire ≡ Some (share_text s.aggregated_subscribers text)
    reads true read is = read.0
    reads false read is = cc

join : (w : World) (origin : Locality) (key : KeyArg) (to : Chan) (text : Option (List ℕ)) (before : List Message) → AreShared w
    → AreReadAs w.settings text before (messages_of (entity_sends (known_at w) (Sub origin key to) (Some w.counters.entity) text)) → Covers w before
    → Covers (with_change (added (λ t. new_sub (record { id = w.counters.entity; origin = origin; key = undeclared t })) text) w) (sent_behind (messages_of (entity_sends (known_at w) (Sub origin key to) (Some w.counters.entity) text)) before)
join w origin key to None before shared read are = are
join w origin key to (Some text) before shared read are =
    join_told w.settings text w.counters.entity (group_wire w.settings.aggregated_subscribers text (key_wire (known_at w).keys text key)) w.groups.subscribers before
    shared.subs.apart are (has_network origin) read

-- one that is undeclared is a member of its group
is_member : (aggregates : List a_key) (own : List ℕ) (id : ℕ) (rows : List SubRow) (row : SubRow) → find (λ r. r.id == id) rows ≡ Some row → shares aggregates own (sub_shared row) ≡ true
    → list_any (λ n. n == row.id) (sharing aggregates own (map sub_shared rows)) ≡ true
is_member aggregates own id [] row found with_it = cc
is_member aggregates own id (r ∷ rows) row found with_it = go (r.id == id) found (is_member aggregates own id rows row)
  where
    ids : List Shared → List ℕ
    ids xs = map (λ (x : Shared). x.id) xs

    here : (b : Bool) → r ≡ row → shares aggregates own (sub_shared r) ≡ b
        → list_any (λ n. n == row.id) (ids (cond b (sub_shared r ∷ filter (shares aggregates own) (map sub_shared rows)) (filter (shares aggregates own) (map sub_shared rows)))) ≡ true
    here true is e = rw (is, same_number row.id) refl
    here false is e = let no : true ≡ false = sym with_it ∙ ap (λ (q : SubRow). shares aggregates own (sub_shared q)) (sym is) ∙ e in cc

    later : (b : Bool) → list_any (λ n. n == row.id) (sharing aggregates own (map sub_shared rows)) ≡ true
        → list_any (λ n. n == row.id) (ids (cond b (sub_shared r ∷ filter (shares aggregates own) (map sub_shared rows)) (filter (shares aggregates own) (map sub_shared rows)))) ≡ true
    later true rest = rw rest (or_true (r.id == row.id))
      where
        or_true : (b : Bool) → (b || true) ≡ true
        or_true true = refl
        or_true false = refl
    later false rest = rest

    go : (b : Bool) → (if b then Some r else find (λ q. q.id == id) rows) ≡ Some row
        → (find (λ q. q.id == id) rows ≡ Some row → shares aggregates own (sub_shared row) ≡ true → list_any (λ n. n == row.id) (sharing aggregates own (map sub_shared rows)) ≡ true)
        → list_any (λ n. n == row.id) (sharing aggregates own (map sub_shared (r ∷ rows))) ≡ true
    go true found ih = let is : r ≡ row = cc in here (shares aggregates own (sub_shared r)) is refl
    go false found ih = later (shares aggregates own (sub_shared r)) (ih found with_it)

leave : (w : World) (id : ℕ) (found : Option SubRow) (before : List Message) → sub_at id w.entities.subs ≡ found → AreShared w → Covers w before
    → AreSubscribed (left_found w.settings.aggregated_subscribers (option_map sub_shared found) w.groups.subscribers) w.counters.entity
    (sent_behind (messages_of (leaving (company_at w.settings w.groups Subscribers) subscriber_end (option_map sub_shared found))) before)
leave w id None before at shared are = are
leave w id (Some row) before at shared are = go (has_network row.origin) refl
  where
    own : List ℕ
    own = share_text w.settings.aggregated_subscribers row.key.text

    with_it : has_network row.origin ≡ true → shares w.settings.aggregated_subscribers own (sub_shared row) ≡ true
    with_it told = rw (told, (bytes_eq-Decides own own).1 refl) refl

    go : (b : Bool) → has_network row.origin ≡ b
        → AreSubscribed (if b then left own row.id w.groups.subscribers else w.groups.subscribers) w.counters.entity
        (sent_behind (messages_of (last_sends subscriber_end (if b && length (members_of own w.groups.subscribers) == 1 then number_of_group own w.groups.subscribers else None))) before)
    go false told = are
    go true told =
        subscribed_less own row.id w.groups.subscribers w.counters.entity before shared.subs.apart
        (ap (list_any (λ n. n == row.id)) (shared.subs.members own) ∙ is_member w.settings.aggregated_subscribers own id w.entities.subs row at (with_it told)) are
        (length (members_of own w.groups.subscribers) == 1) refl

-- what the messages of an event name, by the tables
abbrev spoken_at : World → Event → Option (List ℕ)
spoken_at w e = spoken_by w.handing.values (row_of e).to_values (text_for w e)

-- so behind an event that is accepted
group_step : (w : World) (e : Event) (before : List Message) → AreShared w → IsMade w (entry_for w e) (change_for w e)
    → AreReadAs w.settings (spoken_at w e) before (messages_of (entity_sends (known_at w) e (number_for w e) (text_for w e))) → Covers w before
    → Covers (with_change (change_for w e) w) (sent_behind (messages_of (entity_sends (known_at w) e (number_for w e) (text_for w e))) before)
group_step w (Sub origin key to) before shared m read are = join w origin key to (key_of w key) before shared read are
group_step w (Undeclare sub_kind id) before shared m read are = leave w id (sub_at id w.entities.subs) before refl shared are
group_step w Close before shared m read are = record { stands = λ text n is. cc; below = λ text n is. cc }
group_step w (Net close_message) before shared m read are = kept w (Net close_message) [] before m (λ before n. refl) (λ n. refl) (λ n. refl) are
group_step w e before shared m read are =
    kept w e (messages_of (entity_sends (known_at w) e (number_for w e) (text_for w e))) before m
    (beside_entity (known_at w) e (number_for w e) (text_for w e) (λ is. cc) (λ is. cc)) (λ n. refl) (λ n. refl) are

read_behind : (s : Settings) (text : Option (List ℕ)) (before xs ys : List Message) → AreReadAs s text before (xs ++ ys) → AreReadAs s text (sent_behind xs before) ys
read_behind s text before [] ys read = read
read_behind s text before (x ∷ xs) ys read = read_behind s text (x ∷ before) xs ys read.1

event_step : (w : World) (e : Event) (before : List Message) → AreShared w → IsMade w (entry_for w e) (change_for w e)
    → AreReadAs w.settings (spoken_at w e) before (told_by_event (known_at w) (number_for w e) (text_for w e) e) → Covers w before
    → Covers (with_change (change_for w e) w) (sent_behind (told_by_event (known_at w) (number_for w e) (text_for w e) e) before)
event_step w e before shared m read are =
    let drawn = draws_of (known_at w) (number_for w e) (text_for w e) e in
    let asked = asked_by (known_at w) (number_for w e) (text_for w e) e in
    let answered = answered_by (known_at w) (number_for w e) (text_for w e) e in
    let xs = messages_of (sends_of (known_at w).keys (known_at w).pubs (number_for w e) (text_for w e) e) in
    let ys = messages_of (entity_sends (known_at w) e (number_for w e) (text_for w e)) in
    let first : Covers w (sent_behind asked before) =
    beside_covers w.groups.subscribers w.counters.entity w.counters.entity asked before
    (beside_request (known_at w).timeout (known_at w).keys (row_of e).key drawn (number_for w e) (text_for w e) (to_gets_for (known_at w) e)) (same w.counters.entity) are in
    let second : Covers w (sent_behind answered (sent_behind asked before)) =
    beside_covers w.groups.subscribers w.counters.entity w.counters.entity answered (sent_behind asked before)
    (beside_answer (answering (known_at w)) (row_of e).key drawn (text_for w e) (row_of e).to_values) (same w.counters.entity) first in
    let behind : Covers w (sent_behind xs (sent_behind answered (sent_behind asked before))) =
    beside_covers w.groups.subscribers w.counters.entity w.counters.entity xs (sent_behind answered (sent_behind asked before))
    (beside_sends (known_at w).keys (known_at w).pubs (number_for w e) (text_for w e) e) (same w.counters.entity) second in
    subst (λ (ms : List Message). Covers (with_change (change_for w e) w) ms)
    (sym (behind_both asked (answered ++ (xs ++ ys)) before ∙ behind_both answered (xs ++ ys) (sent_behind asked before) ∙ behind_both xs ys (sent_behind answered (sent_behind asked before))))
    (group_step w e (sent_behind xs (sent_behind answered (sent_behind asked before))) shared m
    (read_behind w.settings (spoken_at w e) (sent_behind answered (sent_behind asked before)) xs ys
    (read_behind w.settings (spoken_at w e) (sent_behind asked before) answered (xs ++ ys) (read_behind w.settings (spoken_at w e) before asked (answered ++ (xs ++ ys)) read))) behind)

-- which is what the past tells
spoken_is : (s : Settings) (w : World) (past : List Entry) (e : Event) → AreStanding s w past → spoken_at w e ≡ spoken_text past e
spoken_is s w past e st =
    let text = same_text s w past e st in
    let handing = st.handing in
    λ i. spoken_by (handing i).values (row_of e).to_values (text i)

-- behind each history each group has its subscription
pub covers_after : (s : Settings) (h : List Event) → AreSpelled s → AreUtf8 (past_of s h) → Covers (world_after s h) (sent s h)
covers_after s [] = λ spelled utf8. record { stands = λ text n is. cc; below = λ text n is. cc }
covers_after s (e ∷ h) = λ spelled utf8.
    let w = world_after s h in
    let st = standing s h in
    let Reads = λ (ms : List Message). AreUtf8 (past_of s h) → IfSome (text_for w e) IsUtf8 → AreReadAs w.settings (spoken_at w e) (sent s h) ms in
    let P = λ (d : Decision) (past : List Entry). AreUtf8 past → Reads (messages_of d.turn.effects) → Covers (world_of s past) (sent_behind (messages_of d.turn.effects) (sent s h)) in
    let reads : Reads (messages_of (decision w e).turn.effects) = λ utf8 own.
    subst (AreReadAs w.settings (spoken_at w e) (sent s h)) (sym (same_messages s w (past_of s h) e st))
    (subst (λ (o : Option (List ℕ)). AreReadAs w.settings o (sent s h) (messages_of (effects s h e).effects)) (sym (spoken_is s w (past_of s h) e st))
    (subst (λ (t : Settings). AreReadAs t (spoken_text (past_of s h) e) (sent s h) (messages_of (effects s h e).effects)) (sym st.settings)
    (keys_read s h e spelled utf8 (subst (λ (o : Option (List ℕ)). IfSome o IsUtf8) (same_text s w (past_of s h) e st) own)))) in
    subst (λ (ms : List Message). Covers (world_after s (e ∷ h)) (sent_behind ms (sent s h))) (same_messages s w (past_of s h) e st)
    (steps s h e P (cases w e (past_of s h) P
    (λ refusal number fx c utf8 read. covers_after s h spelled utf8)
    (λ shut utf8 read. covers_after s h spelled utf8)
    (λ unshut accepted utf8 read.
    subst (λ (ms : List Message). Covers (with_change (change_for w e) w) (sent_behind ms (sent s h))) (sym (all_messages w e))
    (event_step w e (sent s h) st.shared (made w e unshut accepted)
    (subst (AreReadAs w.settings (spoken_at w e) (sent s h)) (all_messages w e) (read utf8.1 utf8.0)) (covers_after s h spelled utf8.1))))
    utf8 reads)

-- each subscriber that the network is told of is in a group that has members
in_groups : (aggregates : List a_key) (rows all : List SubRow)
    → ((text : List ℕ) → is_empty (sharing aggregates text (map sub_shared rows)) ≡ false → is_empty (sharing aggregates text (map sub_shared all)) ≡ false)
    → AllByRecursion (λ row. has_network row.origin ≡ true → is_empty (sharing aggregates (share_text aggregates row.key.text) (map sub_shared all)) ≡ false) rows
in_groups aggregates [] all up = tt
in_groups aggregates (row ∷ rows) all up = ((λ told. up (share_text aggregates row.key.text) (here told)), in_groups aggregates rows all (λ text some. up text (later text (shares aggregates text (sub_shared row)) some)))
  where
    own : List ℕ
    own = share_text aggregates row.key.text

    here : has_network row.origin ≡ true → is_empty (sharing aggregates own (map sub_shared (row ∷ rows))) ≡ false
    here told = rw (told, (bytes_eq-Decides own own).1 refl) refl

    later : (text : List ℕ) (b : Bool) → is_empty (sharing aggregates text (map sub_shared rows)) ≡ false
        → is_empty (map (λ (x : Shared). x.id) (cond b (sub_shared row ∷ filter (shares aggregates text) (map sub_shared rows)) (filter (shares aggregates text) (map sub_shared rows)))) ≡ false
    later text true some = refl
    later text false some = some

pub covered : SubscribersAreCovered
covered s h spelled utf8 =
    let w = world_after s h in
    let st = standing s h in
    let are : Covers w (sent s h) = covers_after s h spelled utf8 in
    let aggregates = w.settings.aggregated_subscribers in
    subst (λ (rows : List SubRow). AllByRecursion (λ row. has_network row.origin ≡ true → IsCovered (sent s h) row.key.text) rows) st.live.subs.table
    (all_weaker (λ row. has_network row.origin ≡ true → is_empty (sharing aggregates (share_text aggregates row.key.text) (map sub_shared w.entities.subs)) ≡ false)
    (λ row. has_network row.origin ≡ true → IsCovered (sent s h) row.key.text)
    (λ row some told.
    let its = number_there (share_text aggregates row.key.text) w.groups.subscribers (ap is_empty (st.shared.subs.members (share_text aggregates row.key.text)) ∙ some told) in
    (its.0, ap (covers row.key.text) (are.stands (share_text aggregates row.key.text) its.0 its.1) ∙ shared_includes aggregates row.key.text))
    w.entities.subs (in_groups aggregates w.entities.subs w.entities.subs (λ text some. some)))
