-- What the tables are behind every history: one induction, by the changes of accepted events.
use Rattle.std.proofs.Common.{◌++◌, ◌≡◌, ◌+◌, ℕ, List, [], ◌∷◌, Bool, true, false, Option, Some, None, refl, sym, ◌∙◌, ap, subst}
use Rattle.std.specs.Prelude.{not, filter, ◌&&◌, ◌||◌, is_some, unwrap_or, if◌then◌else◌}
use Rattle.zs_events.specs.declared.event.Event.{Event}
use Rattle.zs_model.specs.declared.settings.Settings.{Settings}
use Rattle.zs_world.specs.declared.change.Change.{Change}
use Rattle.zs_world.specs.declared.change.Change.TheVariants.{Nothing, OfKeys, OfEntities, OfLiveliness}
use Rattle.zs_world.specs.declared.change.KeyChange.TheVariants.{Declare, Hold, Release}
use Rattle.zs_world.specs.declared.change.EntityChange.TheVariants.{Add as AddEntity}
use Rattle.zs_world.specs.declared.change.LivelinessChange.TheVariants.{AskTokens}
use Rattle.zs_world.specs.declared.change.Decision.{Decision}
use Rattle.zs_events.specs.declared.turn.Refusal.{Refusal}
use Rattle.zs_events.specs.declared.turn.Turn.{Turn}
use Rattle.zs_model.specs.Settings.{last_entity, last_query, last_key}
use Rattle.zs_events.specs.Turn.{answered}
use Rattle.zs_world.specs.World.{World}
use Rattle.zs_events.specs.Kinds.{Draws, NoNumber, EntityNumber, QueryNumber, ValueNumber, CancellationNumber, KeyNumber, StatusOf, Named, ToGets, asking_cancellation_token, cancellation_token_named, row_of}
use Rattle.zs_model.specs.Seen.{Sight}
use Rattle.zs_model.specs.Entry.{Entry, is_closed}
use Rattle.zs_model.specs.HeldKeys.{held_number, is_claimed, named_text}
use Rattle.zs_world.specs.Keys.{has_claim}
use Rattle.zs_model.specs.Matching.{remote_subscribers, remote_queryables, ends_unknown, turned, listener_effects}
use Rattle.zs_standing.proofs.Matched.{AreMatched, SaysMatching, matched_more, matched_none, status_is, untold_is, living_is, matched_is}
use Rattle.zs_standing.proofs.MatchingMade.{matching_made}
use Rattle.zs_world.proofs.Hearing.{between_same}
use Rattle.zs_model.specs.Listeners.{is_listener, listener_ends}
use Rattle.zs_world.specs.World.{present_at}
use Rattle.zs_events.specs.declared.turn.Effect.{Effect}
use Rattle.zs_model.specs.Live.{live_queryables, names_some, to_gets_of}
use Rattle.zs_query.specs.RequestTable.{Handing}
use Rattle.zs_model.specs.Values.{met_by, handing_of, values_now, last_value, lacks_values}
use Rattle.zs_model.specs.Answers.{is_owed, is_disjoint}
use Rattle.zs_model.proofs.Values.{handing_next, handing_more}
use Rattle.zs_tables.specs.Groups.{groups_of, number_of_group}
use Rattle.zs_tables.specs.Types.{GroupKind, Subscribers, Publishers, Queriers, RemoteToken}
use Rattle.zs_model.specs.Publishers.{pub_at}
use Rattle.zs_model.specs.Sends.{prefix_declaration}
use Rattle.zs_model.specs.Queriers.{querier_at, querier_declaration}
use Rattle.zs_model.specs.Cancelling.{last_cancellation_token, next_cancellation_token, is_drawn, is_any, is_among, is_taken}
use Rattle.zs_model.proofs.Cancelling.{AreCancelled, cancelled_more, cancelled_opened, any_told}
use Rattle.zs_model.specs.Groups.{aggregates_of, group_number, company_of, company_at}
use Rattle.zs_model.specs.Counters.{is_spent, draws_key, next_value, next_entity, next_key, lacks_number, drawn_number}
use Rattle.zs_model.specs.Causes.{past_sight, holds, in_order, first_that, refusal_of}
use Rattle.zs_model.specs.Past.{entry_of, with_entry, past_with, past_of}
use Rattle.zs_model.specs.Effects.{known_of, own_keys_of, effects_on, turn_of}
use Rattle.zs_world.specs.Changes.{with_change, change_for}
use Rattle.zs_world.specs.Decisions.{text_for, to_gets_at, finds, has_run_out, number_of, number_for, sight, closed_cause, open_cause, cause, own_keys_at, known_at, decision_of, open_decision, decision, effects_of, with_listeners, listener_effects_at}
use Rattle.zs_standing.specs.Stands.{world_of, world_after}
use Rattle.zs_world.specs.World.{new_world}
use Rattle.zs_standing.proofs.Decisions.{entry_for, past_with_by, cases}
use Rattle.zs_standing.proofs.Saying.{IsMade, adds, draws_by, draws_new}
use Rattle.zs_standing.proofs.Changes.{made}
use Rattle.zs_standing.proofs.Live.{AreLive, live_more, live_none, same_gets}
use Rattle.zs_model.proofs.Sharing.{grouped_none}
use Rattle.zs_standing.proofs.GroupNumbers.{AreShared, shared_more, members_are, number_next}
use Rattle.zs_standing.proofs.DeclaredKeys.{AreKnown, known_more, held_text_is, count_is}
use Rattle.zs_standing.proofs.Keys.{text_is, number_is, claim_is}
use Rattle.zs_standing.proofs.Causes.{is_first}
use Rattle.zs_query.specs.declared.open_get.OpenGet.{OpenGet}
use Rattle.zs_model.specs.Gets.{open_now, is_idle}
use Rattle.zs_model.proofs.Gets.{AreAsked, IsAskedUnder, asking_by, asked_more, asked_opened}
use Rattle.zs_model.specs.Tokens.{remote_tokens, is_spared, is_pointless}
use Rattle.zs_standing.proofs.Watching.{AreWatched, watched_more}

-- what the tables and counters are behind a past
pub record AreStanding (s : Settings) (w : World) (past : List Entry) : Type 0 where
  pub settings : w.settings ≡ s
  pub live : AreLive w past
  pub shared : AreShared w
  pub numbers : (kind : GroupKind) (text : List ℕ) → number_of_group text (groups_of kind w.groups) ≡ group_number s kind text past
  pub known : AreKnown w past
  pub entity : w.counters.entity ≡ next_entity s past
  pub key : w.counters.key ≡ next_key s past
  pub asking : AreAsked s w.asking past
  pub watched : AreWatched s w past
  pub handing : w.handing ≡ handing_of past
  pub cancelling : AreCancelled w.cancelling past
  pub matched : AreMatched w past

settings_step : (w : World) (c : Change) → (with_change c w).settings ≡ w.settings
settings_step w Nothing = refl
settings_step w c = refl

entity_step : (w : World) (c : Change) → (with_change c w).counters.entity ≡ (if adds c then w.counters.entity + 1 else w.counters.entity)
entity_step w (OfEntities (AddEntity row)) = refl
entity_step w (OfLiveliness (AskTokens row)) = refl
entity_step w c = refl

key_step : (w : World) (c : Change) → (with_change c w).counters.key ≡ (if draws_by c then w.counters.key + 1 else w.counters.key)
key_step w (OfKeys (Declare number key)) = refl
key_step w (OfKeys (Hold number)) = refl
key_step w (OfKeys (Release number)) = refl
key_step w Nothing = refl
key_step w c = refl

-- a key number is drawn by the tables where the events tell so
draws_is : (w : World) (past : List Entry) (draws : Draws) (text : Option (List ℕ)) → AreKnown w past → draws_new w draws text ≡ draws_key past draws text
draws_is w past KeyNumber (Some text) k = ap (λ (o : Option ℕ). not (is_some o)) (number_is w past text k)
draws_is w past KeyNumber None k = refl
draws_is w past NoNumber text k = refl
draws_is w past EntityNumber text k = refl
draws_is w past QueryNumber text k = refl
draws_is w past ValueNumber text k = refl
draws_is w past CancellationNumber text k = refl
draws_is w past (StatusOf kind id) text k = refl

-- what gets hear of an event is told by the past
asking_told : (s : Settings) (w : World) (past : List Entry) (x : Entry) → AreStanding s w past
    → asking_by w.settings.default_timeout w.settings.zid w.entities.queryables w.handing.values (to_gets_at w x.event) (row_of x.event).to_values x.text w.asking
    ≡ asking_by s.default_timeout s.zid (live_queryables past) (values_now past) (to_gets_of past x.event) (row_of x.event).to_values x.text w.asking
asking_told s w past x st =
    let settings = st.settings in
    let rows = st.live.queryables.table in
    let handing = st.handing in
    let to = same_gets w past x.event st.live in
    λ i. asking_by (settings i).default_timeout (settings i).zid (rows i) (handing i).values (to i) (row_of x.event).to_values x.text w.asking

-- so is under which number a get is asked
under_told : (w : World) (past : List Entry) (x : Entry) → AreLive w past → IsAskedUnder (to_gets_at w x.event) x.number w.asking.next → IsAskedUnder (to_gets_of past x.event) x.number w.asking.next
under_told w past x l under = subst (λ (to : ToGets). IsAskedUnder to x.number w.asking.next) (same_gets w past x.event l) under

pub standing_more : (s : Settings) (w : World) (past : List Entry) (x : Entry) (c : Change) → IsMade w x c → SaysMatching w x c → AreStanding s w past → AreStanding s (with_change c w) (x ∷ past)
standing_more s w past x c m k st = record {
  settings = settings_step w c ∙ st.settings;
  live = live_more w past x c m st.live;
  shared = shared_more w past c m.fits st.live st.shared;
  numbers = λ kind text. number_next s w past x c kind text m st.shared (st.numbers kind text)
      (members_are s (with_change c w) (x ∷ past) kind text (settings_step w c ∙ st.settings) (live_more w past x c m st.live) (shared_more w past c m.fits st.live st.shared));
  known = known_more w past x c m st.known;
  entity =
      entity_step w c ∙ ap (λ (n : ℕ). if adds c then n + 1 else n) st.entity
      ∙ ap (λ (b : Bool). if b then next_entity s past + 1 else next_entity s past) (sym m.entities.draws);
  key =
      key_step w c ∙ ap (λ (n : ℕ). if draws_by c then n + 1 else n) st.key
      ∙ ap (λ (b : Bool). if b then next_key s past + 1 else next_key s past) (sym m.keys.draws ∙ draws_is w past (row_of x.event).draws x.text st.known);
  asking =
      asked_more s w.asking (with_change c w).asking past x
      (m.gets.asking ∙ asking_told s w past x st)
      (under_told w past x st.live m.gets.under) m.gets.counted st.asking;
  handing =
      handing_more (with_change c w).handing w.handing past x w.asking.next
      (m.gets.handing ∙ (λ i. handing_next (st.live.queryables.table i) (same_gets w past x.event st.live i) (row_of x.event).to_values x.number x.text w.handing))
      (under_told w past x st.live m.gets.under) st.handing;
  cancelling = rw m.gets.cancelling (cancelled_more w.cancelling past x st.cancelling);
  matched = matched_more w past x c k st.live st.matched;
  watched = watched_more s w past x c m.fits m.liveliness st.settings st.asking.moment st.watched;
}

-- what is looked up in the tables is what the events tell
pub same_text : (s : Settings) (w : World) (past : List Entry) (e : Event) → AreStanding s w past → text_for w e ≡ named_text past e
same_text s w past e st = text_is w past (row_of e).key st.live st.known

finds_is : (w : World) (past : List Entry) (names : Option Named) → AreLive w past → AreMatched w past → finds w names ≡ names_some past names
finds_is w past None l m = refl
finds_is w past (Some named) l m =
    let there = living_is w past named.kind named.id l m in
    let left = l.left named.kind named.id in
    λ i. there i && not (left i)

lacks_is : (s : Settings) (w : World) (past : List Entry) (draws : Draws) (text : Option (List ℕ)) → AreStanding s w past → has_run_out w draws text ≡ lacks_number s past draws text
lacks_is s w past NoNumber text st = refl
lacks_is s w past EntityNumber text st = ap (is_spent last_entity) st.entity
lacks_is s w past QueryNumber text st = ap (is_spent last_query) st.asking.next
lacks_is s w past ValueNumber text st = ap (λ (h : Handing). is_spent last_value h.next) st.handing
lacks_is s w past CancellationNumber text st = ap (is_spent last_cancellation_token) st.cancelling.next
lacks_is s w past (StatusOf kind id) text st = refl
lacks_is s w past KeyNumber None st = refl
lacks_is s w past KeyNumber (Some text) st =
    ap (λ (o : Option ℕ). not (is_some o) && is_spent last_key w.counters.key) (number_is w past text st.known)
    ∙ ap (λ (n : ℕ). not (is_some (held_number text past)) && is_spent last_key n) st.key

number_drawn : (s : Settings) (w : World) (past : List Entry) (draws : Draws) (text : Option (List ℕ)) → AreStanding s w past → number_of w draws text ≡ drawn_number s past draws text
number_drawn s w past NoNumber text st = refl
number_drawn s w past EntityNumber text st = ap (λ (n : ℕ). Some n) st.entity
number_drawn s w past QueryNumber text st = ap (λ (n : ℕ). Some n) st.asking.next
number_drawn s w past ValueNumber text st = ap (λ (h : Handing). Some h.next) st.handing
number_drawn s w past CancellationNumber text st = ap (λ (n : ℕ). Some n) st.cancelling.next
number_drawn s w past (StatusOf kind id) text st = ap (λ (n : ℕ). Some n) (status_is w past kind id st.live st.matched)
number_drawn s w past KeyNumber None st = refl
number_drawn s w past KeyNumber (Some text) st =
    ap (λ (o : Option ℕ). Some (unwrap_or o w.counters.key)) (number_is w past text st.known)
    ∙ ap (λ (n : ℕ). Some (unwrap_or (held_number text past) n)) st.key

same_sight : (s : Settings) (w : World) (past : List Entry) (e : Event) → AreStanding s w past → sight w e ≡ past_sight s past e
same_sight s w past e st =
    let text : text_for w e ≡ named_text past e = same_text s w past e st in
    let lives : finds w (row_of e).names ≡ names_some past (row_of e).names = finds_is w past (row_of e).names st.live st.matched in
    let claimed : has_claim w (row_of e).claims (text_for w e) ≡ is_claimed past (row_of e).claims (named_text past e) =
    ap (has_claim w (row_of e).claims) text ∙ claim_is w past (row_of e).claims (named_text past e) st.known in
    let spent : has_run_out w (row_of e).draws (text_for w e) ≡ lacks_number s past (row_of e).draws (named_text past e) =
    ap (has_run_out w (row_of e).draws) text ∙ lacks_is s w past (row_of e).draws (named_text past e) st in
    let handing : w.handing ≡ handing_of past = st.handing in
    let rows : w.entities.queryables ≡ live_queryables past = st.live.queryables.table in
    let owed : is_owed w.handing.values (row_of e).to_values ≡ is_owed (values_now past) (row_of e).to_values = ap (λ (h : Handing). is_owed h.values (row_of e).to_values) handing in
    let drawn : is_drawn w.cancelling.next (cancellation_token_named (row_of e).to_gets (row_of e).to_liveliness) ≡ is_drawn (next_cancellation_token past) (cancellation_token_named (row_of e).to_gets (row_of e).to_liveliness) =
    ap (λ (n : ℕ). is_drawn n (cancellation_token_named (row_of e).to_gets (row_of e).to_liveliness)) st.cancelling.next in
    let cancelled : is_any (is_among w.cancelling.taken) (asking_cancellation_token (row_of e).to_gets (row_of e).to_liveliness) ≡ is_any (λ token. is_taken token past) (asking_cancellation_token (row_of e).to_gets (row_of e).to_liveliness) =
    any_told w.cancelling past (asking_cancellation_token (row_of e).to_gets (row_of e).to_liveliness) st.cancelling in
    let to : to_gets_at w e ≡ to_gets_of past e = same_gets w past e st.live in
    let disjoint : is_disjoint w.handing.values (row_of e).to_values (text_for w e) ≡ is_disjoint (values_now past) (row_of e).to_values (named_text past e) =
    λ i. is_disjoint (handing i).values (row_of e).to_values (text i) in
    let lacks : lacks_values w.handing.next (met_by w.entities.queryables (to_gets_at w e) (row_of e).to_values (text_for w e)) || has_run_out w (row_of e).draws (text_for w e)
    ≡ (lacks_values (next_value past) (met_by (live_queryables past) (to_gets_of past e) (row_of e).to_values (named_text past e)) || lacks_number s past (row_of e).draws (named_text past e)) =
    λ i. lacks_values (handing i).next (met_by (rows i) (to i) (row_of e).to_values (text i)) || spent i in
    let untold : ends_unknown w.matching.remote_entities.subs w.matching.remote_entities.queryables (row_of e).to_matching ≡ ends_unknown (remote_subscribers past) (remote_queryables past) (row_of e).to_matching = untold_is w past (row_of e).to_matching st.matched in
    let idle : (is_pointless (row_of e).to_liveliness || ends_unknown w.matching.remote_entities.subs w.matching.remote_entities.queryables (row_of e).to_matching || is_idle w.asking.gets (row_of e).to_gets (text_for w e)) ≡ (is_pointless (row_of e).to_liveliness || ends_unknown (remote_subscribers past) (remote_queryables past) (row_of e).to_matching || is_idle (open_now s past) (row_of e).to_gets (named_text past e)) =
    ap (λ (b : Bool). is_pointless (row_of e).to_liveliness || b || is_idle w.asking.gets (row_of e).to_gets (text_for w e)) untold
    ∙ ap (λ (b : Bool). is_pointless (row_of e).to_liveliness || ends_unknown (remote_subscribers past) (remote_queryables past) (row_of e).to_matching || b)
    (ap (λ (gets : List OpenGet). is_idle gets (row_of e).to_gets (text_for w e)) st.asking.gets ∙ ap (is_idle (open_now s past) (row_of e).to_gets) text) in
    let spared : is_spared w.liveliness.remote_tokens (row_of e).to_liveliness ≡ is_spared (remote_tokens s past) (row_of e).to_liveliness =
    ap (λ (tokens : List RemoteToken). is_spared tokens (row_of e).to_liveliness) st.watched.told in
    λ i. record { text = text i; lives = lives i; claimed = claimed i; owed = owed i; drawn = drawn i; cancelled = cancelled i; disjoint = disjoint i; lacks = lacks i; idle = idle i; spared = spared i }

pub same_cause : (s : Settings) (w : World) (past : List Entry) (e : Event) → AreStanding s w past → cause w e ≡ refusal_of s past e
same_cause s w past e st =
    is_first w.closed (row_of e) (sight w e)
    ∙ ap (λ (b : Bool). first_that (holds b (row_of e) (sight w e)) in_order) st.known.closed
    ∙ ap (λ (seen : Sight). first_that (holds (is_closed past) (row_of e) seen) in_order) (same_sight s w past e st)

pub same_number : (s : Settings) (w : World) (past : List Entry) (e : Event) → AreStanding s w past
    → number_for w e ≡ drawn_number s past (row_of e).draws (named_text past e)
same_number s w past e st =
    ap (number_of w (row_of e).draws) (same_text s w past e st) ∙ number_drawn s w past (row_of e).draws (named_text past e) st

same_entry : (s : Settings) (w : World) (past : List Entry) (e : Event) → AreStanding s w past → entry_for w e ≡ entry_of s past e
same_entry s w past e st =
    let number = same_number s w past e st in
    let text = same_text s w past e st in
    λ i. record { number = number i; text = text i; event = e }

-- the past with an event behind it is the same by the tables and by the events
same_joins : (s : Settings) (w : World) (past : List Entry) (e : Event) → AreStanding s w past → past_with_by w e past ≡ past_with s e past
same_joins s w past e st =
    let refusal = same_cause s w past e st in
    let closed = st.known.closed in
    let entry = same_entry s w past e st in
    λ i. with_entry (refusal i) (closed i) (entry i) past

-- what effects are read off
own_keys_same : (s : Settings) (w : World) (past : List Entry) → AreStanding s w past → own_keys_at w ≡ own_keys_of s past
own_keys_same s w past st = λ i. record {
  tag = (ap (λ (settings : Settings). settings.tag) st.settings) i;
  text_of = λ n. held_text_is w past n st.known i;
  count_of = λ n. count_is w past n st.known i;
  number_of = λ text. number_is w past text st.known i;
  published = λ id. prefix_declaration (ap (λ (settings : Settings). settings.tag) st.settings i) (pub_at id (st.live.pubs.table i));
  queried = λ id. querier_declaration (ap (λ (settings : Settings). settings.tag) st.settings i) (querier_at id (st.live.queriers.table i));
}

company_same : (s : Settings) (w : World) (past : List Entry) (kind : GroupKind) → AreStanding s w past → company_at w.settings w.groups kind ≡ company_of s kind past
company_same s w past kind st = λ i. record {
  aggregates = aggregates_of kind (st.settings i);
  members = λ text. members_are s w past kind text st.settings st.live st.shared i;
  number = λ text. st.numbers kind text i;
}

known_same : (s : Settings) (w : World) (past : List Entry) → AreStanding s w past → known_at w ≡ known_of s past
known_same s w past st =
    let keys = own_keys_same s w past st in
    let subs = st.live.subs.table in
    let pubs = st.live.pubs.table in
    let queryables = st.live.queryables.table in
    let settings = st.settings in
    let gets = st.asking.gets in
    let lsubs = st.live.lsubs.table in
    let told = st.watched.told in
    let asking = st.watched.gets in
    let handing = st.handing in
    λ i. record { keys = keys i; subs = subs i; pubs = pubs i; queryables = queryables i; queriers = (st.live.queriers.table) i; company = λ kind. company_same s w past kind st i; timeout = (settings i).default_timeout; gets = gets i; watch = record { subs = lsubs i; remote_tokens = told i; gets = asking i }; zid = (settings i).zid; handing = handing i }

-- what listeners make of an event is the same by the tables and by the events
listeners_agree : (w v : World) (past : List Entry) (x : Entry) → AreLive w past → AreMatched w past → AreLive v (x ∷ past) → AreMatched v (x ∷ past)
    → listener_effects_at w v ≡ listener_effects past x
listeners_agree w v past x lw mw lv mv = λ i.
    listener_ends (filter (λ row. not (is_listener row.id (mv.listeners i))) (mw.listeners i))
    ++ turned (λ row. is_listener row.id (mw.listeners i) && matched_is w past row lw mw i) (λ row. matched_is v (x ∷ past) row lv mv i) (mv.listeners i)

-- and so is the turn
abbrev turn_by : Bool → Option Refusal → Option ℕ → List Effect → List Effect → Turn
turn_by closed refusal number fx heard = if closed then answered refusal None [] else answered refusal number (fx ++ heard)

turn_decided : (s : Settings) (w : World) (past : List Entry) (e : Event) → AreStanding s w past
    → (with_listeners w (decision w e)).turn ≡ turn_by w.closed (cause w e) (number_for w e) (effects_of w e) (listener_effects past (entry_for w e))
turn_decided s w past e st = go w.closed refl
  where
    quiet : listener_effects_at w w ≡ []
    quiet = between_same w.matching.listeners (present_at w)

    by_shut : (o : Option Refusal) → (with_listeners w (decision_of o None [] Nothing)).turn ≡ answered o None []
    by_shut (Some refusal) = ap (λ (fx : List Effect). record (answered (Some refusal) None []) { effects = fx }) quiet
    by_shut None = ap (λ (fx : List Effect). record (answered None None []) { effects = fx }) quiet

    by_open : (o : Option Refusal) → open_cause w e ≡ o → w.closed ≡ false
        → (with_listeners w (decision_of o (number_for w e) (effects_of w e) (change_for w e))).turn ≡ answered o (number_for w e) (effects_of w e ++ listener_effects past (entry_for w e))
    by_open (Some refusal) k c = ap (λ (fx : List Effect). record (answered (Some refusal) None []) { effects = fx }) quiet
    by_open None k c =
        let next = standing_more s w past (entry_for w e) (change_for w e) (made w e c k) (matching_made w e (made w e c k) k) st in
        ap (λ (heard : List Effect). answered None (number_for w e) (effects_of w e ++ heard))
        (listeners_agree w (with_change (change_for w e) w) past (entry_for w e) st.live st.matched next.live next.matched)

    go : (b : Bool) → w.closed ≡ b
        → (with_listeners w (if b then decision_of (closed_cause e) None [] Nothing else open_decision w e)).turn
        ≡ turn_by b (if b then closed_cause e else open_cause w e) (number_for w e) (effects_of w e) (listener_effects past (entry_for w e))
    go true c = by_shut (closed_cause e)
    go false c = by_open (open_cause w e) refl c

pub same_turn : (s : Settings) (w : World) (past : List Entry) (e : Event) → AreStanding s w past → (with_listeners w (decision w e)).turn ≡ turn_of s past e
same_turn s w past e st =
    let closed = st.known.closed in
    let refusal = same_cause s w past e st in
    let number = same_number s w past e st in
    let known = known_same s w past st in
    let text = same_text s w past e st in
    let entry = same_entry s w past e st in
    turn_decided s w past e st
    ∙ (λ i. turn_by (closed i) (refusal i) (number i) (effects_on (known i) (number i) (text i) e) (listener_effects past (entry i)))

no_numbers : (s : Settings) (kind : GroupKind) (text : List ℕ) → number_of_group text (groups_of kind (new_world s).groups) ≡ group_number s kind text []
no_numbers s Subscribers text = refl
no_numbers s Publishers text = refl
no_numbers s Queriers text = refl

standing_opened : (s : Settings) → AreStanding s (new_world s) []
standing_opened s = record {
  settings = refl;
  live = live_none (new_world s) refl refl refl refl refl refl refl refl refl refl;
  shared = record { subs = grouped_none s.aggregated_subscribers; pubs = grouped_none s.aggregated_publishers; queriers = grouped_none [] };
  numbers = no_numbers s;
  known = record {
    closed = refl;
    emptied = λ shut. cc;
    tied = λ n. refl;
    counted = λ n h. cc;
    balanced = λ o n. refl;
    unused = λ n above. refl;
    drawn = λ n key at. cc;
    once = tt;
    told = λ n. refl;
  };
  entity = refl;
  key = refl;
  asking = asked_opened s;
  watched = record { gets = refl; below = tt; told = refl };
  handing = refl;
  cancelling = cancelled_opened;
  matched = matched_none (new_world s) refl refl;
}

pub standing : (s : Settings) (h : List Event) → AreStanding s (world_after s h) (past_of s h)
standing s [] = standing_opened s
standing s (e ∷ h) =
    let st = standing s h in
    let w = world_after s h in
    subst (λ (past : List Entry). AreStanding s (world_of s past) past) (same_joins s w (past_of s h) e st)
    (cases w e (past_of s h) (λ (made_is : Decision) (past : List Entry). AreStanding s (world_of s past) past)
    (λ refusal number fx c. st) (λ shut. st)
    (λ unshut accepted. standing_more s w (past_of s h) (entry_for w e) (change_for w e) (made w e unshut accepted) (matching_made w e (made w e unshut accepted) accepted) st))

-- what holds of a decision and the past that it makes holds behind every history
pub steps : (s : Settings) (h : List Event) (e : Event) (P : Decision → List Entry → Type 0)
    → P (decision (world_after s h) e) (past_with_by (world_after s h) e (past_of s h)) → P (decision (world_after s h) e) (past_of s (e ∷ h))
steps s h e P p = subst (P (decision (world_after s h) e)) (same_joins s (world_after s h) (past_of s h) e (standing s h)) p
