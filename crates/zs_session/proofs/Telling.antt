-- Each turn's lines of refusals and hand-overs are those that tell its event.
use Rattle.std.proofs.Common.{◌≡◌, List, [], ◌∷◌, ◌++◌, Bool, true, false, Option, Some, None, IfSome, refl, sym, ◌∙◌, ap}
use Rattle.std.specs.Prelude.{ℕ, ◌&&◌, not, if◌then◌else◌, map, filter}
use Rattle.std.specs.List.{AllByRecursion, flat_map}
use Rattle.std.proofs.lemmas.Bool.{and_from}
use Rattle.std.proofs.lemmas.List.{append-nil, map-append}
use Rattle.std.proofs.lemmas.List.Elements.{filter-append}
use Rattle.zs_events.specs.declared.event.Event.{Event}
use Rattle.zs_events.specs.declared.event.Event.TheVariants.{Publish, PublishBy, Net}
use Rattle.zs_tables.specs.Types.{Subscribers, Publishers, Queriers, LivelinessSub}
use Rattle.zs_wire.specs.declared.message.Message.TheVariants.{Push}
use Rattle.zs_core.specs.Types.{Settings}
use Rattle.zs_events.specs.declared.turn.Answer.TheVariants.{Ok as accepted, Refused}
use Rattle.zs_events.specs.declared.turn.Effect.{Effect}
use Rattle.zs_events.specs.declared.turn.Effect.TheVariants.{Hand, Matching}
use Rattle.zs_events.specs.declared.turn.HandOver.TheVariants.{Sample}
use Rattle.zs_events.specs.declared.turn.Kind.TheVariants.{Subscriber}
use Rattle.zs_events.specs.declared.turn.Refusal.{Refusal}
use Rattle.zs_events.specs.declared.turn.Turn.{Turn}
use Rattle.zs_subscriptions.specs.declared.subscriber.SubRow.{SubRow}
use Rattle.zs_tables.specs.declared.queryable.QueryableRow.{QueryableRow}
use Rattle.zs_tables.specs.declared.listener.ListenerRow.{ListenerRow}
use Rattle.zs_tables.specs.MatchingLaws.{differ}
use Rattle.zs_events.specs.Turn.{answered}
use Rattle.zs_events.specs.Kinds.{Publishes, NoContent, OwnContent, ByPublisher, ToGets, NoGet, Asks, AsksBy, Answers, EndsSide, Reaches, EndsQuerier, Cancels, EndsAll, ToValues, NoValue, Requested, AnswersBy, AnswersError, SharesValue, GivesBack, row_of}
use Rattle.zs_events.specs.declared.publication.Content.{Content}
use Rattle.zs_core.specs.Entry.{Entry, is_closed}
use Rattle.zs_core.specs.HeldKeys.{named_text}
use Rattle.zs_core.specs.Live.{live_subs, live_pubs, live_queryables, live_lsubs, live_listeners, to_gets_of}
use Rattle.zs_core.specs.Listeners.{is_listener, listener_ends}
use Rattle.zs_core.specs.Matching.{is_matched, listener_effects}
use Rattle.zs_core.specs.Tokens.{asking_now}
use Rattle.zs_core.specs.LivelinessEffects.{watch_effects}
use Rattle.zs_core.specs.Publications.{Publication, allows, sample_on}
use Rattle.zs_core.specs.Seen.{Sight}
use Rattle.zs_core.specs.Received.{AreSpelled}
use Rattle.zs_core.specs.Causes.{past_sight, holds, in_order, first_that, refusal_of}
use Rattle.zs_core.specs.Past.{entry_of}
use Rattle.zs_core.specs.Groups.{company_of}
use Rattle.zs_core.specs.Publishers.{resolved}
use Rattle.zs_core.specs.Effects.{publication_on, hands_for, hands_of, ends_of, draws_of, answering, own_keys_of, known_of, turn_of}
use Rattle.zs_core.specs.ValueEffects.{value_effects, with_values}
use Rattle.zs_query.specs.Types.{QueryValue}
use Rattle.zs_core.specs.Gets.{open_now}
use Rattle.zs_core.specs.GetEffects.{request_effects, told_effects, with_gets}
use Rattle.zs_lines.specs.Lines.{lines}
use Rattle.zs_printing.specs.Pieces.{written}
use Rattle.zs_printing.specs.Printing.{hand_pieces, line, turn_text, answer_fields, effect_fields}
use Rattle.zs_script.specs.Plain.{is_plain, is_plain_text, is_plain_event, is_plain_effect}
use Rattle.zs_script.proofs.PlainTexts.{fields-found}
use Rattle.zs_script.proofs.PlainEffects.{answers-plain, effects-plain}
use Rattle.zs_session.specs.Telling.{plain_line, tells, tells_behind, is_telling, told, published, hand_lines, refusal_or, event_lines}
use Rattle.zs_laws.proofs.EntityEnds.{ends_cases}
use Rattle.zs_session.proofs.PlainKeys.{IsText, PlainPast, PlainContent, plain_handed, content_plain, pubs_plain, held_plain, text_plain}
use Rattle.zs_session.proofs.PlainSends.{IsQuiet, AreQuiet, AreSpelledGroups, sent_by, quiet_tell, all_plain, all_sent}
use Rattle.zs_session.proofs.PlainValues.{to_plain, does_plain, drawn_plain, values_plain}
use Rattle.zs_session.proofs.PlainGets.{open_plain, told_quiet, request_quiet}
use Rattle.zs_session.proofs.PlainAnswers.{value_quiet}
use Rattle.zs_session.proofs.PlainLiveliness.{tokens_plain, watch_quiet}
use Rattle.zs_driving.proofs.Progress.{all_append}
use Rattle.zs_session.proofs.Cutting.{ArePlain, lines_all}

-- the fields of each line of a turn
abbrev pub turn_rows : Turn → List (List (List ℕ))
turn_rows turn = answer_fields turn.answer ∷ map effect_fields turn.effects

turn_text_rows : (n : ℕ) (turn : Turn) → turn_text n turn ≡ flat_map (line n) (turn_rows turn)
turn_text_rows n turn = ap (λ more. line n (answer_fields turn.answer) ++ more) (go turn.effects)
  where
    go : (fx : List Effect) → flat_map (λ effect. line n (effect_fields effect)) fx ≡ flat_map (line n) (map effect_fields fx)
    go [] = refl
    go (f ∷ fx) = ap (λ more. line n (effect_fields f) ++ more) (go fx)

-- which lines tell, is seen by their fields
telling_rows : (n : ℕ) (blocks : List (List (List ℕ))) → AllByRecursion ArePlain blocks
    → filter is_telling (map (plain_line n) blocks) ≡ map (plain_line n) (filter tells blocks)
telling_rows n [] all = refl
telling_rows n (rows ∷ blocks) all =
    rw (ap tells_behind (fields-found n rows all.0), telling_rows n blocks all.1) (go (tells rows))
  where
    go : (b : Bool) → (if b then plain_line n rows ∷ map (plain_line n) (filter tells blocks) else map (plain_line n) (filter tells blocks))
        ≡ map (plain_line n) (if b then rows ∷ filter tells blocks else filter tells blocks)
    go true = refl
    go false = refl

-- what tells among effects
abbrev telling : List Effect → List (List (List ℕ))
telling fx = filter tells (map effect_fields fx)

telling-append : (fx gx : List Effect) → telling (fx ++ gx) ≡ telling fx ++ telling gx
telling-append fx gx = ap (filter tells) (map-append effect_fields fx gx) ∙ filter-append tells (map effect_fields fx) (map effect_fields gx)

-- all hand-overs to subscribers tell
hands_tell : (n : ℕ) (p : Publication) (rows : List SubRow)
    → map (plain_line n) (filter tells (map effect_fields (map (λ row. Hand (Sample Subscriber row.id p.sample)) rows)))
    ≡ map (λ row. plain_line n (effect_fields (Hand (Sample Subscriber row.id p.sample)))) rows
unfolding written hand_pieces
hands_tell n p [] = refl
hands_tell n p (row ∷ rows) = ap (λ more. plain_line n (effect_fields (Hand (Sample Subscriber row.id p.sample))) ∷ more) (hands_tell n p rows)

publication_told : (past : List Entry) (n : ℕ) (o : Option Publication)
    → map (plain_line n) (filter tells (map effect_fields (hands_for (live_subs past) o))) ≡ hand_lines past n o
publication_told past n None = refl
publication_told past n (Some p) = hands_tell n p (filter (allows p) (live_subs past))

-- all ends are quiet
ends_quiet : (queryables : List QueryableRow) (rows : List SubRow) (lsubs : List LivelinessSub) (e : Event) → AreQuiet (ends_of queryables rows lsubs e)
ends_quiet queryables rows lsubs e = ends_cases AreQuiet (record { none = tt; both = all_append IsQuiet; one = λ kind id. (tt, tt) }) queryables rows lsubs e

-- what an event sends behind a past, given the number that it is answered
abbrev sent : Settings → List Entry → Option ℕ → Event → List Effect
sent s past number e = sent_by (known_of s past) number (named_text past e) e

-- what it brings about for those who want to know of tokens, or else the ends that it tells
abbrev watched : Settings → List Entry → Option ℕ → Event → List Effect
watched s past number e =
    watch_effects (known_of s past).watch number (named_text past e) (row_of e).to_liveliness (ends_of (live_queryables past) (live_subs past) (live_lsubs past) e)

-- what an event brings about beside what gets and query values do
abbrev beside : Settings → List Entry → Option ℕ → Event → List Effect
beside s past number e = sent s past number e ++ hands_of (live_subs past) (live_pubs past) (named_text past e) e ++ watched s past number e

-- the query values that it draws, what it does with query values, what it asks, and what it tells the open gets
abbrev draws : Settings → List Entry → Option ℕ → Event → List QueryValue
draws s past number e = draws_of (known_of s past) number (named_text past e) e

abbrev valued : Settings → List Entry → Option ℕ → Event → List Effect
valued s past number e = value_effects (answering (known_of s past)) (row_of e).key (draws s past number e) (named_text past e) (row_of e).to_values

abbrev others : Settings → List Entry → Option ℕ → Event → List Effect
others s past number e = with_values (row_of e).to_values (beside s past number e) (valued s past number e)

abbrev requested : Settings → List Entry → Option ℕ → Event → List Effect
requested s past number e =
    request_effects s.default_timeout (own_keys_of s past) (row_of e).key (draws s past number e) number (named_text past e) (to_gets_of past e)

abbrev answers : Settings → List Entry → Event → List Effect
answers s past e = told_effects (open_now s past) (asking_now s past) (named_text past e) (to_gets_of past e)

-- what an accepted event brings about
abbrev brought : Settings → List Entry → Option ℕ → Event → List Effect
brought s past number e = with_gets (to_gets_of past e) (others s past number e) (requested s past number e) (answers s past e)

-- what it means to listeners is quiet
listener_ends_quiet : (rows : List ListenerRow) → AreQuiet (listener_ends rows)
listener_ends_quiet [] = tt
listener_ends_quiet (row ∷ rows) = (tt, listener_ends_quiet rows)

matching_quiet : (after : ListenerRow → Bool) (rows : List ListenerRow) → AreQuiet (map (λ row. Matching row.id (after row)) rows)
matching_quiet after [] = tt
matching_quiet after (row ∷ rows) = (tt, matching_quiet after rows)

listeners_quiet : (past : List Entry) (x : Entry) → AreQuiet (listener_effects past x)
listeners_quiet past x =
    let ended = filter (λ row. not (is_listener row.id (live_listeners (x ∷ past)))) (live_listeners past) in
    let before : ListenerRow → Bool = λ row. is_listener row.id (live_listeners past) && is_matched past row in
    let after : ListenerRow → Bool = is_matched (x ∷ past) in
    let heard = filter (λ row. differ (before row) (after row)) (live_listeners (x ∷ past)) in
    all_append IsQuiet (listener_ends ended) (map (λ row. Matching row.id (after row)) heard) (listener_ends_quiet ended) (matching_quiet after heard)

-- and all that it brings about
abbrev brought_whole : Settings → List Entry → Option ℕ → Event → List Effect
brought_whole s past number e = brought s past number e ++ listener_effects past (entry_of s past e)

-- all that an event brings about but its samples and the ends of subscribers is quiet
pub record IsQuietBut (s : Settings) (past : List Entry) (number : Option ℕ) (e : Event) : Type 0 where
  pub sends : AreQuiet (sent s past number e)
  pub watches : AreQuiet (watched s past number e)
  pub values : AreQuiet (valued s past number e)
  pub asks : AreQuiet (requested s past number e)
  pub tells : AreQuiet (answers s past e)

-- what stands beside them tells the hand-overs
beside_told : (s : Settings) (past : List Entry) (n : ℕ) (number : Option ℕ) (e : Event) → AreQuiet (sent s past number e) → AreQuiet (watched s past number e)
    → map (plain_line n) (telling (beside s past number e)) ≡ hand_lines past n (published past e)
beside_told s past n number e plain watches =
    let sends = sent s past number e in
    let hands = hands_of (live_subs past) (live_pubs past) (named_text past e) e in
    let ends = watched s past number e in
    ap (map (plain_line n))
    (telling-append (sends ++ hands) ends
    ∙ ap (λ (more : List (List (List ℕ))). telling (sends ++ hands) ++ more) (quiet_tell ends watches)
    ∙ append-nil (telling (sends ++ hands))
    ∙ telling-append sends hands
    ∙ ap (λ (front : List (List (List ℕ))). front ++ telling hands) (quiet_tell sends plain))
    ∙ publication_told past n (published past e)

-- an event that does something with query values
abbrev has_values : ToValues → Bool
has_values NoValue = false
has_values (Requested request) = true
has_values (AnswersBy value body quality) = true
has_values (AnswersError value error) = true
has_values (SharesValue value) = true
has_values (GivesBack value) = true

-- publishes nothing
values_quiet : (past : List Entry) (n : ℕ) (e : Event) → has_values (row_of e).to_values ≡ true → hand_lines past n (published past e) ≡ []
values_quiet past n (Publish destination key update quality) h = cc
values_quiet past n (PublishBy id update) h = cc
values_quiet past n (Net (Push push)) h = cc
values_quiet past n e h = refl

-- what it brings about has no line that tells
with_values_told : (n : ℕ) (does : ToValues) (rest values : List Effect) (all : List (List ℕ)) → map (plain_line n) (telling rest) ≡ all
    → (has_values does ≡ true → all ≡ []) → AreQuiet values → map (plain_line n) (telling (with_values does rest values)) ≡ all
with_values_told n NoValue rest values all told alone quiet = told
with_values_told n (Requested request) rest values all told alone quiet = ap (map (plain_line n)) (quiet_tell values quiet) ∙ sym (alone refl)
with_values_told n (AnswersBy value body quality) rest values all told alone quiet = ap (map (plain_line n)) (quiet_tell values quiet) ∙ sym (alone refl)
with_values_told n (AnswersError value error) rest values all told alone quiet = ap (map (plain_line n)) (quiet_tell values quiet) ∙ sym (alone refl)
with_values_told n (SharesValue value) rest values all told alone quiet = ap (map (plain_line n)) (quiet_tell values quiet) ∙ sym (alone refl)
with_values_told n (GivesBack value) rest values all told alone quiet = ap (map (plain_line n)) (quiet_tell values quiet) ∙ sym (alone refl)

others_told : (s : Settings) (past : List Entry) (n : ℕ) (number : Option ℕ) (e : Event) → IsQuietBut s past number e
    → map (plain_line n) (telling (others s past number e)) ≡ hand_lines past n (published past e)
others_told s past n number e quiet =
    with_values_told n (row_of e).to_values (beside s past number e) (valued s past number e) (hand_lines past n (published past e))
    (beside_told s past n number e quiet.sends quiet.watches) (values_quiet past n e) quiet.values

-- an event that is for gets alone
abbrev is_for_gets : ToGets → Bool
is_for_gets NoGet = false
is_for_gets (Asks question) = true
is_for_gets (AsksBy id question) = false
is_for_gets (Answers response) = true
is_for_gets (EndsSide number) = true
is_for_gets (Reaches moment) = true
is_for_gets (EndsQuerier id) = false
is_for_gets (Cancels token) = true
is_for_gets EndsAll = false

-- publishes nothing
gets_quiet : (past : List Entry) (n : ℕ) (e : Event) → is_for_gets (to_gets_of past e) ≡ true → hand_lines past n (published past e) ≡ []
gets_quiet past n (Publish destination key update quality) h = cc
gets_quiet past n (PublishBy id update) h = cc
gets_quiet past n (Net (Push push)) h = cc
gets_quiet past n e h = refl

-- what is quiet adds no line that tells
both_told : (n : ℕ) (beside tells : List Effect) → AreQuiet tells → map (plain_line n) (telling (beside ++ tells)) ≡ map (plain_line n) (telling beside)
both_told n beside tells t =
    ap (map (plain_line n))
    (telling-append beside tells
    ∙ ap (λ (more : List (List (List ℕ))). telling beside ++ more) (quiet_tell tells t)
    ∙ append-nil (telling beside))

-- so what gets bring about adds none
with_gets_told : (n : ℕ) (to : ToGets) (beside asks tells : List Effect) (all : List (List ℕ)) → map (plain_line n) (telling beside) ≡ all
    → (is_for_gets to ≡ true → all ≡ []) → AreQuiet asks → AreQuiet tells → map (plain_line n) (telling (with_gets to beside asks tells)) ≡ all
with_gets_told n NoGet beside asks tells all told alone a t = told
with_gets_told n (Asks question) beside asks tells all told alone a t = ap (map (plain_line n)) (quiet_tell asks a) ∙ sym (alone refl)
with_gets_told n (AsksBy id question) beside asks tells all told alone a t = told
with_gets_told n (Answers response) beside asks tells all told alone a t = ap (map (plain_line n)) (quiet_tell tells t) ∙ sym (alone refl)
with_gets_told n (EndsSide number) beside asks tells all told alone a t = ap (map (plain_line n)) (quiet_tell tells t) ∙ sym (alone refl)
with_gets_told n (Reaches moment) beside asks tells all told alone a t = ap (map (plain_line n)) (quiet_tell tells t) ∙ sym (alone refl)
with_gets_told n (Cancels token) beside asks tells all told alone a t = ap (map (plain_line n)) (quiet_tell tells t) ∙ sym (alone refl)
with_gets_told n (EndsQuerier id) beside asks tells all told alone a t = both_told n beside tells t ∙ told
with_gets_told n EndsAll beside asks tells all told alone a t = both_told n beside tells t ∙ told

-- the effects of an accepted event tell its hand-overs
effects_told : (s : Settings) (past : List Entry) (n : ℕ) (number : Option ℕ) (e : Event) → IsQuietBut s past number e
    → map (plain_line n) (telling (brought s past number e)) ≡ hand_lines past n (published past e)
effects_told s past n number e quiet =
    with_gets_told n (to_gets_of past e) (others s past number e) (requested s past number e) (answers s past e) (hand_lines past n (published past e))
    (others_told s past n number e quiet) (gets_quiet past n e) quiet.asks quiet.tells

-- a closed session that accepts an event publishes nothing
shut_quiet : (past : List Entry) (n : ℕ) (seen : Sight) (e : Event) → first_that (holds true (row_of e) seen) in_order ≡ None → hand_lines past n (published past e) ≡ []
shut_quiet past n seen (Publish destination key update quality) c = cc
shut_quiet past n seen (PublishBy id update) c = cc
shut_quiet past n seen (Net (Push push)) c = cc
shut_quiet past n seen e c = refl

-- an accepted turn tells what its effects tell
answer_quiet : (n : ℕ) (number : Option ℕ) (fx : List Effect)
    → filter tells (turn_rows (answered None number fx)) ≡ filter tells (map effect_fields fx)
answer_quiet n None fx = refl
answer_quiet n (Some number) fx = refl

pub event_told : (s : Settings) (past : List Entry) (n : ℕ) (e : Event) → ((number : Option ℕ) → IsQuietBut s past number e)
    → map (plain_line n) (filter tells (turn_rows (turn_of s past e))) ≡ event_lines s past n e
event_told s past n e plain = go (is_closed past)
  where
    by_shut : (o : Option Refusal) → first_that (holds true (row_of e) (past_sight s past e)) in_order ≡ o
        → map (plain_line n) (filter tells (turn_rows (answered o None []))) ≡ refusal_or n o (hand_lines past n (published past e))
    by_shut (Some refusal) c = refl
    by_shut None c = sym (shut_quiet past n (past_sight s past e) e c)

    by_open : (o : Option Refusal) (number : Option ℕ)
        → map (plain_line n) (filter tells (turn_rows (answered o number (brought_whole s past number e))))
        ≡ refusal_or n o (hand_lines past n (published past e))
    by_open (Some refusal) number = refl
    by_open None number =
        ap (map (plain_line n)) (answer_quiet n number (brought_whole s past number e))
        ∙ both_told n (brought s past number e) (listener_effects past (entry_of s past e)) (listeners_quiet past (entry_of s past e))
        ∙ effects_told s past n number e (plain number)

    go : (closed : Bool) → map (plain_line n) (filter tells (turn_rows
        (if closed then answered (first_that (holds closed (row_of e) (past_sight s past e)) in_order) None []
        else answered (first_that (holds closed (row_of e) (past_sight s past e)) in_order) (entry_of s past e).number (brought_whole s past (entry_of s past e).number e))))
        ≡ refusal_or n (first_that (holds closed (row_of e) (past_sight s past e)) in_order) (hand_lines past n (published past e))
    go true = by_shut (first_that (holds true (row_of e) (past_sight s past e)) in_order) refl
    go false = by_open (first_that (holds false (row_of e) (past_sight s past e)) in_order) (entry_of s past e).number

-- all texts of effects are plain
abbrev pub PlainEffects : List Effect → Type 0
PlainEffects fx = AllByRecursion (λ f. is_plain_effect f ≡ true) fx

rows_plain : (fx : List Effect) → PlainEffects fx → AllByRecursion ArePlain (map effect_fields fx)
rows_plain [] all = tt
rows_plain (f ∷ fx) all = (effects-plain f all.0, rows_plain fx all.1)

plain_hands : (p : Publication) (rows : List SubRow) → is_plain p.sample.key_expr.text ≡ true → is_plain_text p.sample.encoding ≡ true
    → PlainEffects (map (λ row. Hand (Sample Subscriber row.id p.sample)) rows)
plain_hands p [] key encoding = tt
plain_hands p (row ∷ rows) key encoding =
    (and_from (is_plain p.sample.key_expr.text) (is_plain_text p.sample.encoding) key encoding, plain_hands p rows key encoding)

-- a publication on a text
abbrev on_text : List ℕ → Content → Publication
on_text text c = record {
  local = c.local;
  destination = c.destination;
  sample = sample_on text c;
}

-- the hand-overs of a publication with plain texts are plain
plain_publication : (rows : List SubRow) (text : Option (List ℕ)) (content : Publishes) → IfSome text IsText → PlainContent content
    → PlainEffects (hands_for rows (publication_on text content))
plain_publication rows text NoContent key plain = tt
plain_publication rows None (OwnContent c) key plain = tt
plain_publication rows text (ByPublisher id c) key plain = tt
plain_publication rows (Some text) (OwnContent c) key plain =
    plain_hands (on_text text c) (filter (allows (on_text text c)) rows) key.0 (plain_handed c.body.kind c.body.encoding plain)

-- the aggregates that groups see are those of the settings
shared_spelled : (s : Settings) (past : List Entry) → AreSpelled s → AreSpelledGroups (λ kind. company_of s kind past)
shared_spelled s past spelled Subscribers = spelled.0
shared_spelled s past spelled Publishers = spelled.1
shared_spelled s past spelled Queriers = tt

-- what a plain event brings about is quiet, and plain
pub quiet_but : (s : Settings) → AreSpelled s → (past : List Entry) (e : Event) → PlainPast past → is_plain_event e ≡ true → (number : Option ℕ)
    → IsQuietBut s past number e
quiet_but s shared past e all plain number =
    let named = text_plain past e all plain in
    let to = to_plain past e plain in
    let known = known_of s past in
    let does = does_plain e plain in
    let gets = open_plain s past all in
    let values = values_plain past all in
    let drew = drawn_plain known.queryables known.handing (to_gets_of past e) (row_of e).to_values number (named_text past e) values named to does in
    record {
      sends = all_sent (known_of s past) number (named_text past e) e (λ n. held_plain n past all) (shared_spelled s past shared) named
          (content_plain (live_pubs past) e (pubs_plain past all) plain);
      watches = watch_quiet known.watch number (named_text past e) (row_of e).to_liveliness (ends_of (live_queryables past) (live_subs past) (live_lsubs past) e) (tokens_plain s past all)
          named (ends_quiet (live_queryables past) (live_subs past) (live_lsubs past) e);
      values = value_quiet (answering known) (row_of e).key (draws s past number e) (named_text past e) (row_of e).to_values (λ n. held_plain n past all) gets values drew named does;
      asks = request_quiet s.default_timeout (own_keys_of s past) (row_of e).key (draws s past number e) number (named_text past e) (to_gets_of past e)
          (λ n. held_plain n past all) named to drew;
      tells = told_quiet (open_now s past) (asking_now s past) (named_text past e) (to_gets_of past e) gets named to;
    }

plain_with_gets : (to : ToGets) (beside asks tells : List Effect) → PlainEffects beside → PlainEffects asks → PlainEffects tells
    → PlainEffects (with_gets to beside asks tells)
plain_with_gets NoGet beside asks tells b a t = b
plain_with_gets (Asks question) beside asks tells b a t = a
plain_with_gets (AsksBy id question) beside asks tells b a t = b
plain_with_gets (Answers response) beside asks tells b a t = t
plain_with_gets (EndsSide number) beside asks tells b a t = t
plain_with_gets (Reaches moment) beside asks tells b a t = t
plain_with_gets (EndsQuerier id) beside asks tells b a t = all_append (λ f. is_plain_effect f ≡ true) beside tells b t
plain_with_gets (Cancels token) beside asks tells b a t = t
plain_with_gets EndsAll beside asks tells b a t = all_append (λ f. is_plain_effect f ≡ true) beside tells b t

plain_with_values : (does : ToValues) (rest values : List Effect) → PlainEffects rest → PlainEffects values → PlainEffects (with_values does rest values)
plain_with_values NoValue rest values r v = r
plain_with_values (Requested request) rest values r v = v
plain_with_values (AnswersBy value body quality) rest values r v = v
plain_with_values (AnswersError value error) rest values r v = v
plain_with_values (SharesValue value) rest values r v = v
plain_with_values (GivesBack value) rest values r v = v

plain_effects : (s : Settings) → AreSpelled s → (past : List Entry) (number : Option ℕ) (e : Event) → PlainPast past → is_plain_event e ≡ true
    → PlainEffects (brought_whole s past number e)
plain_effects s shared past number e all plain =
    let P : Effect → Type 0 = λ f. is_plain_effect f ≡ true in
    let quiet = quiet_but s shared past e all plain number in
    let sends = sent s past number e in
    let hands = hands_of (live_subs past) (live_pubs past) (named_text past e) e in
    let ends = watched s past number e in
    let listeners = listener_effects past (entry_of s past e) in
    all_append P (brought s past number e) listeners
    (plain_with_gets (to_gets_of past e) (others s past number e) (requested s past number e) (answers s past e)
    (plain_with_values (row_of e).to_values (beside s past number e) (valued s past number e)
    (all_append P (sends ++ hands) ends
    (all_append P sends hands (all_plain sends quiet.sends)
    (plain_publication (live_subs past) (named_text past e) (resolved (live_pubs past) (row_of e).publishes) (text_plain past e all plain)
    (content_plain (live_pubs past) e (pubs_plain past all) plain)))
    (all_plain ends quiet.watches))
    (all_plain (valued s past number e) quiet.values))
    (all_plain (requested s past number e) quiet.asks) (all_plain (answers s past e) quiet.tells))
    (all_plain listeners (listeners_quiet past (entry_of s past e)))

-- so are the effects of its turn
pub plain_turn_effects : (s : Settings) → AreSpelled s → (past : List Entry) (e : Event) → PlainPast past → is_plain_event e ≡ true → PlainEffects (turn_of s past e).effects
plain_turn_effects s shared past e all plain = go (is_closed past)
  where
    effects_of : (o : Option Refusal) (number : Option ℕ) (fx : List Effect) → PlainEffects fx → PlainEffects (answered o number fx).effects
    effects_of (Some refusal) number fx all = tt
    effects_of None number fx all = all

    go : (closed : Bool) → PlainEffects
        (if closed then answered (refusal_of s past e) None []
        else answered (refusal_of s past e) (entry_of s past e).number (brought_whole s past (entry_of s past e).number e)).effects
    go true = effects_of (refusal_of s past e) None [] tt
    go false = effects_of (refusal_of s past e) (entry_of s past e).number (brought_whole s past (entry_of s past e).number e) (plain_effects s shared past (entry_of s past e).number e all plain)

-- and the texts of all its lines
pub plain_turn : (s : Settings) → AreSpelled s → (past : List Entry) (e : Event) → PlainPast past → is_plain_event e ≡ true → AllByRecursion ArePlain (turn_rows (turn_of s past e))
plain_turn s shared past e all plain = go (is_closed past)
  where
    answer : (o : Option Refusal) (number : Option ℕ) (fx : List Effect) → PlainEffects fx → AllByRecursion ArePlain (turn_rows (answered o number fx))
    answer (Some refusal) number fx all = (answers-plain (Refused refusal), tt)
    answer None number fx all = (answers-plain (accepted number), rows_plain fx all)

    go : (closed : Bool) → AllByRecursion ArePlain (turn_rows
        (if closed then answered (refusal_of s past e) None []
        else answered (refusal_of s past e) (entry_of s past e).number (brought_whole s past (entry_of s past e).number e)))
    go true = answer (refusal_of s past e) None [] tt
    go false = answer (refusal_of s past e) (entry_of s past e).number (brought_whole s past (entry_of s past e).number e) (plain_effects s shared past (entry_of s past e).number e all plain)

-- the first lines of an output that begins with a turn
pub told_turn : (n : ℕ) (turn : Turn) (rest : List ℕ) → AllByRecursion ArePlain (turn_rows turn)
    → told (turn_text n turn ++ rest) ≡ map (plain_line n) (filter tells (turn_rows turn)) ++ told rest
told_turn n turn rest all =
    ap (λ (bytes : List ℕ). told (bytes ++ rest)) (turn_text_rows n turn)
    ∙ ap (λ (rows : List (List ℕ)). filter is_telling rows) (lines_all n (turn_rows turn) rest all)
    ∙ filter-append is_telling (map (plain_line n) (turn_rows turn)) (lines rest)
    ∙ ap (λ (rows : List (List ℕ)). rows ++ told rest) (telling_rows n (turn_rows turn) all)
