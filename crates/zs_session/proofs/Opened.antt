-- A channel is there just where an accepted event declared it.
use Rattle.std.proofs.Common.{◌≡◌, ℕ, List, [], ◌∷◌, ◌++◌, Bool, true, false, Option, Some, None, refl, sym, ◌∙◌, ap}
use Rattle.std.specs.Prelude.{◌==◌, ◌&&◌, ◌||◌, is_some, option_map, if◌then◌else◌}
use Rattle.std.specs.List.{list_any}
use Rattle.std.proofs.lemmas.List.{append_assoc}
use Rattle.zs_events.specs.declared.chan.Chan.{Chan}
use Rattle.zs_events.specs.declared.event.Event.{Event}
use Rattle.zs_events.specs.declared.received.Received.{Received}
use Rattle.zs_events.specs.declared.script_event.ScriptEvent.{ScriptEvent}
use Rattle.zs_events.specs.declared.script_event.ScriptEvent.TheVariants.{Core, Recv}
use Rattle.zs_events.specs.declared.turn.Answer.{Answer}
use Rattle.zs_events.specs.declared.turn.Answer.TheVariants.{Ok as accepted, Refused}
use Rattle.zs_events.specs.declared.turn.Effect.{Effect}
use Rattle.zs_events.specs.declared.turn.Effect.TheVariants.{Send, Hand, End, Matching}
use Rattle.zs_events.specs.declared.turn.HandOver.{HandOver}
use Rattle.zs_events.specs.declared.turn.HandOver.TheVariants.{Sample, Reply, Query}
use Rattle.zs_events.specs.declared.turn.Kind.{Kind}
use Rattle.zs_events.specs.declared.turn.Refusal.{Refusal}
use Rattle.zs_events.specs.declared.turn.Refusal.TheVariants.{NotFound}
use Rattle.zs_events.specs.Turn.{answered}
use Rattle.zs_events.specs.Kinds.{row_of}
use Rattle.zs_channels.specs.Channel.{is_channel, received}
use Rattle.zs_channels.specs.Told.{ChannelNews, Opens, Hears, Happening, Declared, Read, is_same, state, hearing, declared_or, channel_of}
use Rattle.zs_channels.specs.Heard.{opening_of, opening, news_of_item, news_of_effect, news_of_effects, news_of_turn}
use Rattle.zs_core.specs.Types.{Settings}
use Rattle.zs_core.specs.Causes.{refusal_of}
use Rattle.zs_core.specs.Effects.{effects, effects_behind}
use Rattle.zs_core.specs.Entry.{Entry, is_closed}
use Rattle.zs_core.specs.Past.{past_of, entry_of, with_entry}
use Rattle.zs_session.specs.Heard.{core_of, heard, answer_of}
use Rattle.zs_session.specs.Script.{read_refusal}
use Rattle.zs_session.specs.Opened.{is_handled, opens, was_opened, plain_refusal}

-- whether there is a channel
abbrev is_there : Kind → ℕ → List (ChannelNews HandOver) → Bool
is_there kind id news = is_some (channel_of kind id news)

some_mapped : {A B : Type 0} (f : A → B) (o : Option A) → is_some (option_map f o) ≡ is_some o
some_mapped f None = refl
some_mapped f (Some a) = refl

-- what happens to channels opens none
hears_none : (kind : Kind) (id : ℕ) (k : Kind) (n : ℕ) (what : Happening HandOver) (news : List (ChannelNews HandOver)) → is_there kind id (Hears k n what ∷ news) ≡ is_there kind id news
hears_none kind id k n what news = go (is_same kind k && (id == n))
  where
    go : (b : Bool) → is_some (if b then option_map (hearing what) (channel_of kind id news) else channel_of kind id news) ≡ is_there kind id news
    go true = some_mapped (hearing what) (channel_of kind id news)
    go false = refl

item_opens_none : (kind : Kind) (id : ℕ) (over : HandOver) (news : List (ChannelNews HandOver)) → is_there kind id (news_of_item over ++ news) ≡ is_there kind id news
item_opens_none kind id (Sample k n sample) news = hears_none kind id k n _ news
item_opens_none kind id (Reply k n reply) news = hears_none kind id k n _ news
item_opens_none kind id (Query n value query) news = refl

effect_opens_none : (kind : Kind) (id : ℕ) (f : Effect) (news : List (ChannelNews HandOver)) → is_there kind id (news_of_effect f ++ news) ≡ is_there kind id news
effect_opens_none kind id (Send message) news = refl
effect_opens_none kind id (Hand item) news = item_opens_none kind id item news
effect_opens_none kind id (End k n) news = hears_none kind id k n _ news
effect_opens_none kind id (Matching n matching) news = refl

effects_open_none : (kind : Kind) (id : ℕ) (fx : List Effect) (news : List (ChannelNews HandOver)) → is_there kind id (news_of_effects fx ++ news) ≡ is_there kind id news
effects_open_none kind id [] news = refl
effects_open_none kind id (f ∷ fx) news =
    ap (is_there kind id) (append_assoc (news_of_effects fx) (news_of_effect f) news)
    ∙ effects_open_none kind id fx (news_of_effect f ++ news)
    ∙ effect_opens_none kind id f news

-- what an answer opens
opened_one : (kind : Kind) (id : ℕ) (k : Kind) (n : ℕ) (to : Chan) (news : List (ChannelNews HandOver))
    → is_there kind id (Opens k n to ∷ news) ≡ (is_same kind k && (id == n) && is_channel to || is_there kind id news)
opened_one kind id k n to news = go (is_same kind k && (id == n)) (is_channel to)
  where
    go : (b c : Bool)
        → is_some (if b then if c then Some (record { to = to; since = [] }) else channel_of kind id news else channel_of kind id news) ≡ (b && c || is_there kind id news)
    go true true = refl
    go true false = refl
    go false c = refl

opened_by : (kind : Kind) (id : ℕ) (handled : Option Kind) (to : Chan) (number : Option ℕ) (news : List (ChannelNews HandOver))
    → is_there kind id (opening handled to (accepted number) ++ news) ≡ (is_handled kind id handled number && is_channel to || is_there kind id news)
opened_by kind id (Some k) to (Some n) news = opened_one kind id k n to news
opened_by kind id (Some k) to None news = refl
opened_by kind id None to (Some n) news = refl
opened_by kind id None to None news = refl

refused_opens_none : (kind : Kind) (id : ℕ) (handled : Option Kind) (to : Chan) (refusal : Refusal) (news : List (ChannelNews HandOver))
    → is_there kind id (opening handled to (Refused refusal) ++ news) ≡ is_there kind id news
refused_opens_none kind id (Some k) to refusal news = refl
refused_opens_none kind id None to refusal news = refl

silent_opens_none : (kind : Kind) (id : ℕ) (handled : Option Kind) (to : Chan) (news : List (ChannelNews HandOver)) → is_there kind id (opening handled to (accepted None) ++ news) ≡ is_there kind id news
silent_opens_none kind id (Some k) to news = refl
silent_opens_none kind id None to news = refl

-- behind an event there is a channel where there was one, or it was accepted and declares it
event_opens : (s : Settings) (past : List Entry) (e : Event) (kind : Kind) (id : ℕ) (news : List (ChannelNews HandOver)) → is_there kind id news ≡ was_opened kind id past → (b : Bool) (o : Option Refusal)
    → is_there kind id (opening (row_of e).handled (row_of e).channel (if b then answered o None [] else answered o (entry_of s past e).number (effects_behind s past e)).answer ++ news)
    ≡ was_opened kind id (with_entry o b (entry_of s past e) past)
event_opens s past e kind id news ih true (Some refusal) = refused_opens_none kind id (row_of e).handled (row_of e).channel refusal news ∙ ih
event_opens s past e kind id news ih true None = silent_opens_none kind id (row_of e).handled (row_of e).channel news ∙ ih
event_opens s past e kind id news ih false (Some refusal) = refused_opens_none kind id (row_of e).handled (row_of e).channel refusal news ∙ ih
event_opens s past e kind id news ih false None =
    opened_by kind id (row_of e).handled (row_of e).channel (entry_of s past e).number news ∙ ap (λ (b : Bool). opens kind id (entry_of s past e) || b) ih

there_is : (s : Settings) (h : List ScriptEvent) (kind : Kind) (id : ℕ) → is_there kind id (heard s h) ≡ was_opened kind id (past_of s (core_of h))
there_is s [] kind id = refl
there_is s (Recv k n ∷ h) kind id = hears_none kind id k n Read (heard s h) ∙ there_is s h kind id
there_is s (Core e ∷ h) kind id =
    let past = past_of s (core_of h) in
    let turn = effects s (core_of h) e in
    let opened = opening (row_of e).handled (row_of e).channel turn.answer in
    ap (is_there kind id) (append_assoc (news_of_effects turn.effects) opened (heard s h))
    ∙ effects_open_none kind id turn.effects (opened ++ heard s h)
    ∙ event_opens s past e kind id (heard s h) (there_is s h kind id) (is_closed past) (refusal_of s past e)

-- so a read is refused where the accepted events tell it
pub reads_are_refused : (s : Settings) (h : List ScriptEvent) (kind : Kind) (id : ℕ)
    → read_refusal (answer_of s h kind id) (is_closed (past_of s (core_of h))) ≡ plain_refusal (past_of s (core_of h)) kind id
reads_are_refused s h kind id =
    go (is_closed (past_of s (core_of h))) (answer_of s h kind id) (was_opened kind id (past_of s (core_of h)))
    (some_mapped (λ (d : Declared HandOver). received (state d)) (channel_of kind id (heard s h)) ∙ there_is s h kind id)
  where
    go : (closed : Bool) (o : Option (Received HandOver)) (opened : Bool) → is_some o ≡ opened → read_refusal o closed ≡ (if closed || opened then None else Some NotFound)
    go true (Some answer) true is = refl
    go true (Some answer) false is = cc
    go true None opened is = refl
    go false (Some answer) true is = refl
    go false (Some answer) false is = cc
    go false None true is = cc
    go false None false is = refl
