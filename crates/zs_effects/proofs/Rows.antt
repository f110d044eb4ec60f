-- The listeners and the gets of tokens stand by their numbers, which are drawn one after the other.
use Rattle.std.proofs.Common.{◌≡◌, ◌≤◌, ◌<◌, ℕ, ◌+◌, List, [], ◌∷◌, ◌++◌, Bool, true, false, Option, Some, None, refl, sym, ◌∙◌, ap, subst, arith}
use Rattle.std.specs.Prelude.{not, filter, if◌then◌else◌}
use Rattle.std.specs.List.{AllByRecursion}
use mathlib.Core.List.{append-nil}
use Rattle.zs_query.specs.Ascending.{Ascend}
use Rattle.zs_query.proofs.Ascending.{all_append, all_weaker, all_filter, ascend_filter, ascend_append}
use Rattle.zs_tables.specs.declared.listener.ListenerRow.{ListenerRow}
use Rattle.zs_tables.specs.Types.{LivelinessGet as TokensGet}
use Rattle.zs_wire.specs.declared.message.Message.{Message}
use Rattle.zs_wire.specs.declared.message.Message.TheVariants.{Request as request_message}
use Rattle.zs_events.specs.declared.event.Event.{Event}
use Rattle.zs_events.specs.declared.event.Event.TheVariants.{Listen, LivelinessGet, Net}
use Rattle.zs_events.specs.declared.turn.Kind.{Kind}
use Rattle.zs_events.specs.declared.turn.Kind.TheVariants.{Publisher, Querier}
use Rattle.zs_events.specs.declared.turn.Refusal.{Refusal}
use Rattle.zs_events.specs.Kinds.{AsksTokens, parent_kind_of, message_row, row_of}
use Rattle.zs_model.specs.declared.publisher.PubRow.{PubRow}
use Rattle.zs_model.specs.declared.querier.QuerierRow.{QuerierRow}
use Rattle.zs_model.specs.declared.settings.Settings.{Settings}
use Rattle.zs_model.specs.Causes.{refusal_of}
use Rattle.zs_model.specs.Counters.{draws_entity, next_entity}
use Rattle.zs_model.specs.Entry.{Entry, is_closed}
use Rattle.zs_model.specs.Gets.{moment_of}
use Rattle.zs_model.specs.HeldKeys.{named_text}
use Rattle.zs_model.specs.Listeners.{on_pub, on_querier, listening, ends_listener}
use Rattle.zs_model.specs.Live.{appended, live_pubs, live_queriers, live_listeners}
use Rattle.zs_model.specs.Past.{past_of, entry_of, with_entry}
use Rattle.zs_model.specs.Publishers.{pub_at}
use Rattle.zs_model.specs.Queriers.{querier_at}
use Rattle.zs_model.specs.Tokens.{tokens_asked, ends_asking, asking_now}
use Rattle.zs_standing.proofs.Watching.{asking_more}

-- rows by their numbers, all of them below the next one
pub record AreBelow {X : Type 0} (number : X → ℕ) (next : ℕ) (xs : List X) : Type 0 where
  pub ascend : Ascend number xs
  pub below : AllByRecursion (λ (x : X). number x < next) xs

-- new rows have the next number, and there is one at most
pub record AreNew {X : Type 0} (number : X → ℕ) (next : ℕ) (new : List X) : Type 0 where
  pub ascend : Ascend number new
  pub its : AllByRecursion (λ (x : X). number x ≡ next) new

none_new : {X : Type 0} (number : X → ℕ) (next : ℕ) → AreNew number next []
none_new number next = record { ascend = tt; its = tt }

one_new : {X : Type 0} (number : X → ℕ) (next : ℕ) (x : X) → number x ≡ next → AreNew number next (x ∷ [])
one_new number next x is = record { ascend = (tt, tt); its = (is, tt) }

-- rows that are left, and new ones behind them
left_below : {X : Type 0} (number : X → ℕ) (keep : X → Bool) (next later : ℕ) (xs : List X) → next ≤ later → AreBelow number next xs → AreBelow number later (filter keep xs)
left_below {X} number keep next later xs up b = record {
  ascend = ascend_filter number keep xs b.ascend;
  below =
      all_weaker (λ (x : X). number x < next) (λ (x : X). number x < later) (λ x less. omega (arith, less, up)) (filter keep xs)
      (all_filter (λ (x : X). number x < next) keep xs b.below);
}

more_below : {X : Type 0} (number : X → ℕ) (next : ℕ) (xs new : List X) → AreBelow number next xs → AreNew number next new → AreBelow number (next + 1) (xs ++ new)
more_below {X} number next xs new b n = record {
  ascend = ascend_append number next xs new b.ascend n.ascend b.below (all_weaker (λ (x : X). number x ≡ next) (λ (x : X). next ≤ number x) (λ x is. omega (arith, is)) new n.its);
  below =
      all_append (λ (x : X). number x < next + 1) xs new (all_weaker (λ (x : X). number x < next) (λ (x : X). number x < next + 1) (λ x less. omega (arith, less)) xs b.below)
      (all_weaker (λ (x : X). number x ≡ next) (λ (x : X). number x < next + 1) (λ x is. omega (arith, is)) new n.its);
}

-- entity numbers never go down
never_down : (s : Settings) (past : List Entry) (e : Event) → next_entity s past ≤ next_entity s (entry_of s past e ∷ past)
never_down s past e = go (draws_entity (row_of e).draws)
  where
    go : (b : Bool) → next_entity s past ≤ (if b then next_entity s past + 1 else next_entity s past)
    go true = omega arith
    go false = omega arith

-- a new listener
pub_new : (next : ℕ) (o : Option PubRow) → AreNew (λ (row : ListenerRow). row.id) next (on_pub next o)
pub_new next None = none_new (λ (row : ListenerRow). row.id) next
pub_new next (Some row) = one_new (λ (row : ListenerRow). row.id) next _ refl

querier_new : (next : ℕ) (o : Option QuerierRow) → AreNew (λ (row : ListenerRow). row.id) next (on_querier next o)
querier_new next None = none_new (λ (row : ListenerRow). row.id) next
querier_new next (Some row) = one_new (λ (row : ListenerRow). row.id) next _ refl

listening_new : (pubs : List PubRow) (queriers : List QuerierRow) (next : ℕ) (kind : Kind) (id : ℕ) → AreNew (λ (row : ListenerRow). row.id) next (listening pubs queriers next kind id)
listening_new pubs queriers next Publisher id = pub_new next (pub_at id pubs)
listening_new pubs queriers next Querier id = querier_new next (querier_at id queriers)
listening_new pubs queriers next kind id = none_new (λ (row : ListenerRow). row.id) next

appended_below : {X : Type 0} (number : X → ℕ) (next later : ℕ) (xs new : List X) → later ≡ next + 1 → AreBelow number next xs → AreBelow number later xs → AreNew number next new → AreBelow number later (appended xs new)
appended_below number next later xs [] is b wide n = wide
appended_below number next later xs (x ∷ new) is b wide n = subst (λ (m : ℕ). AreBelow number m (xs ++ x ∷ new)) (sym is) (more_below number next xs (x ∷ new) b n)

-- listeners behind one more event
pub listeners_more : (s : Settings) (past : List Entry) (e : Event) → AreBelow (λ (row : ListenerRow). row.id) (next_entity s past) (live_listeners past)
    → AreBelow (λ (row : ListenerRow). row.id) (next_entity s (entry_of s past e ∷ past)) (live_listeners (entry_of s past e ∷ past))
listeners_more s past (Listen parent id) b =
    let keep : ListenerRow → Bool = λ row. not (ends_listener (Listen parent id) row) in
    appended_below (λ (row : ListenerRow). row.id) (next_entity s past) (next_entity s past + 1) (filter keep (live_listeners past))
    (listening (live_pubs past) (live_queriers past) (next_entity s past) (parent_kind_of parent) id) refl
    (left_below (λ (row : ListenerRow). row.id) keep (next_entity s past) (next_entity s past) (live_listeners past) (omega arith) b)
    (left_below (λ (row : ListenerRow). row.id) keep (next_entity s past) (next_entity s past + 1) (live_listeners past) (omega arith) b)
    (listening_new (live_pubs past) (live_queriers past) (next_entity s past) (parent_kind_of parent) id)
listeners_more s past e b =
    left_below (λ (row : ListenerRow). row.id) (λ row. not (ends_listener e row)) (next_entity s past) (next_entity s (entry_of s past e ∷ past)) (live_listeners past) (never_down s past e) b

-- so they stand behind every history
pub listeners_below : (s : Settings) (h : List Event) → AreBelow (λ (row : ListenerRow). row.id) (next_entity s (past_of s h)) (live_listeners (past_of s h))
listeners_below s [] = record { ascend = tt; below = tt }
listeners_below s (e ∷ h) = go (refusal_of s (past_of s h) e) (is_closed (past_of s h)) (listeners_below s h)
  where
    go : (o : Option Refusal) (b : Bool) → AreBelow (λ (row : ListenerRow). row.id) (next_entity s (past_of s h)) (live_listeners (past_of s h))
        → AreBelow (λ (row : ListenerRow). row.id) (next_entity s (with_entry o b (entry_of s (past_of s h) e) (past_of s h))) (live_listeners (with_entry o b (entry_of s (past_of s h) e) (past_of s h)))
    go (Some refusal) b before = before
    go None true before = before
    go None false before = listeners_more s (past_of s h) e before

-- a get of tokens that is asked
asked_on : (default moment next : ℕ) (timeout token : Option ℕ) (text : Option (List ℕ)) → AreNew (λ (g : TokensGet). g.number) next (tokens_asked default moment (AsksTokens timeout token) (Some next) text)
asked_on default moment next timeout token None = none_new (λ (g : TokensGet). g.number) next
asked_on default moment next timeout token (Some text) = one_new (λ (g : TokensGet). g.number) next _ refl

no_message_asks : (default moment : ℕ) (number : Option ℕ) (text : Option (List ℕ)) (message : Message) → tokens_asked default moment (message_row message).to_liveliness number text ≡ []
no_message_asks default moment number text (request_message request) = refl
no_message_asks default moment number text message = refl

none_more : (number : TokensGet → ℕ) (next : ℕ) (xs new : List TokensGet) → new ≡ [] → AreBelow number next xs → AreBelow number next (xs ++ new)
none_more number next xs new is b = subst (AreBelow number next) (sym (ap (λ (ys : List TokensGet). xs ++ ys) is ∙ append-nil xs)) b

-- those that are asking behind one more event
abbrev asking_behind : Settings → List Entry → Event → List TokensGet
asking_behind s past e =
    filter (λ g. not (ends_asking g e)) (asking_now s past) ++ tokens_asked s.default_timeout (moment_of past) (row_of e).to_liveliness (entry_of s past e).number (entry_of s past e).text

askings_more : (s : Settings) (past : List Entry) (e : Event) → AreBelow (λ (g : TokensGet). g.number) (next_entity s past) (asking_now s past)
    → AreBelow (λ (g : TokensGet). g.number) (next_entity s (entry_of s past e ∷ past)) (asking_behind s past e)
askings_more s past (LivelinessGet key timeout token to) b =
    let e : Event = LivelinessGet key timeout token to in
    more_below (λ (g : TokensGet). g.number) (next_entity s past) (filter (λ g. not (ends_asking g e)) (asking_now s past))
    (tokens_asked s.default_timeout (moment_of past) (AsksTokens timeout token) (Some (next_entity s past)) (named_text past e))
    (left_below (λ (g : TokensGet). g.number) (λ g. not (ends_asking g e)) (next_entity s past) (next_entity s past) (asking_now s past) (omega arith) b)
    (asked_on s.default_timeout (moment_of past) (next_entity s past) timeout token (named_text past e))
askings_more s past (Net message) b =
    let e : Event = Net message in
    none_more (λ (g : TokensGet). g.number) (next_entity s (entry_of s past e ∷ past)) (filter (λ g. not (ends_asking g e)) (asking_now s past))
    (tokens_asked s.default_timeout (moment_of past) (message_row message).to_liveliness (entry_of s past e).number (entry_of s past e).text)
    (no_message_asks s.default_timeout (moment_of past) (entry_of s past e).number (entry_of s past e).text message)
    (left_below (λ (g : TokensGet). g.number) (λ g. not (ends_asking g e)) (next_entity s past) (next_entity s (entry_of s past e ∷ past)) (asking_now s past) (never_down s past e) b)
askings_more s past e b =
    none_more (λ (g : TokensGet). g.number) (next_entity s (entry_of s past e ∷ past)) (filter (λ g. not (ends_asking g e)) (asking_now s past)) [] refl
    (left_below (λ (g : TokensGet). g.number) (λ g. not (ends_asking g e)) (next_entity s past) (next_entity s (entry_of s past e ∷ past)) (asking_now s past) (never_down s past e) b)

pub askings_below : (s : Settings) (h : List Event) → AreBelow (λ (g : TokensGet). g.number) (next_entity s (past_of s h)) (asking_now s (past_of s h))
askings_below s [] = record { ascend = tt; below = tt }
askings_below s (e ∷ h) = go (refusal_of s (past_of s h) e) (is_closed (past_of s h)) (askings_below s h)
  where
    x : Entry
    x = entry_of s (past_of s h) e

    go : (o : Option Refusal) (b : Bool) → AreBelow (λ (g : TokensGet). g.number) (next_entity s (past_of s h)) (asking_now s (past_of s h))
        → AreBelow (λ (g : TokensGet). g.number) (next_entity s (with_entry o b (entry_of s (past_of s h) e) (past_of s h))) (asking_now s (with_entry o b (entry_of s (past_of s h) e) (past_of s h)))
    go (Some refusal) b before = before
    go None true before = before
    go None false before =
        subst (AreBelow (λ (g : TokensGet). g.number) (next_entity s (x ∷ past_of s h))) (sym (asking_more s x (past_of s h))) (askings_more s (past_of s h) e before)
