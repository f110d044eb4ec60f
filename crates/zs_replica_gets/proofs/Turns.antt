-- What the turns of a store's session are: of writes, of what comes in of them, of gets, requests, answers, responses and finals.
use Rattle.std.proofs.Common.{◌≡◌, ◌+◌, ℕ, List, [], ◌∷◌, ◌++◌, Bool, true, false, Option, Some, None, refl, sym, ◌∙◌, ap, subst}
use Rattle.std.specs.Prelude.{if◌then◌else◌}
use Rattle.std.specs.List.{AllByRecursion}
use mathlib.Core.List.{append-nil}
use Rattle.zs_wire.specs.declared.message.Message.{Message}
use Rattle.zs_wire.specs.declared.message.Message.TheVariants.{DeclareSubscriber, DeclareQueryable, Push}
use Rattle.zs_wire.specs.declared.push.Push.{Push as a_push}
use Rattle.zs_wire.specs.declared.wire_expr.WireExpr.{WireExpr}
use Rattle.zs_sample.specs.declared.locality.Locality.TheVariants.{Any}
use Rattle.zs_query.specs.declared.open_get.OpenGet.{OpenGet}
use Rattle.zs_query.specs.Types.{QueryValue}
use Rattle.zs_query.specs.Asked.{gets_after}
use Rattle.zs_query.specs.Gets.{get_at}
use Rattle.zs_query.specs.RequestTable.{Handing}
use Rattle.zs_events.specs.declared.event.Event.{Event}
use Rattle.zs_events.specs.declared.event.Event.TheVariants.{Net}
use Rattle.zs_events.specs.declared.key_arg.KeyArg.TheVariants.{Text}
use Rattle.zs_events.specs.declared.turn.Effect.TheVariants.{Send}
use Rattle.zs_events.specs.declared.turn.Refusal.{Refusal}
use Rattle.zs_events.specs.declared.update.Update.{Update}
use Rattle.zs_events.specs.declared.publication.PublicationQuality.{PublicationQuality}
use Rattle.zs_events.specs.Kinds.{NamedKey, OwnKey, WireKey, Publishes, NoContent, OwnContent, ByPublisher, local_content, incoming_content, ToGets, NoGet, NoValue, row_of}
use Rattle.zs_events.specs.Updates.{body_of}
use Rattle.zs_model.specs.declared.settings.Settings.{Settings}
use Rattle.zs_model.specs.Causes.{refusal_of}
use Rattle.zs_model.specs.Counters.{draws_query, next_query}
use Rattle.zs_model.specs.Entry.{is_closed}
use Rattle.zs_model.specs.Gets.{news_of, asked_by, moment_of, open_now}
use Rattle.zs_model.specs.HeldKeys.{named_text}
use Rattle.zs_model.specs.Live.{live_queryables, live_queriers, to_gets_of}
use Rattle.zs_model.specs.Matching.{listener_effects}
use Rattle.zs_model.specs.Past.{entry_of, past_of}
use Rattle.zs_model.specs.Queriers.{to_gets_by}
use Rattle.zs_model.specs.Received.{messages_of}
use Rattle.zs_model.specs.Sends.{OwnKeys, wire_form, declaration_of, is_sent, push_with, publication_sends}
use Rattle.zs_model.proofs.Filters.{all_append}
use Rattle.zs_model.specs.Values.{handing_of, values_now}
use Rattle.zs_model.specs.Effects.{Known, known_of, effects_on, effects}
use Rattle.zs_model.proofs.Gets.{IsAskedUnder}
use Rattle.zs_model.proofs.Values.{handing_next}
use Rattle.zs_laws.proofs.SentMessages.{told_by_event}
use Rattle.zs_delivery.proofs.TokenMessages.{messages_are}
use Rattle.zs_keeping.specs.Answering.{answers_to}
use Rattle.zs_store.specs.Store.{Write}
use Rattle.zs_replica_gets.specs.Steps.{answerer, writing}
use Rattle.zs_replica_gets.proofs.Pasts.{joins, effects_accepted, effects_refused, Stays, rows_stay, open_stays, Calm, Asking, refused_calm, refused_asking, handing_behind, gets_behind}
use Rattle.zs_replica_gets.proofs.Queries.{AsksNone, answers_append, none_listeners, none_beside}

-- where an event is accepted, its messages are those that it tells
pub sent_behind : (s : Settings) (h : List Event) (e : Event) → is_closed (past_of s h) ≡ false → refusal_of s (past_of s h) e ≡ None
    → messages_of (effects s h e).effects ≡ told_by_event (known_of s (past_of s h)) (entry_of s (past_of s h) e).number (named_text (past_of s h) e) e
sent_behind s h e unshut accepted = ap messages_of (effects_accepted s h e unshut accepted) ∙ messages_are s (past_of s h) e

-- and its queries are those of its effects
pub asked_behind : (s : Settings) (h : List Event) (e : Event) (store : List Write) → is_closed (past_of s h) ≡ false → refusal_of s (past_of s h) e ≡ None
    → answers_to answerer store (effects s h e).effects
    ≡ answers_to answerer store (effects_on (known_of s (past_of s h)) (entry_of s (past_of s h) e).number (named_text (past_of s h) e) e)
asked_behind s h e store unshut accepted =
    ap (answers_to answerer store) (effects_accepted s h e unshut accepted)
    ∙ answers_append store (effects_on (known_of s (past_of s h)) (entry_of s (past_of s h) e).number (named_text (past_of s h) e) e) (listener_effects (past_of s h) (entry_of s (past_of s h) e))
    ∙ ap (λ (more : List Event). answers_to answerer store (effects_on (known_of s (past_of s h)) (entry_of s (past_of s h) e).number (named_text (past_of s h) e) e) ++ more) (none_listeners (past_of s h) (entry_of s (past_of s h) e) store)
    ∙ append-nil _

-- a declaration or a publication
abbrev pub IsPlain : Message → Type 0
IsPlain (DeclareSubscriber id wire) = Unit {0}
IsPlain (DeclareQueryable id complete wire) = Unit {0}
IsPlain (Push push) = Unit {0}
IsPlain m = ⊥

plain_published : (k : OwnKeys) (key : NamedKey) (text : Option (List ℕ)) (p : Publishes) → AllByRecursion IsPlain (messages_of (publication_sends k key text p))
plain_published k key None NoContent = tt
plain_published k key (Some text) NoContent = tt
plain_published k key None (OwnContent c) = tt
plain_published k key (Some text) (OwnContent c) = go (is_sent c)
  where
    go : (b : Bool) → AllByRecursion IsPlain (messages_of (if b then Send (push_with (wire_form k text (declaration_of k text key)) c) ∷ [] else []))
    go true = (tt, tt)
    go false = tt
plain_published k key None (ByPublisher id update) = tt
plain_published k key (Some text) (ByPublisher id update) = tt

-- an event that says nothing to gets and query values
pub record IsQuiet (e : Event) : Type 0 where
  pub stays : Stays e
  pub gets : (row_of e).to_gets ≡ NoGet
  pub values : (row_of e).to_values ≡ NoValue
  pub draws : draws_query (row_of e).draws ≡ false
  pub asks : (known : Known) (number : Option ℕ) (text : Option (List ℕ)) → AsksNone (effects_on known number text e)
  pub sends : (known : Known) (number : Option ℕ) (text : Option (List ℕ)) → AllByRecursion IsPlain (told_by_event known number text e)

none_refused : (s : Settings) (h : List Event) (e : Event) (refusal : Refusal) → refusal_of s (past_of s h) e ≡ Some refusal → AsksNone (effects s h e).effects
none_refused s h e refusal refused store = ap (answers_to answerer store) (effects_refused s h e refusal refused)

pub quiet_asks : (s : Settings) (keys : List ℕ) (h : List Event) (e : Event) (values : List QueryValue) → IsQuiet e → Calm s keys h values → AsksNone (effects s h e).effects
quiet_asks s keys h e values quiet calm = go (refusal_of s (past_of s h) e) refl
  where
    go : (o : Option Refusal) → refusal_of s (past_of s h) e ≡ o → AsksNone (effects s h e).effects
    go (Some refusal) refused = none_refused s h e refusal refused
    go None accepted = λ store.
        asked_behind s h e store calm.unshut accepted
        ∙ quiet.asks (known_of s (past_of s h)) (entry_of s (past_of s h) e).number (named_text (past_of s h) e) store

pub quiet_sent : (s : Settings) (keys : List ℕ) (h : List Event) (e : Event) (values : List QueryValue) → IsQuiet e → Calm s keys h values
    → AllByRecursion IsPlain (messages_of (effects s h e).effects)
quiet_sent s keys h e values quiet calm = go (refusal_of s (past_of s h) e) refl
  where
    go : (o : Option Refusal) → refusal_of s (past_of s h) e ≡ o → AllByRecursion IsPlain (messages_of (effects s h e).effects)
    go (Some refusal) refused = subst (AllByRecursion IsPlain) (sym (ap messages_of (effects_refused s h e refusal refused))) tt
    go None accepted =
        subst (AllByRecursion IsPlain) (sym (sent_behind s h e calm.unshut accepted))
        (quiet.sends (known_of s (past_of s h)) (entry_of s (past_of s h) e).number (named_text (past_of s h) e))

pub quiet_calm : (s : Settings) (keys : List ℕ) (h : List Event) (e : Event) (values : List QueryValue) → IsQuiet e → Calm s keys h values → Calm s keys (e ∷ h) values
quiet_calm s keys h e values quiet calm = go (refusal_of s (past_of s h) e) refl
  where
    to : to_gets_of (past_of s h) e ≡ NoGet
    to = ap (to_gets_by (live_queriers (past_of s h))) quiet.gets

    same : handing_next (live_queryables (past_of s h)) (to_gets_of (past_of s h) e) (row_of e).to_values (entry_of s (past_of s h) e).number (entry_of s (past_of s h) e).text (handing_of (past_of s h))
        ≡ handing_of (past_of s h)
    same = λ i. handing_next (live_queryables (past_of s h)) (to i) (quiet.values i) (entry_of s (past_of s h) e).number (entry_of s (past_of s h) e).text (handing_of (past_of s h))

    go : (o : Option Refusal) → refusal_of s (past_of s h) e ≡ o → Calm s keys (e ∷ h) values
    go (Some refusal) refused = refused_calm s keys h e values refusal refused calm
    go None accepted = record {
      unshut = open_stays s (past_of s h) e quiet.stays calm.unshut;
      rows = rows_stay s (past_of s h) e quiet.stays ∙ calm.rows;
      values =
          ap (λ (h : Handing). h.values) (handing_behind s h e calm.unshut accepted 0 (subst (λ (g : ToGets). IsAskedUnder g (entry_of s (past_of s h) e).number 0) (sym to) tt))
          ∙ ap (λ (h : Handing). h.values) same
          ∙ calm.values;
    }

pub quiet_asking : (s : Settings) (keys : List ℕ) (h : List Event) (e : Event) (values : List QueryValue) (n : ℕ) (at : Option OpenGet) (number : ℕ) → IsQuiet e → Calm s keys h values
    → Asking s h n at number → Asking s (e ∷ h) n at number
quiet_asking s keys h e values n at number quiet calm asking = go (refusal_of s (past_of s h) e) refl
  where
    to : to_gets_of (past_of s h) e ≡ NoGet
    to = ap (to_gets_by (live_queriers (past_of s h))) quiet.gets

    unheard : gets_after (news_of s.zid (values_now (past_of s h)) (to_gets_of (past_of s h) e) (row_of e).to_values (entry_of s (past_of s h) e).text) (open_now s (past_of s h)) ≡ open_now s (past_of s h)
    unheard = λ i. gets_after (news_of s.zid (values_now (past_of s h)) (to i) (quiet.values i) (entry_of s (past_of s h) e).text) (open_now s (past_of s h))

    go : (o : Option Refusal) → refusal_of s (past_of s h) e ≡ o → Asking s (e ∷ h) n at number
    go (Some refusal) refused = refused_asking s h e n at number refusal refused asking
    go None accepted = record {
      get =
          ap (get_at n) (gets_behind s h e calm.unshut accepted
          (ap (λ (g : ToGets). asked_by s.default_timeout (moment_of (past_of s h)) (live_queryables (past_of s h)) g (entry_of s (past_of s h) e).number (entry_of s (past_of s h) e).text) to))
          ∙ ap (get_at n) unheard
          ∙ asking.get;
      next =
          ap (next_query s) (joins s h e calm.unshut accepted)
          ∙ ap (λ (b : Bool). if b then next_query s (past_of s h) + 1 else next_query s (past_of s h)) quiet.draws
          ∙ asking.next;
    }

-- such are writes, and what comes in of declarations and writes
pub quiet_write : (text : List ℕ) (update : Update) (quality : PublicationQuality) → IsQuiet (writing text update quality)
quiet_write text update quality = record {
  stays = record { open_still = refl; declares_none = λ number text. refl; draws_none = λ id number. refl; ends_none = λ id. refl };
  gets = refl;
  values = refl;
  draws = refl;
  asks = λ known number named. none_beside known.keys (OwnKey (Text text)) named (OwnContent (local_content Any (body_of [] update) quality)) (OwnContent (local_content Any (body_of [] update) quality)) known.subs;
  sends = λ known number named. all_append IsPlain (messages_of (publication_sends known.keys (OwnKey (Text text)) named (OwnContent (local_content Any (body_of [] update) quality)))) [] (plain_published known.keys (OwnKey (Text text)) named (OwnContent (local_content Any (body_of [] update) quality))) tt;
}

pub quiet_subscriber : (id : ℕ) (wire : WireExpr) → IsQuiet (Net (DeclareSubscriber id wire))
quiet_subscriber id wire = record {
  stays = record { open_still = refl; declares_none = λ number text. refl; draws_none = λ id number. refl; ends_none = λ id. refl };
  gets = refl;
  values = refl;
  draws = refl;
  asks = λ known number named. none_beside known.keys (WireKey wire) named NoContent NoContent known.subs;
  sends = λ known number named. all_append IsPlain (messages_of (publication_sends known.keys (WireKey wire) named NoContent)) [] (plain_published known.keys (WireKey wire) named NoContent) tt;
}

pub quiet_queryable : (id : ℕ) (complete : Bool) (wire : WireExpr) → IsQuiet (Net (DeclareQueryable id complete wire))
quiet_queryable id complete wire = record {
  stays = record { open_still = refl; declares_none = λ number text. refl; draws_none = λ id number. refl; ends_none = λ id. refl };
  gets = refl;
  values = refl;
  draws = refl;
  asks = λ known number named. none_beside known.keys (WireKey wire) named NoContent NoContent known.subs;
  sends = λ known number named. all_append IsPlain (messages_of (publication_sends known.keys (WireKey wire) named NoContent)) [] (plain_published known.keys (WireKey wire) named NoContent) tt;
}

pub quiet_push : (push : a_push) → IsQuiet (Net (Push push))
quiet_push push = record {
  stays = record { open_still = refl; declares_none = λ number text. refl; draws_none = λ id number. refl; ends_none = λ id. refl };
  gets = refl;
  values = refl;
  draws = refl;
  asks = λ known number named. none_beside known.keys (WireKey push.wire) named (OwnContent (incoming_content push)) (OwnContent (incoming_content push)) known.subs;
  sends = λ known number named. all_append IsPlain (messages_of (publication_sends known.keys (WireKey push.wire) named (OwnContent (incoming_content push)))) [] (plain_published known.keys (WireKey push.wire) named (OwnContent (incoming_content push))) tt;
}
