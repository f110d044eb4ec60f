-- Each message that an event sends has its origin in the event.
use Rattle.std.proofs.Common.{◌≡◌, ℕ, List, Bool, true, false, Option, Some, None, refl, sym, ◌∙◌, ap, subst}
use Rattle.std.specs.Prelude.{not, option_map}
use Rattle.std.specs.List.{AllByRecursion}
use Rattle.std.specs.Option.{IfSome}
use Rattle.std.proofs.lemmas.Bool.{and_parts}
use Rattle.zs_wire.specs.declared.message.Message.{Message}
use Rattle.zs_wire.specs.declared.wire_expr.WireExpr.{WireExpr}
use Rattle.zs_wire.specs.declared.push.Push.{Push}
use Rattle.zs_wire.specs.declared.body.Value.{Value}
use Rattle.zs_query.specs.Types.{QueryValue}
use Rattle.zs_query.specs.Unfinished.{value_at}
use Rattle.zs_tables.specs.Types.{GroupKind, Subscribers, Publishers, Queriers}
use Rattle.zs_events.specs.declared.event.Event.{Event}
use Rattle.zs_events.specs.declared.publication.Content.{Content}
use Rattle.zs_events.specs.Kinds.{OwnContent, ToValues, AnswersError, row_of}
use Rattle.zs_model.specs.declared.settings.Settings.{Settings}
use Rattle.zs_model.specs.Entry.{Entry, is_closed}
use Rattle.zs_model.specs.HeldKeys.{named_text}
use Rattle.zs_model.specs.Live.{live_pubs}
use Rattle.zs_model.specs.Causes.{refusal_of}
use Rattle.zs_model.specs.Past.{past_of, entry_of}
use Rattle.zs_model.specs.Publications.{sample_on}
use Rattle.zs_model.specs.Publishers.{resolved}
use Rattle.zs_model.specs.Values.{values_now}
use Rattle.zs_model.specs.Sends.{wire_form, declaration_of, is_sent}
use Rattle.zs_model.specs.Groups.{declaration_by}
use Rattle.zs_model.specs.Effects.{known_of, publication_on}
use Rattle.zs_model.specs.Received.{spoken_by, spoken_text}
use Rattle.zs_laws.proofs.Reading.{is_error, spoken_plain}
use Rattle.zs_laws.specs.Origins.{push_in, IsPublished, IsTested, HasOrigin, MessagesHaveOrigins}
use Rattle.zs_laws.proofs.Sent.{ends_token, names_own, Sending, told_all, by_accepting}
use Rattle.zs_laws.proofs.Tested.{IsCanonical, found_of, values_of, tested, past_tested}

is_not : (b : Bool) → not b ≡ true → b ≡ false
is_not true h = cc
is_not false h = refl

-- the text that an event's messages name is its own, and was tested
own_tested : (s : Settings) (past : List Entry) (e : Event) (t : List ℕ) → is_closed past ≡ false → refusal_of s past e ≡ None → names_own e ≡ true → named_text past e ≡ Some t
    → IsTested (spoken_text past e)
own_tested s past e t shut accepted own is =
    let parts = and_parts (not (ends_token (row_of e).to_liveliness)) (not (is_error (row_of e).to_values)) own in
    let spoken : spoken_text past e ≡ Some t = spoken_plain (values_now past) (row_of e).to_values (named_text past e) (is_not (is_error (row_of e).to_values) parts.1) ∙ is in
    let canonical : IsCanonical t = subst (λ (o : Option (List ℕ)). IfSome o IsCanonical) is (tested s past e shut accepted (is_not (ends_token (row_of e).to_liveliness) parts.0)) in
    subst IsTested (sym spoken) canonical

-- that of an error is the text of its query's key
error_tested : (s : Settings) (h : List Event) (e : Event) (value : ℕ) (error : Value) (v : QueryValue) → (row_of e).to_values ≡ AnswersError value error
    → value_at value (values_now (past_of s h)) ≡ Some v → IsTested (spoken_text (past_of s h) e)
error_tested s h e value error v does found =
    let spoken : spoken_text (past_of s h) e ≡ Some v.row.key.text =
    ap (λ (to : ToValues). spoken_by (values_now (past_of s h)) to (named_text (past_of s h) e)) does ∙ ap (option_map (λ (v : QueryValue). v.row.key.text)) found in
    subst IsTested (sym spoken) (found_of IsCanonical value v (values_now (past_of s h)) (values_of IsCanonical s h (past_tested s h)) found)

-- a message without a push
no_push : (s : Settings) (past : List Entry) (e : Event) (m : Message) → push_in m ≡ None → IfSome (push_in m) (IsPublished s past e)
no_push s past e m none = subst (λ (o : Option Push). IfSome o (IsPublished s past e)) (sym none) tt

grouped_origin : (s : Settings) (past : List Entry) (e : Event) (kind : GroupKind) (id : ℕ) (wire : WireExpr) → IsTested (spoken_text past e) → HasOrigin s past e (declaration_by kind id wire)
grouped_origin s past e Subscribers id wire fine = (tt, fine)
grouped_origin s past e Publishers id wire fine = (tt, fine)
grouped_origin s past e Queriers id wire fine = (tt, fine)

pushed_origin : (s : Settings) (past : List Entry) (e : Event) (t : List ℕ) (c : Content) → is_closed past ≡ false → refusal_of s past e ≡ None → named_text past e ≡ Some t
    → resolved (live_pubs past) (row_of e).publishes ≡ OwnContent c → is_sent c ≡ true → IsPublished s past e (record { wire = wire_form (known_of s past).keys t (declaration_of (known_of s past).keys t (row_of e).key); body = c.body; qos = c.qos; reliable = c.reliable })
pushed_origin s past e t c shut accepted is published sent = record {
  text = t;
  publication = record { local = c.local; destination = c.destination; sample = sample_on t c };
  named = is;
  made = record {
    unshut = shut;
    accepted = accepted;
    published = λ i. publication_on (is i) (published i);
    for_network = sent;
  };
  sample = refl;
}

origins_by : (s : Settings) (h : List Event) (e : Event) → is_closed (past_of s h) ≡ false → refusal_of s (past_of s h) e ≡ None
    → Sending (known_of s (past_of s h)) e (named_text (past_of s h) e) (HasOrigin s (past_of s h) e)
origins_by s h e shut accepted = record {
  bare = λ m none bare. (
    no_push s (past_of s h) e m none,
    subst (λ (o : Option WireExpr). IfSome o (λ wire. IsTested (spoken_text (past_of s h) e))) (sym bare) tt,
  );
  formed = λ t d m own is none has. (
    no_push s (past_of s h) e m none,
    subst (λ (o : Option WireExpr). IfSome o (λ wire. IsTested (spoken_text (past_of s h) e))) (sym has) (own_tested s (past_of s h) e t shut accepted own is),
  );
  grouped = λ kind id t d own is.
      grouped_origin s (past_of s h) e kind id _ (own_tested s (past_of s h) e t shut accepted own is);
  pushed = λ t c own is published sent. (
    pushed_origin s (past_of s h) e t c shut accepted is published sent,
    own_tested s (past_of s h) e t shut accepted own is,
  );
  erring = λ value error v does found. (tt, error_tested s h e value error v does found);
}

pub messages_have_origins : MessagesHaveOrigins
messages_have_origins s h e =
    by_accepting (AllByRecursion (HasOrigin s (past_of s h) e)) s h e tt
    (λ shut accepted.
    told_all (HasOrigin s (past_of s h) e) (known_of s (past_of s h)) (entry_of s (past_of s h) e).number (named_text (past_of s h) e) e (origins_by s h e shut accepted))
