-- Events that leave the subscribers of a session as they are, and don't close it.
use Rattle.std.proofs.Common.{◌≡◌, ℕ, List, [], ◌∷◌, Bool, true, false, Option, Some, None, refl, ◌∙◌, ap, cond}
use Rattle.std.specs.Prelude.{◌&&◌, ◌||◌, not, filter}
use Rattle.std.specs.List.{list_any}
use Rattle.zs_subscriptions.specs.declared.subscriber.SubRow.{SubRow}
use Rattle.zs_events.specs.declared.event.Event.{Event}
use Rattle.zs_events.specs.declared.turn.Kind.TheVariants.{Subscriber}
use Rattle.zs_events.specs.declared.turn.Refusal.{Refusal}
use Rattle.zs_model.specs.declared.settings.Settings.{Settings}
use Rattle.zs_model.specs.Entry.{Entry, is_close, is_closed}
use Rattle.zs_model.specs.Subscribers.{sub_row}
use Rattle.zs_model.specs.Live.{appended, declared, drew, ends, drew_unended, is_live, live_subs}
use Rattle.zs_model.specs.Causes.{refusal_of}
use Rattle.zs_model.specs.Past.{entry_of, with_entry, past_with}

-- an event that declares no subscriber, ends none, and doesn't close
pub record Stays (e : Event) : Type 0 where
  pub open_still : is_close e ≡ false
  pub declares_none : (number : Option ℕ) (text : Option (List ℕ)) → sub_row e number text ≡ []
  pub draws_none : (id : ℕ) (number : Option ℕ) → drew Subscriber id e number ≡ false
  pub ends_none : (id : ℕ) → ends Subscriber id e ≡ false

unended_same : (id : ℕ) (later more : List Event) (past : List Entry) → list_any (ends Subscriber id) later ≡ list_any (ends Subscriber id) more
    → drew_unended Subscriber id later past ≡ drew_unended Subscriber id more past
unended_same id later more [] same = refl
unended_same id later more (x ∷ past) same =
    ap (λ (b : Bool). (drew Subscriber id x.event x.number && not b) || drew_unended Subscriber id (x.event ∷ later) past) same
    ∙ ap (λ (b : Bool). (drew Subscriber id x.event x.number && not (list_any (ends Subscriber id) more)) || b)
    (unended_same id (x.event ∷ later) (x.event ∷ more) past (ap (λ (b : Bool). ends Subscriber id x.event || b) same))

live_same : (x : Entry) (past : List Entry) → Stays x.event → (id : ℕ) → is_live Subscriber id (x ∷ past) ≡ is_live Subscriber id past
live_same x past stays id =
    ap (λ (b : Bool). (b && true) || drew_unended Subscriber id (x.event ∷ []) past) (stays.draws_none id x.number)
    ∙ unended_same id (x.event ∷ []) [] past (ap (λ (b : Bool). b || false) (stays.ends_none id))

filter_same : (p q : SubRow → Bool) (rows : List SubRow) → ((row : SubRow) → p row ≡ q row) → filter p rows ≡ filter q rows
filter_same p q [] same = refl
filter_same p q (row ∷ rows) same =
    ap (λ (b : Bool). cond b (row ∷ filter p rows) (filter p rows)) (same row)
    ∙ ap (λ (rest : List SubRow). cond (q row) (row ∷ rest) rest) (filter_same p q rows same)

subs_same : (x : Entry) (past : List Entry) → Stays x.event → live_subs (x ∷ past) ≡ live_subs past
subs_same x past stays =
    ap (λ (more : List SubRow). filter (λ row. is_live Subscriber row.id (x ∷ past)) (appended (declared sub_row past) more)) (stays.declares_none x.number x.text)
    ∙ filter_same (λ row. is_live Subscriber row.id (x ∷ past)) (λ row. is_live Subscriber row.id past) (declared sub_row past) (λ row. live_same x past stays row.id)

pub subs_stay : (s : Settings) (past : List Entry) (e : Event) → Stays e → live_subs (past_with s e past) ≡ live_subs past
subs_stay s past e stays = go (refusal_of s past e) (is_closed past)
  where
    go : (o : Option Refusal) (c : Bool) → live_subs (with_entry o c (entry_of s past e) past) ≡ live_subs past
    go (Some refusal) c = refl
    go None true = refl
    go None false = subs_same (entry_of s past e) past stays

pub open_stays : (s : Settings) (past : List Entry) (e : Event) → Stays e → is_closed past ≡ false → is_closed (past_with s e past) ≡ false
open_stays s past e stays unshut = go (refusal_of s past e) (is_closed past)
  where
    go : (o : Option Refusal) (c : Bool) → is_closed (with_entry o c (entry_of s past e) past) ≡ false
    go (Some refusal) c = unshut
    go None true = unshut
    go None false = ap (λ (b : Bool). b || is_closed past) stays.open_still ∙ unshut
