-- A get that is not open is handed nothing.
use Rattle.std.proofs.Common.{◌≡◌, ℕ, List, [], ◌∷◌, ◌++◌, Bool, true, false, Option, Some, None, refl, sym, ◌∙◌, ap}
use Rattle.std.specs.Prelude.{◌==◌, ◌&&◌, ◌||◌, is_some, is_none, if◌then◌else◌}
use Rattle.std.proofs.lemmas.Bool.{eqb-true}
use Rattle.zs_sample.specs.Reply.{Replied}
use Rattle.zs_wire.specs.declared.body.Value.{Value}
use Rattle.zs_wire.specs.declared.response.Answered.{Answered}
use Rattle.zs_wire.specs.declared.response.Answered.TheVariants.{Reply, Err as Error}
use Rattle.zs_wire.specs.declared.response.Response.{Response}
use Rattle.zs_query.specs.declared.open_get.OpenGet.{OpenGet}
use Rattle.zs_query.specs.Types.{QueryValue}
use Rattle.zs_query.specs.Ascending.{Ascend}
use Rattle.zs_query.specs.Asked.{News, Quiet, ReplyTo, FinalOf, AtMoment, QuerierEnds, CancelledBy, AllEnd}
use Rattle.zs_query.specs.Gets.{get_at, peek_at, final_outcome}
use Rattle.zs_query.specs.Unfinished.{value_at}
use Rattle.zs_query.proofs.Hearing.{open_ascend}
use Rattle.zs_events.specs.declared.event.Event.{Event}
use Rattle.zs_events.specs.declared.turn.Refusal.{Refusal}
use Rattle.zs_events.specs.Turn.{answered}
use Rattle.zs_events.specs.Kinds.{ToGets, NoGet, Asks, AsksBy, Answers, EndsSide, Reaches, EndsQuerier, Cancels, EndsAll, ToValues, AnswersError, row_of}
use Rattle.zs_model.specs.declared.settings.Settings.{Settings}
use Rattle.zs_model.specs.declared.querier.QuerierRow.{QuerierRow}
use Rattle.zs_model.specs.Answers.{local_error}
use Rattle.zs_model.specs.Causes.{has_cause, in_order, past_sight, refusal_of, is_net}
use Rattle.zs_model.specs.Entry.{Entry, is_closed}
use Rattle.zs_model.specs.Gets.{asked, open_now, error_reply, is_idle, is_idle_response}
use Rattle.zs_model.specs.HeldKeys.{named_text}
use Rattle.zs_model.specs.Live.{live_queriers, to_gets_of}
use Rattle.zs_model.specs.Matching.{remote_subscribers, remote_queryables, ends_unknown}
use Rattle.zs_model.specs.Past.{past_of, entry_of}
use Rattle.zs_model.specs.Queriers.{querier_at, asks_of, to_gets_by}
use Rattle.zs_model.specs.Tokens.{is_pointless}
use Rattle.zs_model.specs.Values.{values_now}
use Rattle.zs_model.specs.Effects.{known_of, effects_on, effects_behind}
use Rattle.zs_standing.proofs.Stands.{standing}
use Rattle.zs_laws.specs.Handed.{handed_to, error_of, error_by, errors_by, heard_at, OthersAreHandedNothing}
use Rattle.zs_laws.proofs.Handed.{peeked, ended_with, at_end, given_by, given_to}
use Rattle.zs_laws.proofs.GetsHanded.{unheard}
use Rattle.zs_laws.proofs.Tested.{none_holds}

missing : (o : Option OpenGet) → is_some o ≡ false → o ≡ None
missing None none = refl
missing (Some g) none = cc

-- news gives it nothing
given_nothing : (n : ℕ) (gets : List OpenGet) (news : News) → is_some (get_at n gets) ≡ false → given_by n gets news ≡ []
given_nothing n gets (ReplyTo number reply) none = go (number == n) refl
  where
    go : (b : Bool) → (number == n) ≡ b → (if b then peeked (peek_at (get_at number gets) reply) reply else []) ≡ []
    go true same = ap (λ (o : Option OpenGet). peeked (peek_at o reply) reply) (ap (λ (m : ℕ). get_at m gets) (eqb-true number n same) ∙ missing (get_at n gets) none)
    go false other = refl
given_nothing n gets (FinalOf number side) none = go (number == n) refl
  where
    go : (b : Bool) → (number == n) ≡ b → (if b then ended_with (final_outcome side (get_at number gets)) else []) ≡ []
    go true same = ap (λ (o : Option OpenGet). ended_with (final_outcome side o)) (ap (λ (m : ℕ). get_at m gets) (eqb-true number n same) ∙ missing (get_at n gets) none)
    go false other = refl
given_nothing n gets (AtMoment moment) none = ap (at_end moment) (missing (get_at n gets) none)
given_nothing n gets Quiet none = refl
given_nothing n gets (QuerierEnds id) none = refl
given_nothing n gets (CancelledBy token) none = refl
given_nothing n gets AllEnd none = refl

-- nor does an error
no_error_of : (n : ℕ) (gets : List OpenGet) (response : Response) (answered : Answered) (text : Option (List ℕ)) → is_some (get_at n gets) ≡ false
    → is_idle_response gets response answered text ≡ false → error_of n response answered ≡ []
no_error_of n gets response (Reply body) text none idle = refl
no_error_of n gets response (Error value) text none idle = go (response.rid == n) refl
  where
    none_given : List Replied
    none_given = []

    go : (b : Bool) → (response.rid == n) ≡ b → (if b then error_reply response value ∷ none_given else none_given) ≡ none_given
    go true same =
        let at : is_none (get_at response.rid gets) ≡ true = ap (λ (o : Option OpenGet). is_none o) (ap (λ (m : ℕ). get_at m gets) (eqb-true response.rid n same) ∙ missing (get_at n gets) none) in
        cc
    go false other = refl

no_error_by : (zid n : ℕ) (gets : List OpenGet) (o : Option QueryValue) (error : Value) → is_some (get_at n gets) ≡ false → error_by zid gets n o error ≡ []
no_error_by zid n gets None error none = refl
no_error_by zid n gets (Some v) error none = go v.row.local (is_some (get_at v.row.rid gets)) refl (v.row.rid == n) refl
  where
    none_given : List Replied
    none_given = []

    go : (l o : Bool) → is_some (get_at v.row.rid gets) ≡ o → (b : Bool) → (v.row.rid == n) ≡ b → (if l && o && b then local_error zid v.queryable error ∷ none_given else none_given) ≡ none_given
    go false o is b same = refl
    go true false is b same = refl
    go true true is false same = refl
    go true true is true same = let at : is_some (get_at v.row.rid gets) ≡ false = ap (λ (m : ℕ). is_some (get_at m gets)) (eqb-true v.row.rid n same) ∙ none in cc

no_value_error : (zid n : ℕ) (gets : List OpenGet) (values : List QueryValue) (does : ToValues) → is_some (get_at n gets) ≡ false → errors_by zid gets values n NoGet does ≡ []
no_value_error zid n gets values (AnswersError value error) none = no_error_by zid n gets (value_at value values) error none
no_value_error zid n gets values does none = refl

no_errors : (zid n : ℕ) (gets : List OpenGet) (values : List QueryValue) (rows : List QuerierRow) (to : ToGets) (does : ToValues) (text : Option (List ℕ)) → is_some (get_at n gets) ≡ false
    → is_idle gets to text ≡ false → errors_by zid gets values n (to_gets_by rows to) does ≡ []
no_errors zid n gets values rows (Answers response) does text none idle = no_error_of n gets response response.answered text none idle
no_errors zid n gets values rows (AsksBy id q) does text none idle = go (querier_at id rows)
  where
    go : (o : Option QuerierRow) → errors_by zid gets values n (asks_of q o) does ≡ []
    go None = no_value_error zid n gets values does none
    go (Some row) = refl
no_errors zid n gets values rows NoGet does text none idle = no_value_error zid n gets values does none
no_errors zid n gets values rows (Asks q) does text none idle = refl
no_errors zid n gets values rows (EndsSide number) does text none idle = refl
no_errors zid n gets values rows (Reaches moment) does text none idle = refl
no_errors zid n gets values rows (EndsQuerier id) does text none idle = refl
no_errors zid n gets values rows (Cancels token) does text none idle = refl
no_errors zid n gets values rows EndsAll does text none idle = refl

-- an accepted event is not idle
last_of : (a b c : Bool) → (a || b || c) ≡ false → c ≡ false
last_of true b c none = cc
last_of false true c none = cc
last_of false false c none = none

not_idle : (s : Settings) (past : List Entry) (e : Event) → is_closed past ≡ false → refusal_of s past e ≡ None → is_idle (open_now s past) (row_of e).to_gets (named_text past e) ≡ false
not_idle s past e shut accepted =
    let cause : (if is_closed past then is_net (row_of e).says else (past_sight s past e).idle) ≡ false = (none_holds (has_cause s past e) in_order accepted).1.1.1.1.1.1.1.1.0 in
    last_of (is_pointless (row_of e).to_liveliness) (ends_unknown (remote_subscribers past) (remote_queryables past) (row_of e).to_matching) (is_idle (open_now s past) (row_of e).to_gets (named_text past e))
    (sym (ap (λ (b : Bool). if b then is_net (row_of e).says else (past_sight s past e).idle) shut) ∙ cause)

pub others_are_handed_nothing : OthersAreHandedNothing
others_are_handed_nothing s h e n none = go (is_closed (past_of s h)) refl (refusal_of s (past_of s h) e) refl
  where
    up : Ascend (λ (g : OpenGet). g.row.number) (open_now s (past_of s h))
    up = open_ascend (asked s (past_of s h)) (standing s h).asking.ascend

    go : (b : Bool) → is_closed (past_of s h) ≡ b → (o : Option Refusal) → refusal_of s (past_of s h) e ≡ o
        → handed_to n (if b then answered o None [] else answered o (entry_of s (past_of s h) e).number (effects_behind s (past_of s h) e)).effects ≡ []
    go true shut (Some refusal) refused = refl
    go true shut None refused = refl
    go false shut (Some refusal) refused = refl
    go false shut None accepted =
        unheard n (effects_on (known_of s (past_of s h)) (entry_of s (past_of s h) e).number (named_text (past_of s h) e) e) (past_of s h) (entry_of s (past_of s h) e)
        ∙ given_to n (known_of s (past_of s h)) e (entry_of s (past_of s h) e).number (named_text (past_of s h) e) up
        ∙ ap (λ (rs : List Replied). rs ++ errors_by s.zid (open_now s (past_of s h)) (values_now (past_of s h)) n (to_gets_of (past_of s h) e) (row_of e).to_values)
        (given_nothing n (open_now s (past_of s h)) (heard_at s (past_of s h) e) none)
        ∙ no_errors s.zid n (open_now s (past_of s h)) (values_now (past_of s h)) (live_queriers (past_of s h)) (row_of e).to_gets (row_of e).to_values (named_text (past_of s h) e) none
        (not_idle s (past_of s h) e shut accepted)
