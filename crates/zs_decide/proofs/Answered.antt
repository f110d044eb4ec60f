-- What an open session makes of answers to query values, and of values that are given back, by what is found of them.
use Rattle.std.proofs.Common.{◌≡◌, ℕ, List, [], Bool, true, false, Option, Some, None, Result, Ok, Err, refl, sym, ◌∙◌, ap}
use Rattle.std.specs.Prelude.{not, ◌||◌, is_some, if◌then◌else◌}
use Rattle.std.specs.Borrow.{Bor}
use Rattle.zs_keys.specs.Text.{is_canonical}
use Rattle.zs_keys.specs.Key.{Key, undeclared}
use Rattle.zs_subscriptions.proofs.ByKey.{by_test}
use Rattle.zs_wire.specs.declared.body.Body.{Body}
use Rattle.zs_wire.specs.declared.body.Value.{Value}
use Rattle.zs_query.specs.Types.{QueryValue, RequestRow}
use Rattle.zs_query.specs.Unfinished.{value_at, has_other, finished, IsFound}
use Rattle.zs_events.specs.declared.event.Event.TheVariants.{Finish}
use Rattle.zs_events.specs.declared.key_arg.KeyArg.{KeyArg}
use Rattle.zs_events.specs.declared.turn.Refusal.TheVariants.{NotFound, BadKeyExpr, ReplyDisjoint}
use Rattle.zs_events.specs.Kinds.{OwnKey}
use Rattle.zs_events.specs.declared.publication.ReplyQuality.{ReplyQuality}
use Rattle.zs_world.specs.declared.change.Change.TheVariants.{Nothing, OfValues}
use Rattle.zs_world.specs.declared.change.ValueChange.TheVariants.{GiveBack}
use Rattle.zs_world.specs.World.{World}
use Rattle.zs_world.specs.Keys.{key_of, resolution}
use Rattle.zs_model.specs.Answers.{is_refused_on, local_reply}
use Rattle.zs_world.specs.Changes.{replied_change}
use Rattle.zs_model.specs.Effects.{answering}
use Rattle.zs_model.specs.ValueEffects.{reply_for_value, error_for_value, finish_effects}
use Rattle.zs_world.specs.Decisions.{known_at, refused_if, decision_of, open_decision, finished_decision, replied_by, answered_by, answer_on, answer_decision, error_answered, error_answer_decision}

-- a value that is given back
back_by : (w : World) (value : ℕ) (o : Option QueryValue)
    → finished_decision w value (finished o w.handing.values)
    ≡ decision_of (refused_if (not (is_some o)) NotFound None) None (finish_effects w.asking.gets (finished o w.handing.values)) (OfValues (GiveBack value))
back_by w value None = refl
back_by w value (Some v) = go (has_other v w.handing.values) refl
  where
    go : (b : Bool) → has_other v w.handing.values ≡ b
        → finished_decision w value (finished (Some v) w.handing.values) ≡ decision_of None None (finish_effects w.asking.gets (finished (Some v) w.handing.values)) (OfValues (GiveBack value))
    go true is = rw is refl
    go false is = rw is refl

or_nothing : (b : Bool) → (((b || false) || false) || false) ≡ b
or_nothing true = refl
or_nothing false = refl

pub given_back : (w : World) (value : ℕ) → finished_decision w value (finished (value_at value w.handing.values) w.handing.values) ≡ open_decision w (Finish value)
given_back w value =
    back_by w value (value_at value w.handing.values)
    ∙ ap (λ (b : Bool). decision_of (refused_if b NotFound None) None (finish_effects w.asking.gets (finished (value_at value w.handing.values) w.handing.values)) (OfValues (GiveBack value)))
    (sym (or_nothing (not (is_some (value_at value w.handing.values)))))

-- a reply to a query value that is unfinished
on_text : (w : World) (value : ℕ) (key : KeyArg) (quality : ReplyQuality) (body : Body) (v : QueryValue) (text : Option (List ℕ))
    → answered_by w key v.queryable v.row quality body text ≡ answer_on w value key quality body (Some v) text
on_text w value key quality body v None = refl
on_text w value key quality body v (Some text) = go (is_canonical text) (is_refused_on text v.row)
  where
    go : (c r : Bool)
        → (if not c then decision_of (Some BadKeyExpr) None [] Nothing else if r then decision_of (Some ReplyDisjoint) None [] Nothing else replied_by w key v.queryable v.row quality body text)
        ≡ decision_of (refused_if (not c) BadKeyExpr (refused_if r ReplyDisjoint None)) None
        (reply_for_value (answering (known_at w)) (OwnKey key) v.queryable v.row quality body text)
        (replied_change v.row.local v.row.rid (local_reply w.settings.zid v.queryable v.row quality body text))
    go true true = refl
    go true false = refl
    go false r = refl

-- what is found of a value
missing : (o : Option QueryValue) (f : Option (Bor RequestRow × ℕ)) → IsFound o f → f ≡ None → o ≡ None
missing None f is none = refl
missing (Some v) None is none = cc
missing (Some v) (Some f) is none = cc

-- a reply to one that is unfinished, by its request and queryable, and to one that isn't
pub answered : (w : World) (value : ℕ) (key : KeyArg) (quality : ReplyQuality) (body : Body) (o : Option QueryValue) (row : Bor RequestRow) (queryable : ℕ)
    → IsFound o (Some (row, queryable)) → value_at value w.handing.values ≡ o
    → answered_by w key queryable row.now quality body (key_of w key) ≡ answer_decision w value key quality body
answered w value key quality body None row queryable is at = cc
answered w value key quality body (Some v) row queryable is at =
    (λ i. answered_by w key (is.1 i) (is.0 i) quality body (key_of w key))
    ∙ on_text w value key quality body v (key_of w key)
    ∙ ap (λ (o : Option QueryValue). answer_on w value key quality body o (key_of w key)) (sym at)

pub unanswered : (w : World) (value : ℕ) (key : KeyArg) (quality : ReplyQuality) (body : Body) (o : Option QueryValue) (f : Option (Bor RequestRow × ℕ))
    → IsFound o f → f ≡ None → value_at value w.handing.values ≡ o → decision_of (Some NotFound) None [] Nothing ≡ answer_decision w value key quality body
unanswered w value key quality body o f is none at =
    let gone : value_at value w.handing.values ≡ None = at ∙ missing o f is none in
    sym (ap (λ (o : Option QueryValue). answer_on w value key quality body o (key_of w key)) gone)

-- so an error
pub error_sent : (w : World) (value : ℕ) (error : Value) (o : Option QueryValue) (row : Bor RequestRow) (queryable : ℕ)
    → IsFound o (Some (row, queryable)) → value_at value w.handing.values ≡ o
    → decision_of None None (error_for_value (answering (known_at w)) queryable row.now error) Nothing ≡ error_answer_decision w value error
error_sent w value error None row queryable is at = cc
error_sent w value error (Some v) row queryable is at =
    (λ i. decision_of None None (error_for_value (answering (known_at w)) (is.1 i) (is.0 i) error) Nothing)
    ∙ ap (error_answered w value error) (sym at)

pub error_unsent : (w : World) (value : ℕ) (error : Value) (o : Option QueryValue) (f : Option (Bor RequestRow × ℕ))
    → IsFound o f → f ≡ None → value_at value w.handing.values ≡ o → decision_of (Some NotFound) None [] Nothing ≡ error_answer_decision w value error
error_unsent w value error o f is none at =
    let gone : value_at value w.handing.values ≡ None = at ∙ missing o f is none in
    sym (ap (error_answered w value error) gone)

-- a reply on a key that stands for a text, and that its query takes
pub taken_by : (w : World) (key : KeyArg) (queryable : ℕ) (row : RequestRow) (quality : ReplyQuality) (body : Body) (o : Option (List ℕ)) (k : Key) → Ok k ≡ resolution NotFound o
    → is_refused_on k.text row ≡ false → answered_by w key queryable row quality body o ≡ replied_by w key queryable row quality body k.text
taken_by w key queryable row quality body None k is taken = absurd (cc)
taken_by w key queryable row quality body (Some text) k is taken =
    by_test (is_canonical text)
    (λ c.
    let found : Ok k ≡ Ok (undeclared text) = is ∙ rw c refl in
    let key_is : k ≡ undeclared text = cc in
    let same : k.text ≡ text = ap (λ (x : Key). x.text) key_is in
    let takes : is_refused_on text row ≡ false = ap (λ (t : List ℕ). is_refused_on t row) (sym same) ∙ taken in
    rw (c, takes) (ap (λ (t : List ℕ). replied_by w key queryable row quality body t) (sym same)))
    (λ c.
    let none : Ok k ≡ Err BadKeyExpr = is ∙ rw c refl in
    absurd (cc))
