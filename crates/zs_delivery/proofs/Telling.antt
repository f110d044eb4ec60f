-- What an open session was told of its network's subscribers and queryables, from what came in.
use Rattle.std.proofs.Common.{◌≡◌, ℕ, List, [], ◌∷◌, Bool, true, false, Option, Some, None, refl, sym, ◌∙◌, ap, subst, cond}
use Rattle.std.specs.Prelude.{◌==◌, ◌||◌, not, option_map, filter}
use Rattle.std.specs.List.{list_any}
use Rattle.std.proofs.lemmas.Bool.{eqb-true}
use Rattle.zs_keys.specs.Key.{undeclared}
use Rattle.zs_keys.specs.Text.{is_canonical}
use Rattle.zs_wire.specs.declared.message.Message.{Message}
use Rattle.zs_wire.specs.declared.message.Message.TheVariants.{DeclareSubscriber, UndeclareSubscriber, DeclareQueryable, UndeclareQueryable}
use Rattle.zs_wire.specs.declared.wire_expr.WireExpr.{WireExpr}
use Rattle.zs_tables.specs.declared.remote_row.RemoteSubscriber.{RemoteSubscriber}
use Rattle.zs_tables.specs.declared.remote_row.RemoteQueryable.{RemoteQueryable}
use Rattle.zs_events.specs.declared.event.Event.{Event}
use Rattle.zs_events.specs.declared.event.Event.TheVariants.{Net}
use Rattle.zs_events.specs.declared.turn.Refusal.{Refusal}
use Rattle.zs_events.specs.Kinds.{ToMatching, TellsSub, TellsQueryable, Row, row_of}
use Rattle.zs_core.specs.Types.{Settings}
use Rattle.zs_core.specs.Entry.{Entry, is_closed}
use Rattle.zs_core.specs.HeldKeys.{wire_text}
use Rattle.zs_core.specs.Live.{appended}
use Rattle.zs_core.specs.Matching.{remote_subscriber_row, renews_sub, remote_queryable_row, renews_queryable, remote_subscribers, remote_queryables}
use Rattle.zs_core.specs.Causes.{holds, in_order, first_that, refusal_of}
use Rattle.zs_core.specs.Past.{entry_of, with_entry, past_with, past_of}
use Rattle.zs_delivery.specs.Links.{given}
use Rattle.zs_delivery.specs.Told.{declared_sub, declared_queryable, WasTold}
use Rattle.zs_delivery.proofs.Accepting.{sight_of, first_cause}
use Rattle.zs_delivery.proofs.Known.{IsReadable, AreSound, Knows, wire_known, known_after, open_before}
use Rattle.zs_delivery.proofs.Renewed.{under, under_without, under_renewed, all_kept, none_under}

-- the declarations among messages are readable for whoever was given those before them
abbrev pub IsDeclared : List Message → Message → Type 0
IsDeclared before (DeclareSubscriber id wire) = IsReadable before wire
IsDeclared before (DeclareQueryable id complete wire) = IsReadable before wire
IsDeclared before message = Unit {0}

abbrev pub AreDeclared : List Message → Type 0
AreDeclared [] = Unit {0}
AreDeclared (message ∷ before) = IsDeclared before message × AreDeclared before

abbrev pub sub_number : RemoteSubscriber → ℕ
sub_number row = row.number

abbrev pub queryable_number : RemoteQueryable → ℕ
queryable_number row = row.number

-- an open session accepts a declaration whose key it can read
pub sub_causes : (id : ℕ) (wire : WireExpr) (c : Bool) (o : Option (List ℕ)) (text : List ℕ) → c ≡ false → o ≡ Some text → is_canonical text ≡ true
    → first_cause c (row_of (Net (DeclareSubscriber id wire))) o ≡ None
sub_causes id wire c o text unshut named canonical =
    subst (λ (b : Bool). first_cause b (row_of (Net (DeclareSubscriber id wire))) o ≡ None) (sym unshut)
    (subst (λ (x : Option (List ℕ)). first_cause false (row_of (Net (DeclareSubscriber id wire))) x ≡ None) (sym named) (rw canonical refl))

pub queryable_causes : (id : ℕ) (complete : Bool) (wire : WireExpr) (c : Bool) (o : Option (List ℕ)) (text : List ℕ) → c ≡ false → o ≡ Some text → is_canonical text ≡ true
    → first_cause c (row_of (Net (DeclareQueryable id complete wire))) o ≡ None
queryable_causes id complete wire c o text unshut named canonical =
    subst (λ (b : Bool). first_cause b (row_of (Net (DeclareQueryable id complete wire))) o ≡ None) (sym unshut)
    (subst (λ (x : Option (List ℕ)). first_cause false (row_of (Net (DeclareQueryable id complete wire))) x ≡ None) (sym named) (rw canonical refl))

-- it refuses an end for nothing but that the number was not told
abbrev pub end_causes : (row : Row) (idle : Bool) (refusal : Refusal) → Type 0
end_causes row idle refusal = first_that (holds false row (record (sight_of None) { idle = idle })) in_order ≡ Some refusal → idle ≡ true

pub sub_end : (id : ℕ) (idle : Bool) (refusal : Refusal) → end_causes (row_of (Net (UndeclareSubscriber id))) idle refusal
sub_end id true refusal is = refl
sub_end id false refusal is = cc

pub queryable_end : (id : ℕ) (idle : Bool) (refusal : Refusal) → end_causes (row_of (Net (UndeclareQueryable id))) idle refusal
queryable_end id true refusal is = refl
queryable_end id false refusal is = cc

untold_is : (b : Bool) → (not b || false) ≡ true → b ≡ false
untold_is true is = cc
untold_is false is = refl

-- what an accepted event leaves of the rows that the network told
abbrev pub subs_behind : ToMatching → Option (List ℕ) → List RemoteSubscriber → List RemoteSubscriber
subs_behind to text rows = appended (filter (λ row. not (renews_sub to row)) rows) (remote_subscriber_row to text)

abbrev pub queryables_behind : ToMatching → Option (List ℕ) → List RemoteQueryable → List RemoteQueryable
queryables_behind to text rows = appended (filter (λ row. not (renews_queryable to row)) rows) (remote_queryable_row to text)

-- rows of subscribers behind a declaration, an end, and anything else
pub sub_declared : (number id : ℕ) (rows : List RemoteSubscriber) (o : Option (List ℕ)) (text : List ℕ) → o ≡ Some text
    → under sub_number id (subs_behind (TellsSub number) o rows) ≡ cond (number == id) (Some (record { number = number; key = undeclared text })) (under sub_number id rows)
sub_declared number id rows None text is = cc
sub_declared number id rows (Some t) text is =
    let same : t ≡ text = cc in
    under_renewed sub_number number id rows (record { number = number; key = undeclared t }) refl
    ∙ ap (λ (x : List ℕ). cond (number == id) (Some (record { number = number; key = undeclared x })) (under sub_number id rows)) same

pub queryable_declared : (number id : ℕ) (complete : Bool) (rows : List RemoteQueryable) (o : Option (List ℕ)) (text : List ℕ) → o ≡ Some text
    → under queryable_number id (queryables_behind (TellsQueryable number complete) o rows)
    ≡ cond (number == id) (Some (record { number = number; complete = complete; key = undeclared text })) (under queryable_number id rows)
queryable_declared number id complete rows None text is = cc
queryable_declared number id complete rows (Some t) text is =
    let same : t ≡ text = cc in
    under_renewed queryable_number number id rows (record { number = number; complete = complete; key = undeclared t }) refl
    ∙ ap (λ (x : List ℕ). cond (number == id) (Some (record { number = number; complete = complete; key = undeclared x })) (under queryable_number id rows)) same

-- an event that is accepted in an open session stands in its past
pub stands_in : {A : Type 0} (f : List Entry → A) (s : Settings) (past : List Entry) (e : Event) → is_closed past ≡ false → refusal_of s past e ≡ None
    → f (past_with s e past) ≡ f (entry_of s past e ∷ past)
stands_in f s past e unshut accepted = go (refusal_of s past e) (is_closed past) accepted unshut
  where
    go : (o : Option Refusal) (c : Bool) → o ≡ None → c ≡ false → f (with_entry o c (entry_of s past e) past) ≡ f (entry_of s past e ∷ past)
    go (Some refusal) c is at = cc
    go None true is at = cc
    go None false is at = refl

-- an event that tells nothing of subscribers leaves them as they were
pub subs_kept : (s : Settings) (past : List Entry) (e : Event) → ((text : Option (List ℕ)) (rows : List RemoteSubscriber) → subs_behind (row_of e).to_matching text rows ≡ rows)
    → remote_subscribers (past_with s e past) ≡ remote_subscribers past
subs_kept s past e kept = go (refusal_of s past e) (is_closed past)
  where
    go : (o : Option Refusal) (c : Bool) → remote_subscribers (with_entry o c (entry_of s past e) past) ≡ remote_subscribers past
    go (Some refusal) c = refl
    go None true = refl
    go None false = kept (entry_of s past e).text (remote_subscribers past)

pub queryables_kept : (s : Settings) (past : List Entry) (e : Event) → ((text : Option (List ℕ)) (rows : List RemoteQueryable) → queryables_behind (row_of e).to_matching text rows ≡ rows)
    → remote_queryables (past_with s e past) ≡ remote_queryables past
queryables_kept s past e kept = go (refusal_of s past e) (is_closed past)
  where
    go : (o : Option Refusal) (c : Bool) → remote_queryables (with_entry o c (entry_of s past e) past) ≡ remote_queryables past
    go (Some refusal) c = refl
    go None true = refl
    go None false = kept (entry_of s past e).text (remote_queryables past)

-- an end is accepted, or there was nothing to end
pub sub_ended : (s : Settings) (past : List Entry) (number id : ℕ) → is_closed past ≡ false
    → under sub_number id (remote_subscribers (past_with s (Net (UndeclareSubscriber number)) past)) ≡ cond (number == id) None (under sub_number id (remote_subscribers past))
sub_ended s past number id unshut = go (refusal_of s past e) refl (is_closed past) unshut
  where
    e : Event
    e = Net (UndeclareSubscriber number)

    idle : Bool
    idle = not (list_any (λ row. row.number == number) (remote_subscribers past)) || false

    cause : (refusal : Refusal) → refusal_of s past e ≡ Some refusal → idle ≡ true
    cause refusal is = sub_end number idle refusal (subst (λ (c : Bool). first_that (holds c (row_of e) (record (sight_of None) { idle = idle })) in_order ≡ Some refusal) unshut is)

    none : (b : Bool) → (number == id) ≡ b → under sub_number number (remote_subscribers past) ≡ None → under sub_number id (remote_subscribers past) ≡ cond b None (under sub_number id (remote_subscribers past))
    none false at is = refl
    none true at is = subst (λ (k : ℕ). under sub_number k (remote_subscribers past) ≡ None) (eqb-true number id at) is

    go : (o : Option Refusal) → refusal_of s past e ≡ o → (c : Bool) → c ≡ false
        → under sub_number id (remote_subscribers (with_entry o c (entry_of s past e) past)) ≡ cond (number == id) None (under sub_number id (remote_subscribers past))
    go (Some refusal) is c at = none (number == id) refl (none_under sub_number number (remote_subscribers past) (untold_is _ (cause refusal is)))
    go None is true at = cc
    go None is false at = under_without sub_number number id (remote_subscribers past)

pub queryable_ended : (s : Settings) (past : List Entry) (number id : ℕ) → is_closed past ≡ false
    → under queryable_number id (remote_queryables (past_with s (Net (UndeclareQueryable number)) past)) ≡ cond (number == id) None (under queryable_number id (remote_queryables past))
queryable_ended s past number id unshut = go (refusal_of s past e) refl (is_closed past) unshut
  where
    e : Event
    e = Net (UndeclareQueryable number)

    idle : Bool
    idle = not (list_any (λ row. row.number == number) (remote_queryables past)) || false

    cause : (refusal : Refusal) → refusal_of s past e ≡ Some refusal → idle ≡ true
    cause refusal is = queryable_end number idle refusal (subst (λ (c : Bool). first_that (holds c (row_of e) (record (sight_of None) { idle = idle })) in_order ≡ Some refusal) unshut is)

    none : (b : Bool) → (number == id) ≡ b → under queryable_number number (remote_queryables past) ≡ None
        → under queryable_number id (remote_queryables past) ≡ cond b None (under queryable_number id (remote_queryables past))
    none false at is = refl
    none true at is = subst (λ (k : ℕ). under queryable_number k (remote_queryables past) ≡ None) (eqb-true number id at) is

    go : (o : Option Refusal) → refusal_of s past e ≡ o → (c : Bool) → c ≡ false
        → under queryable_number id (remote_queryables (with_entry o c (entry_of s past e) past)) ≡ cond (number == id) None (under queryable_number id (remote_queryables past))
    go (Some refusal) is c at = none (number == id) refl (none_under queryable_number number (remote_queryables past) (untold_is _ (cause refusal is)))
    go None is true at = cc
    go None is false at = under_without queryable_number number id (remote_queryables past)

-- what was told behind one more message
pub told_message : (s : Settings) (past : List Entry) (before : List Message) (m : Message) → is_closed past ≡ false → Knows past before → IsDeclared before m
    → WasTold past before → WasTold (past_with s (Net m) past) (m ∷ before)
told_message s past before (DeclareSubscriber number wire) unshut knows readable told =
    let named : wire_text past wire ≡ Some readable.text = wire_known past before wire readable.text knows readable.reads in
    let accepted : refusal_of s past (Net (DeclareSubscriber number wire)) ≡ None =
    sub_causes number wire (is_closed past) (wire_text past wire) readable.text unshut named readable.canonical in
    record {
      subs = λ id.
          stands_in (λ (p : List Entry). under sub_number id (remote_subscribers p)) s past (Net (DeclareSubscriber number wire)) unshut accepted
          ∙ sub_declared number id (remote_subscribers past) (wire_text past wire) readable.text named
          ∙ ap (λ (o : Option RemoteSubscriber). cond (number == id) (Some (record { number = number; key = undeclared readable.text })) o) (told.subs id)
          ∙ ap (λ (o : Option (List ℕ)). cond (number == id) (option_map (λ (text : List ℕ). record { number = number; key = undeclared text }) o) (declared_sub id before)) (sym readable.reads);
      queryables = λ id. ap (under queryable_number id) (queryables_kept s past (Net (DeclareSubscriber number wire)) (λ text rows. all_kept queryable_number rows)) ∙ told.queryables id;
    }
told_message s past before (UndeclareSubscriber number) unshut knows readable told = record {
  subs = λ id. sub_ended s past number id unshut ∙ ap (λ (o : Option RemoteSubscriber). cond (number == id) None o) (told.subs id);
  queryables = λ id. ap (under queryable_number id) (queryables_kept s past (Net (UndeclareSubscriber number)) (λ text rows. all_kept queryable_number rows)) ∙ told.queryables id;
}
told_message s past before (DeclareQueryable number complete wire) unshut knows readable told =
    let named : wire_text past wire ≡ Some readable.text = wire_known past before wire readable.text knows readable.reads in
    let accepted : refusal_of s past (Net (DeclareQueryable number complete wire)) ≡ None =
    queryable_causes number complete wire (is_closed past) (wire_text past wire) readable.text unshut named readable.canonical in
    record {
      subs = λ id. ap (under sub_number id) (subs_kept s past (Net (DeclareQueryable number complete wire)) (λ text rows. all_kept sub_number rows)) ∙ told.subs id;
      queryables = λ id.
          stands_in (λ (p : List Entry). under queryable_number id (remote_queryables p)) s past (Net (DeclareQueryable number complete wire)) unshut accepted
          ∙ queryable_declared number id complete (remote_queryables past) (wire_text past wire) readable.text named
          ∙ ap (λ (o : Option RemoteQueryable). cond (number == id) (Some (record { number = number; complete = complete; key = undeclared readable.text })) o) (told.queryables id)
          ∙ ap (λ (o : Option (List ℕ)). cond (number == id) (option_map (λ (text : List ℕ). record { number = number; complete = complete; key = undeclared text }) o) (declared_queryable id before)) (sym readable.reads);
    }
told_message s past before (UndeclareQueryable number) unshut knows readable told = record {
  subs = λ id. ap (under sub_number id) (subs_kept s past (Net (UndeclareQueryable number)) (λ text rows. all_kept sub_number rows)) ∙ told.subs id;
  queryables = λ id. queryable_ended s past number id unshut ∙ ap (λ (o : Option RemoteQueryable). cond (number == id) None o) (told.queryables id);
}
told_message s past before m unshut knows readable told = record {
  subs = λ id. ap (under sub_number id) (subs_kept s past (Net m) (λ text rows. all_kept sub_number rows)) ∙ told.subs id;
  queryables = λ id. ap (under queryable_number id) (queryables_kept s past (Net m) (λ text rows. all_kept queryable_number rows)) ∙ told.queryables id;
}

-- an event of the application tells nothing of either
pub told_own : (s : Settings) (past : List Entry) (before : List Message) (e : Event)
    → ((text : Option (List ℕ)) (rows : List RemoteSubscriber) → subs_behind (row_of e).to_matching text rows ≡ rows)
    → ((text : Option (List ℕ)) (rows : List RemoteQueryable) → queryables_behind (row_of e).to_matching text rows ≡ rows)
    → WasTold past before → WasTold (past_with s e past) before
told_own s past before e subs queryables told = record {
  subs = λ id. ap (under sub_number id) (subs_kept s past e subs) ∙ told.subs id;
  queryables = λ id. ap (under queryable_number id) (queryables_kept s past e queryables) ∙ told.queryables id;
}

-- so an open session was told just what came in, where that was readable
pub told_after : (s : Settings) (h : List Event) → is_closed (past_of s h) ≡ false → AreSound (given h) → AreDeclared (given h) → WasTold (past_of s h) (given h)
told_after s [] unshut sound readable = record { subs = λ id. refl; queryables = λ id. refl }
told_after s (Net m ∷ h) unshut sound readable =
    let before : is_closed (past_of s h) ≡ false = open_before s (past_of s h) (Net m) unshut in
    told_message s (past_of s h) (given h) m before (known_after s h before sound.1) readable.0 (told_after s h before sound.1 readable.1)
told_after s (e ∷ h) unshut sound readable =
    let before : is_closed (past_of s h) ≡ false = open_before s (past_of s h) e unshut in
    told_own s (past_of s h) (given h) e (λ text rows. all_kept sub_number rows) (λ text rows. all_kept queryable_number rows) (told_after s h before sound readable)
