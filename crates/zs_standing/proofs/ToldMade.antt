-- What events of liveliness and of matching say, told by their changes.
use Rattle.std.proofs.Common.{◌≡◌, ℕ, List, [], ◌∷◌, Bool, true, false, Option, Some, None, refl, sym, ◌∙◌, ap}
use Rattle.std.specs.Prelude.{◌&&◌, ◌||◌, not, if◌then◌else◌}
use Rattle.zs_keys.specs.Key.{undeclared}
use Rattle.zs_wire.specs.declared.wire_expr.WireExpr.{WireExpr}
use Rattle.zs_events.specs.declared.event.Event.TheVariants.{Net, Listen, LivelinessGet}
use Rattle.zs_events.specs.declared.chan.Chan.{Chan}
use Rattle.zs_events.specs.declared.key_arg.KeyArg.{KeyArg}
use Rattle.zs_wire.specs.declared.message.Message.TheVariants.{DeclareToken as token_message, DeclareSubscriber, DeclareQueryable}
use Rattle.zs_model.specs.declared.publisher.PubRow.{PubRow}
use Rattle.zs_tables.specs.Liveliness.{put_new}
use Rattle.zs_tables.specs.Types.{RemoteToken}
use Rattle.zs_model.specs.Entry.{Entry}
use Rattle.zs_world.specs.declared.change.Change.TheVariants.{Nothing, OfLiveliness}
use Rattle.zs_world.specs.declared.change.LivelinessChange.TheVariants.{RecordToken}
use Rattle.zs_world.specs.World.{World}
use Rattle.zs_events.specs.Kinds.{EntityNumber, row_of}
use Rattle.zs_model.specs.Publishers.{pub_at, is_pub}
use Rattle.zs_world.proofs.Publishers.{missing_there as missing_pub}
use Rattle.zs_model.specs.declared.querier.QuerierRow.{QuerierRow}
use Rattle.zs_model.specs.Queriers.{is_querier, querier_at}
use Rattle.zs_model.proofs.Queriers.{missing_there}
use Rattle.zs_model.specs.Cancelling.{is_drawn, is_any, is_among}
use Rattle.zs_model.specs.Tokens.{answers}
use Rattle.zs_world.specs.LivelinessChanges.{asking_change, remote_token_change}
use Rattle.zs_tables.specs.declared.listener.ListenerRow.{ListenerRow}
use Rattle.zs_events.specs.declared.entity_kind.ParentKind.{ParentKind}
use Rattle.zs_events.specs.Kinds.{parent_kind_of}
use Rattle.zs_events.specs.declared.entity_kind.ParentKind.TheVariants.{Pub as pub_parent, Querier as querier_parent}
use Rattle.zs_model.specs.Listeners.{listening, on_pub, on_querier}
use Rattle.zs_world.specs.MatchingChanges.{listen_change, remote_subscriber_change, remote_queryable_change}
use Rattle.zs_world.specs.Decisions.{has_run_out, sight, is_there, is_left}
use Rattle.zs_standing.proofs.Said.{Said, said_of, all_said}
use Rattle.zs_standing.proofs.Saying.{IsMade, HasPassed}
use Rattle.zs_standing.proofs.AskedMade.{neither}

pub tokens_made : (w : World) (key : KeyArg) (timeout token : Option ℕ) (to : Chan) (text : Option (List ℕ)) → w.closed ≡ false
    → HasPassed (row_of (LivelinessGet key timeout token to))
    (record {
      text = text;
      lives = true;
      claimed = true;
      owed = true;
      drawn = is_drawn w.cancelling.next token;
      cancelled = is_any (is_among w.cancelling.taken) token;
      disjoint = false;
      lacks = has_run_out w EntityNumber text;
      idle = false;
      spared = false;
    })
    → IsMade w (record { number = Some w.counters.entity; text = text; event = LivelinessGet key timeout token to })
    (asking_change w.settings.default_timeout w.asking.moment w.counters.entity timeout token text)
tokens_made w key timeout token to None o p =
    let undrawn : Bool = not (is_drawn w.cancelling.next token) || false in
    let found : ((undrawn || true) || false) ≡ false = (neither ((undrawn || true) || false) false p.found).0 in
    let no : true ≡ false = (neither undrawn true (neither (undrawn || true) false found).0).1 in cc
tokens_made w key timeout token to (Some text) o p = all_said o (refl, p.left) tt refl tt refl

pub told_made : (w : World) (id : ℕ) (wire : WireExpr) (interest : Option ℕ) (text : Option (List ℕ)) → w.closed ≡ false
    → IsMade w (record { number = None; text = text; event = Net (token_message id wire interest) }) (remote_token_change w.liveliness.gets id interest text)
told_made w id wire interest None o = all_said o tt tt tt tt refl
told_made w id wire interest (Some text) o = go (answers interest w.liveliness.gets) refl
  where
    x : Entry
    x = record { number = None; text = Some text; event = Net (token_message id wire interest) }

    -- what it says, by whether it answers a get
    heard : Bool → Said
    heard b = record (said_of w x) { told = if b then w.liveliness.remote_tokens else put_new (λ (t : RemoteToken). t.number) (record { number = id; key = undeclared text }) w.liveliness.remote_tokens }

    go : (b : Bool) → answers interest w.liveliness.gets ≡ b → IsMade w x (if b then Nothing else OfLiveliness (RecordToken (record { number = id; key = undeclared text })))
    go true is = all_said o tt tt tt tt (λ i. heard (is i))
    go false is = all_said o tt tt tt tt (λ i. heard (is i))

-- the number of a listener
abbrev pub head_id : ℕ → List ListenerRow → ℕ
head_id n [] = n
head_id n (row ∷ rows) = row.id

pub on_pub_id : (n : ℕ) (o : Option PubRow) → head_id n (on_pub n o) ≡ n
on_pub_id n None = refl
on_pub_id n (Some row) = refl

pub on_querier_id : (n : ℕ) (o : Option QuerierRow) → head_id n (on_querier n o) ≡ n
on_querier_id n None = refl
on_querier_id n (Some row) = refl

pub listening_id : (pubs : List PubRow) (queriers : List QuerierRow) (n : ℕ) (parent : ParentKind) (id : ℕ) → head_id n (listening pubs queriers n (parent_kind_of parent) id) ≡ n
listening_id pubs queriers n pub_parent id = on_pub_id n (pub_at id pubs)
listening_id pubs queriers n querier_parent id = on_querier_id n (querier_at id queriers)

-- where there is nothing to listen to, what the event names isn't there
pub none_on_pub : (n id : ℕ) (pubs : List PubRow) (o : Option PubRow) → pub_at id pubs ≡ o → on_pub n (pub_at id pubs) ≡ [] → is_pub id pubs ≡ false
none_on_pub n id pubs None is none = missing_pub id pubs is
none_on_pub n id pubs (Some row) is none = let no : on_pub n (Some row) ≡ [] = ap (on_pub n) (sym is) ∙ none in cc

pub none_on_querier : (n id : ℕ) (queriers : List QuerierRow) (o : Option QuerierRow) → querier_at id queriers ≡ o → on_querier n (querier_at id queriers) ≡ [] → is_querier id queriers ≡ false
none_on_querier n id queriers None is none = missing_there id queriers is
none_on_querier n id queriers (Some row) is none = let no : on_querier n (Some row) ≡ [] = ap (on_querier n) (sym is) ∙ none in cc

pub none_listening : (w : World) (parent : ParentKind) (id : ℕ) → listening w.entities.pubs w.entities.queriers w.counters.entity (parent_kind_of parent) id ≡ []
    → is_there (parent_kind_of parent) id w ≡ false
none_listening w pub_parent id none = none_on_pub w.counters.entity id w.entities.pubs (pub_at id w.entities.pubs) refl none
none_listening w querier_parent id none = none_on_querier w.counters.entity id w.entities.queriers (querier_at id w.entities.queriers) refl none

pub unfound : (there left : Bool) → there ≡ false → (not (there && not left) || false) ≡ false → ⊥
unfound true left gone found = cc
unfound false left gone found = cc

-- a listener: where there is nothing to listen to, the event is refused
pub listen_made : (w : World) (parent : ParentKind) (id : ℕ) (rows : List ListenerRow) → listening w.entities.pubs w.entities.queriers w.counters.entity (parent_kind_of parent) id ≡ rows → w.closed ≡ false
    → HasPassed (row_of (Listen parent id)) (sight w (Listen parent id))
    → IsMade w (record { number = Some w.counters.entity; text = None; event = Listen parent id }) (listen_change rows)
listen_made w parent id [] e o p = absurd (unfound (is_there (parent_kind_of parent) id w) (is_left (parent_kind_of parent) id w) (none_listening w parent id e) p.found)
listen_made w parent id (row ∷ rows) e o p = all_said o (sym (ap (head_id w.counters.entity) e) ∙ listening_id w.entities.pubs w.entities.queriers w.counters.entity parent id, p.left) tt (ap (λ (n : ℕ). Some n) (sym (listening_id w.entities.pubs w.entities.queriers w.counters.entity parent id) ∙ ap (head_id w.counters.entity) e)) tt refl

-- a subscriber that the network tells, and a queryable
pub remote_subscriber_made : (w : World) (id : ℕ) (wire : WireExpr) (text : Option (List ℕ)) → w.closed ≡ false
    → IsMade w (record { number = None; text = text; event = Net (DeclareSubscriber id wire) }) (remote_subscriber_change id text)
remote_subscriber_made w id wire None o = all_said o tt tt tt tt refl
remote_subscriber_made w id wire (Some text) o = all_said o tt tt tt tt refl

pub remote_queryable_made : (w : World) (id : ℕ) (complete : Bool) (wire : WireExpr) (text : Option (List ℕ)) → w.closed ≡ false
    → IsMade w (record { number = None; text = text; event = Net (DeclareQueryable id complete wire) }) (remote_queryable_change id complete text)
remote_queryable_made w id complete wire None o = all_said o tt tt tt tt refl
remote_queryable_made w id complete wire (Some text) o = all_said o tt tt tt tt refl
