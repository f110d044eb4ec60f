-- What an open session makes of a get, once its key is known, and of one of a querier, once that is found.
use Rattle.std.proofs.Common.{◌≡◌, ℕ, List, [], Bool, true, false, Option, Some, None, refl, sym, ◌∙◌, ap}
use Rattle.std.specs.Prelude.{not, ◌&&◌, ◌||◌, Ok, Err, option_map, if◌then◌else◌}
use Rattle.zs_keys.specs.Key.{Key as a_key, undeclared}
use Rattle.zs_keys.specs.Text.{is_canonical}
use Rattle.zs_events.specs.declared.chan.Chan.{Chan}
use Rattle.zs_events.specs.declared.event.Event.TheVariants.{Get, QuerierGet}
use Rattle.zs_events.specs.declared.key_arg.KeyArg.{KeyArg}
use Rattle.zs_events.specs.declared.turn.Effect.{Effect}
use Rattle.zs_events.specs.declared.turn.Refusal.{Refusal}
use Rattle.zs_events.specs.declared.turn.Refusal.TheVariants.{NotFound, BadKeyExpr, QueryCancelled, IdsExhausted}
use Rattle.zs_events.specs.Kinds.{Question, NamedKey, OwnKey, QuerierKey, Asks, NoValue, row_of}
use Rattle.zs_events.specs.declared.inquiry.Inquiry.{Inquiry}
use Rattle.zs_events.specs.declared.inquiry.QuerySettings.{QuerySettings}
use Rattle.zs_world.specs.declared.change.Change.{Change}
use Rattle.zs_world.specs.declared.change.Change.TheVariants.{Nothing}
use Rattle.zs_world.specs.declared.change.Decision.{Decision}
use Rattle.zs_model.specs.declared.querier.QuerierRow.{QuerierRow}
use Rattle.zs_world.specs.World.{World}
use Rattle.zs_world.specs.Keys.{key_of, resolution}
use Rattle.zs_model.specs.Settings.{last_query}
use Rattle.zs_model.specs.Counters.{is_spent}
use Rattle.zs_model.specs.Cancelling.{is_drawn, is_any, is_among}
use Rattle.zs_model.specs.Queriers.{querier_at, is_querier, question_of, asks_of}
use Rattle.zs_model.specs.Values.{met_by, met_by_get, drawn_by, lacks_values}
use Rattle.zs_model.specs.GetEffects.{request_effects, told_effects, with_gets}
use Rattle.zs_world.specs.Changes.{get_change, querier_get_change}
use Rattle.zs_model.specs.Effects.{effects_on}
use Rattle.zs_world.specs.Decisions.{refused_if, first_cause, own_keys_at, known_at, decision_of, open_decision, asked_decision, ask_decision}
use Rattle.zs_model.proofs.Queriers.{found_there, missing_there}

-- a get that no querier asks
abbrev plainly : QuerySettings → Inquiry → Question
plainly settings inquiry = record { settings = settings; inquiry = inquiry; querier = None }

-- the tests of a get on a canonical key, whose token was drawn, one after the other
tested : (w : World) (key : NamedKey) (q : Question) (text : List ℕ) (fx : List Effect) (change : Change) (b : Bool) → b ≡ true
    → decision_of None (Some w.asking.next) fx change ≡ asked_decision w key q text (met_by_get w.entities.queryables q text)
    → ask_decision w key q text
    ≡ decision_of
    (refused_if (not b) BadKeyExpr
    (refused_if (is_any (is_among w.cancelling.taken) q.inquiry.cancellation_token) QueryCancelled
    (refused_if (lacks_values w.handing.next (met_by_get w.entities.queryables q text) || is_spent last_query w.asking.next) IdsExhausted None)))
    (Some w.asking.next) fx change
tested w key q text fx change false is same = cc
tested w key q text fx change true is same =
    go (is_any (is_among w.cancelling.taken) q.inquiry.cancellation_token) (lacks_values w.handing.next (met_by_get w.entities.queryables q text) || is_spent last_query w.asking.next)
  where
    go : (c l : Bool)
        → (if c then decision_of (Some QueryCancelled) None [] Nothing
        else if l then decision_of (Some IdsExhausted) None [] Nothing else asked_decision w key q text (met_by_get w.entities.queryables q text))
        ≡ decision_of (refused_if c QueryCancelled (refused_if l IdsExhausted None)) (Some w.asking.next) fx change
    go true l = refl
    go false true = refl
    go false false = sym same

-- a get by what its key stands for
abbrev get_on : World → KeyArg → QuerySettings → Inquiry → Chan → Bool → Option (List ℕ) → Decision
get_on w key settings inquiry to drawn text =
    decision_of
    (first_cause (row_of (Get key settings inquiry to))
    (record {
      text = text;
      lives = true;
      claimed = true;
      owed = true;
      drawn = drawn;
      cancelled = is_any (is_among w.cancelling.taken) inquiry.cancellation_token;
      disjoint = false;
      lacks = lacks_values w.handing.next (met_by w.entities.queryables (Asks (plainly settings inquiry)) NoValue text) || is_spent last_query w.asking.next;
      idle = false;
      spared = false;
    }))
    (Some w.asking.next) (effects_on (known_at w) (Some w.asking.next) text (Get key settings inquiry to)) (get_change w (plainly settings inquiry) text)

-- a key that a text resolves to has that text, which is canonical
text_found : (missing : Refusal) (o : Option (List ℕ)) (key : a_key) → resolution missing o ≡ Ok key → (o ≡ Some key.text) × (is_canonical key.text ≡ true)
text_found missing None key e = cc
text_found missing (Some text) key e = go (is_canonical text) refl e
  where
    go : (b : Bool) → is_canonical text ≡ b → (if b then Ok (undeclared text) else Err BadKeyExpr) ≡ Ok key → (Some text ≡ Some key.text) × (is_canonical key.text ≡ true)
    go true c e = let same : text ≡ key.text = cc in (ap (λ (t : List ℕ). Some t) same, ap is_canonical (sym same) ∙ c)
    go false c e = cc

pub asked_plainly : (w : World) (key : KeyArg) (settings : QuerySettings) (inquiry : Inquiry) (to : Chan) (resolved : a_key) → is_drawn w.cancelling.next inquiry.cancellation_token ≡ true
    → resolution NotFound (key_of w key) ≡ Ok resolved → ask_decision w (OwnKey key) (plainly settings inquiry) resolved.text ≡ open_decision w (Get key settings inquiry to)
asked_plainly w key settings inquiry to resolved drawn found =
    let at = text_found NotFound (key_of w key) resolved found in
    tested w (OwnKey key) (plainly settings inquiry) resolved.text (effects_on (known_at w) (Some w.asking.next) (Some resolved.text) (Get key settings inquiry to))
    (get_change w (plainly settings inquiry) (Some resolved.text)) (is_canonical resolved.text) at.1 refl
    ∙ (λ i. get_on w key settings inquiry to (sym drawn i) (sym at.0 i))

-- a get of a querier by what is found of that
abbrev queried_on : World → ℕ → Inquiry → Chan → Bool → Bool → Option QuerierRow → Decision
queried_on w id inquiry to drawn there o =
    let text : Option (List ℕ) = option_map (λ (row : QuerierRow). row.key.text) o in
    decision_of
    (first_cause (row_of (QuerierGet id inquiry to))
    (record {
      text = text;
      lives = there && true;
      claimed = true;
      owed = true;
      drawn = drawn;
      cancelled = is_any (is_among w.cancelling.taken) inquiry.cancellation_token;
      disjoint = false;
      lacks = lacks_values w.handing.next (met_by w.entities.queryables (asks_of inquiry o) NoValue text) || is_spent last_query w.asking.next;
      idle = false;
      spared = false;
    }))
    (Some w.asking.next)
    (with_gets (asks_of inquiry o) []
    (request_effects w.settings.default_timeout (own_keys_at w) (QuerierKey id) (drawn_by w.entities.queryables w.handing (asks_of inquiry o) NoValue (Some w.asking.next) text) (Some w.asking.next) text (asks_of inquiry o))
    (told_effects w.asking.gets w.liveliness.gets text (asks_of inquiry o)))
    (querier_get_change w inquiry o)

pub unqueried : (w : World) (id : ℕ) (inquiry : Inquiry) (to : Chan) → querier_at id w.entities.queriers ≡ None → decision_of (Some NotFound) None [] Nothing ≡ open_decision w (QuerierGet id inquiry to)
unqueried w id inquiry to found =
    let there : is_querier id w.entities.queriers ≡ false = missing_there id w.entities.queriers found in
    go (is_drawn w.cancelling.next inquiry.cancellation_token) ∙ (λ i. queried_on w id inquiry to (is_drawn w.cancelling.next inquiry.cancellation_token) (sym there i) (sym found i))
  where
    go : (drawn : Bool) → decision_of (Some NotFound) None [] Nothing ≡ queried_on w id inquiry to drawn false None
    go true = refl
    go false = refl

pub queried : (w : World) (id : ℕ) (inquiry : Inquiry) (to : Chan) (row : QuerierRow) → querier_at id w.entities.queriers ≡ Some row → is_canonical row.key.text ≡ true
    → is_drawn w.cancelling.next inquiry.cancellation_token ≡ true → ask_decision w (QuerierKey id) (question_of row inquiry) row.key.text ≡ open_decision w (QuerierGet id inquiry to)
queried w id inquiry to row found canonical drawn =
    let there : is_querier id w.entities.queriers ≡ true = found_there id w.entities.queriers row found in
    tested w (QuerierKey id) (question_of row inquiry) row.key.text _ (get_change w (question_of row inquiry) (Some row.key.text)) (is_canonical row.key.text) canonical refl
    ∙ (λ i. queried_on w id inquiry to (sym drawn i) (sym there i) (sym found i))
