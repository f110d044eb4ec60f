-- What gets and requests say, told by their changes.
use Rattle.std.proofs.Common.{◌≡◌, ◌≤◌, ◌+◌, ℕ, length, arith, List, [], ◌∷◌, Bool, true, false, Option, Some, None, refl, sym, ◌∙◌, ap, subst}
use Rattle.std.specs.Prelude.{◌&&◌, ◌||◌, not, option_map}
use Rattle.zs_events.specs.declared.event.Event.{Event}
use Rattle.zs_events.specs.declared.event.Event.TheVariants.{Net, Get, QuerierGet}
use Rattle.zs_events.specs.declared.chan.Chan.{Chan}
use Rattle.zs_events.specs.declared.key_arg.KeyArg.{KeyArg}
use Rattle.zs_wire.specs.declared.message.Message.TheVariants.{Request as request_message}
use Rattle.zs_world.specs.declared.change.Change.{Change}
use Rattle.zs_world.specs.declared.change.Change.TheVariants.{Nothing}
use Rattle.zs_world.specs.World.{World}
use Rattle.zs_wire.specs.Parameters.{contains_name, time_name}
use Rattle.zs_wire.specs.declared.request.Request.{Request}
use Rattle.zs_query.specs.declared.get_row.GetRow.{GetRow}
use Rattle.zs_query.specs.GetTable.{with_asked}
use Rattle.zs_query.specs.RequestTable.{with_handed}
use Rattle.zs_model.specs.Values.{met_by_get, met_by_request, met_by, get_request, last_value, lacks_values}
use Rattle.zs_model.proofs.Values.{handing_next}
use Rattle.std.proofs.lemmas.Bool.Decides.{nat_tests}
use Rattle.zs_model.specs.Questions.{given_parameters, row_waiting}
use Rattle.zs_model.proofs.Gets.{asking_by, IsAskedUnder, mode_settled}
use Rattle.zs_events.specs.Kinds.{Question, Asks, QueryNumber, NoGet, NoValue, Requested, row_of}
use Rattle.zs_events.specs.declared.inquiry.Inquiry.{Inquiry}
use Rattle.zs_events.specs.declared.inquiry.QuerySettings.{QuerySettings}
use Rattle.zs_model.specs.Entry.{Entry}
use Rattle.zs_model.specs.declared.querier.QuerierRow.{QuerierRow}
use Rattle.zs_model.specs.Queriers.{is_querier, querier_at, question_of, asks_of}
use Rattle.zs_model.proofs.Queriers.{missing_there}
use Rattle.zs_model.specs.Cancelling.{is_drawn, is_any, is_among}
use Rattle.zs_model.specs.Settings.{last_query}
use Rattle.zs_model.specs.Counters.{is_spent}
use Rattle.zs_world.specs.Changes.{change_for, Fits, with_change, ask_change, get_change, querier_get_change, request_change}
use Rattle.zs_world.specs.Decisions.{has_run_out, sight}
use Rattle.zs_standing.proofs.Decisions.{entry_for}
use Rattle.zs_standing.proofs.Saying.{IsText, IsNumber, IsMade, HasPassed}
use Rattle.zs_standing.proofs.Said.{Said, said_of, said_by, all_said}

-- neither of two is so
pub neither : (a b : Bool) → (a || b) ≡ false → (a ≡ false) × (b ≡ false)
neither true b none = cc
neither false b none = (refl, none)

-- there is room for values that are not lacking
pub room_is : (next : ℕ) (q : ℕ) (met : List ℕ) → lacks_values next (q ∷ met) ≡ false → next + length (q ∷ met) ≤ last_value
room_is next q met lacks = grind (arith, nat_tests)

-- a get is asked, given whom it meets
abbrev pub asked_row : World → Question → List ℕ → List ℕ → GetRow
asked_row w q text met = row_waiting w.settings.default_timeout w.asking.moment w.asking.next text q met

abbrev pub asked_change : World → Question → List ℕ → List ℕ → Change
asked_change w q text met = ask_change (asked_row w q text met) (get_request w.asking.next text q) met

pub asked_fits : (w : World) (q : Question) (text met : List ℕ) → met_by_get w.entities.queryables q text ≡ met
    → (lacks_values w.handing.next (met_by_get w.entities.queryables q text) || is_spent last_query w.asking.next) ≡ false → Fits w (asked_change w q text met)
asked_fits w q text [] e lacks = (
  refl,
  (neither (lacks_values w.handing.next (met_by_get w.entities.queryables q text)) (is_spent last_query w.asking.next) lacks).1,
  mode_settled q.settings.consolidation (contains_name time_name (given_parameters q)),
)
asked_fits w q text (id ∷ met) e lacks =
    let none = neither (lacks_values w.handing.next (met_by_get w.entities.queryables q text)) (is_spent last_query w.asking.next) lacks in (
      refl,
      none.1,
      mode_settled q.settings.consolidation (contains_name time_name (given_parameters q)),
      refl,
      room_is w.handing.next id met (ap (lacks_values w.handing.next) (sym e) ∙ none.0),
    )

pub asked_asking : (w : World) (q : Question) (text met : List ℕ) → met_by_get w.entities.queryables q text ≡ met
    → (with_change (asked_change w q text met) w).asking
    ≡ asking_by w.settings.default_timeout w.settings.zid w.entities.queryables w.handing.values (Asks q) NoValue (Some text) w.asking
asked_asking w q text [] e = ap (λ (met : List ℕ). with_asked (asked_row w q text met) w.asking) (sym e)
asked_asking w q text (id ∷ met) e = ap (λ (met : List ℕ). with_asked (asked_row w q text met) w.asking) (sym e)

pub asked_handing : (w : World) (q : Question) (text met : List ℕ) → met_by_get w.entities.queryables q text ≡ met
    → (with_change (asked_change w q text met) w).handing ≡ handing_next w.entities.queryables (Asks q) NoValue (Some w.asking.next) (Some text) w.handing
asked_handing w q text [] e = ap (λ (met : List ℕ). with_handed (get_request w.asking.next text q) met w.handing) (sym e)
asked_handing w q text (id ∷ met) e = ap (λ (met : List ℕ). with_handed (get_request w.asking.next text q) met w.handing) (sym e)

-- such a change says nothing but to gets and query values
abbrev asked_said : World → Question → List ℕ → Said
asked_said w q text = record (said_by w Nothing) {
  asking = asking_by w.settings.default_timeout w.settings.zid w.entities.queryables w.handing.values (Asks q) NoValue (Some text) w.asking;
  handing = handing_next w.entities.queryables (Asks q) NoValue (Some w.asking.next) (Some text) w.handing;
  next_query = w.asking.next + 1;
}

asked_says : (w : World) (q : Question) (text met : List ℕ) → met_by_get w.entities.queryables q text ≡ met → asked_said w q text ≡ said_by w (asked_change w q text met)
asked_says w q text [] e = λ i. record (asked_said w q text) { asking = sym (asked_asking w q text [] e) i; handing = sym (asked_handing w q text [] e) i }
asked_says w q text (id ∷ met) e = λ i. record (asked_said w q text) { asking = sym (asked_asking w q text (id ∷ met) e) i; handing = sym (asked_handing w q text (id ∷ met) e) i }

-- and hangs on no text and on no number
unbound : (w : World) (q : Question) (text met : List ℕ) (named : Option (List ℕ)) (number : Option ℕ) → IsText w named (asked_change w q text met) × IsNumber number (asked_change w q text met)
unbound w q text [] named number = (tt, tt)
unbound w q text (id ∷ met) named number = (tt, tt)

-- a get that no querier asks
abbrev pub plainly : QuerySettings → Inquiry → Question
plainly settings inquiry = record { settings = settings; inquiry = inquiry; querier = None }

pub get_made : (w : World) (key : KeyArg) (settings : QuerySettings) (inquiry : Inquiry) (to : Chan) (text : Option (List ℕ)) → w.closed ≡ false
    → HasPassed (row_of (Get key settings inquiry to))
    (record {
      text = text;
      lives = true;
      claimed = true;
      owed = true;
      drawn = is_drawn w.cancelling.next inquiry.cancellation_token;
      cancelled = is_any (is_among w.cancelling.taken) inquiry.cancellation_token;
      disjoint = false;
      lacks = lacks_values w.handing.next (met_by w.entities.queryables (Asks (plainly settings inquiry)) NoValue text) || has_run_out w QueryNumber text;
      idle = false;
      spared = false;
    })
    → IsMade w (record { number = Some w.asking.next; text = text; event = Get key settings inquiry to }) (get_change w (plainly settings inquiry) text)
get_made w key settings inquiry to None o p =
    let undrawn : Bool = not (is_drawn w.cancelling.next inquiry.cancellation_token) || false in
    let found : ((undrawn || true) || false) ≡ false = (neither ((undrawn || true) || false) false p.found).0 in
    let no : true ≡ false = (neither undrawn true (neither (undrawn || true) false found).0).1 in cc
get_made w key settings inquiry to (Some text) o p =
    let q : Question = plainly settings inquiry in
    let met : List ℕ = met_by_get w.entities.queryables q text in
    let free = unbound w q text met (Some text) (Some w.asking.next) in
    all_said o (asked_fits w q text met refl p.left) free.0 free.1 refl (asked_says w q text met refl)

-- a get of a querier, which is live
pub querier_get_made : (w : World) (id : ℕ) (inquiry : Inquiry) (to : Chan) → w.closed ≡ false → HasPassed (row_of (QuerierGet id inquiry to)) (sight w (QuerierGet id inquiry to))
    → IsMade w (entry_for w (QuerierGet id inquiry to)) (change_for w (QuerierGet id inquiry to))
querier_get_made w id inquiry to o p = go (querier_at id w.entities.queriers) refl
  where
    e : Event
    e = QuerierGet id inquiry to

    -- the entry and the change by what is found
    x : Option QuerierRow → Entry
    x found = record { number = Some w.asking.next; text = option_map (λ (row : QuerierRow). row.key.text) found; event = e }

    c : Option QuerierRow → Change
    c found = querier_get_change w inquiry found

    lacking : (found : Option QuerierRow) → querier_at id w.entities.queriers ≡ found
        → (lacks_values w.handing.next (met_by w.entities.queryables (asks_of inquiry found) NoValue (option_map (λ (row : QuerierRow). row.key.text) found)) || is_spent last_query w.asking.next) ≡ false
    lacking found is = subst (λ (f : Option QuerierRow). (lacks_values w.handing.next (met_by w.entities.queryables (asks_of inquiry f) NoValue (option_map (λ (row : QuerierRow). row.key.text) f)) || is_spent last_query w.asking.next) ≡ false) is p.left

    lives : is_querier id w.entities.queriers ≡ true
    lives =
        let undrawn : Bool = (not (is_drawn w.cancelling.next inquiry.cancellation_token) || false) || false in
        let gone : Bool = not (is_querier id w.entities.queriers && true) in
        go (is_querier id w.entities.queriers) (neither undrawn gone (neither (undrawn || gone) false p.found).0).1
      where
        go : (b : Bool) → not (b && true) ≡ false → b ≡ true
        go true none = refl
        go false none = cc

    go : (found : Option QuerierRow) → querier_at id w.entities.queriers ≡ found → IsMade w (x (querier_at id w.entities.queriers)) (c (querier_at id w.entities.queriers))
    go None is = let no : false ≡ true = sym (missing_there id w.entities.queriers is) ∙ lives in cc
    go (Some row) is =
        let question : Question = question_of row inquiry in
        let met : List ℕ = met_by_get w.entities.queryables question row.key.text in
        let free = unbound w question row.key.text met (Some row.key.text) (Some w.asking.next) in
        let under = subst (λ (f : Option QuerierRow). IsAskedUnder (asks_of inquiry f) (Some w.asking.next) w.asking.next) (sym is) refl in
        let said : said_of w (x (Some row)) ≡ asked_said w question row.key.text =
        λ i. record (asked_said w question row.key.text) {
          asking = asking_by w.settings.default_timeout w.settings.zid w.entities.queryables w.handing.values (asks_of inquiry (is i)) NoValue (Some row.key.text) w.asking;
          handing = handing_next w.entities.queryables (asks_of inquiry (is i)) NoValue (Some w.asking.next) (Some row.key.text) w.handing;
        } in
        subst (λ (f : Option QuerierRow). IsMade w (x f) (c f)) (sym is)
        (all_said o (asked_fits w question row.key.text met refl (lacking (Some row) is)) free.0 free.1 under (said ∙ asked_says w question row.key.text met refl))

-- a request from the network
pub request_made : (w : World) (request : Request) (text : Option (List ℕ)) → w.closed ≡ false
    → (lacks_values w.handing.next (met_by w.entities.queryables NoGet (Requested request) text) || false) ≡ false
    → IsMade w (record { number = None; text = text; event = Net (request_message request) }) (request_change w request text)
request_made w request None o lacks = all_said o tt tt tt tt refl
request_made w request (Some text) o lacks =
    let unspent : lacks_values w.handing.next (met_by_request w.entities.queryables request text) ≡ false =
    (neither (lacks_values w.handing.next (met_by_request w.entities.queryables request text)) false lacks).0 in
    all_said {w = w} {x = record { number = None; text = Some text; event = Net (request_message request) }} {c = request_change w request (Some text)} o unspent tt tt tt refl
