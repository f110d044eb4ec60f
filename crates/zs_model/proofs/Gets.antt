-- The table of open gets is what the events tell.
use Rattle.std.proofs.Common.{◌≡◌, ◌≢◌, ◌+◌, ◌<◌, ℕ, List, [], ◌∷◌, ◌++◌, Bool, true, false, Option, Some, None, refl, sym, ◌∙◌, ap, subst, arith}
use Rattle.std.specs.Prelude.{◌==◌, ◌&&◌, ◌||◌, not, max, if◌then◌else◌}
use Rattle.std.specs.List.{AllByRecursion, list_any}
use Rattle.std.proofs.lemmas.Bool.Decides.{nat_tests}
use Rattle.zs_wire.specs.declared.request.ConsolidationMode.{ConsolidationMode}
use Rattle.zs_wire.specs.declared.request.ConsolidationMode.TheVariants as by
use Rattle.zs_subscriptions.specs.Recipients.{has_session, has_network}
use Rattle.zs_query.specs.declared.side.Side.TheVariants.{Local, Network}
use Rattle.zs_query.specs.declared.get_row.GetRow.{GetRow}
use Rattle.zs_query.specs.Ascending.{Ascend}
use Rattle.zs_query.specs.Asked.{News, Quiet, ReplyTo, FinalOf, AtMoment, QuerierEnds, CancelledBy, AllEnd, Asked, is_end, waiting, replies_in, open_gets, hearing, heard, gets_after, opened}
use Rattle.zs_query.specs.GetTable.{Asking, with_asked}
use Rattle.zs_query.proofs.Ascending.{all_weaker, all_append, ascend_append}
use Rattle.zs_query.proofs.Hearing.{all_map, told, open_more, heard_ascend}
use Rattle.zs_events.specs.Kinds.{Question, ToGets, NoGet, Asks, AsksBy, Answers, EndsSide, Reaches, EndsQuerier, Cancels, EndsAll, ToValues, row_of}
use Rattle.zs_tables.specs.Queryables.{met}
use Rattle.zs_tables.specs.declared.queryable.QueryableRow.{QueryableRow}
use Rattle.zs_query.specs.Types.{QueryValue}
use Rattle.zs_model.specs.Values.{wants_complete, met_by_get, values_now}
use Rattle.zs_model.specs.Answers.{news_by_value}
use Rattle.zs_model.specs.declared.settings.Settings.{Settings}
use Rattle.zs_model.specs.Entry.{Entry}
use Rattle.zs_model.specs.declared.querier.QuerierRow.{QuerierRow}
use Rattle.zs_model.specs.Queriers.{querier_at, asks_of, to_gets_by}
use Rattle.zs_model.specs.Live.{appended, live_queryables, live_queriers, to_gets_of}
use Rattle.zs_model.specs.Counters.{draws_query, next_query}
use Rattle.zs_model.specs.Questions.{mode_by, is_some_met, row_asked, row_waiting}
use Rattle.zs_model.specs.Gets.{news_by, news_of, own_news, asked_by, moment_by, moment_of, asked, open_now}

-- what the tables make of an event, by what it is to gets
abbrev pub asking_by : ℕ → ℕ → List QueryableRow → List QueryValue → ToGets → ToValues → Option (List ℕ) → Asking → Asking
asking_by default zid rows values (Asks question) does (Some text) a =
    with_asked (row_waiting default a.moment a.next text question (met_by_get rows question text)) a
asking_by default zid rows values to does text a = record a { gets = gets_after (news_of zid values to does text) a.gets; moment = moment_by to a.moment }

-- a get is asked under the next number
abbrev pub IsAskedUnder : ToGets → Option ℕ → ℕ → Type 0
IsAskedUnder (Asks question) number next = number ≡ Some next
IsAskedUnder to number next = Unit {0}

-- the numbers of all these gets are below one
abbrev AreBelow : ℕ → List Asked → Type 0
AreBelow next asked = AllByRecursion (λ (a : Asked). a.row.number < next) asked

-- what the table, the counter and the moment are behind a past
pub record AreAsked (s : Settings) (a : Asking) (past : List Entry) : Type 0 where
  pub gets : a.gets ≡ open_now s past
  pub moment : a.moment ≡ moment_of past
  pub next : a.next ≡ next_query s past
  pub ascend : Ascend (λ (g : Asked). g.row.number) (asked s past)
  pub below : AreBelow a.next (asked s past)

-- no mode is left open
pub mode_settled : (mode : ConsolidationMode) (timed : Bool) → mode_by mode timed ≢ by.Auto
mode_settled by.Auto true is = cc
mode_settled by.Auto false is = cc
mode_settled by.None timed is = cc
mode_settled by.Monotonic timed is = cc
mode_settled by.Latest timed is = cc

same_number : (n : ℕ) → (n == n) ≡ true
same_number n = grind (arith, nat_tests)

and_false : (b : Bool) → (b && false) ≡ false
and_false true = refl
and_false false = refl

and_true : (b : Bool) → (b && true) ≡ b
and_true true = refl
and_true false = refl

-- a get that is asked waits for this session where it meets anybody, since its final is given at once where it meets nobody
waiting_is : (default moment number : ℕ) (text : List ℕ) (q : Question) (here : Bool) (met : List ℕ)
    → let a : Asked = record {
      row = record (row_asked default moment number text q) { local_wanted = here };
      since = if here && not (is_some_met (if here then met else [])) then FinalOf number Local ∷ [] else [];
    } in waiting a ≡ row_waiting default moment number text q (if here then met else [])
waiting_is default moment number text q true (id ∷ met) =
    let m : (has_network q.settings.destination && true) ≡ has_network q.settings.destination = and_true (has_network q.settings.destination) in
    λ i. record (row_asked default moment number text q) { local_wanted = true; network_wanted = m i }
waiting_is default moment number text q true [] =
    let l : (true && not (((number == number) && true) || false)) ≡ false = rw (same_number number) refl in
    let m : (has_network q.settings.destination && not (((number == number) && false) || false)) ≡ has_network q.settings.destination = rw (and_false (number == number)) (and_true (has_network q.settings.destination)) in
    λ i. record (row_asked default moment number text q) { local_wanted = l i; network_wanted = m i }
waiting_is default moment number text q false met =
    let m : (has_network q.settings.destination && true) ≡ has_network q.settings.destination = and_true (has_network q.settings.destination) in
    λ i. record (row_asked default moment number text q) { local_wanted = false; network_wanted = m i }

-- nothing has ended it, and it has had no reply
unended : (row : GetRow) (number : ℕ) (here : Bool) → list_any (is_end row) (if here then FinalOf number Local ∷ [] else []) ≡ false
unended row number true = refl
unended row number false = refl

unreplied : (row : GetRow) (number : ℕ) (here : Bool) → replies_in row (if here then FinalOf number Local ∷ [] else []) ≡ []
unreplied row number true = refl
unreplied row number false = refl

-- hearing keeps the numbers below
heard_below : (next : ℕ) (news : News) (gs : List Asked) → AreBelow next gs → AreBelow next (heard news gs)
heard_below next Quiet gs all = all
heard_below next (ReplyTo n r) gs all = all_map (λ (a : Asked). a.row.number < next) (hearing (ReplyTo n r)) gs all
heard_below next (FinalOf n side) gs all = all_map (λ (a : Asked). a.row.number < next) (hearing (FinalOf n side)) gs all
heard_below next (AtMoment m) gs all = all_map (λ (a : Asked). a.row.number < next) (hearing (AtMoment m)) gs all
heard_below next (QuerierEnds id) gs all = all_map (λ (a : Asked). a.row.number < next) (hearing (QuerierEnds id)) gs all
heard_below next (CancelledBy token) gs all = all_map (λ (a : Asked). a.row.number < next) (hearing (CancelledBy token)) gs all
heard_below next AllEnd gs all = all_map (λ (a : Asked). a.row.number < next) (hearing AllEnd) gs all

-- the table and the gets that were asked, behind one event more
record AreNext (new : Asking) (at : ℕ) (gs : List Asked) : Type 0 where
  gets : new.gets ≡ open_gets gs
  moment : new.moment ≡ at
  ascend : Ascend (λ (g : Asked). g.row.number) gs
  below : AreBelow new.next gs

-- an event that asks nothing
hears : (w new : Asking) (news : News) (moment now : ℕ) (gs : List Asked) → new ≡ record w { gets = gets_after news w.gets; moment = moment } → moment ≡ now
    → w.gets ≡ open_gets gs → Ascend (λ (g : Asked). g.row.number) gs → AreBelow w.next gs → AreNext new now (heard news gs)
hears w new news moment now gs is same table up all = record {
  gets = ap (λ (a : Asking). a.gets) is ∙ ap (gets_after news) table ∙ sym (told gs news up);
  moment = ap (λ (a : Asking). a.moment) is ∙ same;
  ascend = heard_ascend news gs up;
  below = subst (λ (n : ℕ). AreBelow n (heard news gs)) (sym (ap (λ (a : Asking). a.next) is)) (heard_below w.next news gs all);
}

-- an event that asks a get
asks : (default : ℕ) (w new : Asking) (now : ℕ) (text : List ℕ) (q : Question) (rows : List QueryableRow) (gs : List Asked)
    → new ≡ with_asked (row_waiting default w.moment w.next text q (met_by_get rows q text)) w → w.moment ≡ now
    → w.gets ≡ open_gets gs → Ascend (λ (g : Asked). g.row.number) gs → AreBelow w.next gs
    → AreNext new now (gs ++ record { row = row_asked default now w.next text q; since = own_news w.next q (met_by_get rows q text) } ∷ [])
asks default w new now text q rows gs is same table up all = record {
  gets =
      ap (λ (a : Asking). a.gets) is ∙ ap (λ (m : ℕ). opened (row_waiting default m w.next text q (met_by_get rows q text)) w.gets) same
      ∙ ap (opened (row_waiting default now w.next text q (met_by_get rows q text))) table
      ∙ ap (λ (row : GetRow). opened row (open_gets gs)) (sym (waiting_is default now w.next text q (has_session q.settings.destination) (met true (wants_complete q.settings.target) text rows)))
      ∙ sym (open_more one gs (unended one.row w.next given) (unreplied one.row w.next given));
  moment = ap (λ (a : Asking). a.moment) is ∙ same;
  ascend = ascend_append (λ (g : Asked). g.row.number) w.next gs (one ∷ []) up (tt, tt) all (omega arith, tt);
  below =
      subst (λ (n : ℕ). AreBelow n (gs ++ one ∷ [])) (sym (ap (λ (a : Asking). a.next) is))
      (all_append (λ (a : Asked). a.row.number < w.next + 1) gs (one ∷ [])
      (all_weaker (λ (a : Asked). a.row.number < w.next) (λ (a : Asked). a.row.number < w.next + 1) (λ a lt. omega (arith, lt)) gs all) (omega arith, tt));
}
  where
    one : Asked
    one = record { row = row_asked default now w.next text q; since = own_news w.next q (met_by_get rows q text) }

    given : Bool
    given = has_session q.settings.destination && not (is_some_met (met_by_get rows q text))

next_step : (s : Settings) (w new : Asking) (past : List Entry) (to : ToGets) (does : ToValues) (number : Option ℕ) (text : Option (List ℕ))
    → new ≡ asking_by s.default_timeout s.zid (live_queryables past) (values_now past) to does text w
    → IsAskedUnder to number w.next → AreAsked s w past
    → AreNext new (moment_by to (moment_of past))
    (appended (heard (news_of s.zid (values_now past) to does text) (asked s past)) (asked_by s.default_timeout (moment_of past) (live_queryables past) to number text))
next_step s w new past (Asks q) does number (Some text) is under st =
    subst (λ (o : Option ℕ). AreNext new (moment_of past) (appended (asked s past) (asked_by s.default_timeout (moment_of past) (live_queryables past) (Asks q) o (Some text)))) (sym under)
    (asks s.default_timeout w new (moment_of past) text q (live_queryables past) (asked s past) is st.moment st.gets st.ascend st.below)
next_step s w new past (Asks q) does number None is under st =
    subst (λ (gs : List Asked). AreNext new (moment_of past) gs) (nothing number) (hears w new Quiet w.moment (moment_of past) (asked s past) is st.moment st.gets st.ascend st.below)
  where
    nothing : (o : Option ℕ) → asked s past ≡ appended (asked s past) (asked_by s.default_timeout (moment_of past) (live_queryables past) (Asks q) o None)
    nothing None = refl
    nothing (Some n) = refl
next_step s w new past NoGet does number text is under st =
    hears w new (news_by_value s.zid (values_now past) does text) w.moment (moment_of past) (asked s past) is st.moment st.gets st.ascend st.below
next_step s w new past (AsksBy id q) does number text is under st = hears w new Quiet w.moment (moment_of past) (asked s past) is st.moment st.gets st.ascend st.below
next_step s w new past (Answers response) does number text is under st =
    hears w new (news_by (Answers response) text) w.moment (moment_of past) (asked s past) is st.moment st.gets st.ascend st.below
next_step s w new past (EndsSide n) does number text is under st =
    hears w new (FinalOf n Network) w.moment (moment_of past) (asked s past) is st.moment st.gets st.ascend st.below
next_step s w new past (Reaches m) does number text is under st =
    hears w new (AtMoment m) (max w.moment m) (max (moment_of past) m) (asked s past) is (ap (λ (n : ℕ). max n m) st.moment) st.gets st.ascend st.below
next_step s w new past (EndsQuerier id) does number text is under st =
    hears w new (QuerierEnds id) w.moment (moment_of past) (asked s past) is st.moment st.gets st.ascend st.below
next_step s w new past (Cancels token) does number text is under st =
    hears w new (CancelledBy token) w.moment (moment_of past) (asked s past) is st.moment st.gets st.ascend st.below
next_step s w new past EndsAll does number text is under st = hears w new AllEnd w.moment (moment_of past) (asked s past) is st.moment st.gets st.ascend st.below

-- no querier's get is a moment
moment_same : (rows : List QuerierRow) (to : ToGets) (m : ℕ) → moment_by (to_gets_by rows to) m ≡ moment_by to m
moment_same rows (AsksBy id q) m = go (querier_at id rows)
  where
    go : (o : Option QuerierRow) → moment_by (asks_of q o) m ≡ m
    go None = refl
    go (Some row) = refl
moment_same rows to m = refl

-- the tables behind one event more
pub asked_more : (s : Settings) (w new : Asking) (past : List Entry) (x : Entry)
    → new ≡ asking_by s.default_timeout s.zid (live_queryables past) (values_now past) (to_gets_of past x.event) (row_of x.event).to_values x.text w
    → IsAskedUnder (to_gets_of past x.event) x.number w.next → new.next ≡ (if draws_query (row_of x.event).draws then w.next + 1 else w.next)
    → AreAsked s w past → AreAsked s new (x ∷ past)
asked_more s w new past x is under counted st =
    let n = next_step s w new past (to_gets_of past x.event) (row_of x.event).to_values x.number x.text is under st in
    record {
      gets = n.gets;
      moment = n.moment ∙ moment_same (live_queriers past) (row_of x.event).to_gets (moment_of past);
      next = counted ∙ ap (λ (m : ℕ). if draws_query (row_of x.event).draws then m + 1 else m) st.next;
      ascend = n.ascend;
      below = n.below;
    }

pub asked_opened : (s : Settings) → AreAsked s (record { gets = []; next = s.query_start; moment = 0 }) []
asked_opened s = record { gets = refl; moment = refl; next = refl; ascend = tt; below = tt }
