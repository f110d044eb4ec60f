-- The table of query values is what the events tell.
use Rattle.std.proofs.Common.{◌≡◌, ◌+◌, ℕ, List, [], ◌∷◌, ◌++◌, Option, Some, None, refl, sym, ◌∙◌, ap, arith, length, map, append-nil}
use Rattle.std.proofs.lemmas.List.{length-append, length-map}
use Rattle.zs_tables.specs.declared.queryable.QueryableRow.{QueryableRow}
use Rattle.zs_query.specs.Types.{QueryValue, RequestRow}
use Rattle.zs_query.specs.Unfinished.{value_at, values_from, without_value}
use Rattle.zs_query.specs.RequestTable.{Handing, with_handed, with_share, with_shared, with_finished}
use Rattle.zs_query.specs.Drawn.{ValueNews, Drew, GaveBack, just_drawn, giving_back, drawn, unfinished}
use Rattle.zs_query.proofs.Drawing.{told as values_told}
use Rattle.zs_events.specs.Kinds.{ToGets, NoGet, Asks, AsksBy, Answers, EndsSide, Reaches, EndsQuerier, Cancels, EndsAll, ToValues, NoValue, Requested, AnswersBy, AnswersError, SharesValue, GivesBack, row_of}
use Rattle.zs_model.specs.Entry.{Entry}
use Rattle.zs_model.specs.Live.{live_queryables, to_gets_of}
use Rattle.zs_model.specs.Values.{met_by_get, met_by_request, met_by, get_request, network_request, share_of, drawn_by, news_by_draw, counted, times_handed, handing_by, value_news, handing_of}
use Rattle.zs_model.proofs.Gets.{IsAskedUnder}

-- what the table makes of an event, by what it does with query values
abbrev pub handing_next : List QueryableRow → ToGets → ToValues → Option ℕ → Option (List ℕ) → Handing → Handing
handing_next rows (Asks q) does (Some number) (Some text) h = with_handed (get_request number text q) (met_by_get rows q text) h
handing_next rows NoGet (Requested request) number (Some text) h = with_handed (network_request text request) (met_by_request rows request text) h
handing_next rows NoGet (SharesValue value) number text h = with_shared value h
handing_next rows NoGet (GivesBack value) number text h = with_finished value h
handing_next rows to does number text h = h

pub many_values : (first request : ℕ) (row : RequestRow) (met : List ℕ) → length (values_from first request row met) ≡ length met
many_values first request row [] = refl
many_values first request row (q ∷ met) = omega (arith, many_values (first + 1) request row met)

-- values that are drawn stand behind the others
drew : (handed : ℕ) (values : List QueryValue) (news : List ValueNews)
    → let before : Handing = handing_by handed news in
    handing_by handed (Drew values ∷ news) ≡ record before { values = before.values ++ values; next = before.next + length values }
drew handed values news =
    let told : unfinished (Drew values ∷ news) ≡ unfinished news ++ values = values_told (Drew values) news in
    let many : length (drawn news ++ map just_drawn values) ≡ length (drawn news) + length values =
    length-append (drawn news) (map just_drawn values) ∙ ap (λ (n : ℕ). length (drawn news) + n) (length-map values just_drawn) in
    λ i. record { handed = handed; values = told i; next = many i }

drew_none : (handed : ℕ) (news : List ValueNews) → handing_by handed (Drew [] ∷ news) ≡ handing_by handed news
drew_none handed news =
    let told : unfinished (Drew [] ∷ news) ≡ unfinished news = values_told (Drew []) news ∙ append-nil (unfinished news) in
    let many : length (drawn news ++ []) ≡ length (drawn news) = ap length (append-nil (drawn news)) in
    λ i. record { handed = handed; values = told i; next = many i }

gave_back : (handed value : ℕ) (news : List ValueNews) → handing_by handed (GaveBack value ∷ news) ≡ with_finished value (handing_by handed news)
gave_back handed value news =
    let told : unfinished (GaveBack value ∷ news) ≡ without_value value (unfinished news) = values_told (GaveBack value) news in
    let many : length (map (giving_back value) (drawn news)) ≡ length (drawn news) = length-map (drawn news) (giving_back value) in
    λ i. record { handed = handed; values = told i; next = many i }

handed_out : (handed : ℕ) (row : RequestRow) (met : List ℕ) (news : List ValueNews)
    → with_handed row met (handing_by handed news) ≡ handing_by (counted met handed) (Drew (values_from (length (drawn news)) handed row met) ∷ news)
handed_out handed row [] news = sym (drew_none handed news)
handed_out handed row (q ∷ met) news =
    let all = values_from (length (drawn news)) handed row (q ∷ met) in
    let many : length (drawn news) + length (q ∷ met) ≡ length (drawn news) + length all =
    ap (λ (n : ℕ). length (drawn news) + n) (sym (many_values (length (drawn news)) handed row (q ∷ met))) in
    (λ i. record { handed = handed + 1; values = unfinished news ++ all; next = many i }) ∙ sym (drew (handed + 1) all news)

shared_out : (handed : ℕ) (o : Option QueryValue) (news : List ValueNews)
    → with_share o (handing_by handed news) ≡ handing_by handed (Drew (share_of (length (drawn news)) o) ∷ news)
shared_out handed None news = sym (drew_none handed news)
shared_out handed (Some v) news = sym (drew handed (record v { value = length (drawn news) } ∷ []) news)

handing_step : (rows : List QueryableRow) (to : ToGets) (does : ToValues) (number : Option ℕ) (text : Option (List ℕ)) (next handed : ℕ) (news : List ValueNews)
    → IsAskedUnder to number next
    → handing_next rows to does number text (handing_by handed news)
    ≡ handing_by (counted (met_by rows to does text) handed)
    (news_by_draw to does (drawn_by rows (handing_by handed news) to does number text) ∷ news)
handing_step rows (Asks q) does (Some number) (Some text) next handed news under = handed_out handed (get_request number text q) (met_by_get rows q text) news
handing_step rows (Asks q) does None text next handed news under = cc under
handing_step rows (Asks q) does (Some number) None next handed news under = sym (drew_none handed news)
handing_step rows NoGet NoValue number text next handed news under = sym (drew_none handed news)
handing_step rows NoGet (Requested request) number (Some text) next handed news under =
    handed_out handed (network_request text request) (met_by_request rows request text) news
handing_step rows NoGet (Requested request) number None next handed news under = sym (drew_none handed news)
handing_step rows NoGet (AnswersBy value body quality) number text next handed news under = sym (drew_none handed news)
handing_step rows NoGet (AnswersError value error) number text next handed news under = sym (drew_none handed news)
handing_step rows NoGet (SharesValue value) number text next handed news under = shared_out handed (value_at value (unfinished news)) news
handing_step rows NoGet (GivesBack value) number text next handed news under = sym (gave_back handed value news)
handing_step rows (AsksBy id q) does number text next handed news under = sym (drew_none handed news)
handing_step rows (Answers response) does number text next handed news under = sym (drew_none handed news)
handing_step rows (EndsSide n) does number text next handed news under = sym (drew_none handed news)
handing_step rows (Reaches moment) does number text next handed news under = sym (drew_none handed news)
handing_step rows (EndsQuerier id) does number text next handed news under = sym (drew_none handed news)
handing_step rows (Cancels token) does number text next handed news under = sym (drew_none handed news)
handing_step rows EndsAll does number text next handed news under = sym (drew_none handed news)

-- so behind each event
pub handing_more : (new h : Handing) (past : List Entry) (x : Entry) (next : ℕ)
    → new ≡ handing_next (live_queryables past) (to_gets_of past x.event) (row_of x.event).to_values x.number x.text h
    → IsAskedUnder (to_gets_of past x.event) x.number next → h ≡ handing_of past → new ≡ handing_of (x ∷ past)
handing_more new h past x next is under same =
    is ∙ ap (handing_next (live_queryables past) (to_gets_of past x.event) (row_of x.event).to_values x.number x.text) same
    ∙ handing_step (live_queryables past) (to_gets_of past x.event) (row_of x.event).to_values x.number x.text next (times_handed past) (value_news past) under
