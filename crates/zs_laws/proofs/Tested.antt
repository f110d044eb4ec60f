-- What is said of the texts of a past's keys is said of those of query values; and an accepted event's key was tested.
use Rattle.std.proofs.Common.{◌≡◌, ℕ, ◌+◌, List, [], ◌∷◌, Bool, true, false, Option, Some, None, refl, sym, subst}
use Rattle.std.specs.Prelude.{◌==◌, ◌&&◌, not, if◌then◌else◌}
use Rattle.std.specs.List.{AllByRecursion}
use Rattle.std.specs.Option.{IfSome}
use Rattle.zs_keys.specs.Text.{is_canonical}
use Rattle.zs_wire.specs.declared.message.Message.TheVariants.{Request as request_message}
use Rattle.zs_tables.specs.declared.queryable.QueryableRow.{QueryableRow}
use Rattle.zs_tables.specs.Types.{RemoteToken}
use Rattle.zs_query.specs.Types.{QueryValue, RequestRow}
use Rattle.zs_query.specs.Unfinished.{value_at, values_from}
use Rattle.zs_query.specs.RequestTable.{Handing, with_handed, with_share}
use Rattle.zs_query.proofs.Ascending.{all_append, all_filter}
use Rattle.zs_events.specs.declared.event.Event.{Event}
use Rattle.zs_events.specs.declared.event.Event.TheVariants.{Undeclare, Net, Get, QuerierGet, Share, Finish}
use Rattle.zs_events.specs.declared.entity_kind.EntityKind.TheVariants.{Sub as sub_kind}
use Rattle.zs_events.specs.declared.turn.Refusal.{Refusal}
use Rattle.zs_events.specs.Kinds.{Question, Asks, ToValues, NoValue, ToLiveliness, EndsToken, row_of}
use Rattle.zs_model.specs.declared.settings.Settings.{Settings}
use Rattle.zs_model.specs.declared.querier.QuerierRow.{QuerierRow}
use Rattle.zs_world.specs.World.{World}
use Rattle.zs_model.specs.Entry.{Entry, is_closed}
use Rattle.zs_model.specs.HeldKeys.{named_text}
use Rattle.zs_model.specs.Past.{past_of, entry_of, with_entry}
use Rattle.zs_model.specs.Causes.{has_cause, in_order, first_that, refusal_of}
use Rattle.zs_model.specs.Seen.{is_bad}
use Rattle.zs_model.specs.Tokens.{remote_tokens, is_spared}
use Rattle.zs_model.specs.Queriers.{querier_at, question_of, asks_of, to_gets_by}
use Rattle.zs_model.specs.Values.{met_by_get, met_by_request, get_request, network_request, values_now}
use Rattle.zs_model.proofs.Values.{handing_next}
use Rattle.zs_standing.proofs.Steps.{along}
use Rattle.zs_standing.proofs.Stands.{standing}
use Rattle.zs_laws.proofs.Sent.{ends_token}

-- the texts of the keys of these values are such
abbrev pub AreOf : (List ℕ → Type 0) → List QueryValue → Type 0
AreOf P values = AllByRecursion (λ (v : QueryValue). P v.row.key.text) values

new_of : (P : List ℕ → Type 0) (first request : ℕ) (row : RequestRow) (met : List ℕ) → P row.key.text → AreOf P (values_from first request row met)
new_of P first request row [] holds = tt
new_of P first request row (q ∷ met) holds = (holds, new_of P (first + 1) request row met holds)

handed_of : (P : List ℕ → Type 0) (row : RequestRow) (met : List ℕ) (h : Handing) → P row.key.text → AreOf P h.values → AreOf P (with_handed row met h).values
handed_of P row [] h holds all = all
handed_of P row (q ∷ met) h holds all =
    all_append (λ (v : QueryValue). P v.row.key.text) h.values (values_from h.next h.handed row (q ∷ met)) all (new_of P h.next h.handed row (q ∷ met) holds)

pub found_of : (P : List ℕ → Type 0) (n : ℕ) (v : QueryValue) (values : List QueryValue) → AreOf P values → value_at n values ≡ Some v → P v.row.key.text
found_of P n v [] all found = cc
found_of P n v (o ∷ values) all found = go (o.value == n) found (found_of P n v values all.1)
  where
    go : (b : Bool) → (if b then Some o else value_at n values) ≡ Some v → (value_at n values ≡ Some v → P v.row.key.text) → P v.row.key.text
    go true found ih = let same : o ≡ v = cc in subst (λ (w : QueryValue). P w.row.key.text) same all.0
    go false found ih = ih found

shared_of : (P : List ℕ → Type 0) (n : ℕ) (o : Option QueryValue) (h : Handing) → value_at n h.values ≡ o → AreOf P h.values → AreOf P (with_share o h).values
shared_of P n None h found all = all
shared_of P n (Some v) h found all =
    all_append (λ (v : QueryValue). P v.row.key.text) h.values (record v { value = h.next } ∷ []) all (found_of P n v h.values all found, tt)

asked_of : (P : List ℕ → Type 0) (rows : List QueryableRow) (q : Question) (does : ToValues) (number : Option ℕ) (text : Option (List ℕ)) (h : Handing)
    → IfSome text P → AreOf P h.values → AreOf P (handing_next rows (Asks q) does number text h).values
asked_of P rows q does (Some number) (Some text) h holds all = handed_of P (get_request number text q) (met_by_get rows q text) h holds all
asked_of P rows q does (Some number) None h holds all = all
asked_of P rows q does None text h holds all = all

-- what an event makes of the values
next_of : (P : List ℕ → Type 0) (rows : List QueryableRow) (queriers : List QuerierRow) (e : Event) (number : Option ℕ) (text : Option (List ℕ)) (h : Handing)
    → (ends_token (row_of e).to_liveliness ≡ false → IfSome text P) → AreOf P h.values
    → AreOf P (handing_next rows (to_gets_by queriers (row_of e).to_gets) (row_of e).to_values number text h).values
next_of P rows queriers (Get key settings inquiry to) number text h holds all =
    asked_of P rows (record { settings = settings; inquiry = inquiry; querier = None }) NoValue number text h (holds refl) all
next_of P rows queriers (QuerierGet id inquiry to) number text h holds all = go (querier_at id queriers)
  where
    go : (o : Option QuerierRow) → AreOf P (handing_next rows (asks_of inquiry o) NoValue number text h).values
    go None = all
    go (Some row) = asked_of P rows (question_of row inquiry) NoValue number text h (holds refl) all
next_of P rows queriers (Net (request_message request)) number (Some text) h holds all =
    handed_of P (network_request text request) (met_by_request rows request text) h (holds refl) all
next_of P rows queriers (Share value) number text h holds all = shared_of P value (value_at value h.values) h refl all
next_of P rows queriers (Finish value) number text h holds all = all_filter (λ (v : QueryValue). P v.row.key.text) (λ v. not (v.value == value)) h.values all
next_of P rows queriers (Undeclare sub_kind id) number text h holds all = all
next_of P rows queriers e number text h holds all = all

-- the keys of a past that are looked at are such
abbrev pub AreKeyed : (List ℕ → Type 0) → List Entry → Type 0
AreKeyed P past = AllByRecursion (λ (x : Entry). ends_token (row_of x.event).to_liveliness ≡ false → IfSome x.text P) past

pub values_of : (P : List ℕ → Type 0) (s : Settings) (h : List Event) → AreKeyed P (past_of s h) → AreOf P (values_now (past_of s h))
values_of P s h keyed =
    subst (λ (h : Handing). AreOf P h.values) (standing s h).handing
    (along s (λ (w : World) (past : List Entry). AreKeyed P past → AreOf P w.handing.values) (λ keyed. tt)
    (λ w past x c m k ih keyed.
    subst (λ (h : Handing). AreOf P h.values) (sym m.gets.handing)
    (next_of P w.entities.queryables w.entities.queriers x.event x.number x.text w.handing keyed.0 (ih keyed.1))) h keyed)

-- a canonical key expression
abbrev pub IsCanonical : List ℕ → Type 0
IsCanonical text = is_canonical text ≡ true

pub none_holds : (test : Refusal → Bool) (rs : List Refusal) → first_that test rs ≡ None → AllByRecursion (λ r. test r ≡ false) rs
none_holds test [] none = tt
none_holds test (r ∷ rs) none = go (test r) refl none (none_holds test rs)
  where
    go : (b : Bool) → test r ≡ b → (if b then Some r else first_that test rs) ≡ None → (first_that test rs ≡ None → AllByRecursion (λ r. test r ≡ false) rs)
        → AllByRecursion (λ r. test r ≡ false) (r ∷ rs)
    go true is none ih = cc
    go false is none ih = (is, ih none)

unspared : (tokens : List RemoteToken) (to : ToLiveliness) → ends_token to ≡ false → is_spared tokens to ≡ false
unspared tokens (EndsToken id interest) other = cc
unspared tokens to other = refl

not_bad : (o : Option (List ℕ)) → is_bad o ≡ false → IfSome o IsCanonical
not_bad None fine = tt
not_bad (Some text) fine = go (is_canonical text) refl fine
  where
    go : (b : Bool) → is_canonical text ≡ b → not b ≡ false → is_canonical text ≡ true
    go true is fine = is
    go false is fine = cc

looked : (closed spared bad : Bool) → closed ≡ false → spared ≡ false → (not closed && (not spared && bad)) ≡ false → bad ≡ false
looked true spared bad c s h = cc
looked false true bad c s h = cc
looked false false bad c s h = h

-- the key of an accepted event was tested
pub tested : (s : Settings) (past : List Entry) (e : Event) → is_closed past ≡ false → refusal_of s past e ≡ None → ends_token (row_of e).to_liveliness ≡ false
    → IfSome (named_text past e) IsCanonical
tested s past e shut accepted own =
    not_bad (named_text past e)
    (looked (is_closed past) (is_spared (remote_tokens s past) (row_of e).to_liveliness) (is_bad (named_text past e)) shut
    (unspared (remote_tokens s past) (row_of e).to_liveliness own)
    (none_holds (has_cause s past e) in_order accepted).1.1.1.0)

-- and so were those of the past
pub past_tested : (s : Settings) (h : List Event) → AreKeyed IsCanonical (past_of s h)
past_tested s [] = tt
past_tested s (e ∷ h) = go (refusal_of s (past_of s h) e) refl (is_closed (past_of s h)) refl (past_tested s h)
  where
    go : (o : Option Refusal) → refusal_of s (past_of s h) e ≡ o → (b : Bool) → is_closed (past_of s h) ≡ b → AreKeyed IsCanonical (past_of s h)
        → AreKeyed IsCanonical (with_entry o b (entry_of s (past_of s h) e) (past_of s h))
    go (Some refusal) refused b shut all = all
    go None refused true shut all = all
    go None refused false shut all = (λ own. tested s (past_of s h) e shut refused own, all)
