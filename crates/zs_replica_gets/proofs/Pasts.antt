-- A session behind one event more: its queryables stay, and its open gets and query values follow what the event says to them.
use Rattle.std.proofs.Common.{◌≡◌, ◌<◌, ◌≤◌, ℕ, List, [], ◌∷◌, Bool, true, false, Option, Some, None, refl, sym, ◌∙◌, ap, subst, cond, arith, map}
use Rattle.std.specs.Prelude.{◌==◌, ◌&&◌, ◌||◌, not, filter, option_map, if◌then◌else◌}
use Rattle.std.specs.List.{list_any, AllByRecursion}
use Rattle.std.proofs.lemmas.Bool.Decides.{nat_tests}
use Rattle.zs_sample.specs.Reply.{Replied}
use Rattle.zs_tables.specs.declared.queryable.QueryableRow.{QueryableRow}
use Rattle.zs_query.specs.declared.side.Side.{Side}
use Rattle.zs_query.specs.declared.open_get.OpenGet.{OpenGet}
use Rattle.zs_query.specs.declared.outcome.Outcome.{Outcome}
use Rattle.zs_query.specs.declared.outcome.Outcome.TheVariants as outcome
use Rattle.zs_query.specs.Types.{QueryValue}
use Rattle.zs_query.specs.Asked.{Asked, is_open, state, open_gets, heard, gets_after}
use Rattle.zs_query.specs.Gets.{get_at, without_get, with_get, replied, less_final, after_reply, peek_get, final_outcome, after_final}
use Rattle.zs_query.specs.declared.outcome.Peek.{Peek}
use Rattle.zs_query.specs.declared.outcome.Peek.TheVariants as peek
use Rattle.zs_query.proofs.Hearing.{told}
use Rattle.zs_events.specs.declared.event.Event.{Event}
use Rattle.zs_events.specs.declared.turn.Kind.TheVariants.{Queryable as queryable_kind}
use Rattle.zs_events.specs.declared.turn.Refusal.{Refusal}
use Rattle.zs_events.specs.Turn.{answered}
use Rattle.zs_events.specs.Kinds.{row_of}
use Rattle.zs_model.specs.declared.settings.Settings.{Settings}
use Rattle.zs_model.specs.Entry.{Entry, is_close, is_closed}
use Rattle.zs_model.specs.Queryables.{queryable_row}
use Rattle.zs_model.specs.Live.{appended, declared, drew, ends, drew_unended, is_live, live_queryables, to_gets_of}
use Rattle.zs_model.specs.Counters.{next_query}
use Rattle.zs_model.specs.Causes.{refusal_of}
use Rattle.zs_model.specs.Gets.{news_of, asked_by, moment_of, asked, open_now}
use Rattle.zs_model.specs.Past.{entry_of, with_entry, past_with, past_of}
use Rattle.zs_model.specs.Values.{handing_of, values_now}
use Rattle.zs_model.specs.Effects.{effects_behind, effects}
use Rattle.zs_model.proofs.Gets.{IsAskedUnder}
use Rattle.zs_model.proofs.Values.{handing_next, handing_more}
use Rattle.zs_standing.proofs.Stands.{standing}
use Rattle.zs_replica_gets.specs.Steps.{answerer_row}

-- an accepted event joins the past, a refused one doesn't
pub joins : (s : Settings) (h : List Event) (e : Event) → is_closed (past_of s h) ≡ false → refusal_of s (past_of s h) e ≡ None
    → past_of s (e ∷ h) ≡ entry_of s (past_of s h) e ∷ past_of s h
joins s h e unshut accepted =
    ap (λ (o : Option Refusal). with_entry o (is_closed (past_of s h)) (entry_of s (past_of s h) e) (past_of s h)) accepted
    ∙ ap (λ (c : Bool). with_entry None c (entry_of s (past_of s h) e) (past_of s h)) unshut

pub stays_out : (s : Settings) (h : List Event) (e : Event) (refusal : Refusal) → refusal_of s (past_of s h) e ≡ Some refusal → past_of s (e ∷ h) ≡ past_of s h
stays_out s h e refusal refused = ap (λ (o : Option Refusal). with_entry o (is_closed (past_of s h)) (entry_of s (past_of s h) e) (past_of s h)) refused

pub effects_accepted : (s : Settings) (h : List Event) (e : Event) → is_closed (past_of s h) ≡ false → refusal_of s (past_of s h) e ≡ None
    → (effects s h e).effects ≡ effects_behind s (past_of s h) e
effects_accepted s h e unshut accepted =
    ap (λ (c : Bool). (if c then answered (refusal_of s (past_of s h) e) None []
    else answered (refusal_of s (past_of s h) e) (entry_of s (past_of s h) e).number (effects_behind s (past_of s h) e)).effects) unshut
    ∙ ap (λ (o : Option Refusal). (answered o (entry_of s (past_of s h) e).number (effects_behind s (past_of s h) e)).effects) accepted

pub effects_refused : (s : Settings) (h : List Event) (e : Event) (refusal : Refusal) → refusal_of s (past_of s h) e ≡ Some refusal → (effects s h e).effects ≡ []
effects_refused s h e refusal refused =
    ap (λ (o : Option Refusal). (if is_closed (past_of s h) then answered o None [] else answered o (entry_of s (past_of s h) e).number (effects_behind s (past_of s h) e)).effects) refused
    ∙ go (is_closed (past_of s h))
  where
    go : (c : Bool) → (if c then answered (Some refusal) None [] else answered (Some refusal) (entry_of s (past_of s h) e).number (effects_behind s (past_of s h) e)).effects ≡ []
    go true = refl
    go false = refl

-- an event that declares no queryable, ends none, and doesn't close
pub record Stays (e : Event) : Type 0 where
  pub open_still : is_close e ≡ false
  pub declares_none : (number : Option ℕ) (text : Option (List ℕ)) → queryable_row e number text ≡ []
  pub draws_none : (id : ℕ) (number : Option ℕ) → drew queryable_kind id e number ≡ false
  pub ends_none : (id : ℕ) → ends queryable_kind id e ≡ false

unended_same : (id : ℕ) (later more : List Event) (past : List Entry) → list_any (ends queryable_kind id) later ≡ list_any (ends queryable_kind id) more
    → drew_unended queryable_kind id later past ≡ drew_unended queryable_kind id more past
unended_same id later more [] same = refl
unended_same id later more (x ∷ past) same =
    ap (λ (b : Bool). (drew queryable_kind id x.event x.number && not b) || drew_unended queryable_kind id (x.event ∷ later) past) same
    ∙ ap (λ (b : Bool). (drew queryable_kind id x.event x.number && not (list_any (ends queryable_kind id) more)) || b)
    (unended_same id (x.event ∷ later) (x.event ∷ more) past (ap (λ (b : Bool). ends queryable_kind id x.event || b) same))

live_same : (x : Entry) (past : List Entry) → Stays x.event → (id : ℕ) → is_live queryable_kind id (x ∷ past) ≡ is_live queryable_kind id past
live_same x past stays id =
    ap (λ (b : Bool). (b && true) || drew_unended queryable_kind id (x.event ∷ []) past) (stays.draws_none id x.number)
    ∙ unended_same id (x.event ∷ []) [] past (ap (λ (b : Bool). b || false) (stays.ends_none id))

filter_same : (p q : QueryableRow → Bool) (rows : List QueryableRow) → ((row : QueryableRow) → p row ≡ q row) → filter p rows ≡ filter q rows
filter_same p q [] same = refl
filter_same p q (row ∷ rows) same =
    ap (λ (b : Bool). cond b (row ∷ filter p rows) (filter p rows)) (same row)
    ∙ ap (λ (rest : List QueryableRow). cond (q row) (row ∷ rest) rest) (filter_same p q rows same)

rows_same : (x : Entry) (past : List Entry) → Stays x.event → live_queryables (x ∷ past) ≡ live_queryables past
rows_same x past stays =
    ap (λ (more : List QueryableRow). filter (λ row. is_live queryable_kind row.id (x ∷ past)) (appended (declared queryable_row past) more)) (stays.declares_none x.number x.text)
    ∙ filter_same (λ row. is_live queryable_kind row.id (x ∷ past)) (λ row. is_live queryable_kind row.id past) (declared queryable_row past) (λ row. live_same x past stays row.id)

pub rows_stay : (s : Settings) (past : List Entry) (e : Event) → Stays e → live_queryables (past_with s e past) ≡ live_queryables past
rows_stay s past e stays = go (refusal_of s past e) (is_closed past)
  where
    go : (o : Option Refusal) (c : Bool) → live_queryables (with_entry o c (entry_of s past e) past) ≡ live_queryables past
    go (Some refusal) c = refl
    go None true = refl
    go None false = rows_same (entry_of s past e) past stays

pub open_stays : (s : Settings) (past : List Entry) (e : Event) → Stays e → is_closed past ≡ false → is_closed (past_with s e past) ≡ false
open_stays s past e stays unshut = go (refusal_of s past e) (is_closed past)
  where
    go : (o : Option Refusal) (c : Bool) → is_closed (with_entry o c (entry_of s past e) past) ≡ false
    go (Some refusal) c = unshut
    go None true = unshut
    go None false = ap (λ (b : Bool). b || is_closed past) stays.open_still ∙ unshut

-- a session that is open and has the one queryable, with these unfinished values
pub record Calm (s : Settings) (keys : List ℕ) (h : List Event) (unfinished : List QueryValue) : Type 0 where
  pub unshut : is_closed (past_of s h) ≡ false
  pub rows : live_queryables (past_of s h) ≡ answerer_row keys ∷ []
  pub values : values_now (past_of s h) ≡ unfinished

-- what it has under the number of a get, and the number of its next get
pub record Asking (s : Settings) (h : List Event) (n : ℕ) (at : Option OpenGet) (number : ℕ) : Type 0 where
  pub get : get_at n (open_now s (past_of s h)) ≡ at
  pub next : next_query s (past_of s h) ≡ number

-- a refused event changes nothing
pub refused_calm : (s : Settings) (keys : List ℕ) (h : List Event) (e : Event) (values : List QueryValue) (refusal : Refusal) → refusal_of s (past_of s h) e ≡ Some refusal
    → Calm s keys h values → Calm s keys (e ∷ h) values
refused_calm s keys h e values refusal refused calm =
    let same = stays_out s h e refusal refused in
    record {
      unshut = ap is_closed same ∙ calm.unshut;
      rows = ap live_queryables same ∙ calm.rows;
      values = ap values_now same ∙ calm.values;
    }

pub refused_asking : (s : Settings) (h : List Event) (e : Event) (n : ℕ) (at : Option OpenGet) (number : ℕ) (refusal : Refusal) → refusal_of s (past_of s h) e ≡ Some refusal
    → Asking s h n at number → Asking s (e ∷ h) n at number
refused_asking s h e n at number refusal refused asking =
    let same = stays_out s h e refusal refused in
    record {
      get = ap (λ (past : List Entry). get_at n (open_now s past)) same ∙ asking.get;
      next = ap (next_query s) same ∙ asking.next;
    }

-- the query values behind an accepted event
pub handing_behind : (s : Settings) (h : List Event) (e : Event) → is_closed (past_of s h) ≡ false → refusal_of s (past_of s h) e ≡ None
    → (next : ℕ) → IsAskedUnder (to_gets_of (past_of s h) e) (entry_of s (past_of s h) e).number next
    → handing_of (past_of s (e ∷ h))
    ≡ handing_next (live_queryables (past_of s h)) (to_gets_of (past_of s h) e) (row_of e).to_values (entry_of s (past_of s h) e).number (entry_of s (past_of s h) e).text
    (handing_of (past_of s h))
handing_behind s h e unshut accepted next under =
    ap handing_of (joins s h e unshut accepted)
    ∙ sym (handing_more _ (handing_of (past_of s h)) (past_of s h) (entry_of s (past_of s h) e) next refl under refl)

-- the open gets behind one that asks nothing, by what they hear
pub gets_behind : (s : Settings) (h : List Event) (e : Event) → is_closed (past_of s h) ≡ false → refusal_of s (past_of s h) e ≡ None
    → asked_by s.default_timeout (moment_of (past_of s h)) (live_queryables (past_of s h)) (to_gets_of (past_of s h) e) (entry_of s (past_of s h) e).number (entry_of s (past_of s h) e).text ≡ []
    → open_now s (past_of s (e ∷ h))
    ≡ gets_after (news_of s.zid (values_now (past_of s h)) (to_gets_of (past_of s h) e) (row_of e).to_values (entry_of s (past_of s h) e).text) (open_now s (past_of s h))
gets_behind s h e unshut accepted nothing =
    let past = past_of s h in
    let news = news_of s.zid (values_now past) (to_gets_of past e) (row_of e).to_values (entry_of s past e).text in
    ap (open_now s) (joins s h e unshut accepted)
    ∙ ap (λ (more : List Asked). open_gets (appended (heard news (asked s past)) more)) nothing
    ∙ told (asked s past) news (standing s h).asking.ascend

-- a get behind a change of one
pub get_with : (n : ℕ) (change : OpenGet → OpenGet) → ((g : OpenGet) → (change g).row.number ≡ g.row.number) → (gets : List OpenGet)
    → get_at n (with_get n change gets) ≡ option_map change (get_at n gets)
get_with n change keeps [] = refl
get_with n change keeps (g ∷ gets) = go (g.row.number == n) refl (get_with n change keeps gets)
  where
    go : (b : Bool) → (g.row.number == n) ≡ b → get_at n (with_get n change gets) ≡ option_map change (get_at n gets)
        → get_at n ((if b then change g else g) ∷ with_get n change gets) ≡ option_map change (if b then Some g else get_at n gets)
    go true is ih = ap (λ (b : Bool). if b then Some (change g) else get_at n (with_get n change gets)) (ap (λ (m : ℕ). m == n) (keeps g) ∙ is)
    go false is ih = ap (λ (b : Bool). if b then Some g else get_at n (with_get n change gets)) is ∙ ih

other_number : (a b n : ℕ) → (a == b) ≡ true → (b == n) ≡ false → (a == n) ≡ false
other_number a b n same apart = grind (arith, nat_tests, same, apart)

pub get_with_other : (n m : ℕ) (change : OpenGet → OpenGet) → ((g : OpenGet) → (change g).row.number ≡ g.row.number) → (gets : List OpenGet) → (m == n) ≡ false
    → get_at n (with_get m change gets) ≡ get_at n gets
get_with_other n m change keeps [] apart = refl
get_with_other n m change keeps (g ∷ gets) apart = go (g.row.number == m) refl (get_with_other n m change keeps gets apart)
  where
    go : (b : Bool) → (g.row.number == m) ≡ b → get_at n (with_get m change gets) ≡ get_at n gets
        → get_at n ((if b then change g else g) ∷ with_get m change gets) ≡ (if g.row.number == n then Some g else get_at n gets)
    go true is ih =
        let off : (g.row.number == n) ≡ false = other_number g.row.number m n is apart in
        ap (λ (b : Bool). if b then Some (change g) else get_at n (with_get m change gets)) (ap (λ (k : ℕ). k == n) (keeps g) ∙ off)
        ∙ ih ∙ sym (ap (λ (b : Bool). if b then Some g else get_at n gets) off)
    go false is ih = ap (λ (o : Option OpenGet). if g.row.number == n then Some g else o) ih

pub get_without : (n : ℕ) (gets : List OpenGet) → get_at n (without_get n gets) ≡ None
get_without n [] = refl
get_without n (g ∷ gets) = go (g.row.number == n) refl (get_without n gets)
  where
    go : (b : Bool) → (g.row.number == n) ≡ b → get_at n (without_get n gets) ≡ None → get_at n (cond (not b) (g ∷ without_get n gets) (without_get n gets)) ≡ None
    go true is ih = ih
    go false is ih = ap (λ (b : Bool). if b then Some g else get_at n (without_get n gets)) is ∙ ih

pub get_without_other : (n m : ℕ) (gets : List OpenGet) → (m == n) ≡ false → get_at n (without_get m gets) ≡ get_at n gets
get_without_other n m [] apart = refl
get_without_other n m (g ∷ gets) apart = go (g.row.number == m) refl (get_without_other n m gets apart)
  where
    go : (b : Bool) → (g.row.number == m) ≡ b → get_at n (without_get m gets) ≡ get_at n gets
        → get_at n (cond (not b) (g ∷ without_get m gets) (without_get m gets)) ≡ (if g.row.number == n then Some g else get_at n gets)
    go true is ih = ih ∙ sym (ap (λ (b : Bool). if b then Some g else get_at n gets) (other_number g.row.number m n is apart))
    go false is ih = ap (λ (o : Option OpenGet). if g.row.number == n then Some g else o) ih

pub replied_keeps : (r : Replied) (g : OpenGet) → (replied r g).row.number ≡ g.row.number
replied_keeps r g = go (peek_get g r)
  where
    go : (p : Peek) → (after_reply p r g).row.number ≡ g.row.number
    go peek.Unknown = refl
    go peek.Unmatched = refl
    go peek.Kept = refl
    go peek.Dropped = refl
    go peek.Handed = refl

-- the final of another get changes nothing
pub final_other : (n m : ℕ) (side : Side) (gets : List OpenGet) → (m == n) ≡ false → get_at n (after_final (final_outcome side (get_at m gets)) side m gets) ≡ get_at n gets
final_other n m side gets apart = go (final_outcome side (get_at m gets))
  where
    go : (o : Outcome) → get_at n (after_final o side m gets) ≡ get_at n gets
    go outcome.Counted = get_with_other n m (less_final side) (λ g. refl) gets apart
    go (outcome.Ended replies) = get_without_other n m gets apart
    go outcome.Unknown = refl
    go outcome.Unmatched = refl
    go outcome.Kept = refl
    go outcome.Dropped = refl
    go (outcome.Handed reply) = refl
    go outcome.Repeated = refl

-- no get has a number that is still to be drawn
below_none : (n next : ℕ) (gets : List Asked) → AllByRecursion (λ (a : Asked). a.row.number < next) gets → next ≤ n → get_at n (map state (filter is_open gets)) ≡ None
below_none n next [] all least = refl
below_none n next (a ∷ gets) all least = go (is_open a) (below_none n next gets all.1 least)
  where
    less : a.row.number < next
    less = all.0

    off : (a.row.number == n) ≡ false
    off = grind (arith, nat_tests, less, least)

    go : (b : Bool) → get_at n (map state (filter is_open gets)) ≡ None → get_at n (map state (cond b (a ∷ filter is_open gets) (filter is_open gets))) ≡ None
    go true ih = ap (λ (b : Bool). if b then Some (state a) else get_at n (map state (filter is_open gets))) off ∙ ih
    go false ih = ih

pub unasked : (s : Settings) (h : List Event) (n : ℕ) → next_query s (past_of s h) ≤ n → get_at n (open_now s (past_of s h)) ≡ None
unasked s h n least =
    below_none n (next_query s (past_of s h)) (asked s (past_of s h))
    (subst (λ (k : ℕ). AllByRecursion (λ (a : Asked). a.row.number < k) (asked s (past_of s h))) (standing s h).asking.next (standing s h).asking.below) least
