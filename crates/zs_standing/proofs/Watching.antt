-- The tables of liveliness, change by change, and what the events tell of them.
use Rattle.std.proofs.Common.{◌≡◌, ◌≤◌, ◌<◌, ℕ, List, [], ◌∷◌, ◌++◌, Bool, true, false, Option, refl, sym, ◌∙◌, ap, arith}
use Rattle.std.specs.Prelude.{◌==◌, ◌&&◌, ◌||◌, not, filter}
use Rattle.std.specs.List.{AllByRecursion, list_any}
use Rattle.std.proofs.lemmas.Bool.Decides.{nat_tests}
use Rattle.std.proofs.lemmas.List.Folds.{list_any-append}
use Rattle.std.proofs.lemmas.List.Elements.{filter-append, filter_agree}
use mathlib.Core.List.{append-nil}
use Rattle.zs_subscriptions.specs.Ascending.{placed_by}
use Rattle.zs_tables.specs.Liveliness.{put_new}
use Rattle.zs_tables.specs.LivelinessGets.{is_over, is_own}
use Rattle.zs_tables.specs.Types.{LivelinessGet, LivelinessSub}
use Rattle.zs_subscriptions.proofs.Ascending.{all_filter}
use Rattle.zs_events.specs.Kinds.{row_of}
use Rattle.zs_events.specs.declared.event.Event.{Event}
use Rattle.zs_events.specs.declared.turn.Kind.{Kind}
use Rattle.zs_events.specs.declared.turn.Kind.TheVariants.{Token, LivelinessSubscriber}
use Rattle.zs_model.specs.declared.settings.Settings.{Settings}
use Rattle.zs_world.specs.declared.change.Change.{Change}
use Rattle.zs_world.specs.declared.change.Change.TheVariants.{Nothing, OfEntities, OfGets, OfCancellation, OfLiveliness, Shut}
use Rattle.zs_world.specs.declared.change.EntityChange.TheVariants.{Add as AddEntity, End as EndEntity}
use Rattle.zs_world.specs.declared.change.EntityRow.TheVariants.{Token as new_token, Lsub as new_lsub}
use Rattle.zs_events.specs.declared.entity_kind.EntityKind.TheVariants.{Token as token_sort, Lsub as lsub_sort}
use Rattle.zs_world.specs.declared.change.CancellationChange.TheVariants.{Take as TakeCancellationToken}
use Rattle.zs_world.specs.declared.change.GetChange.TheVariants.{Advance}
use Rattle.zs_world.specs.declared.change.LivelinessChange.{LivelinessChange}
use Rattle.zs_world.specs.declared.change.LivelinessChange.TheVariants.{AskTokens, EndAsking}
use Rattle.zs_world.specs.World.{World}
use Rattle.zs_model.specs.Entry.{Entry}
use Rattle.zs_model.specs.Live.{declared, is_live}
use Rattle.zs_model.specs.Liveliness.{token_row, lsub_row}
use Rattle.zs_model.specs.Gets.{moment_of}
use Rattle.zs_model.specs.Tokens.{tokens_asked, ends_asking, unended, asking_now, remote_tokens_behind, remote_tokens}
use Rattle.zs_world.specs.LivelinessChanges.{next_behind}
use Rattle.zs_world.specs.Changes.{with_change, Fits}
use Rattle.zs_model.proofs.Entities.{AreRows, RowChange, Keep, Add, Take, Clear, SaysRows}
use Rattle.zs_model.proofs.Filters.{filter-filter, filter_none, all_weaker, all_append}

-- what has a number above all others goes behind them
placed_last : {R : Type 0} (number : R → ℕ) (new : R) (rows : List R) → AllByRecursion (λ row. number row < number new) rows → placed_by number new rows ≡ rows ++ new ∷ []
placed_last number new [] below = refl
placed_last number new (row ∷ rows) below = grind (arith, nat_tests, below.0, placed_last number new rows below.1)

none_there : {R : Type 0} (number : R → ℕ) (n : ℕ) (rows : List R) → AllByRecursion (λ row. number row < n) rows → list_any (λ row. number row == n) rows ≡ false
none_there number n [] below = refl
none_there number n (row ∷ rows) below = grind (arith, nat_tests, below.0, none_there number n rows below.1)

-- the numbers of a table of entities are below the next one
pub rows_below : {R : Type 0} (number : R → ℕ) (kind : Kind) (row_of : Event → Option ℕ → Option (List ℕ) → List R) (rows : List R) (next : ℕ) (past : List Entry) (n : ℕ)
    → n ≡ next → AreRows number kind row_of rows next past → AllByRecursion (λ row. number row < n) rows
rows_below {R} number kind row_of rows next past n is l = rw is all
  where
    all : AllByRecursion (λ row. number row < next) rows
    all = rw l.table (all_filter (λ row. number row < next) (λ row. is_live kind (number row) past) (declared row_of past) l.below)

-- so a new entity goes behind all others
pub placed_new : {R : Type 0} (number : R → ℕ) (kind : Kind) (row_of : Event → Option ℕ → Option (List ℕ) → List R) (rows : List R) (next : ℕ) (past : List Entry) (new : R)
    → number new ≡ next → AreRows number kind row_of rows next past → placed_by number new rows ≡ rows ++ new ∷ []
placed_new number kind row_of rows next past new is l = placed_last number new rows (rows_below number kind row_of rows next past (number new) is l)

pub put_last : {R : Type 0} (number : R → ℕ) (kind : Kind) (row_of : Event → Option ℕ → Option (List ℕ) → List R) (rows : List R) (next : ℕ) (past : List Entry) (new : R)
    → number new ≡ next → AreRows number kind row_of rows next past → put_new number new rows ≡ rows ++ new ∷ []
put_last number kind row_of rows next past new is l =
    rw (none_there number (number new) rows (rows_below number kind row_of rows next past (number new) is l)) (placed_new number kind row_of rows next past new is l)

-- no change takes a number back
pub never_down : (c : LivelinessChange) (next : ℕ) → next ≤ next_behind c next
never_down (AskTokens row) next = omega arith
never_down c next = omega arith

-- what a change makes of the open gets of tokens: those that it ends, and the one that it asks
abbrev pub stops_by : LivelinessGet → Change → Bool
stops_by g (OfLiveliness (EndAsking number)) = g.number == number
stops_by g (OfGets (Advance moment)) = is_over moment g
stops_by g (OfCancellation (TakeCancellationToken token)) = is_own token g.cancellation_token
stops_by g Shut = true
stops_by g c = false

abbrev pub asks_by : Change → List LivelinessGet
asks_by (OfLiveliness (AskTokens row)) = row ∷ []
asks_by c = []

-- what a change makes of the table of this session's tokens
abbrev pub tokens_by : Change → RowChange ℕ
tokens_by (OfEntities (AddEntity (new_token id))) = Add id
tokens_by (OfEntities (EndEntity token_sort id)) = Take id
tokens_by Shut = Clear
tokens_by c = Keep

-- and of the subscribers to liveliness
abbrev pub lsubs_by : Change → RowChange LivelinessSub
lsubs_by (OfEntities (AddEntity (new_lsub row))) = Add row
lsubs_by (OfEntities (EndEntity lsub_sort id)) = Take id
lsubs_by Shut = Clear
lsubs_by c = Keep

-- what an entry says of liveliness, its change says too
pub record SaysLiveliness (w : World) (x : Entry) (c : Change) : Type 0 where
  pub asks : tokens_asked w.settings.default_timeout w.asking.moment (row_of x.event).to_liveliness x.number x.text ≡ asks_by c
  pub ends : (g : LivelinessGet) → ends_asking g x.event ≡ stops_by g c
  pub told : (with_change c w).liveliness.remote_tokens ≡ remote_tokens_behind w.liveliness.gets (row_of x.event).to_liveliness x.text w.liveliness.remote_tokens
  pub tokens : SaysRows (λ id. id) Token token_row x (tokens_by c)
  pub lsubs : SaysRows (λ row. row.id) LivelinessSubscriber lsub_row x (lsubs_by c)

pub or_false : (b : Bool) → (b || false) ≡ b
or_false true = refl
or_false false = refl

-- the tables of tokens and of their gets are what the events tell
pub record AreWatched (s : Settings) (w : World) (past : List Entry) : Type 0 where
  pub gets : w.liveliness.gets ≡ asking_now s past
  pub below : AllByRecursion (λ g. g.number < w.counters.entity) w.liveliness.gets
  pub told : w.liveliness.remote_tokens ≡ remote_tokens s past

filter_true : {X : Type 0} (xs : List X) → filter (λ x. true) xs ≡ xs
filter_true [] = refl
filter_true (x ∷ xs) = ap (λ rest. x ∷ rest) (filter_true xs)

untouched : {X : Type 0} (xs : List X) → xs ≡ filter (λ x. true) xs ++ []
untouched xs = sym (append-nil (filter (λ x. true) xs) ∙ filter_true xs)

-- what a change makes of the gets
gets_step : (w : World) (c : Change) → Fits w c → AllByRecursion (λ g. g.number < w.counters.entity) w.liveliness.gets
    → (with_change c w).liveliness.gets ≡ filter (λ g. not (stops_by g c)) w.liveliness.gets ++ asks_by c
gets_step w (OfLiveliness (AskTokens row)) fits below =
    placed_last (λ (g : LivelinessGet). g.number) row w.liveliness.gets (rw fits.0 below)
    ∙ ap (λ (gs : List LivelinessGet). gs ++ row ∷ []) (sym (filter_true w.liveliness.gets))
gets_step w (OfLiveliness (EndAsking number)) fits below = sym (append-nil (filter (λ (g : LivelinessGet). not (g.number == number)) w.liveliness.gets))
gets_step w (OfGets (Advance moment)) fits below = sym (append-nil (filter (λ (g : LivelinessGet). not (is_over moment g)) w.liveliness.gets))
gets_step w (OfCancellation (TakeCancellationToken token)) fits below = sym (append-nil (filter (λ (g : LivelinessGet). not (is_own token g.cancellation_token)) w.liveliness.gets))
gets_step w Shut fits below = sym (append-nil (filter (λ (g : LivelinessGet). false) w.liveliness.gets) ∙ filter_none w.liveliness.gets)
gets_step w Nothing fits below = untouched w.liveliness.gets
gets_step w c fits below = untouched w.liveliness.gets

same : (n : ℕ) → n ≤ n
same n = omega arith

-- entity numbers never go down
pub entity_up : (w : World) (c : Change) → w.counters.entity ≤ (with_change c w).counters.entity
entity_up w (OfEntities (AddEntity row)) = omega arith
entity_up w (OfLiveliness change) = never_down change w.counters.entity
entity_up w c = same w.counters.entity

asked_below : (w : World) (c : Change) → Fits w c → AllByRecursion (λ (g : LivelinessGet). g.number < (with_change c w).counters.entity) (asks_by c)
asked_below w (OfLiveliness (AskTokens row)) fits = (omega (arith, fits.0), tt)
asked_below w Nothing fits = tt
asked_below w c fits = tt

-- one more event ends those that it ends
ended_more : (default : ℕ) (e : Event) (later : List Event) (past : List Entry)
    → unended default (later ++ e ∷ []) past ≡ filter (λ g. not (ends_asking g e)) (unended default later past)
ended_more default e later [] = refl
ended_more default e later (x ∷ past) =
    let new = tokens_asked default (moment_of past) (row_of x.event).to_liveliness x.number x.text in
    let p = λ (g : LivelinessGet). not (list_any (ends_asking g) later) in
    let q = λ (g : LivelinessGet). not (ends_asking g e) in
    (λ i. ended_more default e (x.event ∷ later) past i ++ one new i) ∙ sym (filter-append q (unended default (x.event ∷ later) past) (filter p new))
  where
    both : (l t : Bool) → not (l || (t || false)) ≡ (not t && not l)
    both true true = refl
    both true false = refl
    both false true = refl
    both false false = refl

    one : (new : List LivelinessGet)
        → filter (λ g. not (list_any (ends_asking g) (later ++ e ∷ []))) new ≡ filter (λ g. not (ends_asking g e)) (filter (λ g. not (list_any (ends_asking g) later)) new)
    one new =
        filter_agree (λ (g : LivelinessGet). not (list_any (ends_asking g) (later ++ e ∷ []))) (λ g. not (ends_asking g e) && not (list_any (ends_asking g) later))
        (λ g. ap not (list_any-append (ends_asking g) later (e ∷ [])) ∙ both (list_any (ends_asking g) later) (ends_asking g e)) new
        ∙ filter-filter (λ (g : LivelinessGet). not (ends_asking g e)) (λ g. not (list_any (ends_asking g) later)) new

-- what the events tell of the gets behind one more
pub asking_more : (s : Settings) (x : Entry) (past : List Entry)
    → asking_now s (x ∷ past)
    ≡ filter (λ g. not (ends_asking g x.event)) (asking_now s past) ++ tokens_asked s.default_timeout (moment_of past) (row_of x.event).to_liveliness x.number x.text
asking_more s x past =
    let new = tokens_asked s.default_timeout (moment_of past) (row_of x.event).to_liveliness x.number x.text in
    λ i. ended_more s.default_timeout x.event [] past i ++ filter_true new i

-- an accepted event keeps them so
pub watched_more : (s : Settings) (w : World) (past : List Entry) (x : Entry) (c : Change) → Fits w c → SaysLiveliness w x c → w.settings ≡ s → w.asking.moment ≡ moment_of past
    → AreWatched s w past → AreWatched s (with_change c w) (x ∷ past)
watched_more s w past x c fits says settings moment l =
    let to = (row_of x.event).to_liveliness in
    let left : filter (λ g. not (stops_by g c)) w.liveliness.gets ≡ filter (λ g. not (ends_asking g x.event)) (asking_now s past) =
    filter_agree (λ (g : LivelinessGet). not (stops_by g c)) (λ g. not (ends_asking g x.event)) (λ g. ap not (sym (says.ends g))) w.liveliness.gets
    ∙ ap (filter (λ (g : LivelinessGet). not (ends_asking g x.event))) l.gets in
    let asked : asks_by c ≡ tokens_asked s.default_timeout (moment_of past) to x.number x.text =
    sym says.asks ∙ (λ i. tokens_asked (settings i).default_timeout (moment i) to x.number x.text) in
    record {
      gets = gets_step w c fits l.below ∙ (λ i. left i ++ asked i) ∙ sym (asking_more s x past);
      below = rw (gets_step w c fits l.below)
          (all_append (λ (g : LivelinessGet). g.number < (with_change c w).counters.entity) (filter (λ g. not (stops_by g c)) w.liveliness.gets) (asks_by c)
          (all_filter (λ (g : LivelinessGet). g.number < (with_change c w).counters.entity) (λ g. not (stops_by g c)) w.liveliness.gets
          (all_weaker (λ (g : LivelinessGet). g.number < w.counters.entity) (λ g. g.number < (with_change c w).counters.entity)
          (λ g lt. omega (arith, lt, entity_up w c)) w.liveliness.gets l.below))
          (asked_below w c fits));
      told = says.told
          ∙ ap (λ (gs : List LivelinessGet). remote_tokens_behind gs to x.text w.liveliness.remote_tokens) l.gets
          ∙ ap (remote_tokens_behind (asking_now s past) to x.text) l.told;
    }
