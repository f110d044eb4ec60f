-- All that an entry says, and all that its change says, as one value each: where both come to the same by computing, one `refl` says it.
use Rattle.std.proofs.Common.{◌≡◌, ◌+◌, ℕ, List, Bool, false, Option, sym}
use Rattle.std.specs.Prelude.{if◌then◌else◌}
use Rattle.zs_subscriptions.specs.declared.subscriber.SubRow.{SubRow}
use Rattle.zs_tables.specs.declared.queryable.QueryableRow.{QueryableRow}
use Rattle.zs_tables.specs.Types.{LivelinessGet, LivelinessSub, RemoteToken}
use Rattle.zs_query.specs.GetTable.{Asking}
use Rattle.zs_query.specs.RequestTable.{Handing}
use Rattle.zs_events.specs.declared.event.Event.{Event}
use Rattle.zs_events.specs.declared.turn.Kind.{Kind}
use Rattle.zs_events.specs.declared.turn.Kind.TheVariants.{Subscriber, Publisher, Queryable, Querier, Token, LivelinessSubscriber}
use Rattle.zs_events.specs.Kinds.{row_of}
use Rattle.zs_model.specs.declared.publisher.PubRow.{PubRow}
use Rattle.zs_model.specs.declared.querier.QuerierRow.{QuerierRow}
use Rattle.zs_model.specs.Entry.{Entry, is_close}
use Rattle.zs_model.specs.HeldKeys.{declares_number, returns_number, tells_number}
use Rattle.zs_model.specs.Subscribers.{sub_row}
use Rattle.zs_model.specs.Publishers.{pub_row}
use Rattle.zs_model.specs.Queryables.{queryable_row}
use Rattle.zs_model.specs.Queriers.{querier_row}
use Rattle.zs_model.specs.Liveliness.{token_row, lsub_row}
use Rattle.zs_model.specs.Live.{drew, ends, leaves}
use Rattle.zs_model.specs.Tokens.{tokens_asked, ends_asking, remote_tokens_behind}
use Rattle.zs_model.specs.Counters.{draws_entity, draws_query}
use Rattle.zs_model.specs.Cancelling.{Cancelling}
use Rattle.zs_model.proofs.Cancelling.{cancelling_by}
use Rattle.zs_model.proofs.Entities.{RowChange, new_rows, draws_in, ends_in, SaysRows}
use Rattle.zs_model.proofs.Gets.{asking_by, IsAskedUnder}
use Rattle.zs_model.proofs.Values.{handing_next}
use Rattle.zs_world.specs.declared.change.Change.{Change}
use Rattle.zs_world.specs.World.{World}
use Rattle.zs_world.specs.Changes.{Fits, with_change}
use Rattle.zs_world.specs.Decisions.{to_gets_at}
use Rattle.zs_standing.proofs.Watching.{asks_by, stops_by, tokens_by, lsubs_by}
use Rattle.zs_standing.proofs.Saying.{closes, declares_by, returns_by, draws_by, draws_new, IsText, told_by, subs_by, pubs_by, queryables_by, queriers_by, leaves_by, adds, IsNumber, touches_matching, matches_by, IsMade}

-- of a sort of entities: those that are declared, whether a number is drawn for one, and whether one ends
pub record Rows (R : Type 0) : Type 0 where
  pub new : List R
  pub drew : ℕ → Bool
  pub ended : ℕ → Bool

abbrev pub rows_of : {R : Type 0} → Kind → (Event → Option ℕ → Option (List ℕ) → List R) → Entry → Rows R
rows_of kind row x = record { new = row x.event x.number x.text; drew = λ id. drew kind id x.event x.number; ended = λ id. ends kind id x.event }

abbrev pub rows_by : {R : Type 0} → (R → ℕ) → RowChange R → Rows R
rows_by number c = record { new = new_rows c; drew = λ id. draws_in number id c; ended = λ id. ends_in id c }

same_rows : {R : Type 0} (number : R → ℕ) (kind : Kind) (row : Event → Option ℕ → Option (List ℕ) → List R) (x : Entry) (c : RowChange R) → rows_of kind row x ≡ rows_by number c
    → SaysRows number kind row x c
same_rows number kind row x c is = record { row = λ i. (is i).new; drew = λ id i. (is i).drew id; ended = λ id i. (is i).ended id }

-- of everything but texts and numbers
pub record Said : Type 0 where
  pub closes : Bool
  pub declares : ℕ → Bool
  pub returns : ℕ → Bool
  pub draws_key : Bool
  pub tells : ℕ → Bool
  pub subs : Rows SubRow
  pub pubs : Rows PubRow
  pub queryables : Rows QueryableRow
  pub queriers : Rows QuerierRow
  pub left : Kind → ℕ → Bool
  pub draws_entity : Bool
  pub asking : Asking
  pub handing : Handing
  pub next_query : ℕ
  pub cancelling : Cancelling
  pub asks : List LivelinessGet
  pub stops : LivelinessGet → Bool
  pub told : List RemoteToken
  pub tokens : Rows ℕ
  pub lsubs : Rows LivelinessSub
  pub matching : Bool

abbrev pub said_of : World → Entry → Said
said_of w x = record {
  closes = is_close x.event;
  declares = λ n. declares_number n x.event x.number;
  returns = λ n. returns_number n x.event;
  draws_key = draws_new w (row_of x.event).draws x.text;
  tells = λ n. tells_number n x.event;
  subs = rows_of Subscriber sub_row x;
  pubs = rows_of Publisher pub_row x;
  queryables = rows_of Queryable queryable_row x;
  queriers = rows_of Querier querier_row x;
  left = λ kind id. leaves kind id x.event;
  draws_entity = draws_entity (row_of x.event).draws;
  asking = asking_by w.settings.default_timeout w.settings.zid w.entities.queryables w.handing.values (to_gets_at w x.event) (row_of x.event).to_values x.text w.asking;
  handing = handing_next w.entities.queryables (to_gets_at w x.event) (row_of x.event).to_values x.number x.text w.handing;
  next_query = if draws_query (row_of x.event).draws then w.asking.next + 1 else w.asking.next;
  cancelling = cancelling_by (row_of x.event) w.cancelling;
  asks = tokens_asked w.settings.default_timeout w.asking.moment (row_of x.event).to_liveliness x.number x.text;
  stops = λ g. ends_asking g x.event;
  told = remote_tokens_behind w.liveliness.gets (row_of x.event).to_liveliness x.text w.liveliness.remote_tokens;
  tokens = rows_of Token token_row x;
  lsubs = rows_of LivelinessSubscriber lsub_row x;
  matching = touches_matching x;
}

abbrev pub said_by : World → Change → Said
said_by w c = record {
  closes = closes c;
  declares = λ n. declares_by n c;
  returns = λ n. returns_by n c;
  draws_key = draws_by c;
  tells = λ n. told_by n c;
  subs = rows_by (λ row. row.id) (subs_by c);
  pubs = rows_by (λ row. row.id) (pubs_by c);
  queryables = rows_by (λ row. row.id) (queryables_by c);
  queriers = rows_by (λ row. row.id) (queriers_by c);
  left = λ kind id. leaves_by kind id c;
  draws_entity = adds c;
  asking = (with_change c w).asking;
  handing = (with_change c w).handing;
  next_query = (with_change c w).asking.next;
  cancelling = (with_change c w).cancelling;
  asks = asks_by c;
  stops = λ g. stops_by g c;
  told = (with_change c w).liveliness.remote_tokens;
  tokens = rows_by (λ id. id) (tokens_by c);
  lsubs = rows_by (λ row. row.id) (lsubs_by c);
  matching = matches_by c;
}

-- what both say alike makes the entry and its change one
pub all_said : {w : World} {x : Entry} {c : Change} → w.closed ≡ false → Fits w c → IsText w x.text c → IsNumber x.number c → IsAskedUnder (to_gets_at w x.event) x.number w.asking.next
    → said_of w x ≡ said_by w c → IsMade w x c
all_said {w} {x} {c} unclosed fits text number under is = record {
  unclosed = unclosed;
  fits = fits;
  closes = λ i. (is i).closes;
  keys = record { declares = λ n i. (is i).declares n; returns = λ n i. (is i).returns n; draws = λ i. (is i).draws_key; tells = λ n i. (is i).tells n; text = text };
  entities = record {
    subs = same_rows (λ (row : SubRow). row.id) Subscriber sub_row x (subs_by c) (λ i. (is i).subs);
    pubs = same_rows (λ (row : PubRow). row.id) Publisher pub_row x (pubs_by c) (λ i. (is i).pubs);
    queryables = same_rows (λ (row : QueryableRow). row.id) Queryable queryable_row x (queryables_by c) (λ i. (is i).queryables);
    queriers = same_rows (λ (row : QuerierRow). row.id) Querier querier_row x (queriers_by c) (λ i. (is i).queriers);
    left = λ kind id i. (is i).left kind id;
    number = number;
    draws = λ i. (is i).draws_entity;
  };
  gets = record { asking = sym (λ i. (is i).asking); handing = sym (λ i. (is i).handing); under = under; counted = sym (λ i. (is i).next_query); cancelling = sym (λ i. (is i).cancelling) };
  liveliness = record {
    asks = λ i. (is i).asks;
    ends = λ g i. (is i).stops g;
    told = sym (λ i. (is i).told);
    tokens = same_rows (λ (id : ℕ). id) Token token_row x (tokens_by c) (λ i. (is i).tokens);
    lsubs = same_rows (λ (row : LivelinessSub). row.id) LivelinessSubscriber lsub_row x (lsubs_by c) (λ i. (is i).lsubs);
  };
  matching = λ i. (is i).matching;
}
