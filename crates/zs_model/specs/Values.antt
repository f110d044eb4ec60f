-- Query values, told by the events alone: which queryables a request meets, what each accepted event draws and gives back, and so
-- which values are unfinished.
use Rattle.std.specs.Prelude.{ℕ, ◌+◌, ◌-◌, Bool, true, false, nat_lt, length, List, [], ◌∷◌, Option, Some, None, option_map, chars, if◌then◌else◌}
use Rattle.zs_keys.specs.Key.{undeclared}
use Rattle.zs_wire.specs.declared.request.QueryTarget.{QueryTarget}
use Rattle.zs_wire.specs.declared.request.QueryTarget.TheVariants.{AllComplete}
use Rattle.zs_wire.specs.declared.request.Request.{Request}
use Rattle.zs_subscriptions.specs.Recipients.{has_session}
use Rattle.zs_tables.specs.Queryables.{met}
use Rattle.zs_tables.specs.declared.queryable.QueryableRow.{QueryableRow}
use Rattle.zs_query.specs.Types.{QueryValue, RequestRow}
use Rattle.zs_query.specs.Unfinished.{value_at, values_from}
use Rattle.zs_query.specs.RequestTable.{Handing}
use Rattle.zs_query.specs.Drawn.{ValueNews, Drew, GaveBack, drawn, unfinished}
use Rattle.zs_events.specs.Kinds.{Question, ToGets, NoGet, Asks, ToValues, Requested, SharesValue, GivesBack, row_of}
use Rattle.zs_model.specs.Entry.{Entry}
use Rattle.zs_model.specs.Live.{live_queryables, to_gets_of}
use Rattle.zs_model.specs.Questions.{parameters_of, sent_value}

-- whether a request is for complete queryables alone
abbrev pub wants_complete : QueryTarget → Bool
wants_complete AllComplete = true
wants_complete target = false

-- the queryables of these that a get on a text meets: none where this session isn't in its destination
abbrev pub met_by_get : List QueryableRow → Question → List ℕ → List ℕ
met_by_get rows q text = if has_session q.settings.destination then met true (wants_complete q.settings.target) text rows else []

-- and those that a request from the network meets
abbrev pub met_by_request : List QueryableRow → Request → List ℕ → List ℕ
met_by_request rows request text = met false (wants_complete request.target) text rows

-- those that an event meets, given the text of its key
abbrev pub met_by : List QueryableRow → ToGets → ToValues → Option (List ℕ) → List ℕ
met_by rows (Asks q) does (Some text) = met_by_get rows q text
met_by rows NoGet (Requested request) (Some text) = met_by_request rows request text
met_by rows to does text = []

-- what a get to of queryables of this session
abbrev pub get_request : ℕ → List ℕ → Question → RequestRow
get_request number text q = record {
  local = true;
  rid = number;
  key = undeclared text;
  parameters = chars (parameters_of q);
  qos = q.settings.qos;
  source = q.inquiry.source;
  value = option_map sent_value q.inquiry.value;
  attachment = q.inquiry.attachment;
}

-- and what a request from the network to
abbrev pub network_request : List ℕ → Request → RequestRow
network_request text request = record {
  local = false;
  rid = request.rid;
  key = undeclared text;
  parameters = request.parameters;
  qos = request.qos;
  source = request.source;
  value = request.value;
  attachment = request.attachment;
}

-- one value more of the same request and queryable, under this number, if there is one to share
abbrev pub share_of : ℕ → Option QueryValue → List QueryValue
share_of number None = []
share_of number (Some v) = record v { value = number } ∷ []

-- the values that an event draws where these queryables are live, of the values before it, given the number that it is answered
-- and the text of its key
abbrev pub drawn_by : List QueryableRow → Handing → ToGets → ToValues → Option ℕ → Option (List ℕ) → List QueryValue
drawn_by rows h (Asks q) does (Some number) (Some text) = values_from h.next h.handed (get_request number text q) (met_by_get rows q text)
drawn_by rows h NoGet (Requested request) number (Some text) =
    values_from h.next h.handed (network_request text request) (met_by_request rows request text)
drawn_by rows h NoGet (SharesValue value) number text = share_of h.next (value_at value h.values)
drawn_by rows h to does number text = []

-- what is heard of query values of an event that draws these, or gives one back
abbrev pub news_by_draw : ToGets → ToValues → List QueryValue → ValueNews
news_by_draw NoGet (GivesBack value) values = GaveBack value
news_by_draw to does values = Drew values

-- one more where somebody is met
abbrev pub counted : List ℕ → ℕ → ℕ
counted [] n = n
counted (q ∷ qs) n = n + 1

-- how many requests met queryables
abbrev pub times_handed : List Entry → ℕ
times_handed [] = 0
times_handed (x ∷ past) =
    counted (met_by (live_queryables past) (to_gets_of past x.event) (row_of x.event).to_values x.text) (times_handed past)

-- what the values are where this was heard of them: those that are unfinished, and the number behind the last one that was drawn,
-- where so many requests met queryables
abbrev pub handing_by : ℕ → List ValueNews → Handing
handing_by handed news = record { handed = handed; values = unfinished news; next = length (drawn news) }

-- what was heard of query values, the newest first
abbrev pub value_news : List Entry → List ValueNews
value_news [] = []
value_news (x ∷ past) =
    news_by_draw (to_gets_of past x.event) (row_of x.event).to_values
    (drawn_by (live_queryables past) (handing_by (times_handed past) (value_news past)) (to_gets_of past x.event) (row_of x.event).to_values x.number x.text)
    ∷ value_news past

-- the values after these events
abbrev pub handing_of : List Entry → Handing
handing_of past = handing_by (times_handed past) (value_news past)

-- the unfinished values: those that an event drew, and that none gave back since
abbrev pub values_now : List Entry → List QueryValue
values_now past = (handing_of past).values

-- the last number of query values, which none has
abbrev pub last_value : ℕ
last_value = 4294967295

-- whether so many values more would be drawn than there are numbers left
abbrev pub lacks_values : ℕ → List ℕ → Bool
lacks_values next [] = false
lacks_values next (q ∷ met) = nat_lt (last_value - next) (length (q ∷ met))
