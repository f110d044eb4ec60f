-- What changes of liveliness make of its tables.
use Rattle.std.specs.Prelude.{◌≡◌, ℕ, ◌+◌, ◌==◌, min, false, not, List, filter, Option, Some, None, unwrap_or, if◌then◌else◌}
use Rattle.zs_keys.specs.Key.{undeclared}
use Rattle.zs_tables.specs.Liveliness.{put_new}
use Rattle.zs_tables.specs.LivelinessGets.{with_liveliness_get, without_liveliness_get, waiting_at, without_cancellation_token}
use Rattle.zs_tables.specs.Types.{LivelinessGet}
use Rattle.zs_world.specs.declared.change.Change.{Change}
use Rattle.zs_world.specs.declared.change.Change.TheVariants.{Nothing, OfLiveliness}
use Rattle.zs_world.specs.declared.change.GetChange.{GetChange}
use Rattle.zs_world.specs.declared.change.GetChange.TheVariants.{Advance}
use Rattle.zs_world.specs.declared.change.CancellationChange.{CancellationChange}
use Rattle.zs_world.specs.declared.change.CancellationChange.TheVariants.{Draw, Take}
use Rattle.zs_world.specs.declared.change.LivelinessChange.{LivelinessChange}
use Rattle.zs_world.specs.declared.change.LivelinessChange.TheVariants.{AskTokens, EndAsking, RecordToken, ForgetToken}
use Rattle.zs_model.specs.Settings.{last_entity}
use Rattle.zs_model.specs.Questions.{last_moment}
use Rattle.zs_model.specs.Counters.{is_spent}
use Rattle.zs_model.specs.Liveliness.{Liveliness}
use Rattle.zs_model.specs.Tokens.{answers}

-- a get of tokens that is asked
abbrev pub asking_change : ℕ → ℕ → ℕ → Option ℕ → Option ℕ → Option (List ℕ) → Change
asking_change default moment id timeout token None = Nothing
asking_change default moment id timeout token (Some text) =
    OfLiveliness (AskTokens (record { number = id; key = undeclared text; cancellation_token = token; deadline = min (moment + unwrap_or timeout default) last_moment }))

-- a token that is told: one that answers a get changes nothing
abbrev pub remote_token_change : List LivelinessGet → ℕ → Option ℕ → Option (List ℕ) → Change
remote_token_change gets id interest None = Nothing
remote_token_change gets id interest (Some text) =
    if answers interest gets then Nothing else OfLiveliness (RecordToken (record { number = id; key = undeclared text }))

-- a get that has had all tokens
abbrev pub answered_change : Option ℕ → Change
answered_change None = Nothing
answered_change (Some number) = OfLiveliness (EndAsking number)

-- the next entity number behind a change
abbrev pub next_behind : LivelinessChange → ℕ → ℕ
next_behind (AskTokens row) next = next + 1
next_behind change next = next

-- the tables behind a change
abbrev pub liveliness_after : LivelinessChange → Liveliness → Liveliness
liveliness_after (AskTokens row) l = record l { gets = with_liveliness_get row l.gets }
liveliness_after (EndAsking number) l = record l { gets = without_liveliness_get number l.gets }
liveliness_after (RecordToken token) l = record l { remote_tokens = put_new (λ t. t.number) token l.remote_tokens }
liveliness_after (ForgetToken number) l = record l { remote_tokens = filter (λ t. not (t.number == number)) l.remote_tokens }

-- and behind a change of gets: a moment that has come
abbrev pub asking_by : GetChange → List LivelinessGet → List LivelinessGet
asking_by (Advance moment) gets = waiting_at moment gets
asking_by change gets = gets

abbrev pub liveliness_by : GetChange → Liveliness → Liveliness
liveliness_by change l = record l { gets = asking_by change l.gets }

-- and behind a change of cancellation tokens: one that is taken ends its gets
abbrev pub asking_left : CancellationChange → List LivelinessGet → List LivelinessGet
asking_left Draw gets = gets
asking_left (Take token) gets = without_cancellation_token token gets

abbrev pub liveliness_cancelled : CancellationChange → Liveliness → Liveliness
liveliness_cancelled change l = record l { gets = asking_left change l.gets }

-- what a change takes for granted, given the next entity number: a number that it draws is that one, and is there
abbrev pub LivelinessFits : ℕ → LivelinessChange → Type 0
LivelinessFits next (AskTokens row) = (row.number ≡ next) × (is_spent last_entity next ≡ false)
LivelinessFits next change = Unit {0}
