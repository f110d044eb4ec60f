-- The gets of tokens, and the tokens that the network told, by the events alone.
use Rattle.std.specs.Prelude.{ℕ, ◌+◌, ◌==◌, ◌&&◌, ◌||◌, min, Bool, true, false, not, List, [], ◌∷◌, ◌++◌, Option, Some, None, unwrap_or, filter, if◌then◌else◌}
use Rattle.std.specs.List.{list_any}
use Rattle.std.specs.Option.{option_or}
use Rattle.zs_keys.specs.Key.{undeclared}
use Rattle.zs_events.specs.declared.event.Event.{Event}
use Rattle.zs_events.specs.Kinds.{ToGets, Reaches, Cancels, EndsAll, ToLiveliness, NoToken, Subscribes, AsksTokens, TellsToken, EndsToken, EndsAnswers, row_of}
use Rattle.zs_tables.specs.Liveliness.{put_new}
use Rattle.zs_tables.specs.LivelinessGets.{is_asking, is_over, is_own}
use Rattle.zs_tables.specs.Types.{LivelinessGet, RemoteToken}
use Rattle.zs_model.specs.declared.settings.Settings.{Settings}
use Rattle.zs_model.specs.Entry.{Entry}
use Rattle.zs_model.specs.Questions.{last_moment}
use Rattle.zs_model.specs.Gets.{moment_of}

-- the get of tokens that an event asks at a moment: it waits as long as it says, or else as the settings say
abbrev pub tokens_asked : ℕ → ℕ → ToLiveliness → Option ℕ → Option (List ℕ) → List LivelinessGet
tokens_asked default moment (AsksTokens timeout token) (Some number) (Some text) =
    record { number = number; key = undeclared text; cancellation_token = token; deadline = min (moment + unwrap_or timeout default) last_moment } ∷ []
tokens_asked default moment to number text = []

-- whether an event says that a get has had all tokens
abbrev pub is_answered : ℕ → ToLiveliness → Bool
is_answered number (EndsAnswers (Some n)) = number == n
is_answered number to = false

-- whether it ends a get whatever is missing: its deadline is reached, its cancellation token is cancelled, or all end
abbrev pub is_stopped : LivelinessGet → ToGets → Bool
is_stopped g (Reaches moment) = is_over moment g
is_stopped g (Cancels token) = is_own token g.cancellation_token
is_stopped g EndsAll = true
is_stopped g to = false

abbrev pub ends_asking : LivelinessGet → Event → Bool
ends_asking g e = is_answered g.number (row_of e).to_liveliness || is_stopped g (row_of e).to_gets

-- the gets of tokens that were asked and that no event after them ended, nor any of the later ones
abbrev pub unended : ℕ → List Event → List Entry → List LivelinessGet
unended default later [] = []
unended default later (x ∷ past) =
    unended default (x.event ∷ later) past
    ++ filter (λ g. not (list_any (ends_asking g) later)) (tokens_asked default (moment_of past) (row_of x.event).to_liveliness x.number x.text)

-- the open ones
abbrev pub asking_now : Settings → List Entry → List LivelinessGet
asking_now s past = unended s.default_timeout [] past

-- whether a token answers one of these gets
abbrev pub answers : Option ℕ → List LivelinessGet → Bool
answers None gets = false
answers (Some n) gets = is_asking n gets

-- the told tokens behind what an event tells, where these gets were open: one that answers a get is not recorded, nor one whose
-- number is known
abbrev pub with_remote_token : List LivelinessGet → ℕ → Option ℕ → Option (List ℕ) → List RemoteToken → List RemoteToken
with_remote_token gets id interest None tokens = tokens
with_remote_token gets id interest (Some text) tokens =
    if answers interest gets then tokens else put_new (λ t. t.number) (record { number = id; key = undeclared text }) tokens

abbrev pub remote_tokens_behind : List LivelinessGet → ToLiveliness → Option (List ℕ) → List RemoteToken → List RemoteToken
remote_tokens_behind gets NoToken text tokens = tokens
remote_tokens_behind gets (Subscribes history) text tokens = tokens
remote_tokens_behind gets (AsksTokens timeout token) text tokens = tokens
remote_tokens_behind gets (TellsToken id interest) text tokens = with_remote_token gets id interest text tokens
remote_tokens_behind gets (EndsToken id interest) text tokens = filter (λ t. not (t.number == id)) tokens
remote_tokens_behind gets (EndsAnswers interest) text tokens = tokens

-- the tokens that the network told and has not ended, in ascending number
abbrev pub remote_tokens : Settings → List Entry → List RemoteToken
remote_tokens s [] = []
remote_tokens s (x ∷ past) = remote_tokens_behind (asking_now s past) (row_of x.event).to_liveliness x.text (remote_tokens s past)

-- whether a token's number is known
abbrev pub is_remote_token : ℕ → List RemoteToken → Bool
is_remote_token id tokens = list_any (λ t. t.number == id) tokens

-- whether the key of an event isn't looked at: that of a token's end, where its number is known
abbrev pub is_spared : List RemoteToken → ToLiveliness → Bool
is_spared tokens (EndsToken id interest) = is_remote_token id tokens
is_spared tokens to = false

-- whether an event of liveliness means nothing: it ends the answers to no get
abbrev pub is_pointless : ToLiveliness → Bool
is_pointless (EndsAnswers None) = true
is_pointless to = false

-- the text that stands under a token's number behind what an event tells, where these gets were open: the first one that was told, until
-- its end
abbrev pub text_behind : List LivelinessGet → ℕ → ToLiveliness → Option (List ℕ) → Option (List ℕ) → Option (List ℕ)
text_behind gets n (TellsToken id interest) text known = if id == n && not (answers interest gets) then option_or known text else known
text_behind gets n (EndsToken id interest) text known = if id == n then None else known
text_behind gets n to text known = known

abbrev pub token_text : Settings → ℕ → List Entry → Option (List ℕ)
token_text s n [] = None
token_text s n (x ∷ past) = text_behind (asking_now s past) n (row_of x.event).to_liveliness x.text (token_text s n past)
