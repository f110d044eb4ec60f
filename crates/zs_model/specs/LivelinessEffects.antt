-- What an accepted event brings about for those who want to know of liveliness.
use Rattle.std.specs.Prelude.{ℕ, Bool, true, false, is_some, List, [], ◌∷◌, map, Option, Some, None, Ok, if◌then◌else◌}
use Rattle.std.specs.List.{find}
use Rattle.std.specs.Prelude.{◌==◌}
use Rattle.zs_keys.specs.Key.{Key}
use Rattle.zs_sample.specs.Reply.{Replied}
use Rattle.zs_sample.specs.declared.locality.Locality.TheVariants.{Any}
use Rattle.zs_sample.specs.declared.sample_fields.SampleFields.{SampleFields}
use Rattle.zs_wire.specs.declared.quality.CongestionControl.TheVariants.{Drop}
use Rattle.zs_wire.specs.declared.sample_kind.SampleKind.{SampleKind}
use Rattle.zs_wire.specs.declared.sample_kind.SampleKind.TheVariants.{Put as put_kind, Delete as delete_kind}
use Rattle.zs_tables.specs.Liveliness.{met_keys, hearers}
use Rattle.zs_tables.specs.LivelinessGets.{is_asking, numbers_with}
use Rattle.zs_tables.specs.Types.{LivelinessSub, LivelinessGet, RemoteToken}
use Rattle.zs_events.specs.declared.turn.Effect.{Effect}
use Rattle.zs_events.specs.declared.turn.Effect.TheVariants.{Hand, End}
use Rattle.zs_events.specs.declared.turn.HandOver.TheVariants.{Sample as sample_for, Reply as reply_for}
use Rattle.zs_events.specs.declared.turn.Kind.TheVariants.{LivelinessSubscriber, LivelinessGet as lget_kind}
use Rattle.zs_events.specs.Kinds.{ToLiveliness, NoToken, Subscribes, AsksTokens, TellsToken, EndsToken, EndsAnswers}
use Rattle.zs_events.specs.declared.publication.Content.{Content}
use Rattle.zs_events.specs.Updates.{default_encoding}
use Rattle.zs_model.specs.Publications.{sample_on}
use Rattle.zs_model.specs.Tokens.{answers, is_remote_token}

-- what is known of liveliness: the live subscribers to it, the tokens that the network told, and the open gets of them
pub record Watch : Type 0 where
  pub subs : List LivelinessSub
  pub remote_tokens : List RemoteToken
  pub gets : List LivelinessGet

-- a token that lives, or lives no longer, as a sample but for its key: it says nothing more
abbrev pub token_content : SampleKind → Content
token_content kind = record {
  local = false;
  destination = Any;
  body = record { kind = kind; payload = []; encoding = default_encoding; timestamp = None; source = None; attachment = None };
  qos = record { priority = 5; congestion = Drop; express = false };
  reliable = true;
}

abbrev pub token_sample : SampleKind → List ℕ → SampleFields
token_sample kind text = sample_on text (token_content kind)

-- it for the subscriber of a number, and for the get of a number
abbrev pub hand_sample : SampleFields → ℕ → Effect
hand_sample sample id = Hand (sample_for LivelinessSubscriber id sample)

abbrev pub hand_token : SampleKind → List ℕ → ℕ → Effect
hand_token kind text id = hand_sample (token_sample kind text) id

abbrev pub token_reply : List ℕ → Replied
token_reply text = record { result = Ok (token_sample put_kind text); replier = None }

abbrev pub hand_answer : Replied → ℕ → Effect
hand_answer reply number = Hand (reply_for lget_kind number reply)

-- the end of that get
abbrev pub end_asking : ℕ → Effect
end_asking number = End lget_kind number

-- it for all subscribers that hear of it: of one that was there before, those alone that want such ones
abbrev pub token_hands : SampleKind → Bool → Option (List ℕ) → List LivelinessSub → List Effect
token_hands kind before None subs = []
token_hands kind before (Some text) subs = map (hand_token kind text) (hearers before text subs)

-- the told tokens that its key meets, for a new subscriber, in the order of their numbers
abbrev pub hand_remote_token : ℕ → Key → Effect
hand_remote_token id key = hand_token put_kind key.text id

abbrev pub history_hands : Bool → Option ℕ → Option (List ℕ) → List RemoteToken → List Effect
history_hands true (Some id) (Some text) tokens = map (hand_remote_token id) (met_keys text tokens)
history_hands history id text tokens = []

-- a token that answers a get is for that get alone; one whose number is known is for nobody
abbrev pub declared_hands : Watch → ℕ → Option ℕ → Option (List ℕ) → List Effect
declared_hands watch id interest text =
    if is_remote_token id watch.remote_tokens then [] else token_hands put_kind (is_some interest) text watch.subs

abbrev pub answer_hands : Option ℕ → Option (List ℕ) → List Effect
answer_hands (Some number) (Some text) = hand_answer (token_reply text) number ∷ []
answer_hands number text = []

-- the text of a token that ends: that which was told of its number, else the one that is named
abbrev pub ended_text : Option RemoteToken → Option (List ℕ) → Option (List ℕ)
ended_text None text = text
ended_text (Some t) text = Some t.key.text

abbrev pub ended_hands : Watch → ℕ → Option ℕ → Option (List ℕ) → List Effect
ended_hands watch id interest text =
    token_hands delete_kind (is_some interest) (ended_text (find (λ t. t.number == id) watch.remote_tokens) text) watch.subs

-- a get that has had all tokens ends
abbrev pub answered_ends : Option ℕ → List LivelinessGet → List Effect
answered_ends None gets = []
answered_ends (Some number) gets = if is_asking number gets then end_asking number ∷ [] else []

-- what an event brings about behind what it sends, given the number that it drew, the text of its key, and the ends that it tells if it
-- is nothing to them
abbrev pub watch_effects : Watch → Option ℕ → Option (List ℕ) → ToLiveliness → List Effect → List Effect
watch_effects watch number text NoToken ends = ends
watch_effects watch number text (Subscribes history) ends = history_hands history number text watch.remote_tokens
watch_effects watch number text (AsksTokens timeout token) ends = []
watch_effects watch number text (TellsToken id interest) ends =
    if answers interest watch.gets then answer_hands interest text else declared_hands watch id interest text
watch_effects watch number text (EndsToken id interest) ends = ended_hands watch id interest text
watch_effects watch number text (EndsAnswers interest) ends = answered_ends interest watch.gets

-- the gets that have a cancellation token end
abbrev pub cancelled_ends : ℕ → List LivelinessGet → List Effect
cancelled_ends token gets = map end_asking (numbers_with token gets)

-- all gets end, and all subscribers
abbrev pub asking_ends : List LivelinessGet → List Effect
asking_ends gets = map end_asking (map (λ g. g.number) gets)

abbrev pub lsub_ends : List LivelinessSub → List Effect
lsub_ends subs = map (λ s. End LivelinessSubscriber s.id) subs
