-- What is told of tokens tells of no refusal and no sample handed to a subscriber, and its texts are plain: each token's key came with
-- a plain event.
use Rattle.std.proofs.Common.{◌≡◌, ℕ, ◌==◌, List, [], ◌∷◌, map, filter, Bool, true, false, not, Option, Some, None, IfSome}
use Rattle.std.specs.Prelude.{is_some, nat_lt, if◌then◌else◌}
use Rattle.std.specs.List.{AllByRecursion, find, list_any}
use Rattle.std.proofs.lemmas.Bool.{and_from}
use Rattle.zs_keys.specs.Key.{Key, undeclared}
use Rattle.zs_keys.specs.Matching.{intersects}
use Rattle.zs_wire.specs.declared.sample_kind.SampleKind.{SampleKind}
use Rattle.zs_wire.specs.declared.sample_kind.SampleKind.TheVariants.{Put as put_kind, Delete as delete_kind}
use Rattle.zs_subscriptions.specs.Ascending.{placed_by}
use Rattle.zs_tables.specs.Liveliness.{put_new, met_keys, hearers}
use Rattle.zs_tables.specs.Types.{RemoteToken, LivelinessGet}
use Rattle.zs_tables.specs.LivelinessGets.{is_asking}
use Rattle.zs_events.specs.declared.turn.Effect.{Effect}
use Rattle.zs_events.specs.Kinds.{ToLiveliness, NoToken, Subscribes, AsksTokens, TellsToken, EndsToken, EndsAnswers, row_of}
use Rattle.zs_events.specs.Updates.{default_encoding}
use Rattle.zs_core.specs.Types.{Settings}
use Rattle.zs_core.specs.Entry.{Entry}
use Rattle.zs_core.specs.Publications.{handed_encoding}
use Rattle.zs_core.specs.Tokens.{asking_now, answers, is_remote_token, with_remote_token, remote_tokens_behind, remote_tokens}
use Rattle.zs_core.specs.LivelinessEffects.{Watch, token_sample, hand_token, token_hands, hand_remote_token, history_hands, declared_hands, answer_hands, end_asking, ended_text, answered_ends, watch_effects}
use Rattle.zs_script.specs.Plain.{is_plain, is_plain_text, is_plain_sample}
use Rattle.zs_session.proofs.PlainKeys.{IsText, PlainPast, plain_handed, default_plain, filter_all, found_all}
use Rattle.zs_session.proofs.PlainParameters.{all_map}
use Rattle.zs_session.proofs.PlainSends.{IsQuiet, AreQuiet}

-- a token on a key with a plain text
abbrev pub PlainToken : RemoteToken → Type 0
PlainToken t = IsText t.key.text

-- one more of them, in its place
placed_plain : (new : RemoteToken) (tokens : List RemoteToken) → PlainToken new → AllByRecursion PlainToken tokens
    → AllByRecursion PlainToken (placed_by (λ t. t.number) new tokens)
placed_plain new [] plain all = (plain, tt)
placed_plain new (t ∷ tokens) plain all = go (t.number == new.number) (nat_lt new.number t.number) (placed_plain new tokens plain all.1)
  where
    go : (here before : Bool) → AllByRecursion PlainToken (placed_by (λ t. t.number) new tokens)
        → AllByRecursion PlainToken (if here then new ∷ tokens else if before then new ∷ t ∷ tokens else t ∷ placed_by (λ t. t.number) new tokens)
    go true before rest = (plain, all.1)
    go false true rest = (plain, all)
    go false false rest = (all.0, rest)

put_plain : (new : RemoteToken) (tokens : List RemoteToken) → PlainToken new → AllByRecursion PlainToken tokens
    → AllByRecursion PlainToken (put_new (λ t. t.number) new tokens)
put_plain new tokens plain all = go (list_any (λ t. t.number == new.number) tokens)
  where
    go : (b : Bool) → AllByRecursion PlainToken (if b then tokens else placed_by (λ t. t.number) new tokens)
    go true = all
    go false = placed_plain new tokens plain all

-- the told tokens of a plain past
recorded_plain : (gets : List LivelinessGet) (id : ℕ) (interest : Option ℕ) (text : Option (List ℕ)) (tokens : List RemoteToken) → IfSome text IsText
    → AllByRecursion PlainToken tokens → AllByRecursion PlainToken (with_remote_token gets id interest text tokens)
recorded_plain gets id interest None tokens named all = all
recorded_plain gets id interest (Some text) tokens named all = go (answers interest gets)
  where
    new : RemoteToken
    new = record { number = id; key = undeclared text }

    go : (b : Bool) → AllByRecursion PlainToken (if b then tokens else put_new (λ t. t.number) new tokens)
    go true = all
    go false = put_plain new tokens named all

behind_plain : (gets : List LivelinessGet) (to : ToLiveliness) (text : Option (List ℕ)) (tokens : List RemoteToken) → IfSome text IsText
    → AllByRecursion PlainToken tokens → AllByRecursion PlainToken (remote_tokens_behind gets to text tokens)
behind_plain gets NoToken text tokens named all = all
behind_plain gets (Subscribes history) text tokens named all = all
behind_plain gets (AsksTokens timeout token) text tokens named all = all
behind_plain gets (TellsToken id interest) text tokens named all = recorded_plain gets id interest text tokens named all
behind_plain gets (EndsToken id interest) text tokens named all = filter_all PlainToken (λ t. not (t.number == id)) tokens all
behind_plain gets (EndsAnswers interest) text tokens named all = all

pub tokens_plain : (s : Settings) (past : List Entry) → PlainPast past → AllByRecursion PlainToken (remote_tokens s past)
tokens_plain s [] all = tt
tokens_plain s (x ∷ past) all =
    behind_plain (asking_now s past) (row_of x.event).to_liveliness x.text (remote_tokens s past) all.0.0 (tokens_plain s past all.1)

-- the sample of a token
token_plain : (kind : SampleKind) (text : List ℕ) → IsText text → is_plain_sample (token_sample kind text) ≡ true
token_plain kind text named =
    and_from (is_plain text) (is_plain_text (handed_encoding kind default_encoding)) named.0 (plain_handed kind default_encoding default_plain)

hands_quiet : (kind : SampleKind) (text : List ℕ) (ids : List ℕ) → IsText text → AreQuiet (map (hand_token kind text) ids)
hands_quiet kind text [] named = tt
hands_quiet kind text (id ∷ ids) named = (token_plain kind text named, hands_quiet kind text ids named)

token_quiet : (kind : SampleKind) (before : Bool) (text : Option (List ℕ)) (watch : Watch) → IfSome text IsText → AreQuiet (token_hands kind before text watch.subs)
token_quiet kind before None watch named = tt
token_quiet kind before (Some text) watch named = hands_quiet kind text (hearers before text watch.subs) named

-- what a new subscriber is handed
met_quiet : (id : ℕ) (text : List ℕ) (tokens : List RemoteToken) → AllByRecursion PlainToken tokens → AreQuiet (map (hand_remote_token id) (met_keys text tokens))
met_quiet id text tokens all =
    let met = filter (λ t. intersects text t.key.text) tokens in
    all_map (λ (k : Key). IsText k.text) IsQuiet (hand_remote_token id) (λ k named. token_plain put_kind k.text named) (map (λ t. t.key) met)
    (all_map PlainToken (λ (k : Key). IsText k.text) (λ t. t.key) (λ t named. named) met (filter_all PlainToken (λ t. intersects text t.key.text) tokens all))

history_quiet : (history : Bool) (id : Option ℕ) (text : Option (List ℕ)) (tokens : List RemoteToken) → AllByRecursion PlainToken tokens
    → AreQuiet (history_hands history id text tokens)
history_quiet true (Some id) (Some text) tokens all = met_quiet id text tokens all
history_quiet true (Some id) None tokens all = tt
history_quiet true None text tokens all = tt
history_quiet false id text tokens all = tt

-- what a told token brings about, and its end
told_quiet : (watch : Watch) (id : ℕ) (interest : Option ℕ) (text : Option (List ℕ)) → IfSome text IsText → AreQuiet (declared_hands watch id interest text)
told_quiet watch id interest text named = go (is_remote_token id watch.remote_tokens)
  where
    go : (b : Bool) → AreQuiet (if b then [] else token_hands put_kind (is_some interest) text watch.subs)
    go true = tt
    go false = token_quiet put_kind (is_some interest) text watch named

answer_quiet : (interest : Option ℕ) (text : Option (List ℕ)) → IfSome text IsText → AreQuiet (answer_hands interest text)
answer_quiet (Some number) (Some text) named = (token_plain put_kind text named, tt)
answer_quiet (Some number) None named = tt
answer_quiet None text named = tt

ended_plain : (o : Option RemoteToken) (text : Option (List ℕ)) → IfSome o PlainToken → IfSome text IsText → IfSome (ended_text o text) IsText
ended_plain None text found named = named
ended_plain (Some t) text found named = found

over_quiet : (interest : Option ℕ) (gets : List LivelinessGet) → AreQuiet (answered_ends interest gets)
over_quiet None gets = tt
over_quiet (Some number) gets = go (is_asking number gets)
  where
    go : (b : Bool) → AreQuiet (if b then end_asking number ∷ [] else [])
    go true = (tt, tt)
    go false = tt

-- all that an event brings about behind what it sends
pub watch_quiet : (watch : Watch) (number : Option ℕ) (text : Option (List ℕ)) (to : ToLiveliness) (ends : List Effect) → AllByRecursion PlainToken watch.remote_tokens
    → IfSome text IsText → AreQuiet ends → AreQuiet (watch_effects watch number text to ends)
watch_quiet watch number text NoToken ends all named quiet = quiet
watch_quiet watch number text (Subscribes history) ends all named quiet = history_quiet history number text watch.remote_tokens all
watch_quiet watch number text (AsksTokens timeout token) ends all named quiet = tt
watch_quiet watch number text (TellsToken id interest) ends all named quiet = go (answers interest watch.gets)
  where
    go : (b : Bool) → AreQuiet (if b then answer_hands interest text else declared_hands watch id interest text)
    go true = answer_quiet interest text named
    go false = told_quiet watch id interest text named
watch_quiet watch number text (EndsToken id interest) ends all named quiet =
    let known = find (λ t. t.number == id) watch.remote_tokens in
    token_quiet delete_kind (is_some interest) (ended_text known text) watch
    (ended_plain known text (found_all PlainToken (λ t. t.number == id) watch.remote_tokens all) named)
watch_quiet watch number text (EndsAnswers interest) ends all named quiet = over_quiet interest watch.gets
