-- What an event brings about beside what gets are told, and beside what it does with query values: what holds of each sort of effects
-- holds of all of them.
use Rattle.std.proofs.Common.{◌≡◌, ℕ, List, [], ◌∷◌, ◌++◌, Bool, true, false, Option, Some, None, refl, map}
use Rattle.std.specs.Prelude.{◌==◌, ◌||◌, is_some, filter, if◌then◌else◌}
use Rattle.std.specs.List.{AllByRecursion, find, list_any}
use Rattle.zs_keys.specs.Key.{Key as a_key}
use Rattle.zs_sample.specs.Reply.{Replied}
use Rattle.zs_sample.specs.declared.sample_fields.SampleFields.{SampleFields}
use Rattle.zs_wire.specs.declared.message.Message.{Message}
use Rattle.zs_wire.specs.declared.sample_kind.SampleKind.{SampleKind}
use Rattle.zs_wire.specs.declared.sample_kind.SampleKind.TheVariants.{Put as put_kind, Delete as delete_kind}
use Rattle.zs_query.proofs.Ascending.{all_append, all_filter}
use Rattle.zs_tables.specs.Liveliness.{met_keys, hears, hearers}
use Rattle.zs_tables.specs.LivelinessGets.{is_asking}
use Rattle.zs_tables.specs.Types.{LivelinessGet as TokensGet, LivelinessSub, RemoteToken}
use Rattle.zs_tables.specs.declared.queryable.QueryableRow.{QueryableRow}
use Rattle.zs_subscriptions.specs.declared.subscriber.SubRow.{SubRow}
use Rattle.zs_subscriptions.proofs.Ascending.{all_map}
use Rattle.zs_events.specs.declared.event.Event.{Event}
use Rattle.zs_events.specs.declared.event.Event.TheVariants.{Undeclare, Close}
use Rattle.zs_events.specs.declared.entity_kind.EntityKind.TheVariants.{Sub as sub_kind, Queryable as queryable_sort, Lsub as lsub_sort}
use Rattle.zs_events.specs.declared.turn.Effect.{Effect}
use Rattle.zs_events.specs.declared.turn.Effect.TheVariants.{Send, Hand, End}
use Rattle.zs_events.specs.declared.turn.HandOver.TheVariants.{Sample as sample_for, Reply as reply_for}
use Rattle.zs_events.specs.declared.turn.Kind.TheVariants.{Subscriber, Queryable as queryable_kind, LivelinessSubscriber, LivelinessGet as tokens_kind}
use Rattle.zs_events.specs.Kinds.{Publishes, NoContent, OwnContent, ByPublisher, ToLiveliness, NoToken, Subscribes, AsksTokens, TellsToken, EndsToken, EndsAnswers, row_of}
use Rattle.zs_model.specs.Publications.{Publication, sample_on, allows, hands}
use Rattle.zs_model.specs.Subscribers.{sub_ends}
use Rattle.zs_model.specs.Publishers.{resolved}
use Rattle.zs_model.specs.Queryables.{queryable_ends}
use Rattle.zs_model.specs.Sends.{sends_of}
use Rattle.zs_model.specs.Tokens.{answers, is_remote_token}
use Rattle.zs_model.specs.LivelinessEffects.{Watch, token_sample, hand_token, hand_remote_token, token_reply, end_asking, lsub_ends, token_hands, history_hands, declared_hands, answer_hands, ended_text, watch_effects}
use Rattle.zs_model.specs.Effects.{Known, entity_sends, publication_on, hands_for, hands_of, ends_of}
use Rattle.zs_laws.proofs.Sends.{entity_cases, sends_cases}

-- what holds of each sort: of what is sent, of samples for those who live, of the ends of these, of what a new subscriber to liveliness is
-- handed, of what gets of tokens are handed and their ends, and of the end of what an event undeclares
pub record Around (known : Known) (e : Event) (number : Option ℕ) (P : Effect → Type 0) : Type 0 where
  pub sent : (m : Message) → P (Send m)
  pub sub : AllByRecursion (λ (row : SubRow). (sample : SampleFields) → P (Hand (sample_for Subscriber row.id sample))) known.subs
  pub sub_end : AllByRecursion (λ (row : SubRow). P (End Subscriber row.id)) known.subs
  pub queryable_end : AllByRecursion (λ (row : QueryableRow). P (End queryable_kind row.id)) known.queryables
  pub lsub : AllByRecursion (λ (row : LivelinessSub). (sample : SampleFields) → P (Hand (sample_for LivelinessSubscriber row.id sample))) known.watch.subs
  pub lsub_end : AllByRecursion (λ (row : LivelinessSub). P (End LivelinessSubscriber row.id)) known.watch.subs
  pub own : (history : Bool) → (row_of e).to_liveliness ≡ Subscribes history → (id : ℕ) → number ≡ Some id → (sample : SampleFields) → P (Hand (sample_for LivelinessSubscriber id sample))
  pub asking : AllByRecursion (λ (g : TokensGet). (n : ℕ) → (g.number == n) ≡ true → (reply : Replied) → P (Hand (reply_for tokens_kind n reply))) known.watch.gets
  pub asking_end : (m : ℕ) → (row_of e).to_liveliness ≡ EndsAnswers (Some m) → AllByRecursion (λ (g : TokensGet). (n : ℕ) → (g.number == n) ≡ true → P (End tokens_kind n)) known.watch.gets
  pub ended_sub : (id : ℕ) → e ≡ Undeclare sub_kind id → P (End Subscriber id)
  pub ended_queryable : (id : ℕ) → e ≡ Undeclare queryable_sort id → P (End queryable_kind id)
  pub ended_lsub : (id : ℕ) → e ≡ Undeclare lsub_sort id → P (End LivelinessSubscriber id)

-- what is sent
pub sends_around : (P : Effect → Type 0) → ((m : Message) → P (Send m)) → (known : Known) (number : Option ℕ) (text : Option (List ℕ)) (e : Event)
    → AllByRecursion P (sends_of known.keys known.pubs number text e)
sends_around P at known number text e =
    sends_cases (AllByRecursion P) tt known.keys known.pubs number text e (λ n t drew named. (at _, tt)) (λ n. (at _, tt)) (at _, tt) (λ t c named is sent. (at _, tt))

pub entity_around : (P : Effect → Type 0) → ((m : Message) → P (Send m)) → (known : Known) (number : Option ℕ) (text : Option (List ℕ)) (e : Event) → AllByRecursion P (entity_sends known e number text)
entity_around P at known number text e = entity_cases (AllByRecursion P) tt known e number text (λ what id t key is named. (at _, tt)) (λ what id is. (at _, tt))

-- what is handed out of a publication
hands_around : (P : Effect → Type 0) (p : Publication) (rows : List SubRow) → AllByRecursion (λ (row : SubRow). (sample : SampleFields) → P (Hand (sample_for Subscriber row.id sample))) rows
    → AllByRecursion P (hands p rows)
hands_around P p rows all =
    all_map (λ (row : SubRow). (sample : SampleFields) → P (Hand (sample_for Subscriber row.id sample))) P (λ (row : SubRow). Hand (sample_for Subscriber row.id p.sample)) (λ row holds. holds p.sample)
    (filter (allows p) rows) (all_filter (λ (row : SubRow). (sample : SampleFields) → P (Hand (sample_for Subscriber row.id sample))) (allows p) rows all)

published_around : (P : Effect → Type 0) (rows : List SubRow) (text : Option (List ℕ)) (p : Publishes)
    → AllByRecursion (λ (row : SubRow). (sample : SampleFields) → P (Hand (sample_for Subscriber row.id sample))) rows → AllByRecursion P (hands_for rows (publication_on text p))
published_around P rows text NoContent all = tt
published_around P rows None (OwnContent c) all = tt
published_around P rows (Some text) (OwnContent c) all =
    hands_around P (record { local = c.local; destination = c.destination; sample = sample_on text c }) rows all
published_around P rows None (ByPublisher id c) all = tt
published_around P rows (Some text) (ByPublisher id c) all = tt

-- what ends
ends_around : (P : Effect → Type 0) (known : Known) (e : Event) (number : Option ℕ) → Around known e number P → AllByRecursion P (ends_of known.queryables known.subs known.watch.subs e)
ends_around P known (Undeclare sub_kind id) number by = (by.ended_sub id refl, tt)
ends_around P known (Undeclare queryable_sort id) number by = (by.ended_queryable id refl, tt)
ends_around P known (Undeclare lsub_sort id) number by = (by.ended_lsub id refl, tt)
ends_around P known Close number by =
    all_append P (queryable_ends known.queryables ++ sub_ends known.subs) (lsub_ends known.watch.subs)
    (all_append P (queryable_ends known.queryables) (sub_ends known.subs)
    (all_map (λ (row : QueryableRow). P (End queryable_kind row.id)) P (λ (row : QueryableRow). End queryable_kind row.id) (λ row holds. holds) known.queryables by.queryable_end)
    (all_map (λ (row : SubRow). P (End Subscriber row.id)) P (λ (row : SubRow). End Subscriber row.id) (λ row holds. holds) known.subs by.sub_end))
    (all_map (λ (row : LivelinessSub). P (End LivelinessSubscriber row.id)) P (λ (row : LivelinessSub). End LivelinessSubscriber row.id) (λ row holds. holds) known.watch.subs by.lsub_end)
ends_around P known e number by = tt

-- what is told of liveliness
tokens_around : (P : Effect → Type 0) (kind : SampleKind) (before : Bool) (text : Option (List ℕ)) (subs : List LivelinessSub)
    → AllByRecursion (λ (row : LivelinessSub). (sample : SampleFields) → P (Hand (sample_for LivelinessSubscriber row.id sample))) subs → AllByRecursion P (token_hands kind before text subs)
tokens_around P kind before None subs all = tt
tokens_around P kind before (Some text) subs all =
    let kept = filter (hears before text) subs in
    let Q = λ (row : LivelinessSub). (sample : SampleFields) → P (Hand (sample_for LivelinessSubscriber row.id sample)) in
    let R = λ (id : ℕ). (sample : SampleFields) → P (Hand (sample_for LivelinessSubscriber id sample)) in
    all_map R P (hand_token kind text) (λ id holds. holds (token_sample kind text)) (hearers before text subs)
    (all_map Q R (λ (row : LivelinessSub). row.id) (λ row holds. holds) kept (all_filter Q (hears before text) subs all))

history_around : (P : Effect → Type 0) (history : Bool) (number : Option ℕ) (text : Option (List ℕ)) (tokens : List RemoteToken)
    → ((id : ℕ) → number ≡ Some id → (sample : SampleFields) → P (Hand (sample_for LivelinessSubscriber id sample))) → AllByRecursion P (history_hands history number text tokens)
history_around P true (Some id) (Some text) tokens at = go (met_keys text tokens)
  where
    go : (keys : List a_key) → AllByRecursion P (map (hand_remote_token id) keys)
    go [] = tt
    go (key ∷ keys) = (at id refl (token_sample put_kind key.text), go keys)
history_around P true (Some id) None tokens at = tt
history_around P true None text tokens at = tt
history_around P false number text tokens at = tt

-- what holds of one that passes a test
pub any_holds : {X : Type 0} (f : X → Bool) (Q : X → Type 0) (R : Type 0) → ((x : X) → f x ≡ true → Q x → R) → (xs : List X) → AllByRecursion Q xs → list_any f xs ≡ true → R
any_holds f Q R at [] all any = cc
any_holds f Q R at (x ∷ xs) all any = go (f x) refl any (any_holds f Q R at xs all.1)
  where
    go : (b : Bool) → f x ≡ b → (b || list_any f xs) ≡ true → (list_any f xs ≡ true → R) → R
    go true is any ih = at x is all.0
    go false is any ih = ih any

told_around : (P : Effect → Type 0) (watch : Watch) (id : ℕ) (interest : Option ℕ) (text : Option (List ℕ))
    → AllByRecursion (λ (row : LivelinessSub). (sample : SampleFields) → P (Hand (sample_for LivelinessSubscriber row.id sample))) watch.subs → AllByRecursion P (declared_hands watch id interest text)
told_around P watch id interest text all = go (is_remote_token id watch.remote_tokens)
  where
    go : (b : Bool) → AllByRecursion P (if b then [] else token_hands put_kind (is_some interest) text watch.subs)
    go true = tt
    go false = tokens_around P put_kind (is_some interest) text watch.subs all

answer_around : (P : Effect → Type 0) (gets : List TokensGet) (interest : Option ℕ) (text : Option (List ℕ)) → answers interest gets ≡ true
    → AllByRecursion (λ (g : TokensGet). (n : ℕ) → (g.number == n) ≡ true → (reply : Replied) → P (Hand (reply_for tokens_kind n reply))) gets → AllByRecursion P (answer_hands interest text)
answer_around P gets (Some n) (Some text) is all = (
  any_holds (λ (g : TokensGet). g.number == n) (λ (g : TokensGet). (n : ℕ) → (g.number == n) ≡ true → (reply : Replied) → P (Hand (reply_for tokens_kind n reply)))
      (P (Hand (reply_for tokens_kind n (token_reply text)))) (λ g same holds. holds n same (token_reply text)) gets all is,
  tt,
)
answer_around P gets (Some n) None is all = tt
answer_around P gets None text is all = tt

watch_around : (P : Effect → Type 0) (known : Known) (e : Event) (number : Option ℕ) (text : Option (List ℕ)) (to : ToLiveliness) → (row_of e).to_liveliness ≡ to → (ends : List Effect) → Around known e number P → AllByRecursion P ends
    → AllByRecursion P (watch_effects known.watch number text to ends)
watch_around P known e number text NoToken same ends by all = all
watch_around P known e number text (Subscribes history) same ends by all = history_around P history number text known.watch.remote_tokens (by.own history same)
watch_around P known e number text (AsksTokens timeout token) same ends by all = tt
watch_around P known e number text (TellsToken id interest) same ends by all = go (answers interest known.watch.gets) refl
  where
    go : (b : Bool) → answers interest known.watch.gets ≡ b → AllByRecursion P (if b then answer_hands interest text else declared_hands known.watch id interest text)
    go true is = answer_around P known.watch.gets interest text is by.asking
    go false is = told_around P known.watch id interest text by.lsub
watch_around P known e number text (EndsToken id interest) same ends by all =
    tokens_around P delete_kind (is_some interest) (ended_text (find (λ t. t.number == id) known.watch.remote_tokens) text) known.watch.subs by.lsub
watch_around P known e number text (EndsAnswers None) same ends by all = tt
watch_around P known e number text (EndsAnswers (Some n)) same ends by all = go (is_asking n known.watch.gets) refl
  where
    go : (b : Bool) → is_asking n known.watch.gets ≡ b → AllByRecursion P (if b then end_asking n ∷ [] else [])
    go true is = (
      any_holds (λ (g : TokensGet). g.number == n) (λ (g : TokensGet). (n : ℕ) → (g.number == n) ≡ true → P (End tokens_kind n)) (P (End tokens_kind n)) (λ g same holds. holds n same) known.watch.gets
          (by.asking_end n same) is,
      tt,
    )
    go false is = tt

-- all of it
abbrev pub others_of : Known → Option ℕ → Option (List ℕ) → Event → List Effect
others_of known number text e =
    sends_of known.keys known.pubs number text e ++ entity_sends known e number text ++ hands_of known.subs known.pubs text e
    ++ watch_effects known.watch number text (row_of e).to_liveliness (ends_of known.queryables known.subs known.watch.subs e)

pub others_around : (P : Effect → Type 0) (known : Known) (number : Option ℕ) (text : Option (List ℕ)) (e : Event) → Around known e number P → AllByRecursion P (others_of known number text e)
others_around P known number text e by =
    all_append P (sends_of known.keys known.pubs number text e ++ entity_sends known e number text ++ hands_of known.subs known.pubs text e) _
    (all_append P (sends_of known.keys known.pubs number text e ++ entity_sends known e number text) _
    (all_append P (sends_of known.keys known.pubs number text e) _ (sends_around P by.sent known number text e) (entity_around P by.sent known number text e))
    (published_around P known.subs text (resolved known.pubs (row_of e).publishes) by.sub))
    (watch_around P known e number text (row_of e).to_liveliness refl (ends_of known.queryables known.subs known.watch.subs e) by (ends_around P known e number by))
