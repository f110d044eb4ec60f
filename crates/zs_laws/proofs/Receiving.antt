-- A session that is given another one's messages knows what its numbers stand for.
use Rattle.std.proofs.Common.{◌≡◌, ◌≤◌, ℕ, ◌++◌, List, [], ◌∷◌, Bool, true, false, Option, Some, None, refl, sym, ◌∙◌, ap, subst, arith, length}
use Rattle.std.specs.Prelude.{◌==◌, not, option_map, if◌then◌else◌, encode_utf8_all}
use Rattle.std.specs.List.{AllByRecursion}
use Rattle.std.specs.Option.{IfSome}
use Rattle.std.proofs.lemmas.Bool.{eqb-true}
use Rattle.zs_keys.specs.Text.{is_canonical}
use Rattle.zs_wire.specs.declared.message.Message.{Message}
use Rattle.zs_wire.specs.declared.message.Message.TheVariants.{DeclareKeyExpr, UndeclareKeyExpr, DeclareSubscriber, Interest}
use Rattle.zs_wire.specs.declared.interest.InterestWhat.{InterestWhat}
use Rattle.zs_wire.specs.declared.interest.InterestWhat.TheVariants.{Queryables as of_queryables, Tokens as of_tokens}
use Rattle.zs_wire.specs.declared.wire_expr.Mapping.{Mapping}
use Rattle.zs_wire.specs.declared.wire_expr.Mapping.TheVariants.{Sender, Receiver}
use Rattle.zs_wire.specs.declared.wire_expr.WireExpr.{WireExpr}
use Rattle.zs_subscriptions.proofs.Ascending.{all_weaker}
use Rattle.zs_events.specs.declared.event.Event.{Event}
use Rattle.zs_events.specs.declared.event.Event.TheVariants.{Net}
use Rattle.zs_events.specs.declared.turn.Refusal.{Refusal}
use Rattle.zs_events.specs.declared.turn.Refusal.TheVariants.{BadKeyExpr}
use Rattle.zs_events.specs.Kinds.{told_on}
use Rattle.zs_model.specs.declared.settings.Settings.{Settings}
use Rattle.zs_model.specs.Entry.{Entry, is_closed}
use Rattle.zs_model.specs.Groups.{share_text}
use Rattle.zs_model.specs.HeldKeys.{tells_number, remote_text, mapped_text, wire_text}
use Rattle.zs_model.specs.Causes.{holds, in_order, first_that, refusal_of}
use Rattle.zs_model.specs.Past.{entry_of, with_entry, past_of}
use Rattle.zs_model.specs.Effects.{effects}
use Rattle.zs_model.specs.Received.{messages_of, sent_behind, sent, read_by, of_sender, number_text, read_as, wire_in, interest_means, meant_by, spoken_text, AreReadAs, AreSpelled}
use Rattle.zs_laws.proofs.Received.{keys_read}
use Rattle.zs_laws.proofs.OneMessage.{one_message}
use Rattle.zs_laws.specs.Origins.{IsTested, HasOrigin}
use Rattle.zs_laws.specs.Spelled.{AllSpelled}
use Rattle.zs_laws.specs.Receiving.{given, number_messages, ReceiversReadKeys}
use Rattle.zs_laws.proofs.Origins.{messages_have_origins}
use Rattle.zs_laws.proofs.Texts.{past_utf8, event_utf8}

-- what those before it read a declaration of a number as, a canonical key expression
pub record IsReadable (before : List Message) (wire : WireExpr) : Type 0 where
  pub text : List ℕ
  pub reads : read_as before wire ≡ Some text
  pub canonical : is_canonical text ≡ true

-- so are all such declarations
abbrev pub AreSound : List Message → Type 0
AreSound [] = Unit {0}
AreSound (DeclareKeyExpr number wire ∷ before) = IsReadable before wire × AreSound before
AreSound (message ∷ before) = AreSound before

-- other messages tell nothing of numbers
number_kept : (n : ℕ) (ms : List Message) → number_text n (number_messages ms) ≡ number_text n ms
number_kept n [] = refl
number_kept n (DeclareKeyExpr number wire ∷ ms) =
    let front = number_kept wire.scope ms in
    let rest = number_kept n ms in
    λ i. if number == n then read_by wire (of_sender wire.mapping (front i)) else rest i
number_kept n (UndeclareKeyExpr number ∷ ms) = ap (λ (o : Option (List ℕ)). if number == n then None else o) (number_kept n ms)
number_kept n (m ∷ ms) = number_kept n ms

sound_kept : (ms : List Message) → AreSound ms → AreSound (number_messages ms)
sound_kept [] sound = tt
sound_kept (DeclareKeyExpr number wire ∷ ms) sound =
    let reads : read_as (number_messages ms) wire ≡ Some sound.0.text =
    ap (λ (front : Option (List ℕ)). read_by wire (of_sender wire.mapping front)) (number_kept wire.scope ms) ∙ sound.0.reads in
    (record { text = sound.0.text; reads = reads; canonical = sound.0.canonical }, sound_kept ms sound.1)
sound_kept (UndeclareKeyExpr number ∷ ms) sound = sound_kept ms sound
sound_kept (m ∷ ms) sound = sound_kept ms sound

sound_back : (ms : List Message) → AreSound (number_messages ms) → AreSound ms
sound_back [] sound = tt
sound_back (DeclareKeyExpr number wire ∷ ms) sound =
    let reads : read_as ms wire ≡ Some sound.0.text =
    sym (ap (λ (front : Option (List ℕ)). read_by wire (of_sender wire.mapping front)) (number_kept wire.scope ms)) ∙ sound.0.reads in
    (record { text = sound.0.text; reads = reads; canonical = sound.0.canonical }, sound_back ms sound.1)
sound_back (UndeclareKeyExpr number ∷ ms) sound = sound_back ms sound
sound_back (m ∷ ms) sound = sound_back ms sound

-- what a past knows of the numbers that messages tell
abbrev pub Knows : List Message → List Entry → Type 0
Knows before past = (n : ℕ) (text : List ℕ) → (n == 0) ≡ false → number_text n before ≡ Some text → remote_text n past ≡ Some text

reads : (before : List Message) (past : List Entry) → Knows before past → (wire : WireExpr) (text : List ℕ) → read_as before wire ≡ Some text → wire_text past wire ≡ Some text
reads before past knows wire text is = go (wire.scope == 0) refl wire.mapping (number_text wire.scope before) refl is
  where
    go : (z : Bool) → (wire.scope == 0) ≡ z → (m : Mapping) (o : Option (List ℕ)) → number_text wire.scope before ≡ o
        → (if z then Some (encode_utf8_all wire.suffix) else option_map (λ (front : List ℕ). front ++ encode_utf8_all wire.suffix) (of_sender m o)) ≡ Some text
        → (if z then Some (encode_utf8_all wire.suffix) else option_map (λ (front : List ℕ). front ++ encode_utf8_all wire.suffix) (mapped_text m wire.scope past)) ≡ Some text
    go true z m o has is = is
    go false z Sender (Some front) has is = ap (option_map (λ (front : List ℕ). front ++ encode_utf8_all wire.suffix)) (knows wire.scope front z has) ∙ is
    go false z Sender None has is = cc
    go false z Receiver o has is = cc

-- the first cause against a declaration of a number
abbrev judged : WireExpr → Bool → Bool → Option (List ℕ) → Option Refusal
judged wire closed zero text =
    first_that (holds closed (record (told_on wire) { tells_zero = zero })
    (record { text = text; lives = true; claimed = true; owed = true; drawn = true; cancelled = false; disjoint = false; lacks = false; idle = false; spared = false })) in_order

-- one of a number that is not 0, with a canonical text, is accepted
accepts : (t : Settings) (past : List Entry) (number : ℕ) (wire : WireExpr) (text : List ℕ) → is_closed past ≡ false → (number == 0) ≡ false → wire_text past wire ≡ Some text
    → is_canonical text ≡ true → refusal_of t past (Net (DeclareKeyExpr number wire)) ≡ None
accepts t past number wire text unshut some at canonical =
    let known : refusal_of t past (Net (DeclareKeyExpr number wire)) ≡ judged wire false false (Some text) = λ i. judged wire (unshut i) (some i) (at i) in
    known ∙ ap (λ (b : Bool). if not b then Some BadKeyExpr else None) canonical

still_open : (t : Settings) (e : Event) (g : List Event) → is_closed (past_of t (e ∷ g)) ≡ false → is_closed (past_of t g) ≡ false
still_open t e g = go (refusal_of t (past_of t g) e) (is_closed (past_of t g)) refl
  where
    go : (o : Option Refusal) (b : Bool) → is_closed (past_of t g) ≡ b → is_closed (with_entry o b (entry_of t (past_of t g) e) (past_of t g)) ≡ false → is_closed (past_of t g) ≡ false
    go (Some refusal) b shut unshut = unshut
    go None true shut unshut = unshut
    go None false shut unshut = shut

told_same : (n : ℕ) (t : Settings) (e : Event) (g : List Event) → tells_number n e ≡ false → remote_text n (past_of t (e ∷ g)) ≡ remote_text n (past_of t g)
told_same n t e g untold = go (refusal_of t (past_of t g) e) (is_closed (past_of t g))
  where
    go : (o : Option Refusal) (b : Bool) → remote_text n (with_entry o b (entry_of t (past_of t g) e) (past_of t g)) ≡ remote_text n (past_of t g)
    go (Some refusal) b = refl
    go None true = refl
    go None false = ap (λ (b : Bool). if b then (entry_of t (past_of t g) e).text else remote_text n (past_of t g)) untold

-- a declaration of a number makes it known
declared : (t : Settings) (g : List Event) (number : ℕ) (wire : WireExpr) → IsReadable (given g) wire → is_closed (past_of t g) ≡ false → Knows (given g) (past_of t g)
    → Knows (DeclareKeyExpr number wire ∷ given g) (past_of t (Net (DeclareKeyExpr number wire) ∷ g))
declared t g number wire readable unshut ih n text some is = go (number == n) refl is
  where
    e : Event
    e = Net (DeclareKeyExpr number wire)

    at : wire_text (past_of t g) wire ≡ Some readable.text
    at = reads (given g) (past_of t g) ih wire readable.text readable.reads

    go : (b : Bool) → (number == n) ≡ b → (if b then read_as (given g) wire else number_text n (given g)) ≡ Some text → remote_text n (past_of t (e ∷ g)) ≡ Some text
    go true same is =
        let its : number ≡ n = eqb-true number n same in
        let taken : refusal_of t (past_of t g) e ≡ None = accepts t (past_of t g) number wire readable.text unshut (ap (λ (k : ℕ). k == 0) its ∙ some) at readable.canonical in
        let behind : remote_text n (past_of t (e ∷ g)) ≡ remote_text n (entry_of t (past_of t g) e ∷ past_of t g) =
        λ i. remote_text n (with_entry (taken i) (unshut i) (entry_of t (past_of t g) e) (past_of t g)) in
        behind ∙ ap (λ (b : Bool). if b then wire_text (past_of t g) wire else remote_text n (past_of t g)) same ∙ at ∙ sym readable.reads ∙ is
    go false other is = told_same n t e g other ∙ ih n text some is

-- so an open session knows what it was told
known : (t : Settings) (g : List Event) → AreSound (given g) → is_closed (past_of t g) ≡ false → Knows (given g) (past_of t g)
known t [] sound unshut = λ n text some is. cc
known t (Net (DeclareKeyExpr number wire) ∷ g) sound unshut =
    let before = still_open t (Net (DeclareKeyExpr number wire)) g unshut in
    declared t g number wire sound.0 before (known t g sound.1 before)
known t (Net (UndeclareKeyExpr number) ∷ g) sound unshut =
    let ih = known t g sound (still_open t (Net (UndeclareKeyExpr number)) g unshut) in
    λ n text some is. ended t g number n text ih some is
  where
    ended : (t : Settings) (g : List Event) (number n : ℕ) (text : List ℕ) → Knows (given g) (past_of t g) → (n == 0) ≡ false → (if number == n then None else number_text n (given g)) ≡ Some text
        → remote_text n (past_of t (Net (UndeclareKeyExpr number) ∷ g)) ≡ Some text
    ended t g number n text ih some is = go (number == n) is
      where
        go : (b : Bool) → (if b then None else number_text n (given g)) ≡ Some text → remote_text n (past_of t (Net (UndeclareKeyExpr number) ∷ g)) ≡ Some text
        go true is = cc
        go false is = told_same n t (Net (UndeclareKeyExpr number)) g refl ∙ ih n text some is
known t (e ∷ g) sound unshut =
    let ih = known t g sound (still_open t e g unshut) in
    λ n text some is. told_same n t e g refl ∙ ih n text some is

-- what a session sends is sound
readable : (before : List Message) (wire : WireExpr) (text : Option (List ℕ)) → read_as before wire ≡ text → IsTested text → IsReadable before wire
readable before wire None is tested = absurd tested
readable before wire (Some text) is tested = record { text = text; reads = is; canonical = tested }

sound_more : (s : Settings) (text : Option (List ℕ)) (before ms : List Message) → AreReadAs s text before ms → AllByRecursion (λ m. IfSome (wire_in m) (λ wire. IsTested text)) ms → AreSound before
    → AreSound (sent_behind ms before)
sound_more s text before [] read tested sound = sound
sound_more s text before (DeclareKeyExpr number wire ∷ ms) read tested sound =
    sound_more s text (DeclareKeyExpr number wire ∷ before) ms read.1 tested.1 (readable before wire text read.0 tested.0, sound)
sound_more s text before (m ∷ ms) read tested sound = sound_more s text (m ∷ before) ms read.1 tested.1 sound

keys_tested : (s : Settings) (h : List Event) (e : Event) → AllByRecursion (λ m. IfSome (wire_in m) (λ wire. IsTested (spoken_text (past_of s h) e))) (messages_of (effects s h e).effects)
keys_tested s h e =
    all_weaker (HasOrigin s (past_of s h) e) (λ m. IfSome (wire_in m) (λ wire. IsTested (spoken_text (past_of s h) e))) (λ m origin. origin.1) (messages_of (effects s h e).effects) (messages_have_origins s h e)

pub sound_sent : (s : Settings) (h : List Event) → AreSpelled s → AllSpelled h → AreSound (sent s h)
sound_sent s [] aggregates all = tt
sound_sent s (e ∷ h) aggregates all =
    sound_more s (spoken_text (past_of s h) e) (sent s h) (messages_of (effects s h e).effects)
    (keys_read s h e aggregates (past_utf8 s h all.1) (event_utf8 s h e all)) (keys_tested s h e) (sound_sent s h aggregates all.1)

-- what is meant by a text is one
interest_text : (s : Settings) (what : InterestWhat) (t : List ℕ) → (meant : List ℕ) × (interest_means s what (Some t) ≡ Some meant)
interest_text s of_tokens t = (t, refl)
interest_text s of_queryables t = (t, refl)
interest_text s what t = (share_text s.aggregated_publishers t, refl)

meant_text : (s : Settings) (t : List ℕ) (m : Message) → (meant : List ℕ) × (meant_by s (Some t) m ≡ Some meant)
meant_text s t (DeclareSubscriber id wire) = (share_text s.aggregated_subscribers t, refl)
meant_text s t (Interest id mode what wire) = interest_text s what t
meant_text s t m = (t, refl)

pub receivers_read_keys : ReceiversReadKeys
receivers_read_keys s t h g e aggregates all same unshut =
    go (messages_of (effects s h e).effects) (one_message s h e) (keys_read s h e aggregates (past_utf8 s h all.1) (event_utf8 s h e all)) (keys_tested s h e)
  where
    meant : Message → Option (List ℕ)
    meant m = meant_by s (spoken_text (past_of s h) e) m

    knows : Knows (sent s h) (past_of t g)
    knows n text some is =
        known t g (sound_back (given g) (subst AreSound (sym same) (sound_kept (sent s h) (sound_sent s h aggregates all.1)))) unshut n text some
        (sym (number_kept n (given g)) ∙ ap (number_text n) same ∙ number_kept n (sent s h) ∙ is)

    by_text : (m : Message) (wire : WireExpr) (text : Option (List ℕ)) → read_as (sent s h) wire ≡ meant_by s text m → IsTested text → wire_text (past_of t g) wire ≡ meant_by s text m
    by_text m wire None is tested = absurd tested
    by_text m wire (Some text) is tested =
        let means = meant_text s text m in
        reads (sent s h) (past_of t g) knows wire means.0 (is ∙ means.1) ∙ sym means.1

    one : (m : Message) (o : Option WireExpr) → IfSome o (λ wire. read_as (sent s h) wire ≡ meant_by s (spoken_text (past_of s h) e) m) → IfSome o (λ wire. IsTested (spoken_text (past_of s h) e))
        → IfSome o (λ wire. wire_text (past_of t g) wire ≡ meant_by s (spoken_text (past_of s h) e) m)
    one m None is tested = tt
    one m (Some wire) is tested = by_text m wire (spoken_text (past_of s h) e) is tested

    go : (ms : List Message) → length ms ≤ 1 → AreReadAs s (spoken_text (past_of s h) e) (sent s h) ms → AllByRecursion (λ m. IfSome (wire_in m) (λ wire. IsTested (spoken_text (past_of s h) e))) ms
        → AllByRecursion (λ m. IfSome (wire_in m) (λ wire. wire_text (past_of t g) wire ≡ meant_by s (spoken_text (past_of s h) e) m)) ms
    go [] few read tested = tt
    go (m ∷ []) few read tested = (one m (wire_in m) read.0 tested.0, tt)
    go (m ∷ n ∷ ms) few read tested = absurd (omega (arith, few))
