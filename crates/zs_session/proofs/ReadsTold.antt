-- The text of a script tells it, and what is read from channels is plain: it is what was handed over.
use Rattle.std.proofs.Common.{◌≡◌, ◌+◌, List, [], ◌∷◌, ◌++◌, length, Bool, true, false, Option, Some, None, IfSome, refl, ◌∙◌, ap}
use Rattle.std.specs.Prelude.{ℕ, filter, option_map}
use Rattle.std.specs.List.{AllByRecursion, list_all}
use Rattle.std.proofs.lemmas.Bool.{and_parts, and_from}
use Rattle.std.proofs.lemmas.List.Folds.{list_all-append}
use Rattle.zs_events.specs.declared.chan.Chan.{Chan}
use Rattle.zs_events.specs.declared.chan.Chan.TheVariants.{Print, Fifo, Ring}
use Rattle.zs_events.specs.declared.received.Received.{Received}
use Rattle.zs_events.specs.declared.received.Received.TheVariants.{Item, Empty, Disconnected, Deleted}
use Rattle.zs_events.specs.declared.script_event.ScriptEvent.{ScriptEvent}
use Rattle.zs_events.specs.declared.script_event.ScriptEvent.TheVariants.{Core, Recv}
use Rattle.zs_events.specs.declared.turn.Answer.{Answer}
use Rattle.zs_events.specs.declared.turn.Answer.TheVariants.{Ok as accepted, Refused}
use Rattle.zs_events.specs.declared.turn.Effect.{Effect}
use Rattle.zs_events.specs.declared.turn.Effect.TheVariants.{Send, Hand, End, Matching}
use Rattle.zs_events.specs.declared.turn.HandOver.{HandOver}
use Rattle.zs_events.specs.declared.turn.HandOver.TheVariants.{Sample, Reply, Query}
use Rattle.zs_events.specs.declared.turn.Kind.{Kind}
use Rattle.zs_events.specs.declared.turn.Refusal.TheVariants.{NotFound}
use Rattle.zs_events.specs.Turn.{answered}
use Rattle.zs_events.specs.Kinds.{row_of}
use Rattle.zs_core.specs.Types.{Settings}
use Rattle.zs_core.specs.Entry.{is_closed}
use Rattle.zs_core.specs.Received.{AreSpelled}
use Rattle.zs_core.specs.Past.{past_of}
use Rattle.zs_core.specs.Effects.{effects}
use Rattle.zs_channels.specs.Channel.{nothing_in, first_or, received}
use Rattle.zs_channels.specs.Told.{ChannelNews, Opens, Hears, Handed, Read, Ended, Declared, has_ended, held, state, channel_of, items_in, all_handed}
use Rattle.zs_channels.specs.Heard.{opening, news_of_item, news_of_effect, news_of_effects, news_of_turn}
use Rattle.zs_channels.proofs.Giving.{holds}
use Rattle.zs_printing.specs.Pieces.{written}
use Rattle.zs_printing.specs.Printing.{received_fields}
use Rattle.zs_script.specs.Plain.{is_plain_effect, is_plain_received, is_plain_script_event}
use Rattle.zs_script.proofs.PlainTexts.{lines-found, fields-found}
use Rattle.zs_script.proofs.PlainEffects.{answers-plain, received-plain}
use Rattle.zs_session.specs.Heard.{core_of, heard, answer_of}
use Rattle.zs_session.specs.Script.{read_refusal, read_text, text_after}
use Rattle.zs_session.specs.Telling.{plain_line, tells, tells_behind, is_telling, told, refusal_or, event_lines, lines_after}
use Rattle.zs_session.proofs.Cutting.{ArePlain}
use Rattle.zs_session.proofs.PlainKeys.{PlainEvents, past_plain}
use Rattle.zs_session.proofs.Opened.{reads_are_refused}
use Rattle.zs_session.proofs.Telling.{PlainEffects, plain_turn, plain_turn_effects, event_told, quiet_but, told_turn}

-- no text of a script's events has a tab or a line feed
abbrev pub PlainScript : List ScriptEvent → Type 0
PlainScript es = AllByRecursion (λ e. is_plain_script_event e ≡ true) es

-- so it is with those of the session
plain_core : (h : List ScriptEvent) → PlainScript h → PlainEvents (core_of h)
plain_core [] all = tt
plain_core (Core e ∷ h) all = (all.0, plain_core h all.1)
plain_core (Recv kind id ∷ h) all = plain_core h all.1

-- what is handed over has no such text
abbrev plain_item : HandOver → Bool
plain_item item = is_plain_effect (Hand item)

abbrev PlainNews : List (ChannelNews HandOver) → Type 0
PlainNews news = list_all plain_item (all_handed news) ≡ true

handed-append : (news more : List (ChannelNews HandOver)) → all_handed (news ++ more) ≡ all_handed news ++ all_handed more
handed-append [] more = refl
handed-append (Opens kind id to ∷ news) more = handed-append news more
handed-append (Hears kind id (Handed item) ∷ news) more = ap (λ (items : List HandOver). item ∷ items) (handed-append news more)
handed-append (Hears kind id Read ∷ news) more = handed-append news more
handed-append (Hears kind id Ended ∷ news) more = handed-append news more

news_both : (news more : List (ChannelNews HandOver)) → PlainNews news → PlainNews more → PlainNews (news ++ more)
news_both news more first second =
    ap (list_all plain_item) (handed-append news more) ∙ list_all-append plain_item (all_handed news) (all_handed more)
    ∙ and_from (list_all plain_item (all_handed news)) (list_all plain_item (all_handed more)) first second

plain_news_of_item : (item : HandOver) → plain_item item ≡ true → PlainNews (news_of_item item)
plain_news_of_item (Sample kind id sample) plain = and_from (plain_item (Sample kind id sample)) true plain refl
plain_news_of_item (Reply kind id reply) plain = and_from (plain_item (Reply kind id reply)) true plain refl
plain_news_of_item (Query id count query) plain = refl

plain_news_of_effect : (f : Effect) → is_plain_effect f ≡ true → PlainNews (news_of_effect f)
plain_news_of_effect (Send message) plain = refl
plain_news_of_effect (Hand item) plain = plain_news_of_item item plain
plain_news_of_effect (End kind id) plain = refl
plain_news_of_effect (Matching id matching) plain = refl

plain_news_of_effects : (fx : List Effect) → PlainEffects fx → PlainNews (news_of_effects fx)
plain_news_of_effects [] all = refl
plain_news_of_effects (f ∷ fx) all = news_both (news_of_effects fx) (news_of_effect f) (plain_news_of_effects fx all.1) (plain_news_of_effect f all.0)

plain_opening : (kind : Option Kind) (to : Chan) (answer : Answer) → PlainNews (opening kind to answer)
plain_opening None to answer = refl
plain_opening (Some kind) to (accepted (Some number)) = refl
plain_opening (Some kind) to (accepted None) = refl
plain_opening (Some kind) to (Refused refusal) = refl

-- all that channels hear of plain events is plain
plain_heard : (s : Settings) → AreSpelled s → (h : List ScriptEvent) → PlainScript h → PlainNews (heard s h)
plain_heard s shared [] all = refl
plain_heard s shared (Core e ∷ h) all =
    let turn = effects s (core_of h) e in
    news_both (news_of_turn e turn) (heard s h)
    (news_both (news_of_effects turn.effects) (opening (row_of e).handled (row_of e).channel turn.answer)
    (plain_news_of_effects turn.effects (plain_turn_effects s shared (past_of s (core_of h)) e (past_plain s (core_of h) (plain_core h all.1)) all.0))
    (plain_opening (row_of e).handled (row_of e).channel turn.answer))
    (plain_heard s shared h all.1)
plain_heard s shared (Recv kind id ∷ h) all = plain_heard s shared h all.1

-- a channel answers with an item that it has, or with none
plain_nothing : (to : Chan) (ended : Bool) → is_plain_received (nothing_in to ended) ≡ true
plain_nothing to false = refl
plain_nothing Print true = refl
plain_nothing (Fifo size) true = refl
plain_nothing (Ring size) true = refl

plain_first : (nothing : Received HandOver) (items : List HandOver) → is_plain_received nothing ≡ true → list_all plain_item items ≡ true
    → is_plain_received (first_or nothing items) ≡ true
plain_first nothing [] none all = none
plain_first nothing (item ∷ items) none all = (and_parts (plain_item item) (list_all plain_item items) all).0

-- so what a read is answered is plain
plain_answer : (s : Settings) → AreSpelled s → (h : List ScriptEvent) → PlainScript h → (kind : Kind) (id : ℕ)
    → IfSome (answer_of s h kind id) (λ answer. is_plain_received answer ≡ true)
plain_answer s shared h all kind id = go (channel_of kind id (heard s h)) (holds plain_item (heard s h) kind id (plain_heard s shared h all))
  where
    go : (o : Option (Declared HandOver)) → list_all plain_item (items_in o) ≡ true
        → IfSome (option_map (λ d. received (state d)) o) (λ answer. is_plain_received answer ≡ true)
    go None items = tt
    go (Some d) items = plain_first (nothing_in d.to (has_ended d.since)) (held d.to d.since) (plain_nothing d.to (has_ended d.since)) items

-- no answer of a channel tells
read_quiet : (answer : Received HandOver) → tells (received_fields answer) ≡ false
unfolding written
read_quiet (Item item) = refl
read_quiet Empty = refl
read_quiet Disconnected = refl
read_quiet Deleted = refl

-- a read tells its refusal alone
read_told : (n : ℕ) (o : Option (Received HandOver)) (closed : Bool) (rest : List ℕ) → IfSome o (λ answer. is_plain_received answer ≡ true)
    → told (read_text n o closed ++ rest) ≡ refusal_or n (read_refusal o closed) [] ++ told rest
read_told n (Some answer) closed rest plain =
    let are : ArePlain (received_fields answer) = received-plain answer plain in
    let quiet : is_telling (plain_line n (received_fields answer)) ≡ false = ap tells_behind (fields-found n (received_fields answer) are) ∙ read_quiet answer in
    ap (filter is_telling) (lines-found n (received_fields answer) rest are) ∙ rw quiet refl
read_told n None true rest plain = told_turn n (answered None None []) rest (answers-plain (accepted None), tt)
read_told n None false rest plain = told_turn n (answered (Some NotFound) None []) rest (answers-plain (Refused NotFound), tt)

-- the whole text of plain events tells them
pub text_told : (s : Settings) → AreSpelled s → (h es : List ScriptEvent) → PlainScript h → PlainScript es
    → told (text_after s h es) ≡ lines_after s h es
text_told s shared h [] past all = refl
text_told s shared h (Core e ∷ es) past all =
    let n = length h + 1 in
    let c = core_of h in
    let plain = past_plain s c (plain_core h past) in
    told_turn n (effects s c e) (text_after s (Core e ∷ h) es) (plain_turn s shared (past_of s c) e plain all.0)
    ∙ ap (λ (here : List (List ℕ)). here ++ told (text_after s (Core e ∷ h) es))
    (event_told s (past_of s c) n e (quiet_but s shared (past_of s c) e plain all.0))
    ∙ ap (λ (later : List (List ℕ)). event_lines s (past_of s c) n e ++ later) (text_told s shared (Core e ∷ h) es (all.0, past) all.1)
text_told s shared h (Recv kind id ∷ es) past all =
    let n = length h + 1 in
    let answer = answer_of s h kind id in
    let closed = is_closed (past_of s (core_of h)) in
    read_told n answer closed (text_after s (Recv kind id ∷ h) es) (plain_answer s shared h past kind id)
    ∙ (λ i. refusal_or n (reads_are_refused s h kind id i) [] ++ text_told s shared (Recv kind id ∷ h) es (refl, past) all.1 i)
