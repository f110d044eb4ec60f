-- The printed fields of plain effects and of answers are plain.
use Rattle.std.proofs.Common.{◌≡◌, Bool, true, false, Some, None, Result, Ok, Err, refl, ℕ, ap, ◌∙◌, append_assoc, map, flat_map, List, [], ◌∷◌, ◌++◌, decimal}
use Rattle.std.proofs.lemmas.Bool.{and_parts, and_from}
use Rattle.std.specs.List.{list_all}
use Rattle.zs_events.specs.declared.received.Received.{Received}
use Rattle.zs_events.specs.declared.received.Received.TheVariants.{Item, Empty, Disconnected, Deleted}
use Rattle.zs_events.specs.declared.turn.Answer.TheVariants.{Ok as accepted, Refused}
use Rattle.zs_events.specs.declared.turn.Effect.{Effect}
use Rattle.zs_events.specs.declared.turn.Effect.TheVariants.{Send, Hand, End, Matching}
use Rattle.zs_events.specs.declared.turn.HandOver.{HandOver}
use Rattle.zs_events.specs.declared.turn.HandOver.TheVariants.{Sample, Reply, Query}
use Rattle.zs_events.specs.declared.turn.Kind.{Kind}
use Rattle.zs_events.specs.declared.turn.Kind.TheVariants.{Subscriber, LivelinessSubscriber, Publisher, Queryable, Querier, Token, Listener, Get, LivelinessGet}
use Rattle.zs_events.specs.declared.turn.Refusal.{Refusal}
use Rattle.zs_events.specs.declared.turn.Refusal.TheVariants.{SessionClosedError, NotFound, UnknownScope, BadKeyExpr, QueryCancelled, ReplyDisjoint, NotDeclared, IdsExhausted, Ignored}
use Rattle.zs_sample.specs.ErrorFields.{ErrorFields}
use Rattle.zs_sample.specs.declared.sample_fields.SampleFields.{SampleFields}
use Rattle.zs_lines.specs.Lines.{lines}
use Rattle.zs_printing.specs.Words.{refusal_name, kind_word, truth_word}
use Rattle.zs_printing.specs.Printing.{line, hand_pieces, outcome_pieces, replied_pieces, queried_pieces, effect_pieces, effect_fields, item_pieces, received_pieces, answer_fields}
use Rattle.zs_script.specs.Plain.{is_plain, is_plain_text, is_plain_outcome, is_plain_effect, is_plain_received}
use Rattle.zs_script.specs.Laws.{row, AnswersArePlain, EffectsArePlain, ReceivedArePlain, TurnsAreFound}
use Rattle.zs_script.proofs.PlainTexts.{decimal-plain, lines-found}
use Rattle.zs_script.proofs.PlainPieces.{ArePlain, pieces-plain, both-plain, sample-plain, asked-plain, message-plain}

refusal-plain : (refusal : Refusal) → is_plain (refusal_name refusal) ≡ true
refusal-plain SessionClosedError = refl
refusal-plain NotFound = refl
refusal-plain UnknownScope = refl
refusal-plain BadKeyExpr = refl
refusal-plain QueryCancelled = refl
refusal-plain ReplyDisjoint = refl
refusal-plain NotDeclared = refl
refusal-plain IdsExhausted = refl
refusal-plain Ignored = refl

kind-plain : (kind : Kind) → is_plain (kind_word kind) ≡ true
kind-plain Subscriber = refl
kind-plain LivelinessSubscriber = refl
kind-plain Publisher = refl
kind-plain Queryable = refl
kind-plain Querier = refl
kind-plain Token = refl
kind-plain Listener = refl
kind-plain Get = refl
kind-plain LivelinessGet = refl

truth-plain : (truth : Bool) → is_plain (truth_word truth) ≡ true
truth-plain true = refl
truth-plain false = refl

pub answers-plain : AnswersArePlain
answers-plain (accepted None) = refl
answers-plain (accepted (Some number)) = and_from _ _ (decimal-plain number) refl
answers-plain (Refused refusal) = and_from _ _ (refusal-plain refusal) refl

outcome-plain : (outcome : Result SampleFields ErrorFields) → is_plain_outcome outcome ≡ true → ArePlain (outcome_pieces outcome)
outcome-plain (Ok sample) h =
    let both = and_parts (is_plain sample.key_expr.text) (is_plain_text sample.encoding) h in sample-plain sample both.0 both.1
outcome-plain (Err e) h = (refl, (tt, (h, tt)))

effect-plain : (effect : Effect) → is_plain_effect effect ≡ true → ArePlain (effect_pieces effect)
unfolding hand_pieces replied_pieces queried_pieces
effect-plain (Send message) h = (refl, message-plain message h)
effect-plain (Hand (Sample kind id sample)) h =
    let both = and_parts (is_plain sample.key_expr.text) (is_plain_text sample.encoding) h in
    (refl, (kind-plain kind, (tt, sample-plain sample both.0 both.1)))
effect-plain (Hand (Reply kind id reply)) h =
    (refl, (kind-plain kind, (tt, both-plain (outcome_pieces reply.result) _ (outcome-plain reply.result h) (tt, tt))))
effect-plain (Hand (Query id count query)) h = (refl, (refl, (tt, (tt, asked-plain query h))))
effect-plain (End kind id) h = (refl, (kind-plain kind, (tt, tt)))
effect-plain (Matching id matching) h = (refl, (tt, (truth-plain matching, tt)))

-- what a read of a channel is answered
item-plain : (item : HandOver) → is_plain_effect (Hand item) ≡ true → ArePlain (item_pieces item)
item-plain (Sample kind id sample) h =
    let both = and_parts (is_plain sample.key_expr.text) (is_plain_text sample.encoding) h in sample-plain sample both.0 both.1
item-plain (Reply kind id reply) h = both-plain (outcome_pieces reply.result) _ (outcome-plain reply.result h) (tt, tt)
item-plain (Query id count query) h = asked-plain query h

answered-plain : (received : Received HandOver) → is_plain_received received ≡ true → ArePlain (received_pieces received)
answered-plain (Item item) h = (refl, item-plain item h)
answered-plain Empty h = (refl, tt)
answered-plain Disconnected h = (refl, tt)
answered-plain Deleted h = (refl, tt)

pub received-plain : ReceivedArePlain
received-plain received h = pieces-plain (received_pieces received) (answered-plain received h)

pub effects-plain : EffectsArePlain
effects-plain effect h = pieces-plain (effect_pieces effect) (effect-plain effect h)

effects-found : (number : ℕ) (effects : List Effect) (rest : List ℕ) → list_all is_plain_effect effects ≡ true
    → lines (flat_map (λ effect. line number (effect_fields effect)) effects ++ rest)
    ≡ map (λ parts. decimal number ++ row parts) (map effect_fields effects) ++ lines rest
effects-found number [] rest h = refl
effects-found number (effect ∷ effects) rest h =
    let both = and_parts (is_plain_effect effect) (list_all is_plain_effect effects) h in
    let more = flat_map (λ e. line number (effect_fields e)) effects in
    let first = line number (effect_fields effect) in
    ap lines (append_assoc first more rest)
    ∙ lines-found number (effect_fields effect) (more ++ rest) (effects-plain effect both.0)
    ∙ ap (λ (ls : List (List ℕ)). (decimal number ++ row (effect_fields effect)) ∷ ls) (effects-found number effects rest both.1)

pub turns-found : TurnsAreFound
turns-found number turn rest h =
    let more = flat_map (λ e. line number (effect_fields e)) turn.effects in
    let first = line number (answer_fields turn.answer) in
    ap lines (append_assoc first more rest)
    ∙ lines-found number (answer_fields turn.answer) (more ++ rest) (answers-plain turn.answer)
    ∙ ap (λ (ls : List (List ℕ)). (decimal number ++ row (answer_fields turn.answer)) ∷ ls) (effects-found number turn.effects rest h)
