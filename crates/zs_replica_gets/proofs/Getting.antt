-- The law: what each get of two linked sessions is handed.
use Rattle.std.proofs.Common.{◌≡◌, ℕ, List, [], ◌∷◌, ◌++◌, Bool, true, false, Option, Some, None, refl, sym, ◌∙◌, ap, subst, true≢false}
use Rattle.std.specs.Prelude.{◌==◌, encode_utf8_all, if◌then◌else◌, IsUtf8}
use Rattle.std.specs.List.{AllByRecursion}
use Rattle.std.specs.Str.{chars, all_scalars}
use Rattle.std.proofs.lemmas.Str.{encodes-chars}
use Rattle.zs_wire.specs.declared.message.Message.{Message}
use Rattle.zs_wire.specs.declared.message.Message.TheVariants.{Request as request_message}
use Rattle.zs_wire.specs.declared.request.Request.{Request}
use Rattle.zs_query.specs.Asked.{Asked as a_get, open_gets}
use Rattle.zs_query.specs.Gets.{get_at}
use Rattle.zs_query.specs.Kept.{kept}
use Rattle.zs_events.specs.declared.event.Event.TheVariants.{Net}
use Rattle.zs_events.specs.declared.turn.Answer.{Answer}
use Rattle.zs_events.specs.declared.turn.Answer.TheVariants.{Ok as accepted, Refused}
use Rattle.zs_events.specs.declared.turn.Effect.{Effect}
use Rattle.zs_events.specs.declared.update.Update.{Update}
use Rattle.zs_events.specs.declared.publication.PublicationQuality.{PublicationQuality}
use Rattle.zs_model.specs.declared.settings.Settings.{Settings}
use Rattle.zs_model.specs.Counters.{next_query}
use Rattle.zs_model.specs.Gets.{open_now}
use Rattle.zs_model.specs.Past.{past_of}
use Rattle.zs_model.specs.Received.{AreSpelled}
use Rattle.zs_model.specs.Effects.{effects}
use Rattle.zs_laws.specs.Ended.{EndsOfGets}
use Rattle.zs_laws.specs.Handed.{handed_to, GetsAreHanded, OthersAreHandedNothing}
use Rattle.zs_delivery.specs.declared.side.LinkSide.{LinkSide}
use Rattle.zs_delivery.specs.declared.side.LinkSide.TheVariants.{A, B}
use Rattle.zs_delivery.specs.Linked.{Side, LinkLine, Deliver, other, linked_after}
use Rattle.zs_store.specs.Store.{Write}
use Rattle.zs_replicas.specs.Replicas.{first_events, first_links, Starts, StoresHoldWhatWasWritten}
use Rattle.zs_replica_gets.specs.Steps.{Step, Writes, Asks, Moves, question, writing, answerer, asking_settings, settings_of, side_of, opposite, store_at, actor, line_of, with_step, step_effects, links_after, IsReplicaStep, AreReplicaSteps}
use Rattle.zs_replica_gets.specs.Asked.{Stage, Unasked, Asked, Answered, Over, answer_at, same_side, asked, answered, given_request, brings_final, with_stage, stage_after}
use Rattle.zs_replica_gets.specs.Newest.{HandsNewest}
use Rattle.zs_replica_gets.specs.Gets.{ends, HandsOut, Goes, delivers_final, Answers, GetsHandTheNewest, Responds, RequestsAreAnswered}
use Rattle.zs_replica_gets.specs.Responding.{answer_messages}
use Rattle.zs_replica_gets.proofs.Kept.{from_both, newest_kept}
use Rattle.zs_replica_gets.proofs.Turns.{quiet_write}
use Rattle.zs_replica_gets.proofs.Runs.{IsNothing}
use Rattle.zs_replica_gets.proofs.Blocks.{block, request_block}
use Rattle.zs_replica_gets.proofs.Talk.{requests, responses_for, plain_requests, plain_responses, IsKnown, plain_known, Talk, latest}
use Rattle.zs_replica_gets.proofs.Facing.{AsksToo, quiet_there, asks_there, given_there, request_given}
use Rattle.zs_replica_gets.proofs.Moving.{read_key, side_with}
use Rattle.zs_replica_gets.proofs.Talking.{HandsOver, quiet_here, asks_here, given_here}
use Rattle.zs_replica_gets.proofs.Storing.{AreTexts, Behind, behind_deliver, holds, texts, line_behind, behind_steps}
use Rattle.zs_replica_gets.proofs.Linking.{ascend_at, same_answer, took_side, took_other, took_effects, took_stored, moved, unmoved}
use Rattle.zs_replica_gets.proofs.First.{plain_first, unrefused}

module _ (store_law : StoresHoldWhatWasWritten) (open_law : GetsAreHanded) (others_law : OthersAreHandedNothing) (ends_law : EndsOfGets)
    (s : Settings) (keys : List ℕ) (n : ℕ) (utf8 : IsUtf8 keys) (aggregates : AreSpelled s) (first : Starts s keys (first_events keys)) (second : Starts (other s) keys (first_events keys)) where
  -- what stands between two sides of a get of the first of them
  abbrev Between : LinkSide → LinkSide → List LinkLine → Stage → Type 0
  Between side far links stage =
      Talk (settings_of side s) (settings_of far s) keys (store_at s side) (store_at s far) (side_of side (linked_after s links)) (side_of far (linked_after s links)) n stage

  moved_sides : (side far : LinkSide) (links more : List LinkLine) (x y : Side) (stage : Stage) → side_of side (linked_after s more) ≡ x → side_of far (linked_after s more) ≡ y
      → Talk (settings_of side s) (settings_of far s) keys (store_at s side) (store_at s far) x y n stage → Between side far more stage
  moved_sides side far links more x y stage first second talk =
      subst (λ (a : Side). Talk (settings_of side s) (settings_of far s) keys (store_at s side) (store_at s far) a (side_of far (linked_after s more)) n stage) (sym first)
      (subst (λ (b : Side). Talk (settings_of side s) (settings_of far s) keys (store_at s side) (store_at s far) x b n stage) (sym second) talk)

  too : (side far : LinkSide) (links : List LinkLine) (stage : Stage) → Between side far links stage
      → AsksToo open_law others_law ends_law (settings_of far s) (settings_of side s) keys (store_at s far) (store_at s side) n (side_of side (linked_after s links))
  too side far links stage talk = record {
    at = talk.at;
    number = talk.number;
    asks = talk.asks;
    latest = latest (settings_of side s) (settings_of far s) keys (store_at s side) (store_at s far) n (requests n (side_of side (linked_after s links)).waiting) (responses_for n (side_of far (linked_after s links)).waiting) talk.at talk.number stage talk.state;
  }

  lines_texts : (step : Step) (links : List LinkLine) → IsReplicaStep keys step → Behind keys links → (side : LinkSide) → AreTexts (store_at s side (line_of step ∷ links))
  lines_texts step links fine lines side = texts store_law keys utf8 s aggregates first second (line_of step ∷ links) (line_behind store_law keys utf8 s aggregates first second step links fine lines) side

  spelled : (text : List ℕ) → all_scalars text ≡ true → encode_utf8_all (chars (encode_utf8_all text)) ≡ encode_utf8_all text
  spelled text scalar = encodes-chars (encode_utf8_all text) (text, (scalar, refl))

  -- what a step is to a get of the side that acts
  record Acts (side far : LinkSide) (step : Step) (links : List LinkLine) (stage after : Stage) (final : Bool) : Type 0 where
    talk : Between side far (with_step s step links) after
    goes : Goes s keys side n final stage (step_effects s step links)

  goes_nothing : (side : LinkSide) (stage : Stage) (fx gx : List Effect) → fx ≡ gx → IsNothing n gx → Goes s keys side n false stage fx
  goes_nothing side stage fx gx same nothing = record {
    hands = λ is. absurd (true≢false (sym is));
    waits = λ is. (ap (handed_to n) same ∙ nothing.handed, ap (ends n) same ∙ nothing.ended);
  }

  module _ (side : LinkSide) (links : List LinkLine) (stage : Stage) (lines : Behind keys links) (talk : Between side (opposite side) links stage) where
    writes_own : (text : List ℕ) (update : Update) (quality : PublicationQuality) → Acts side (opposite side) (Writes side text update quality) links stage stage false
    writes_own text update quality =
        let went = quiet_here open_law others_law ends_law (settings_of side s) (settings_of (opposite side) s) keys (store_at s side) (store_at s (opposite side)) n
        (side_of side (linked_after s links)) (side_of (opposite side) (linked_after s links)) stage (writing text update quality) (quiet_write text update quality) talk in
        record {
          talk = moved_sides side (opposite side) links (with_step s (Writes side text update quality) links) _ _ stage (took_side s side (writing text update quality) links) (took_other s side (writing text update quality) links) went.talk;
          goes = goes_nothing side stage _ _ (took_effects s side (writing text update quality) links) went.nothing;
        }

    asks_own : (text : List ℕ) → all_scalars text ≡ true
        → Acts side (opposite side) (Asks side text) links stage (asked n (encode_utf8_all text) (answer_at s side (question text) links) (line_of (Asks side text) ∷ links) stage) false
    asks_own text scalar =
        let went = asks_here open_law others_law ends_law (settings_of side s) (settings_of (opposite side) s) keys (store_at s side) (store_at s (opposite side)) n
        (side_of side (linked_after s links)) (side_of (opposite side) (linked_after s links)) stage text (line_of (Asks side text) ∷ links) (spelled text scalar)
        (took_stored s side (question text) links) (subst AreTexts (took_stored s side (question text) links) (lines_texts (Asks side text) links scalar lines side)) talk in
        record {
          talk =
              moved_sides side (opposite side) links (with_step s (Asks side text) links) _ _ _ (took_side s side (question text) links) (took_other s side (question text) links)
              (subst (λ (a : Answer). Talk (settings_of side s) (settings_of (opposite side) s) keys (store_at s side) (store_at s (opposite side)) (block (settings_of side s) (question text) (side_of side (linked_after s links)))
              (side_of (opposite side) (linked_after s links)) n (asked n (encode_utf8_all text) a (line_of (Asks side text) ∷ links) stage)) (sym (same_answer s side (question text) links)) went.talk);
          goes = goes_nothing side stage _ _ (took_effects s side (question text) links) went.nothing;
        }

  -- what a step of the other side is to it
  module _ (side : LinkSide) (links : List LinkLine) (stage theirs : Stage) (lines : Behind keys links) (talk : Between (opposite side) side links stage) (back : Between side (opposite side) links theirs) where
    writes_other : (text : List ℕ) (update : Update) (quality : PublicationQuality) → Between (opposite side) side (with_step s (Writes side text update quality) links) stage
    writes_other text update quality =
        moved_sides (opposite side) side links (with_step s (Writes side text update quality) links) _ _ stage (took_other s side (writing text update quality) links) (took_side s side (writing text update quality) links)
        (quiet_there open_law others_law ends_law (settings_of (opposite side) s) (settings_of side s) keys (store_at s (opposite side)) (store_at s side) n
        (side_of (opposite side) (linked_after s links)) (side_of side (linked_after s links)) stage (writing text update quality) (quiet_write text update quality) talk)

    asks_other : (text : List ℕ) → all_scalars text ≡ true → Between (opposite side) side (with_step s (Asks side text) links) stage
    asks_other text scalar =
        moved_sides (opposite side) side links (with_step s (Asks side text) links) _ _ stage (took_other s side (question text) links) (took_side s side (question text) links)
        (asks_there open_law others_law ends_law (settings_of (opposite side) s) (settings_of side s) keys (store_at s (opposite side)) (store_at s side) n
        (side_of (opposite side) (linked_after s links)) (side_of side (linked_after s links)) stage text (spelled text scalar)
        (subst AreTexts (took_stored s side (question text) links) (lines_texts (Asks side text) links scalar lines side)) (too side (opposite side) links theirs back) talk)

  with_waiting : (side : LinkSide) (links : List LinkLine) (waiting : List Message) → (side_of side (linked_after s links)).waiting ≡ waiting → side_of side (linked_after s links) ≡ side_with (side_of side (linked_after s links)).history waiting
  with_waiting side links waiting is = λ i. record { history = (side_of side (linked_after s links)).history; waiting = is i }

  -- the lines behind which it was asked, and its request was taken
  abbrev AreBehind : Stage → Type 0
  AreBehind Unasked = Unit {0}
  AreBehind (Asked key own) = Behind keys own
  AreBehind (Answered key own others) = Behind keys own × Behind keys others
  AreBehind Over = Unit {0}

  asked_behind : (key : List ℕ) (answer : Answer) (links : List LinkLine) (stage : Stage) → Behind keys links → AreBehind stage → AreBehind (asked n key answer links stage)
  asked_behind key (accepted None) links stage lines before = before
  asked_behind key (Refused refusal) links stage lines before = before
  asked_behind key (accepted (Some number)) links stage lines before = go (number == n)
    where
      go : (b : Bool) → AreBehind (if b then Asked key links else stage)
      go true = lines
      go false = before

  answered_behind : (answer : Answer) (links : List LinkLine) (stage : Stage) → Behind keys links → AreBehind stage → AreBehind (answered answer links stage)
  answered_behind (Refused refusal) links stage lines before = before
  answered_behind (accepted number) links Unasked lines before = before
  answered_behind (accepted number) links (Asked key own) lines before = (before, lines)
  answered_behind (accepted number) links (Answered key own others) lines before = before
  answered_behind (accepted number) links Over lines before = before

  given_behind : (side : LinkSide) (waiting : List Message) (links : List LinkLine) (stage : Stage) → Behind keys links → AreBehind stage → AreBehind (given_request s side n waiting links stage)
  given_behind side [] links stage lines before = before
  given_behind side (request_message r ∷ later) links stage lines before = go (r.rid == n)
    where
      go : (b : Bool) → AreBehind (if b then answered (answer_at s (opposite side) (Net (request_message r)) links) (Deliver side ∷ links) stage else stage)
      go true = answered_behind (answer_at s (opposite side) (Net (request_message r)) links) (Deliver side ∷ links) stage (behind_deliver keys side links lines) before
      go false = before
  given_behind side (m ∷ later) links stage lines before = before

  stage_behind : (side : LinkSide) (step : Step) (links : List LinkLine) (stage : Stage) → IsReplicaStep keys step → Behind keys links → AreBehind stage → AreBehind (with_stage s side n step links stage)
  stage_behind side (Writes actor text update quality) links stage fine lines before = before
  stage_behind side (Asks actor text) links stage fine lines before = go (same_side actor side)
    where
      go : (b : Bool) → AreBehind (if b then asked n (encode_utf8_all text) (answer_at s side (question text) links) (line_of (Asks actor text) ∷ links) stage else stage)
      go true = asked_behind (encode_utf8_all text) (answer_at s side (question text) links) (line_of (Asks actor text) ∷ links) stage (line_behind store_law keys utf8 s aggregates first second (Asks actor text) links fine lines) before
      go false = before
  stage_behind side (Moves from) links stage fine lines before = go (same_side from side) (brings_final n (side_of from (linked_after s links)).waiting)
    where
      go : (b c : Bool) → AreBehind (if b then given_request s side n (side_of from (linked_after s links)).waiting links stage else if c then Over else stage)
      go true c = given_behind side (side_of from (linked_after s links)).waiting links stage lines before
      go false true = tt
      go false false = before

  stages_behind : (side : LinkSide) (h : List Step) → AreReplicaSteps keys h → AreBehind (stage_after s keys side n h)
  stages_behind side [] fine = tt
  stages_behind side (step ∷ h) fine =
      stage_behind side step (links_after s keys h) (stage_after s keys side n h) fine.0 (behind_steps store_law keys utf8 s aggregates first second h fine.1) (stages_behind side h fine.1)

  -- what is delivered to it
  moves_own : (from : LinkSide) (links : List LinkLine) (stage : Stage) → Behind keys links → AreBehind stage → Between (opposite from) from links stage
      → Acts (opposite from) from (Moves from) links stage (if brings_final n (side_of from (linked_after s links)).waiting then Over else stage) (brings_final n (side_of from (linked_after s links)).waiting)
  moves_own from links stage lines before talk = go (side_of from (linked_after s links)).waiting refl
    where
      x : Side
      x = side_of (opposite from) (linked_after s links)

      go : (waiting : List Message) → (side_of from (linked_after s links)).waiting ≡ waiting
          → Acts (opposite from) from (Moves from) links stage (if brings_final n (side_of from (linked_after s links)).waiting then Over else stage) (brings_final n (side_of from (linked_after s links)).waiting)
      go [] is =
          let none = unmoved s from links is in
          subst (λ (b : Bool). Acts (opposite from) from (Moves from) links stage (if b then Over else stage) b) (sym (ap (brings_final n) is)) (record {
            talk = moved_sides (opposite from) from links (with_step s (Moves from) links) _ _ stage none.came none.left talk;
            goes = record { hands = λ is. absurd (true≢false (sym is)); waits = λ is. (ap (handed_to n) none.brings, ap (ends n) none.brings) };
          })
      go (m ∷ later) is =
          let far : side_of from (linked_after s links) ≡ side_with (side_of from (linked_after s links)).history (m ∷ later) = with_waiting from links (m ∷ later) is in
          let talks = subst (λ (y : Side). Talk (settings_of (opposite from) s) (settings_of from s) keys (store_at s (opposite from)) (store_at s from) (side_of (opposite from) (linked_after s links)) y n stage) far talk in
          let known = talks.known_there.0 in
          let did = moved s from m later links is known in
          let given = given_here open_law others_law ends_law (settings_of (opposite from) s) (settings_of from s) keys (store_at s (opposite from)) (store_at s from) n
          (side_of (opposite from) (linked_after s links)) (side_of from (linked_after s links)).history m later stage
          (subst AreTexts did.store (lines_texts (Moves from) links tt lines (opposite from))) talks known in
          subst (λ (b : Bool). Acts (opposite from) from (Moves from) links stage (if b then Over else stage) b) (sym (ap (brings_final n) is)) (record {
            talk = moved_sides (opposite from) from links (with_step s (Moves from) links) _ _ _ did.came did.left given.talk;
            goes = record {
              hands = λ final. handed_out from links stage before (step_effects s (Moves from) links) _ did.brings (given.hands final);
              waits = λ final. (ap (handed_to n) did.brings ∙ (given.waits final).handed, ap (ends n) did.brings ∙ (given.waits final).ended);
            };
          })
        where
          handed_out : (from : LinkSide) (links : List LinkLine) (stage : Stage) → AreBehind stage → (fx gx : List Effect) → fx ≡ gx
              → HandsOver open_law others_law ends_law (settings_of (opposite from) s) (settings_of from s) keys (store_at s (opposite from)) (store_at s from) n stage gx
              → HandsOut s keys (opposite from) n stage fx
          handed_out from links stage before fx gx same hands =
              let both = subst AreBehind hands.answered before in
              record {
                key = hands.key;
                own = hands.own;
                others = hands.others;
                answered = hands.answered;
                newest =
                    subst (HandsNewest keys hands.key (store_at s (opposite from) hands.own) (store_at s (opposite (opposite from)) hands.others)) (sym (ap (handed_to n) same ∙ hands.handed))
                    (turned from hands.key hands.own hands.others);
                own_best = holds store_law keys utf8 s aggregates first second hands.own both.0 (opposite from);
                others_best = holds store_law keys utf8 s aggregates first second hands.others both.1 (opposite (opposite from));
                ended = ap (ends n) same ∙ hands.ended;
              }
            where
              turned : (from : LinkSide) (key : List ℕ) (own others : List LinkLine)
                  → HandsNewest keys key (store_at s (opposite from) own) (store_at s (opposite (opposite from)) others)
                  (kept (from_both (settings_of (opposite from) s).zid (settings_of from s).zid answerer asking_settings.qos keys key (store_at s (opposite from) own) (store_at s from others)))
              turned A key own others = newest_kept (other s).zid s.zid answerer asking_settings.qos keys key (store_at s B own) (store_at s A others) (ascend_at s B own) (ascend_at s A others)
              turned B key own others = newest_kept s.zid (other s).zid answerer asking_settings.qos keys key (store_at s A own) (store_at s B others) (ascend_at s A own) (ascend_at s B others)

  -- what is delivered of its own
  request_stage : (from : LinkSide) (m : Message) (later waiting : List Message) (links : List LinkLine) (stage : Stage) → waiting ≡ m ∷ later
      → given_request s from n waiting links stage
      ≡ request_given open_law others_law ends_law (settings_of from s) (settings_of (opposite from) s) keys (store_at s from) (store_at s (opposite from)) n m
      (effects (settings_of (opposite from) s) (side_of (opposite from) (linked_after s links)).history (Net m)).answer (Deliver from ∷ links) stage
  request_stage from m later waiting links stage is = ap (λ (ms : List Message). given_request s from n ms links stage) is ∙ go m
    where
      go : (m : Message) → given_request s from n (m ∷ later) links stage
          ≡ request_given open_law others_law ends_law (settings_of from s) (settings_of (opposite from) s) keys (store_at s from) (store_at s (opposite from)) n m
          (effects (settings_of (opposite from) s) (side_of (opposite from) (linked_after s links)).history (Net m)).answer (Deliver from ∷ links) stage
      go (request_message r) = ap (λ (a : Answer). if r.rid == n then answered a (Deliver from ∷ links) stage else stage) (same_answer s (opposite from) (Net (request_message r)) links)
      go m = refl

  moves_other : (from : LinkSide) (links : List LinkLine) (stage theirs : Stage) → Behind keys links → Between from (opposite from) links stage → Between (opposite from) from links theirs
      → Between from (opposite from) (with_step s (Moves from) links) (given_request s from n (side_of from (linked_after s links)).waiting links stage)
  moves_other from links stage theirs lines talk back = go (side_of from (linked_after s links)).waiting refl
    where
      go : (waiting : List Message) → (side_of from (linked_after s links)).waiting ≡ waiting
          → Between from (opposite from) (with_step s (Moves from) links) (given_request s from n (side_of from (linked_after s links)).waiting links stage)
      go [] is =
          let none = unmoved s from links is in
          moved_sides from (opposite from) links (with_step s (Moves from) links) _ _ _ none.left none.came
          (subst (λ (ms : List Message). Talk (settings_of from s) (settings_of (opposite from) s) keys (store_at s from) (store_at s (opposite from)) (side_of from (linked_after s links)) (side_of (opposite from) (linked_after s links)) n
          (given_request s from n ms links stage)) (sym is) talk)
      go (m ∷ later) is =
          let near : side_of from (linked_after s links) ≡ side_with (side_of from (linked_after s links)).history (m ∷ later) = with_waiting from links (m ∷ later) is in
          let talks = subst (λ (x : Side). Talk (settings_of from s) (settings_of (opposite from) s) keys (store_at s from) (store_at s (opposite from)) x (side_of (opposite from) (linked_after s links)) n stage) near talk in
          let known = talks.known.0 in
          let did = moved s from m later links is known in
          moved_sides from (opposite from) links (with_step s (Moves from) links) _ _ _ did.left did.came
          (subst (Talk (settings_of from s) (settings_of (opposite from) s) keys (store_at s from) (store_at s (opposite from)) _ _ n) (sym (request_stage from m later (side_of from (linked_after s links)).waiting links stage is))
          (given_there open_law others_law ends_law (settings_of from s) (settings_of (opposite from) s) keys (store_at s from) (store_at s (opposite from)) n
          (side_of from (linked_after s links)).history m later (side_of (opposite from) (linked_after s links)) stage (Deliver from ∷ links)
          (subst AreTexts did.store (lines_texts (Moves from) links tt lines (opposite from))) (too_far from links theirs back) did.store talks known))
        where
          too_far : (from : LinkSide) (links : List LinkLine) (stage : Stage) → Between (opposite from) from links stage
              → AsksToo open_law others_law ends_law (settings_of from s) (settings_of (opposite from) s) keys (store_at s from) (store_at s (opposite from)) n (side_of (opposite from) (linked_after s links))
          too_far from links stage back = too (opposite from) from links stage back

  -- both ways
  record Both (links : List LinkLine) (of_a of_b : Stage) : Type 0 where
    forth : Between A B links of_a
    back : Between B A links of_b

  both_step : (step : Step) (links : List LinkLine) (of_a of_b : Stage) → IsReplicaStep keys step → Behind keys links → AreBehind of_a → AreBehind of_b → Both links of_a of_b
      → Both (with_step s step links) (with_stage s A n step links of_a) (with_stage s B n step links of_b)
  both_step (Writes A text update quality) links of_a of_b fine lines before_a before_b both = record {
    forth = (writes_own A links of_a lines both.forth text update quality).talk;
    back = writes_other A links of_b of_a lines both.back both.forth text update quality;
  }
  both_step (Writes B text update quality) links of_a of_b fine lines before_a before_b both = record {
    forth = writes_other B links of_a of_b lines both.forth both.back text update quality;
    back = (writes_own B links of_b lines both.back text update quality).talk;
  }
  both_step (Asks A text) links of_a of_b fine lines before_a before_b both = record {
    forth = (asks_own A links of_a lines both.forth text fine).talk;
    back = asks_other A links of_b of_a lines both.back both.forth text fine;
  }
  both_step (Asks B text) links of_a of_b fine lines before_a before_b both = record {
    forth = asks_other B links of_a of_b lines both.forth both.back text fine;
    back = (asks_own B links of_b lines both.back text fine).talk;
  }
  both_step (Moves A) links of_a of_b fine lines before_a before_b both = record {
    forth = moves_other A links of_a of_b lines both.forth both.back;
    back = (moves_own A links of_b lines before_b both.back).talk;
  }
  both_step (Moves B) links of_a of_b fine lines before_a before_b both = record {
    forth = (moves_own B links of_a lines before_a both.forth).talk;
    back = moves_other B links of_b of_a lines both.back both.forth;
  }

  none_open : (t : Settings) → Answers t keys → get_at n (open_now t (past_of t (first_events keys))) ≡ None
  none_open t starts = ap (λ (gets : List a_get). get_at n (open_gets gets)) starts.gets

  module _ (first_answers : Answers s keys) (second_answers : Answers (other s) keys) where
    both_first : Both (first_links keys) Unasked Unasked
    both_first =
        let plain_a = plain_first s keys A in
        let plain_b = plain_first s keys B in
        record {
          forth = record {
            at = None;
            number = next_query s (past_of s (first_events keys));
            here = record { unshut = first.unshut; rows = first_answers.rows; values = first_answers.values };
            asks = record { get = none_open s first_answers; next = refl };
            there = record { unshut = second.unshut; rows = second_answers.rows; values = second_answers.values };
            known = plain_known (side_of A (linked_after s (first_links keys))).waiting plain_a;
            known_there = plain_known (side_of B (linked_after s (first_links keys))).waiting plain_b;
            state = record { gone = refl; none = plain_requests n (side_of A (linked_after s (first_links keys))).waiting plain_a; silent = plain_responses n (side_of B (linked_after s (first_links keys))).waiting plain_b };
          };
          back = record {
            at = None;
            number = next_query (other s) (past_of (other s) (first_events keys));
            here = record { unshut = second.unshut; rows = second_answers.rows; values = second_answers.values };
            asks = record { get = none_open (other s) second_answers; next = refl };
            there = record { unshut = first.unshut; rows = first_answers.rows; values = first_answers.values };
            known = plain_known (side_of B (linked_after s (first_links keys))).waiting plain_b;
            known_there = plain_known (side_of A (linked_after s (first_links keys))).waiting plain_a;
            state = record { gone = refl; none = plain_requests n (side_of B (linked_after s (first_links keys))).waiting plain_b; silent = plain_responses n (side_of A (linked_after s (first_links keys))).waiting plain_a };
          };
        }

    both_after : (h : List Step) → AreReplicaSteps keys h → Both (links_after s keys h) (stage_after s keys A n h) (stage_after s keys B n h)
    both_after [] fine = both_first
    both_after (step ∷ h) fine =
        both_step step (links_after s keys h) (stage_after s keys A n h) (stage_after s keys B n h) fine.0 (behind_steps store_law keys utf8 s aggregates first second h fine.1) (stages_behind A h fine.1) (stages_behind B h fine.1) (both_after h fine.1)

    goes : (h : List Step) (step : Step) → AreReplicaSteps keys (step ∷ h)
        → Goes s keys (actor step) n (delivers_final s n step (links_after s keys h)) (stage_after s keys (actor step) n h) (step_effects s step (links_after s keys h))
    goes h step fine' = go step fine'.0
      where
        lines : Behind keys (links_after s keys h)
        lines = behind_steps store_law keys utf8 s aggregates first second h fine'.1

        both : Both (links_after s keys h) (stage_after s keys A n h) (stage_after s keys B n h)
        both = both_after h fine'.1

        go : (step : Step) → IsReplicaStep keys step
            → Goes s keys (actor step) n (delivers_final s n step (links_after s keys h)) (stage_after s keys (actor step) n h) (step_effects s step (links_after s keys h))
        go (Writes A text update quality) fine = (writes_own A (links_after s keys h) (stage_after s keys A n h) lines both.forth text update quality).goes
        go (Writes B text update quality) fine = (writes_own B (links_after s keys h) (stage_after s keys B n h) lines both.back text update quality).goes
        go (Asks A text) fine = (asks_own A (links_after s keys h) (stage_after s keys A n h) lines both.forth text fine).goes
        go (Asks B text) fine = (asks_own B (links_after s keys h) (stage_after s keys B n h) lines both.back text fine).goes
        go (Moves A) fine = (moves_own A (links_after s keys h) (stage_after s keys B n h) lines (stages_behind B h fine'.1) both.back).goes
        go (Moves B) fine = (moves_own B (links_after s keys h) (stage_after s keys A n h) lines (stages_behind A h fine'.1) both.forth).goes

    -- a request that is accepted
    responds : (h : List Step) (from : LinkSide) (r : Request) (later : List Message) (number : Option ℕ) → AreReplicaSteps keys h
        → (side_of from (linked_after s (links_after s keys h))).waiting ≡ request_message r ∷ later
        → answer_at s (opposite from) (Net (request_message r)) (links_after s keys h) ≡ accepted number → Responds s keys from r (links_after s keys h)
    responds h from r later number fine is answer = by_side from is answer (both_after h fine)
      where
        links : List LinkLine
        links = links_after s keys h

        go : (from : LinkSide) (of_near of_far : Stage) → (side_of from (linked_after s (links_after s keys h))).waiting ≡ request_message r ∷ later
            → answer_at s (opposite from) (Net (request_message r)) (links_after s keys h) ≡ accepted number
            → Between from (opposite from) (links_after s keys h) of_near → Between (opposite from) from (links_after s keys h) of_far → Responds s keys from r (links_after s keys h)
        go from of_near of_far is answer near far =
            let known = (subst (AllByRecursion IsKnown) is near.known).0 in
            let did = moved s from (request_message r) later (links_after s keys h) is known in
            let t = settings_of (opposite from) s in
            let y = side_of (opposite from) (linked_after s (links_after s keys h)) in
            let fine_there = unrefused t y.history (Net (request_message r)) number (sym (same_answer s (opposite from) (Net (request_message r)) (links_after s keys h)) ∙ answer) in
            let asks = too (opposite from) from (links_after s keys h) of_far far in
            let b = request_block open_law others_law ends_law t keys n y asks.at asks.number asks.latest near.there asks.asks r known.key (read_key t y.history r known) fine_there
            (subst AreTexts did.store (lines_texts (Moves from) (links_after s keys h) tt (behind_steps store_law keys utf8 s aggregates first second h fine) (opposite from))) in
            record {
              key = known.key;
              read = read_key t y.history r known;
              sent =
                  ap (λ (x : Side). x.waiting) did.came ∙ b.sent
                  ∙ ap (λ (store : List Write). y.waiting ++ answer_messages t.zid r.rid r.qos keys known.key store) (sym did.store);
            }

        by_side : (from : LinkSide) → (side_of from (linked_after s (links_after s keys h))).waiting ≡ request_message r ∷ later
            → answer_at s (opposite from) (Net (request_message r)) (links_after s keys h) ≡ accepted number
            → Both (links_after s keys h) (stage_after s keys A n h) (stage_after s keys B n h) → Responds s keys from r (links_after s keys h)
        by_side A is answer both = go A (stage_after s keys A n h) (stage_after s keys B n h) is answer both.forth both.back
        by_side B is answer both = go B (stage_after s keys B n h) (stage_after s keys A n h) is answer both.back both.forth

pub gets_hand_the_newest : StoresHoldWhatWasWritten → GetsAreHanded → OthersAreHandedNothing → EndsOfGets → GetsHandTheNewest
gets_hand_the_newest store_law open_law others_law ends_law s keys h step n utf8 aggregates first second first_answers second_answers fine =
    goes store_law open_law others_law ends_law s keys n utf8 aggregates first second first_answers second_answers h step fine

pub requests_are_answered : StoresHoldWhatWasWritten → GetsAreHanded → OthersAreHandedNothing → EndsOfGets → RequestsAreAnswered
requests_are_answered store_law open_law others_law ends_law s keys h from r later number utf8 aggregates first second first_answers second_answers fine is answer =
    responds store_law open_law others_law ends_law s keys 0 utf8 aggregates first second first_answers second_answers h from r later number fine is answer
