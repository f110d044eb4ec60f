use Rattle.std.proofs.Common.{◌≡◌, List, [], ◌++◌, OnOk, sym, ◌∙◌, ap, subst, append-nil}
use Rattle.std.specs.Prelude.{vec_len}
use Rattle.std.proofs.lemmas.Bool.{eqb-true}
use Rattle.std.proofs.lemmas.List.{nil_from_length}
use Rattle.zs_events.specs.declared.turn.Effect.{Effect}
use Rattle.zs_model.specs.Publications.{sample_on, hands, hands_to, reached}
use Rattle.zs_model.proofs.Publications.{reached_hands}
use Rattle.zs_announcing.proofs.publications.hand_over.Goals as goal

pub returns-then-is_empty : goal.returns-then-is_empty
returns-then-is_empty c =
    let sample = sample_on c.args.resolved.text c.args.content in
    let nobody : c.in_ok-ids.ids.items ≡ [] = nil_from_length _ (sym c.in_ok-ids.ids.ok.0 ∙ eqb-true (vec_len c.in_ok-ids.ids) 0 (sym c.is_empty.ensures ∙ c.if-is_empty.true)) in
    let none : hands (record { local = c.args.content.local; destination = c.args.content.destination; sample = sample }) c.args.world.now.entities.subs ≡ [] =
    reached_hands c.args.content.local c.args.content.destination sample c.args.world.now.entities.subs
    ∙ ap (hands_to sample) (sym c.in_ok-ids.ensures ∙ nobody) in
    sym (ap (λ (fx : List Effect). c.args.effects.now ++ fx) none ∙ append-nil c.args.effects.now)

pub returns : goal.returns
returns c =
    let sample = sample_on c.args.resolved.text c.args.content in
    let all : hands_to c.in_ok-shared.shared c.deref.result.now
    ≡ hands (record { local = c.args.content.local; destination = c.args.content.destination; sample = sample }) c.args.world.now.entities.subs =
    ap (hands_to c.in_ok-shared.shared) (c.deref.ensures.value ∙ c.in_ok-ids.ensures)
    ∙ ap (λ s. hands_to s (reached c.args.content.local c.args.content.destination c.args.resolved.text c.args.world.now.entities.subs)) (c.in_ok-shared.ensures ∙ c.in_ok-sample.ensures)
    ∙ sym (reached_hands c.args.content.local c.args.content.destination sample c.args.world.now.entities.subs) in
    subst (λ (fx : List Effect). OnOk c.hand_to_all.result (c.hand_to_all.new.effects ≡ c.args.effects.now ++ fx)) all c.hand_to_all.ensures
