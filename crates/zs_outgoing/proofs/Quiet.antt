-- What is handed over and sent among effects that stand behind one another, and effects that do neither.
use Rattle.std.proofs.Common.{◌≡◌, List, [], ◌∷◌, ◌++◌, Bool, true, false, refl, ◌∙◌, ap, map, cond}
use Rattle.std.specs.Prelude.{filter}
use Rattle.zs_wire.specs.declared.message.Message.{Message}
use Rattle.zs_subscriptions.specs.declared.subscriber.SubRow.{SubRow}
use Rattle.zs_tables.specs.declared.listener.ListenerRow.{ListenerRow}
use Rattle.zs_events.specs.declared.turn.Effect.{Effect}
use Rattle.zs_events.specs.declared.turn.Effect.TheVariants.{Send, Hand, Matching}
use Rattle.zs_events.specs.declared.turn.HandOver.{HandOver}
use Rattle.zs_events.specs.declared.turn.HandOver.TheVariants.{Sample as sample_for}
use Rattle.zs_events.specs.declared.turn.Kind.TheVariants.{Subscriber}
use Rattle.zs_core.specs.Entry.{Entry}
use Rattle.zs_core.specs.Publications.{Publication, allows, hands}
use Rattle.zs_core.specs.Listeners.{listener_ends}
use Rattle.zs_core.specs.Matching.{listener_effects}
use Rattle.zs_core.specs.Received.{messages_of}
use Rattle.zs_delivery.specs.Delivery.{hand_overs}
use Rattle.zs_outgoing.specs.Published.{handed_own}

-- effects that hand nothing over and send nothing
pub record AreQuiet (fx : List Effect) : Type 0 where
  pub hands_nothing : hand_overs fx ≡ []
  pub sends_nothing : messages_of fx ≡ []

pub hands_append : (xs ys : List Effect) → hand_overs (xs ++ ys) ≡ hand_overs xs ++ hand_overs ys
hands_append [] ys = refl
hands_append (Hand item ∷ xs) ys = ap (λ (items : List HandOver). item ∷ items) (hands_append xs ys)
hands_append (x ∷ xs) ys = hands_append xs ys

pub sends_append : (xs ys : List Effect) → messages_of (xs ++ ys) ≡ messages_of xs ++ messages_of ys
sends_append [] ys = refl
sends_append (Send message ∷ xs) ys = ap (λ (ms : List Message). message ∷ ms) (sends_append xs ys)
sends_append (x ∷ xs) ys = sends_append xs ys

quiet_append : (xs ys : List Effect) → AreQuiet xs → AreQuiet ys → AreQuiet (xs ++ ys)
quiet_append xs ys first second = record {
  hands_nothing = hands_append xs ys ∙ ap (λ (items : List HandOver). items ++ hand_overs ys) first.hands_nothing ∙ second.hands_nothing;
  sends_nothing = sends_append xs ys ∙ ap (λ (ms : List Message). ms ++ messages_of ys) first.sends_nothing ∙ second.sends_nothing;
}

quiet_ends : (rows : List ListenerRow) → AreQuiet (listener_ends rows)
quiet_ends [] = record { hands_nothing = refl; sends_nothing = refl }
quiet_ends (row ∷ rows) = record { hands_nothing = (quiet_ends rows).hands_nothing; sends_nothing = (quiet_ends rows).sends_nothing }

quiet_heard : (after : ListenerRow → Bool) (rows : List ListenerRow) → AreQuiet (map (λ (row : ListenerRow). Matching row.id (after row)) rows)
quiet_heard after [] = record { hands_nothing = refl; sends_nothing = refl }
quiet_heard after (row ∷ rows) = record { hands_nothing = (quiet_heard after rows).hands_nothing; sends_nothing = (quiet_heard after rows).sends_nothing }

-- what listeners hear is neither
pub quiet_listeners : (past : List Entry) (x : Entry) → AreQuiet (listener_effects past x)
quiet_listeners past x = quiet_append _ _ (quiet_ends _) (quiet_heard _ _)

-- what a publication hands out is sent to nobody
pub hands_send_nothing : (p : Publication) (rows : List SubRow) → messages_of (hands p rows) ≡ []
hands_send_nothing p [] = refl
hands_send_nothing p (row ∷ rows) = go (allows p row) (hands_send_nothing p rows)
  where
    go : (b : Bool) → messages_of (hands p rows) ≡ [] → messages_of (map (λ (r : SubRow). Hand (sample_for Subscriber r.id p.sample)) (cond b (row ∷ filter (allows p) rows) (filter (allows p) rows))) ≡ []
    go true none = none
    go false none = none

pub hands_are : (p : Publication) (rows : List SubRow) → hand_overs (hands p rows) ≡ handed_own p rows
hands_are p [] = refl
hands_are p (row ∷ rows) = go (allows p row) (hands_are p rows)
  where
    go : (b : Bool) → hand_overs (hands p rows) ≡ handed_own p rows
        → hand_overs (map (λ (r : SubRow). Hand (sample_for Subscriber r.id p.sample)) (cond b (row ∷ filter (allows p) rows) (filter (allows p) rows)))
        ≡ map (λ (r : SubRow). sample_for Subscriber r.id p.sample) (cond b (row ∷ filter (allows p) rows) (filter (allows p) rows))
    go true is = ap (λ (items : List HandOver). sample_for Subscriber row.id p.sample ∷ items) is
    go false is = is
