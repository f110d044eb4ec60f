-- What answers to gets and queries say, told by their changes.
use Rattle.std.proofs.Common.{◌≡◌, ℕ, List, [], Bool, true, false, Option, Some, None, refl, ◌∙◌, ap}
use Rattle.std.specs.Prelude.{if◌then◌else◌}
use Rattle.zs_events.specs.declared.event.Event.TheVariants.{Net, Reply as reply_event}
use Rattle.zs_events.specs.declared.key_arg.KeyArg.{KeyArg}
use Rattle.zs_events.specs.declared.publication.ReplyQuality.{ReplyQuality}
use Rattle.zs_events.specs.declared.update.Update.{Update}
use Rattle.zs_wire.specs.declared.message.Message.TheVariants.{Response as response_message}
use Rattle.zs_world.specs.World.{World}
use Rattle.zs_wire.specs.declared.response.Answered.{Answered}
use Rattle.zs_wire.specs.declared.response.Answered.TheVariants.{Reply, Err as Error}
use Rattle.zs_wire.specs.declared.response.Response.{Response}
use Rattle.zs_query.specs.Types.{QueryValue, Finished, Unknown, MoreLeft, Last}
use Rattle.zs_query.specs.declared.side.Side.TheVariants.{Local}
use Rattle.zs_query.specs.Asked.{Quiet, ReplyTo, FinalOf, gets_after}
use Rattle.zs_query.specs.GetTable.{Asking, with_local_final}
use Rattle.zs_query.specs.Unfinished.{value_at}
use Rattle.zs_model.specs.Answers.{local_reply, news_of_reply, news_of_finished}
use Rattle.zs_model.specs.Gets.{response_news}
use Rattle.zs_events.specs.Updates.{body_of}
use Rattle.zs_model.specs.Entry.{Entry}
use Rattle.zs_world.specs.Changes.{response_change, replied_change, answer_change, with_ended}
use Rattle.zs_standing.proofs.Saying.{IsMade}
use Rattle.zs_standing.proofs.Said.{Said, said_of, all_said}

-- a value that is given back ends what it ends
pub ended_is : (f : Finished) (a : Asking) → with_ended f a ≡ record a { gets = gets_after (news_of_finished f) a.gets }
ended_is Unknown a = refl
ended_is MoreLeft a = refl
ended_is (Last row) a = go row.local
  where
    go : (b : Bool) → (if b then with_local_final row.rid a else a) ≡ record a { gets = gets_after (if b then FinalOf row.rid Local else Quiet) a.gets }
    go true = refl
    go false = refl

pub ended_next : (f : Finished) (a : Asking) → (with_ended f a).next ≡ a.next
ended_next f a = ap (λ (b : Asking). b.next) (ended_is f a)

-- what an event says that is news to gets, where these are the gets behind it
abbrev with_asking : World → Entry → Asking → Said
with_asking w x asking = record (said_of w x) { asking = asking }

-- a reply
pub reply_made : (w : World) (value : ℕ) (key : KeyArg) (update : Update) (quality : ReplyQuality) (text : Option (List ℕ)) → w.closed ≡ false
    → IsMade w (record { number = None; text = text; event = reply_event value key update quality })
    (answer_change w.settings.zid quality (body_of [] update) (value_at value w.handing.values) text)
reply_made w value key update quality text o = go (value_at value w.handing.values) refl text
  where
    x : Option (List ℕ) → Entry
    x text = record { number = None; text = text; event = reply_event value key update quality }

    -- the gets behind it, by the value that it names
    told : Option QueryValue → Option (List ℕ) → Asking
    told v text = record w.asking { gets = gets_after (news_of_reply w.settings.zid quality (body_of [] update) v text) w.asking.gets }

    -- and by whether its asker is here
    heard : QueryValue → List ℕ → Bool → Asking
    heard v text b = record w.asking { gets = gets_after (if b then ReplyTo v.row.rid (local_reply w.settings.zid v.queryable v.row quality (body_of [] update) text) else Quiet) w.asking.gets }

    asking : (v : QueryValue) (text : List ℕ) → value_at value w.handing.values ≡ Some v → (b : Bool) → v.row.local ≡ b → told (value_at value w.handing.values) (Some text) ≡ heard v text b
    asking v text e b local = (λ i. told (e i) (Some text)) ∙ (λ i. heard v text (local i))

    by : (v : QueryValue) (text : List ℕ) → value_at value w.handing.values ≡ Some v → (b : Bool) → v.row.local ≡ b
        → IsMade w (x (Some text)) (replied_change b v.row.rid (local_reply w.settings.zid v.queryable v.row quality (body_of [] update) text))
    by v text e true local = all_said o refl tt tt tt (λ i. with_asking w (x (Some text)) (asking v text e true local i))
    by v text e false local = all_said o tt tt tt tt (λ i. with_asking w (x (Some text)) (asking v text e false local i))

    go : (v : Option QueryValue) → value_at value w.handing.values ≡ v → (text : Option (List ℕ)) → IsMade w (x text) (answer_change w.settings.zid quality (body_of [] update) v text)
    go None e text = all_said o tt tt tt tt (λ i. with_asking w (x text) (told (e i) text))
    go (Some v) e None = all_said o tt tt tt tt (λ i. with_asking w (x None) (told (e i) None))
    go (Some v) e (Some text) = by v text e v.row.local refl

-- a response, by what it answers
abbrev response_entry : Response → Option (List ℕ) → Entry
response_entry response text = record { number = None; text = text; event = Net (response_message response) }

response_said : (w : World) (response : Response) (text : Option (List ℕ)) (answered : Answered) → response.answered ≡ answered
    → said_of w (response_entry response text) ≡ with_asking w (response_entry response text) (record w.asking { gets = gets_after (response_news response answered text) w.asking.gets })
response_said w response text answered e = λ i. with_asking w (response_entry response text) (record w.asking { gets = gets_after (response_news response (e i) text) w.asking.gets })

pub response_made : (w : World) (response : Response) (text : Option (List ℕ)) (answered : Answered) → response.answered ≡ answered → w.closed ≡ false
    → IsMade w (response_entry response text) (response_change response answered text)
response_made w response None (Reply body) e o = all_said o tt tt tt tt (response_said w response None (Reply body) e)
response_made w response (Some text) (Reply body) e o = all_said o refl tt tt tt (response_said w response (Some text) (Reply body) e)
response_made w response text (Error value) e o = all_said o tt tt tt tt (response_said w response text (Error value) e)
