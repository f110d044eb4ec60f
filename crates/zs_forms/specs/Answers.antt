-- The events by which an application answers.
use Rattle.std.specs.Prelude.{ℕ, ◌==◌, if◌then◌else◌, Bool, true, false, nat_le, List, Option, None, Some}
use Rattle.zs_wire.specs.declared.body.Value.{Value}
use Rattle.zs_wire.specs.declared.quality.CongestionControl.{CongestionControl}
use Rattle.zs_wire.specs.declared.quality.CongestionControl.TheVariants.{Drop, Block}
use Rattle.zs_events.specs.declared.event.Event.{Event}
use Rattle.zs_events.specs.declared.event.Event.TheVariants.{Reply, ReplyErr}
use Rattle.zs_events.specs.declared.key_arg.KeyArg.{KeyArg}
use Rattle.zs_events.specs.declared.publication.ReplyQuality.{ReplyQuality}
use Rattle.zs_events.specs.declared.update.Update.{Update}
use Rattle.zs_forms.specs.Declarations.{key_in}
use Rattle.zs_forms.specs.Questions.{value_of}
use Rattle.zs_forms.specs.Updates.{put_update, delete_update}
use Rattle.zs_forms.specs.declared.answers.ReplyForm.{ReplyForm}
use Rattle.zs_forms.specs.declared.keys.KeyForm.{KeyForm}
use Rattle.zs_forms.specs.declared.updates.ExtrasForm.{ExtrasForm}

-- what a number says of a reply's quality of service: 0 is nothing, and then it is the query's
abbrev pub own_priority_of : ℕ → Option (Option ℕ)
own_priority_of n = if n == 0 then Some None else if nat_le n 7 then Some (Some n) else None

abbrev pub own_congestion_of : ℕ → Option (Option CongestionControl)
own_congestion_of n =
    if n == 0 then Some None else
    if n == 1 then Some (Some Drop) else
    if n == 2 then Some (Some Block) else None

abbrev pub own_flag_of : ℕ → Option (Option Bool)
own_flag_of n =
    if n == 0 then Some None else
    if n == 1 then Some (Some false) else
    if n == 2 then Some (Some true) else None

abbrev pub reply_quality_with : Option (Option ℕ) → Option (Option CongestionControl) → Option (Option Bool) → Option ReplyQuality
reply_quality_with (Some p) (Some c) (Some e) = Some (record { priority = p; congestion = c; express = e })
reply_quality_with (Some p) (Some c) None = None
reply_quality_with (Some p) None e = None
reply_quality_with None c e = None

abbrev pub reply_quality_of : ReplyForm → Option ReplyQuality
reply_quality_of f = reply_quality_with (own_priority_of f.priority) (own_congestion_of f.congestion) (own_flag_of f.express)

-- a reply, where all that it needs is said
abbrev pub replied_with : ℕ → Option ReplyQuality → Option KeyArg → Option Update → Option Event
replied_with query (Some q) (Some k) (Some u) = Some (Reply query k u q)
replied_with query (Some q) (Some k) None = None
replied_with query (Some q) None u = None
replied_with query None k u = None

abbrev pub replied_of : ℕ → KeyForm → ReplyForm → Option Update → Option Event
replied_of query key how update = replied_with query (reply_quality_of how) (key_in key) update

-- a value, a deletion, and an error
abbrev pub reply_of : ℕ → KeyForm → List ℕ → ReplyForm → ExtrasForm → Option Event
reply_of query key payload how extras = replied_of query key how (put_update payload extras)

abbrev pub deletion_reply_of : ℕ → KeyForm → ReplyForm → ExtrasForm → Option Event
deletion_reply_of query key how extras = replied_of query key how (Some (delete_update extras))

abbrev pub error_reply_with : ℕ → Option Value → Option Event
error_reply_with query (Some error) = Some (ReplyErr query error)
error_reply_with query None = None

abbrev pub error_reply_of : ℕ → List ℕ → List ℕ → Option Event
error_reply_of query payload encoding = error_reply_with query (value_of payload encoding)
