use Rattle.std.proofs.Common.{◌≡◌, true, refl}
use Rattle.zs_event_lines.specs.Views.{is_option}
use Rattle.zs_event_lines.specs.declared.shown.Shown.{Shown}
use Rattle.zs_event_lines.specs.declared.shown.Shown.TheVariants.{Said, Number, KeyNumber, Moment, Locality, Background, Parent, Complete, History, Key, Selector, Wire, Payload, Update, OwnUpdate, Body as message_body, QoS, Reliable, Quality, ReplyQuality, WireIf, Parameters, Target, Consolidation, Timeout, Value, Encoding, Timestamp, Source, Attachment, Responder, AnyKey, CancellationToken, Interest, Channel, HandedTo}
use Rattle.zs_event_lines.proofs.fields.append_shown.Goals as goal

pub append_option-requires : goal.append_option-requires
append_option-requires c = is-option c.args.shown refl
  where
    is-option : (s : Shown) → c.args.shown ≡ s → is_option s ≡ true
    is-option (Said text) is = absurd (c.in_default.not-Said text is)
    is-option (Number n) is = absurd (c.in_default.not-Number n is)
    is-option (KeyNumber n) is = absurd (c.in_default.not-KeyNumber n is)
    is-option (Moment n) is = absurd (c.in_default.not-Moment n is)
    is-option (Locality l) is = absurd (c.in_default.not-Locality l is)
    is-option (Background kind) is = absurd (c.in_default.not-Background kind is)
    is-option (Parent kind) is = absurd (c.in_default.not-Parent kind is)
    is-option (Complete flag) is = absurd (c.in_default.not-Complete flag is)
    is-option (History flag) is = absurd (c.in_default.not-History flag is)
    is-option (Key k) is = absurd (c.in_default.not-Key k is)
    is-option (Selector k text) is = absurd (c.in_default.not-Selector k text is)
    is-option (Wire w) is = absurd (c.in_default.not-Wire w is)
    is-option (Payload bytes) is = absurd (c.in_default.not-Payload bytes is)
    is-option (Update body) is = absurd (c.in_default.not-Update body is)
    is-option (OwnUpdate body) is = absurd (c.in_default.not-OwnUpdate body is)
    is-option (message_body body) is = absurd (c.in_default.not-Body body is)
    is-option (QoS least absent q) is = absurd (c.in_default.not-QoS least absent q is)
    is-option (Reliable flag) is = absurd (c.in_default.not-Reliable flag is)
    is-option (Quality q) is = absurd (c.in_default.not-Quality q is)
    is-option (ReplyQuality q) is = absurd (c.in_default.not-ReplyQuality q is)
    is-option (WireIf w) is = refl
    is-option (Parameters text) is = refl
    is-option (Target t) is = refl
    is-option (Consolidation mode) is = refl
    is-option (Timeout time) is = refl
    is-option (Value v) is = refl
    is-option (Encoding text) is = refl
    is-option (Timestamp time) is = refl
    is-option (Source origin) is = refl
    is-option (Attachment bytes) is = refl
    is-option (Responder id) is = refl
    is-option (AnyKey flag) is = refl
    is-option (CancellationToken id) is = refl
    is-option (Interest id) is = refl
    is-option (Channel to) is = refl
    is-option (HandedTo to) is = refl
