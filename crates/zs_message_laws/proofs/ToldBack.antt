-- What is told of a message is read as that message.
use Rattle.std.proofs.Common.{ℕ, ◌≡◌, ◌/◌, true, List, Option, Some, None, is_some, option_map, refl, ap, encode_utf8_all}
use Rattle.std.specs.Str.{all_scalars, is_utf8}
use Rattle.std.proofs.lemmas.Str.{chars-encodes, is_utf8-from_IsUtf8}
use Rattle.std.proofs.Math.Nat.{div-add-mod, mul_comm}
use Rattle.zs_wire.specs.declared.interest.InterestMode.{InterestMode}
use Rattle.zs_wire.specs.declared.interest.InterestMode.TheVariants.{Current, Future, CurrentFuture, Final}
use Rattle.zs_wire.specs.declared.interest.InterestWhat.{InterestWhat}
use Rattle.zs_wire.specs.declared.interest.InterestWhat.TheVariants.{Subscribers, Queryables, Tokens, Nothing}
use Rattle.zs_wire.specs.declared.origin.EntityGlobalId.{EntityGlobalId}
use Rattle.zs_wire.specs.declared.origin.SourceInfo.{SourceInfo}
use Rattle.zs_wire.specs.declared.origin.Timestamp.{Timestamp}
use Rattle.zs_wire.specs.declared.quality.CongestionControl.{CongestionControl}
use Rattle.zs_wire.specs.declared.quality.CongestionControl.TheVariants.{Drop, Block}
use Rattle.zs_wire.specs.declared.request.ConsolidationMode.{ConsolidationMode}
use Rattle.zs_wire.specs.declared.request.ConsolidationMode.TheVariants.{Auto, None as keep_all, Monotonic, Latest}
use Rattle.zs_wire.specs.declared.request.QueryTarget.{QueryTarget}
use Rattle.zs_wire.specs.declared.request.QueryTarget.TheVariants.{BestMatching, All, AllComplete}
use Rattle.zs_wire.specs.declared.sample_kind.SampleKind.{SampleKind}
use Rattle.zs_wire.specs.declared.sample_kind.SampleKind.TheVariants.{Put, Delete}
use Rattle.zs_wire.specs.declared.wire_expr.Mapping.{Mapping}
use Rattle.zs_wire.specs.declared.wire_expr.Mapping.TheVariants.{Sender, Receiver}
use Rattle.zs_forms.specs.Origins.{whole, high, low, timestamp_of, source_of, entity_of, timestamp_form, source_form, entity_form}
use Rattle.zs_forms.specs.Quality.{congestion_of}
use Rattle.zs_forms.specs.Questions.{target_of, consolidation_of}
use Rattle.zs_forms.specs.Texts.{text_in}
use Rattle.zs_forms.specs.Updates.{attachment_of}
use Rattle.zs_message_forms.specs.Contents.{bytes_in}
use Rattle.zs_message_forms.specs.Messages.{mode_of, what_of}
use Rattle.zs_message_forms.specs.Numbers.{is_receiver, is_block, is_delete, mode_number, what_number, target_number, consolidation_number}
use Rattle.zs_message_forms.specs.Parts.{mapping_of, kind_of}
use Rattle.zs_message_laws.specs.Passing.{gathered}

-- texts
pub utf8-back : (t : List ℕ) → all_scalars t ≡ true → is_utf8 (encode_utf8_all t) ≡ true
utf8-back t h = is_utf8-from_IsUtf8 (encode_utf8_all t) (t, (h, refl))

pub text-back : (t bytes : List ℕ) → all_scalars t ≡ true → bytes ≡ encode_utf8_all t → text_in bytes ≡ Some t
text-back t bytes h same = rw (same, utf8-back t h) (ap Some (chars-encodes t h))

-- numbers of two halves
pub whole-back : (n : ℕ) → whole (high n) (low n) ≡ n
whole-back n = rw (mul_comm (n / 18446744073709551616) 18446744073709551616) (div-add-mod n 18446744073709551616)

pub timestamp-back : (t : Option Timestamp) → timestamp_of (timestamp_form t) ≡ t
timestamp-back None = refl
timestamp-back (Some t) = rw (whole-back t.id) refl

pub entity-back : (e : Option EntityGlobalId) → entity_of (entity_form e) ≡ e
entity-back None = refl
entity-back (Some e) = rw (whole-back e.zid) refl

pub source-back : (s : Option SourceInfo) → source_of (source_form s) ≡ s
source-back None = refl
source-back (Some s) = rw (whole-back s.source_id.zid) refl

-- choices
pub mapping-back : (m : Mapping) → mapping_of (is_receiver m) ≡ m
mapping-back Sender = refl
mapping-back Receiver = refl

pub congestion-back : (c : CongestionControl) → congestion_of (is_block c) ≡ c
congestion-back Drop = refl
congestion-back Block = refl

pub kind-back : (k : SampleKind) → kind_of (is_delete k) ≡ k
kind-back Put = refl
kind-back Delete = refl

pub mode-back : (m : InterestMode) → mode_of (mode_number m) ≡ Some m
mode-back Current = refl
mode-back Future = refl
mode-back CurrentFuture = refl
mode-back Final = refl

pub what-back : (w : InterestWhat) → what_of (what_number w) ≡ Some w
what-back Subscribers = refl
what-back Queryables = refl
what-back Tokens = refl
what-back Nothing = refl

pub target-back : (t : QueryTarget) → target_of (target_number t) ≡ Some t
target-back BestMatching = refl
target-back All = refl
target-back AllComplete = refl

pub consolidation-back : (c : ConsolidationMode) → consolidation_of (consolidation_number c) ≡ Some c
consolidation-back Auto = refl
consolidation-back keep_all = refl
consolidation-back Monotonic = refl
consolidation-back Latest = refl

pub attachment-back : (a : Option (List (List ℕ))) → attachment_of (is_some a) (bytes_in a) ≡ option_map gathered a
attachment-back None = refl
attachment-back (Some slices) = refl
