-- The definitions at worked examples of matching and liveliness.
use Rattle.std.proofs.Common.{◌≡◌, [], ◌∷◌, ◌++◌, Some, None, refl, true, false, codes}
use Rattle.std.specs.Str.{chars, is_utf8}
use Rattle.std.specs.Fmt.{digits}
use Rattle.hex.proofs.OnLiterals.{hex_on_literals}
use Rattle.zs_wire.specs.declared.message.Message.TheVariants.{DeclareSubscriber, UndeclareSubscriber, DeclareQueryable, UndeclareQueryable, DeclareToken, UndeclareToken, DeclareFinal}
use Rattle.zs_wire.specs.declared.wire_expr.Mapping.TheVariants.{Sender}
use Rattle.zs_events.specs.declared.entity_kind.BackgroundKind.TheVariants.{Listener as background_listener, Lsub as background_lsub}
use Rattle.zs_events.specs.declared.entity_kind.EntityKind.TheVariants.{Listener as listener_kind, Token as token_kind, Lsub as lsub_kind}
use Rattle.zs_events.specs.declared.event.Event.TheVariants.{Token, Lsub, Listen, Status, Undeclare, Background, LivelinessGet as AskLiveliness, Net}
use Rattle.zs_events.specs.declared.chan.Chan.TheVariants.{Print}
use Rattle.zs_events.specs.declared.script_event.ScriptEvent.TheVariants.{Core}
use Rattle.zs_events.specs.declared.key_arg.KeyArg.TheVariants.{Text, Number}
use Rattle.zs_events.specs.declared.entity_kind.ParentKind.TheVariants.{Pub as pub_parent, Querier as querier_parent}
use Rattle.zs_events.specs.declared.turn.Answer.TheVariants.{Ok as accepted}
use Rattle.zs_events.specs.declared.turn.Effect.TheVariants.{Matching}
use Rattle.zs_parts.specs.Parts.{read, form}
use Rattle.zs_grammar.specs.Grammar.{undeclare_of, push_of, message_of, event_of}
use Rattle.zs_printing.specs.Pieces.{written}
use Rattle.zs_printing.specs.Printing.{turn_text}
use Rattle.zs_printing.specs.Words.{hex_digits}

-- matching and liveliness
a_listener : event_of (codes "listen" ++ 9 ∷ codes "pub" ++ 9 ∷ codes "2") ≡ Some (Core (Listen pub_parent 2))
unfolding event_of undeclare_of message_of push_of form read chars is_utf8 hex_on_literals lib.Utf8.encode
a_listener = refl

no_listener_of_a_sub : event_of (codes "listen" ++ 9 ∷ codes "sub" ++ 9 ∷ codes "2") ≡ None
unfolding event_of undeclare_of message_of push_of form read chars is_utf8 hex_on_literals lib.Utf8.encode
no_listener_of_a_sub = refl

a_status : event_of (codes "status" ++ 9 ∷ codes "querier" ++ 9 ∷ codes "2") ≡ Some (Core (Status querier_parent 2))
unfolding event_of undeclare_of message_of push_of form read chars is_utf8 hex_on_literals lib.Utf8.encode
a_status = refl

a_listener_undeclared : event_of (codes "undeclare" ++ 9 ∷ codes "listener" ++ 9 ∷ codes "2") ≡ Some (Core (Undeclare listener_kind 2))
unfolding event_of undeclare_of message_of push_of form read chars is_utf8 hex_on_literals lib.Utf8.encode
a_listener_undeclared = refl

a_listener_in_the_background : event_of (codes "background" ++ 9 ∷ codes "listener" ++ 9 ∷ codes "2") ≡ Some (Core (Background background_listener 2))
unfolding event_of undeclare_of message_of push_of form read chars is_utf8 hex_on_literals lib.Utf8.encode
a_listener_in_the_background = refl

a_token : event_of (codes "token" ++ 9 ∷ codes "#1:/b") ≡ Some (Core (Token (Number 1 (codes "/b"))))
unfolding event_of undeclare_of message_of push_of form read chars is_utf8 hex_on_literals lib.Utf8.encode
a_token = refl

a_token_undeclared : event_of (codes "undeclare" ++ 9 ∷ codes "token" ++ 9 ∷ codes "2") ≡ Some (Core (Undeclare token_kind 2))
unfolding event_of undeclare_of message_of push_of form read chars is_utf8 hex_on_literals lib.Utf8.encode
a_token_undeclared = refl

no_token_in_the_background : event_of (codes "background" ++ 9 ∷ codes "token" ++ 9 ∷ codes "2") ≡ None
unfolding event_of undeclare_of message_of push_of form read chars is_utf8 hex_on_literals lib.Utf8.encode
no_token_in_the_background = refl

a_lsub : event_of (codes "lsub" ++ 9 ∷ codes "history" ++ 9 ∷ codes "k") ≡ Some (Core (Lsub true (Text (codes "k"))))
unfolding event_of undeclare_of message_of push_of form read chars is_utf8 hex_on_literals lib.Utf8.encode
a_lsub = refl

a_lsub_of_news : event_of (codes "lsub" ++ 9 ∷ codes "live" ++ 9 ∷ codes "k") ≡ Some (Core (Lsub false (Text (codes "k"))))
unfolding event_of undeclare_of message_of push_of form read chars is_utf8 hex_on_literals lib.Utf8.encode
a_lsub_of_news = refl

a_lsub_undeclared : event_of (codes "undeclare" ++ 9 ∷ codes "lsub" ++ 9 ∷ codes "2") ≡ Some (Core (Undeclare lsub_kind 2))
unfolding event_of undeclare_of message_of push_of form read chars is_utf8 hex_on_literals lib.Utf8.encode
a_lsub_undeclared = refl

a_lsub_in_the_background : event_of (codes "background" ++ 9 ∷ codes "lsub" ++ 9 ∷ codes "2") ≡ Some (Core (Background background_lsub 2))
unfolding event_of undeclare_of message_of push_of form read chars is_utf8 hex_on_literals lib.Utf8.encode
a_lsub_in_the_background = refl

a_liveliness_get : event_of (codes "lget" ++ 9 ∷ codes "k?x") ≡ Some (Core (AskLiveliness (Text (codes "k?x")) None None Print))
unfolding event_of undeclare_of message_of push_of form read chars is_utf8 hex_on_literals lib.Utf8.encode
a_liveliness_get = refl

a_short_liveliness_get : event_of (codes "lget" ++ 9 ∷ codes "k" ++ 9 ∷ codes "timeout=0") ≡ Some (Core (AskLiveliness (Text (codes "k")) (Some 0) None Print))
unfolding event_of undeclare_of message_of push_of form read chars is_utf8 hex_on_literals lib.Utf8.encode
a_short_liveliness_get = refl

a_liveliness_get_to_cancel : event_of (codes "lget" ++ 9 ∷ codes "k" ++ 9 ∷ codes "token=4294967295") ≡ Some (Core (AskLiveliness (Text (codes "k")) None (Some 4294967295) Print))
unfolding event_of undeclare_of message_of push_of form read chars is_utf8 hex_on_literals lib.Utf8.encode
a_liveliness_get_to_cancel = refl

no_timeout_behind_the_token : event_of (codes "lget" ++ 9 ∷ codes "k" ++ 9 ∷ codes "token=0" ++ 9 ∷ codes "timeout=1") ≡ None
unfolding event_of undeclare_of message_of push_of form read chars is_utf8 hex_on_literals lib.Utf8.encode
no_timeout_behind_the_token = refl

a_net_sub : event_of (codes "net" ++ 9 ∷ codes "sub" ++ 9 ∷ codes "4" ++ 9 ∷ codes "s0:k") ≡ Some (Core (Net (DeclareSubscriber 4 (record { scope = 0; suffix = codes "k"; mapping = Sender }))))
unfolding event_of undeclare_of message_of push_of form read chars is_utf8 hex_on_literals lib.Utf8.encode
a_net_sub = refl

a_net_unsub : event_of (codes "net" ++ 9 ∷ codes "unsub" ++ 9 ∷ codes "4") ≡ Some (Core (Net (UndeclareSubscriber 4)))
unfolding event_of undeclare_of message_of push_of form read chars is_utf8 hex_on_literals lib.Utf8.encode
a_net_unsub = refl

a_net_queryable : event_of (codes "net" ++ 9 ∷ codes "queryable" ++ 9 ∷ codes "4" ++ 9 ∷ codes "partial" ++ 9 ∷ codes "s0:k") ≡ Some (Core (Net (DeclareQueryable 4 false (record { scope = 0; suffix = codes "k"; mapping = Sender }))))
unfolding event_of undeclare_of message_of push_of form read chars is_utf8 hex_on_literals lib.Utf8.encode
a_net_queryable = refl

a_net_unqueryable : event_of (codes "net" ++ 9 ∷ codes "unqueryable" ++ 9 ∷ codes "4") ≡ Some (Core (Net (UndeclareQueryable 4)))
unfolding event_of undeclare_of message_of push_of form read chars is_utf8 hex_on_literals lib.Utf8.encode
a_net_unqueryable = refl

a_net_token : event_of (codes "net" ++ 9 ∷ codes "token" ++ 9 ∷ codes "4" ++ 9 ∷ codes "s0:k" ++ 9 ∷ codes "interest=3") ≡ Some (Core (Net (DeclareToken 4 (record { scope = 0; suffix = codes "k"; mapping = Sender }) (Some 3))))
unfolding event_of undeclare_of message_of push_of form read chars is_utf8 hex_on_literals lib.Utf8.encode
a_net_token = refl

a_net_untoken : event_of (codes "net" ++ 9 ∷ codes "untoken" ++ 9 ∷ codes "4" ++ 9 ∷ codes "s0:k") ≡ Some (Core (Net (UndeclareToken 4 (Some (record { scope = 0; suffix = codes "k"; mapping = Sender })) None)))
unfolding event_of undeclare_of message_of push_of form read chars is_utf8 hex_on_literals lib.Utf8.encode
a_net_untoken = refl

a_net_untoken_of_no_key : event_of (codes "net" ++ 9 ∷ codes "untoken" ++ 9 ∷ codes "4" ++ 9 ∷ codes "interest=3") ≡ Some (Core (Net (UndeclareToken 4 None (Some 3))))
unfolding event_of undeclare_of message_of push_of form read chars is_utf8 hex_on_literals lib.Utf8.encode
a_net_untoken_of_no_key = refl

a_net_untoken_of_nothing : event_of (codes "net" ++ 9 ∷ codes "untoken" ++ 9 ∷ codes "4" ++ 9 ∷ codes "s0:") ≡ Some (Core (Net (UndeclareToken 4 None None)))
unfolding event_of undeclare_of message_of push_of form read chars is_utf8 hex_on_literals lib.Utf8.encode
a_net_untoken_of_nothing = refl

a_net_untoken_of_nothing_here : event_of (codes "net" ++ 9 ∷ codes "untoken" ++ 9 ∷ codes "4" ++ 9 ∷ codes "r0:") ≡ Some (Core (Net (UndeclareToken 4 None None)))
unfolding event_of undeclare_of message_of push_of form read chars is_utf8 hex_on_literals lib.Utf8.encode
a_net_untoken_of_nothing_here = refl

a_declare_final : event_of (codes "net" ++ 9 ∷ codes "declarefinal") ≡ Some (Core (Net (DeclareFinal None)))
unfolding event_of undeclare_of message_of push_of form read chars is_utf8 hex_on_literals lib.Utf8.encode
a_declare_final = refl

-- a turn that tells listeners
a_match : turn_text 5 (record { answer = accepted (Some 6); effects = Matching 4 false ∷ Matching 6 true ∷ [] })
    ≡ codes "5" ++ 9 ∷ codes "ok" ++ 9 ∷ codes "6" ++ 10 ∷ codes "5" ++ 9 ∷ codes "match" ++ 9 ∷ codes "4" ++ 9 ∷ codes "false"
    ++ 10 ∷ codes "5" ++ 9 ∷ codes "match" ++ 9 ∷ codes "6" ++ 9 ∷ codes "true" ++ 10 ∷ []
unfolding written hex_digits lib.Utf8.encode digits
a_match = refl
