-- What the events of a group bring about for a view, and what they send.
use Rattle.std.proofs.Common.{◌≡◌, ℕ, Bool, true, List, [], Option, Some, None, refl, ◌∙◌}
use Rattle.std.specs.Prelude.{codes}
use Rattle.std.specs.Str.{chars}
use Rattle.zs_wire.specs.declared.message.Message.TheVariants.{DeclareToken, UndeclareToken}
use Rattle.zs_wire.specs.declared.wire_expr.WireExpr.{WireExpr}
use Rattle.zs_events.specs.declared.entity_kind.EntityKind.TheVariants.{Token as token_kind}
use Rattle.zs_events.specs.declared.event.Event.{Event}
use Rattle.zs_events.specs.declared.event.Event.TheVariants.{Token, Undeclare, Lsub, Net}
use Rattle.zs_events.specs.declared.key_arg.KeyArg.{KeyArg}
use Rattle.zs_events.specs.declared.key_arg.KeyArg.TheVariants.{Text}
use Rattle.zs_model.specs.declared.settings.Settings.{Settings}
use Rattle.zs_model.specs.Entry.{Entry}
use Rattle.zs_model.specs.HeldKeys.{named_text}
use Rattle.zs_model.specs.Past.{entry_of}
use Rattle.zs_model.specs.Matching.{listener_effects}
use Rattle.zs_model.specs.LivelinessEffects.{history_hands, declared_hands, ended_hands}
use Rattle.zs_group_laws.specs.Groups.{hearing}
use Rattle.zs_model.specs.Effects.{Known, known_of, effects_on, effects_behind}
use Rattle.zs_members.specs.Members.{Member}
use Rattle.zs_group_lines.specs.Tokens.{heard}
use Rattle.zs_group_laws.proofs.Heard.{IsSilent, heard_append, silent_listeners}

-- a token's declaration and its end are heard of by nobody of the own side
silent_token : (known : Known) (key : KeyArg) (number : Option ℕ) (text : Option (List ℕ)) → IsSilent (effects_on known number text (Token key))
silent_token known key None None id view = refl
silent_token known key None (Some text) id view = refl
silent_token known key (Some number) None id view = refl
silent_token known key (Some number) (Some text) id view = refl

silent_end : (known : Known) (n : ℕ) (number : Option ℕ) (text : Option (List ℕ)) → IsSilent (effects_on known number text (Undeclare token_kind n))
silent_end known n number None id view = refl
silent_end known n number (Some text) id view = refl

-- what a view hears of an event behind accepted events is what it hears but for listeners
pub heard_behind : (s : Settings) (past : List Entry) (e : Event) (id : ℕ) (view : List Member)
    → heard id (effects_behind s past e) view ≡ heard id (effects_on (known_of s past) (entry_of s past e).number (named_text past e) e) view
heard_behind s past e id view =
    let own = effects_on (known_of s past) (entry_of s past e).number (named_text past e) e in
    heard_append id own (listener_effects past (entry_of s past e)) view ∙ silent_listeners past (entry_of s past e) id (heard id own view)

pub token_behind : (s : Settings) (past : List Entry) (key : KeyArg) (id : ℕ) (view : List Member) → heard id (effects_behind s past (Token key)) view ≡ view
token_behind s past key id view =
    heard_behind s past (Token key) id view ∙ silent_token (known_of s past) key (entry_of s past (Token key)).number (named_text past (Token key)) id view

pub end_behind : (s : Settings) (past : List Entry) (n : ℕ) (id : ℕ) (view : List Member) → heard id (effects_behind s past (Undeclare token_kind n)) view ≡ view
end_behind s past n id view =
    heard_behind s past (Undeclare token_kind n) id view ∙ silent_end (known_of s past) n (entry_of s past (Undeclare token_kind n)).number (named_text past (Undeclare token_kind n)) id view

-- what the other side tells of a token
told_on : (known : Known) (n : ℕ) (wire : WireExpr) (number : Option ℕ) (text : Option (List ℕ)) (id : ℕ) (view : List Member)
    → heard id (effects_on known number text (Net (DeclareToken n wire None))) view ≡ heard id (declared_hands known.watch n None text) view
told_on known n wire number None id view = refl
told_on known n wire number (Some text) id view = refl

ended_on : (known : Known) (n : ℕ) (interest : Option ℕ) (number : Option ℕ) (text : Option (List ℕ)) (id : ℕ) (view : List Member)
    → heard id (effects_on known number text (Net (UndeclareToken n None interest))) view ≡ heard id (ended_hands known.watch n interest text) view
ended_on known n interest number None id view = refl
ended_on known n interest number (Some text) id view = refl

pub told_behind_hands : (s : Settings) (past : List Entry) (n : ℕ) (wire : WireExpr) (id : ℕ) (view : List Member)
    → heard id (effects_behind s past (Net (DeclareToken n wire None))) view ≡ heard id (declared_hands (known_of s past).watch n None (named_text past (Net (DeclareToken n wire None)))) view
told_behind_hands s past n wire id view =
    let e = Net (DeclareToken n wire None) in
    heard_behind s past e id view ∙ told_on (known_of s past) n wire (entry_of s past e).number (named_text past e) id view

pub ended_behind_hands : (s : Settings) (past : List Entry) (n : ℕ) (interest : Option ℕ) (id : ℕ) (view : List Member)
    → heard id (effects_behind s past (Net (UndeclareToken n None interest))) view
    ≡ heard id (ended_hands (known_of s past).watch n interest (named_text past (Net (UndeclareToken n None interest)))) view
ended_behind_hands s past n interest id view =
    let e = Net (UndeclareToken n None interest) in
    heard_behind s past e id view ∙ ended_on (known_of s past) n interest (entry_of s past e).number (named_text past e) id view

-- where nothing was told yet, a new subscriber hears nothing
hearing_on : (known : Known) (history : Bool) (key : KeyArg) (number : Option ℕ) (text : Option (List ℕ)) (id : ℕ) → known.watch.remote_tokens ≡ []
    → heard id (effects_on known number text (Lsub history key)) [] ≡ heard id (history_hands history number text known.watch.remote_tokens) []
hearing_on known history key None None id none = refl
hearing_on known history key None (Some text) id none = refl
hearing_on known history key (Some number) None id none = refl
hearing_on known history key (Some number) (Some text) id none = refl

nothing_told : (number : Option ℕ) (text : Option (List ℕ)) (id : ℕ) → heard id (history_hands true number text []) [] ≡ []
nothing_told None text id = refl
nothing_told (Some number) None id = refl
nothing_told (Some number) (Some text) id = refl

pub hearing_behind : (s : Settings) (id : ℕ) → heard id (effects_behind s [] hearing) [] ≡ []
hearing_behind s id =
    heard_behind s [] hearing id []
    ∙ hearing_on (known_of s []) true (Text (chars (codes "group/*"))) (entry_of s [] hearing).number (named_text [] hearing) id refl
    ∙ nothing_told (entry_of s [] hearing).number (named_text [] hearing) id
