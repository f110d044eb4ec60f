-- A token that the network ends, by whether its number is known.
use Rattle.std.proofs.Common.{◌≡◌, ℕ, List, [], Bool, true, false, Option, Some, None, refl, sym, ◌∙◌, ap}
use Rattle.std.specs.Prelude.{◌==◌, is_some}
use Rattle.std.specs.List.{find, list_any}
use Rattle.zs_wire.specs.declared.wire_expr.WireExpr.{WireExpr}
use Rattle.zs_wire.specs.declared.message.Message.TheVariants.{UndeclareToken}
use Rattle.zs_events.specs.declared.event.Event.TheVariants.{Net}
use Rattle.zs_events.specs.Kinds.{is_blank}
use Rattle.zs_tables.specs.Types.{RemoteToken}
use Rattle.zs_subscriptions.proofs.ByKey.{found_any}
use Rattle.zs_world.specs.declared.change.Change.TheVariants.{OfLiveliness}
use Rattle.zs_world.specs.declared.change.LivelinessChange.TheVariants.{ForgetToken}
use Rattle.zs_world.specs.World.{World}
use Rattle.zs_model.specs.Tokens.{is_remote_token}
use Rattle.zs_world.specs.Decisions.{decision_of, open_decision, ended_decision, ended_on}

-- whether it is known, by the token that is found
known : (id : ℕ) (tokens : List RemoteToken) (o : Option RemoteToken) → find (λ (t : RemoteToken). t.number == id) tokens ≡ o → is_remote_token id tokens ≡ is_some o
known id tokens o found = sym (found_any (λ (t : RemoteToken). t.number == id) tokens) ∙ ap is_some found

-- its end is on the key that was told of its number
pub ended_known : (w : World) (id : ℕ) (wire : Option WireExpr) (interest : Option ℕ) (token : RemoteToken) → find (λ (t : RemoteToken). t.number == id) w.liveliness.remote_tokens ≡ Some token
    → ended_decision w id interest (Some token.key.text) ≡ open_decision w (Net (UndeclareToken id wire interest))
ended_known w id None interest token found = rw (known id w.liveliness.remote_tokens (Some token) found, found) refl
ended_known w id (Some wire) interest token found = go (is_blank wire) refl
  where
    go : (b : Bool) → is_blank wire ≡ b → ended_decision w id interest (Some token.key.text) ≡ open_decision w (Net (UndeclareToken id (Some wire) interest))
    go true blank = rw (blank, known id w.liveliness.remote_tokens (Some token) found, found) refl
    go false named = rw (named, known id w.liveliness.remote_tokens (Some token) found, found) refl

-- else on the one that is named
pub ended_named : (w : World) (id : ℕ) (wire : WireExpr) (interest : Option ℕ) → is_blank wire ≡ false → find (λ (t : RemoteToken). t.number == id) w.liveliness.remote_tokens ≡ None
    → ended_on w id wire interest ≡ open_decision w (Net (UndeclareToken id (Some wire) interest))
ended_named w id wire interest named found = rw (named, known id w.liveliness.remote_tokens None found, found) refl

-- or for nobody
pub ended_quiet : (w : World) (id : ℕ) (interest : Option ℕ) → find (λ (t : RemoteToken). t.number == id) w.liveliness.remote_tokens ≡ None
    → decision_of None None [] (OfLiveliness (ForgetToken id)) ≡ open_decision w (Net (UndeclareToken id None interest))
ended_quiet w id interest found = rw (known id w.liveliness.remote_tokens None found, found) refl

pub ended_blank : (w : World) (id : ℕ) (wire : WireExpr) (interest : Option ℕ) → is_blank wire ≡ true → find (λ (t : RemoteToken). t.number == id) w.liveliness.remote_tokens ≡ None
    → decision_of None None [] (OfLiveliness (ForgetToken id)) ≡ open_decision w (Net (UndeclareToken id (Some wire) interest))
ended_blank w id wire interest blank found = rw (blank, known id w.liveliness.remote_tokens None found, found) refl
