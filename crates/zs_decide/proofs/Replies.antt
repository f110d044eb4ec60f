-- What an open session makes of a reply on a canonical key is what gets make of it.
use Rattle.std.proofs.Common.{◌≡◌, ℕ, List, Bool, true, false, Some, None, Option, refl, sym, ap}
use Rattle.std.specs.Prelude.{not, Ok, Err, if◌then◌else◌}
use Rattle.zs_keys.specs.Key.{Key as a_key, undeclared}
use Rattle.zs_keys.specs.Text.{is_canonical}
use Rattle.zs_sample.specs.Reply.{Replied}
use Rattle.zs_wire.specs.declared.body.Body.{Body}
use Rattle.zs_wire.specs.declared.response.Response.{Response}
use Rattle.zs_query.specs.declared.open_get.OpenGet.{OpenGet}
use Rattle.zs_query.specs.Gets.{get_at, peek_at}
use Rattle.zs_events.specs.declared.turn.Refusal.{Refusal}
use Rattle.zs_events.specs.declared.turn.Refusal.TheVariants.{BadKeyExpr, UnknownScope, Ignored}
use Rattle.zs_world.specs.declared.change.Change.TheVariants.{OfGets}
use Rattle.zs_world.specs.declared.change.GetChange.TheVariants.{Take}
use Rattle.zs_world.specs.World.{World}
use Rattle.zs_world.specs.Keys.{wire_of, resolution}
use Rattle.zs_model.specs.Gets.{is_unmet, sample_reply}
use Rattle.zs_model.specs.GetEffects.{reply_effects}
use Rattle.zs_world.specs.Decisions.{refused_if, decision_of, heard_reply, reply_decision_on, reply_decision}

by_canonical : (gets : List OpenGet) (number : ℕ) (reply : Replied) (b : Bool) → b ≡ true
    → heard_reply gets number reply
    ≡ decision_of (refused_if (not b) BadKeyExpr (refused_if (is_unmet (peek_at (get_at number gets) reply)) Ignored None)) None
    (reply_effects (peek_at (get_at number gets) reply) number reply) (OfGets (Take number reply))
by_canonical gets number reply true is = refl
by_canonical gets number reply false is = cc

pub heard : (w : World) (response : Response) (body : Body) (text : List ℕ) → is_canonical text ≡ true
    → heard_reply w.asking.gets response.rid (sample_reply text response body) ≡ reply_decision_on w response body (Some text)
heard w response body text canonical = by_canonical w.asking.gets response.rid (sample_reply text response body) (is_canonical text) canonical

-- a key that a text resolves to has that text
text_found : (missing : Refusal) (o : Option (List ℕ)) (key : a_key) → resolution missing o ≡ Ok key → o ≡ Some key.text
text_found missing None key e = cc
text_found missing (Some text) key e = go (is_canonical text) e
  where
    go : (b : Bool) → (if b then Ok (undeclared text) else Err BadKeyExpr) ≡ Ok key → Some text ≡ Some key.text
    go true e = cc
    go false e = cc

-- so the decision on that text is the decision
pub settled : (w : World) (response : Response) (body : Body) (key : a_key) → resolution UnknownScope (wire_of w response.wire) ≡ Ok key
    → reply_decision_on w response body (Some key.text) ≡ reply_decision w response body
settled w response body key e = ap (reply_decision_on w response body) (sym (text_found UnknownScope (wire_of w response.wire) key e))
