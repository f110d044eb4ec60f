-- Effects that are heard one after the other, and tokens that are counted so.
use Rattle.std.proofs.Common.{◌≡◌, ℕ, ◌+◌, ◌<◌, List, [], ◌∷◌, ◌++◌, length, take, get_or, refl, ap, ◌∙◌}
use Rattle.std.specs.Prelude.{encode_utf8_all}
use Rattle.std.proofs.lemmas.List.{take_more}
use Rattle.zs_events.specs.declared.turn.Effect.{Effect}
use Rattle.zs_members.specs.Members.{Member}
use Rattle.zs_members.specs.Names.{name_in}
use Rattle.zs_group_lines.specs.declared.tokens.Token.{Token}
use Rattle.zs_group_lines.specs.Tokens.{heard, heard_effect, raised_in, with_held}

one_behind : (id : ℕ) (effects : List Effect) (effect : Effect) (view : List Member)
    → heard id (effects ++ effect ∷ []) view ≡ heard_effect id effect (heard id effects view)
one_behind id [] effect view = refl
one_behind id (first ∷ effects) effect view = one_behind id effects effect (heard_effect id first view)

pub one_more : (id : ℕ) (effects : List Effect) (i : ℕ) (effect : Effect) (view : List Member) → i < length effects
    → heard id (take (i + 1) effects) view ≡ heard_effect id (get_or effects i effect) (heard id (take i effects) view)
one_more id effects i effect view within =
    ap (λ fx. heard id fx view) (take_more effects i effect within) ∙ one_behind id (take i effects) (get_or effects i effect) view

token_behind : (tokens : List Token) (token : Token) (view : List Member)
    → with_held (tokens ++ token ∷ []) view ≡ raised_in (name_in (encode_utf8_all token.key)) (with_held tokens view)
token_behind [] token view = refl
token_behind (first ∷ tokens) token view = token_behind tokens token (raised_in (name_in (encode_utf8_all first.key)) view)

pub one_token : (tokens : List Token) (i : ℕ) (token : Token) (view : List Member) → i < length tokens
    → with_held (take (i + 1) tokens) view ≡ raised_in (name_in (encode_utf8_all (get_or tokens i token).key)) (with_held (take i tokens) view)
one_token tokens i token view within =
    ap (λ ts. with_held ts view) (take_more tokens i token within) ∙ token_behind (take i tokens) (get_or tokens i token) view
