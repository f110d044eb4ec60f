use Rattle.std.proofs.Common.{rules, ◌≡◌, List, ap, sym, ◌∙◌, arith, take}
use Rattle.std.specs.Prelude.{encode_utf8_all}
use Rattle.zs_members.specs.Members.{Member}
use Rattle.zs_members.specs.Names.{name_in}
use Rattle.zs_group_lines.specs.declared.tokens.Token.{Token}
use Rattle.zs_group_lines.specs.Tokens.{raised_in, with_held}
use Rattle.zs_group_lines.proofs.Heard.{one_token}
use Rattle.zs_group_lines.proofs.tokens.Tokens.count_in.Goals as goal

pub loop-token-preserved : goal.loop-token-preserved
loop-token-preserved c =
    let items = c.as_slice-held.result.now in
    let i = c.loop-token.token-index in
    let x = c.token-item.result in
    c.in_ok-count_token.ensures
    ∙ ap (λ (members : List Member). raised_in (name_in (encode_utf8_all x.key)) members) c.loop-token.invariant
    ∙ ap (λ (t : Token). raised_in (name_in (encode_utf8_all t.key)) (with_held (take i items) c.args.view.now)) c.token-item.is
    ∙ sym (one_token items i x c.args.view.now (omega arith))
