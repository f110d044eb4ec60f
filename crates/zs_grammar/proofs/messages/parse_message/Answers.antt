use Rattle.std.proofs.Common.{◌≡◌, Some, codes, sym, ap, ◌∙◌}
use Rattle.zs_parts.specs.Parts.{first_of}
use Rattle.zs_grammar.specs.Grammar.{message_of, message_by}
use Rattle.zs_grammar.proofs.Choosing.{by-first}
use Rattle.zs_grammar.proofs.messages.parse_message.Goals as goal

pub returns-in-push : goal.returns-in-push
unfolding message_of
returns-in-push c =
    let first : first_of c.args.fields.now ≡ Some (codes "push") = sym c.in-Some.ensures.first ∙ ap Some c.in-push.is in
    rw (by-first message_by c.args.fields.now (codes "push") first) (rw c.next.ensures.rest at c.parse_push.ensures)

pub returns-in-response : goal.returns-in-response
unfolding message_of
returns-in-response c =
    let first : first_of c.args.fields.now ≡ Some (codes "response") = sym c.in-Some.ensures.first ∙ ap Some c.in-response.is in
    rw (by-first message_by c.args.fields.now (codes "response") first) (rw c.next.ensures.rest at c.parse_response.ensures)

pub returns-in-request : goal.returns-in-request
unfolding message_of
returns-in-request c =
    let first : first_of c.args.fields.now ≡ Some (codes "request") = sym c.in-Some.ensures.first ∙ ap Some c.in-request.is in
    rw (by-first message_by c.args.fields.now (codes "request") first) (rw c.next.ensures.rest at c.parse_request.ensures)

pub returns-in-token : goal.returns-in-token
unfolding message_of
returns-in-token c =
    let first : first_of c.args.fields.now ≡ Some (codes "token") = sym c.in-Some.ensures.first ∙ ap Some c.in-token.is in
    rw (by-first message_by c.args.fields.now (codes "token") first) (rw c.next.ensures.rest at c.parse_net_token.ensures)

pub returns-in-untoken : goal.returns-in-untoken
unfolding message_of
returns-in-untoken c =
    let first : first_of c.args.fields.now ≡ Some (codes "untoken") = sym c.in-Some.ensures.first ∙ ap Some c.in-untoken.is in
    rw (by-first message_by c.args.fields.now (codes "untoken") first) (rw c.next.ensures.rest at c.parse_net_untoken.ensures)

pub returns-in-sub : goal.returns-in-sub
unfolding message_of
returns-in-sub c =
    let first : first_of c.args.fields.now ≡ Some (codes "sub") = sym c.in-Some.ensures.first ∙ ap Some c.in-sub.is in
    rw (by-first message_by c.args.fields.now (codes "sub") first) (rw c.next.ensures.rest at c.parse_net_sub.ensures)

pub returns-in-queryable : goal.returns-in-queryable
unfolding message_of
returns-in-queryable c =
    let first : first_of c.args.fields.now ≡ Some (codes "queryable") = sym c.in-Some.ensures.first ∙ ap Some c.in-queryable.is in
    rw (by-first message_by c.args.fields.now (codes "queryable") first) (rw c.next.ensures.rest at c.parse_net_queryable.ensures)
