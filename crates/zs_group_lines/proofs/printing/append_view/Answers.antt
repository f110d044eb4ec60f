use Rattle.std.proofs.Common.{rules, ◌≡◌, ◌++◌, ℕ, List, Bor, String, Global, ap, sym, ◌∙◌, append_assoc, map}
use Rattle.std.specs.String.{string_bytes}
use Rattle.std.specs.Map.Iter.{deref_pair}
use Rattle.std.proofs.lemmas.Map.Iter.{iter_end}
use Rattle.zs_members.specs.Members.{Member, member_of}
use Rattle.zs_group_lines.specs.Shown.{view_text, member_text}
use Rattle.zs_group_lines.proofs.Printed.{one_member}
use Rattle.zs_group_lines.proofs.printing.append_view.Goals as goal

pub returns : goal.returns
returns c =
    let all : map deref_pair c.members.yielded ≡ c.iter-name-items.result = search (rules, iter_end) in
    c.members.invariant
    ∙ ap (λ (ms : List Member). string_bytes c.args.out.now ++ view_text c.args.number c.args.side.now ms) (ap (map member_of) all ∙ c.iter-name-items.ensures.members)
