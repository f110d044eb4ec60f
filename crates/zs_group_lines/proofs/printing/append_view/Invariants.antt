use Rattle.std.proofs.Common.{◌≡◌, ◌++◌, map}
use Rattle.std.specs.String.{string_bytes}
use Rattle.std.specs.Map.Iter.{deref_pair}
use Rattle.zs_members.specs.Members.{member_of}
use Rattle.zs_group_lines.specs.Shown.{view_text}
use Rattle.zs_group_lines.proofs.printing.append_view.Given as goal

abbrev pub invariant-members : goal.invariant-members
invariant-members l = string_bytes l.out ≡ string_bytes l.fn.out ++ view_text l.number l.side (map member_of (map deref_pair l.yielded))
