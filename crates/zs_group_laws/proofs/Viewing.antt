-- A view behind one name more or less, and with the tokens that a side holds.
use Rattle.std.proofs.Common.{◌≡◌, ℕ, ◌+◌, ◌-◌, Bool, true, false, List, [], ◌∷◌, Option, Some, None, refl, ◌∙◌, ap, arith, cond}
use Rattle.std.specs.Prelude.{bytes_eq, encode_utf8_all}
use Rattle.zs_wire.specs.declared.sample_kind.SampleKind.TheVariants.{Put, Delete}
use Rattle.zs_members.specs.Members.{Member, NamesAscend, AreThere, count_of, changed}
use Rattle.zs_members.specs.Names.{name_in}
use Rattle.zs_members.proofs.Counting.{ascend_raised, there_raised, count_raised, ascend_lowered, there_lowered, count_lowered}
use Rattle.zs_group_lines.specs.declared.tokens.Token.{Token}
use Rattle.zs_group_lines.specs.Tokens.{raised_in, with_held}
use Rattle.zs_group_laws.specs.Groups.{stands_for, one_if, held_count}

-- a view as it always is
pub record IsView (view : List Member) : Type 0 where
  pub ascend : NamesAscend view
  pub there : AreThere view

pub view_raised : (o : Option (List ℕ)) (view : List Member) → IsView view → IsView (raised_in o view)
view_raised None view is = is
view_raised (Some name) view is = record { ascend = ascend_raised name view is.ascend; there = there_raised name view is.there }

pub view_lowered : (o : Option (List ℕ)) (view : List Member) → IsView view → IsView (changed o Delete view)
view_lowered None view is = is
view_lowered (Some name) view is = record { ascend = ascend_lowered name view is.ascend; there = there_lowered name view is.there }

-- a sample that tells of a token raises its name
pub put_raises : (o : Option (List ℕ)) (view : List Member) → changed o Put view ≡ raised_in o view
put_raises None view = refl
put_raises (Some name) view = refl

pub counts_raised : (q : List ℕ) (o : Option (List ℕ)) (view : List Member) → NamesAscend view → count_of q (raised_in o view) ≡ one_if (stands_for q o) (count_of q view)
counts_raised q None view ascend = refl
counts_raised q (Some name) view ascend = count_raised q name view ascend

pub counts_lowered : (q : List ℕ) (o : Option (List ℕ)) (view : List Member) (left : ℕ) → NamesAscend view → count_of q view ≡ one_if (stands_for q o) left
    → count_of q (changed o Delete view) ≡ left
counts_lowered q None view left ascend is = is
counts_lowered q (Some name) view left ascend is = count_lowered q name view ascend ∙ go (bytes_eq q name) is
  where
    go : (b : Bool) → count_of q view ≡ one_if b left → cond b (count_of q view - 1) (count_of q view) ≡ left
    go true same = omega (arith, same)
    go false same = same

more_there : (b : Bool) (held count : ℕ) → held + one_if b count ≡ one_if b held + count
more_there true held count = omega arith
more_there false held count = refl

-- with the tokens that a side holds
pub view_held : (tokens : List Token) (view : List Member) → IsView view → IsView (with_held tokens view)
view_held [] view is = is
view_held (token ∷ tokens) view is = view_held tokens (raised_in (name_in (encode_utf8_all token.key)) view) (view_raised (name_in (encode_utf8_all token.key)) view is)

pub counts_held : (q : List ℕ) (tokens : List Token) (view : List Member) → IsView view → count_of q (with_held tokens view) ≡ held_count q tokens + count_of q view
counts_held q [] view is = omega arith
counts_held q (token ∷ tokens) view is =
    let o = name_in (encode_utf8_all token.key) in
    counts_held q tokens (raised_in o view) (view_raised o view is)
    ∙ ap (λ (n : ℕ). held_count q tokens + n) (counts_raised q o view is.ascend)
    ∙ more_there (stands_for q o) (held_count q tokens) (count_of q view)
