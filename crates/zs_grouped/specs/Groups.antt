-- Groups of entities that share one declaration, each found by its text.
use Rattle.std.specs.Prelude.{ℕ, Bool, not, ◌==◌, List, [], ◌∷◌, length, Option, Some, None, map, filter, bytes_eq, if◌then◌else◌}
use Rattle.std.specs.List.{list_any}
use Rattle.std.specs.BTreeSet.{insert_key}
use Rattle.std.specs.Cmp.Lexicographic.{slice_cmp}
use Rattle.std.specs.Ordering.{nat_cmp, is_lt}
use Rattle.zs_grouped.specs.declared.group_kind.GroupKind.{GroupKind}
use Rattle.zs_grouped.specs.declared.group_kind.GroupKind.TheVariants.{Subscribers, Publishers, Queriers}

-- a group: the text that its members share, its number, and its members, ascending
pub record Group : Type 0 where
  pub text : List ℕ
  pub number : ℕ
  pub members : List ℕ

-- the groups of each kind, in the order of their texts
pub record AllGroups : Type 0 where
  pub subscribers : List Group
  pub publishers : List Group
  pub queriers : List Group

-- the groups of one kind
abbrev pub groups_of : GroupKind → AllGroups → List Group
groups_of Subscribers all = all.subscribers
groups_of Publishers all = all.publishers
groups_of Queriers all = all.queriers

-- all, with other groups of one kind
abbrev pub with_groups : GroupKind → List Group → AllGroups → AllGroups
with_groups Subscribers groups all = record all { subscribers = groups }
with_groups Publishers groups all = record all { publishers = groups }
with_groups Queriers groups all = record all { queriers = groups }

-- the group of a text
abbrev pub has_text : List ℕ → Group → Bool
has_text text g = bytes_eq g.text text

-- its number, if there is one
abbrev pub number_of_group : List ℕ → List Group → Option ℕ
number_of_group text [] = None
number_of_group text (g ∷ gs) = if has_text text g then Some g.number else number_of_group text gs

-- its members
abbrev pub members_of : List ℕ → List Group → List ℕ
members_of text [] = []
members_of text (g ∷ gs) = if has_text text g then g.members else members_of text gs

-- the groups with one more, in the order of their texts
abbrev pub with_group : Group → List Group → List Group
with_group new [] = new ∷ []
with_group new (g ∷ gs) = if is_lt (slice_cmp nat_cmp new.text g.text) then new ∷ g ∷ gs else g ∷ with_group new gs

-- a member joins the group of a text, in ascending order, unless it is there; one that finds no group makes one of its own number
abbrev pub joined : List ℕ → ℕ → List Group → List Group
joined text id gs =
    if list_any (has_text text) gs then map (λ g. if has_text text g then record g { members = insert_key nat_cmp g.members id } else g) gs
    else with_group (record { text = text; number = id; members = id ∷ [] }) gs

-- a member leaves the group of a text
abbrev pub without_member : List ℕ → ℕ → Group → Group
without_member text id g = if has_text text g then record g { members = filter (λ other. not (other == id)) g.members } else g

-- whether a group has members
abbrev pub has_members : Group → Bool
has_members g = not (length g.members == 0)

-- a member leaves the group of a text, which is gone with its last member
abbrev pub left : List ℕ → ℕ → List Group → List Group
left text id gs = filter has_members (map (without_member text id) gs)

-- the number of the group of a text, if no other member is left in it
abbrev pub number_left : List ℕ → ℕ → List Group → Option ℕ
number_left text id gs =
    if length (filter (λ other. not (other == id)) (members_of text gs)) == 0 then number_of_group text gs else None
