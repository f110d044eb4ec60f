-- Whom the sides see behind lines.
use Rattle.std.proofs.Common.{◌≡◌, ℕ, ◌+◌, List, [], ◌∷◌, ◌++◌, length, refl, sym, ◌∙◌, ap, subst, arith}
use Rattle.zs_events.specs.declared.event.Event.{Event}
use Rattle.zs_events.specs.declared.turn.Turn.{Turn}
use Rattle.zs_wire.specs.declared.message.Message.{Message}
use Rattle.zs_core.specs.Types.{Settings}
use Rattle.zs_core.specs.Past.{past_of}
use Rattle.zs_core.specs.Tokens.{remote_tokens}
use Rattle.zs_session_cell.specs.Core.{turn_at}
use Rattle.zs_driving.specs.Languages.{events_of}
use Rattle.zs_delivery.specs.declared.side.LinkSide.{LinkSide}
use Rattle.zs_delivery.specs.declared.side.LinkSide.TheVariants.{A, B}
use Rattle.zs_delivery.specs.Linked.{LinkLine, other, linked_after}
use Rattle.zs_members.specs.Members.{count_of}
use Rattle.zs_group_lines.specs.declared.membership.Membership.{Membership}
use Rattle.zs_group_lines.specs.Membership.{noted, view_of}
use Rattle.zs_group_laws.specs.Groups.{turn_behind, kept as kept_behind, held_count, remote_token_count, HoldsDeclared, BothSee, SidesSeeMembers}
use Rattle.zs_groups.specs.Told.{kept, membership_at, first_links}
use Rattle.zs_groups.specs.Language.{links_behind, group_language}
use Rattle.zs_groups.specs.Laws.{ShowsMembers, HoldsMembers, ShowsAll, BothShow, ViewsShowMembers}
use Rattle.zs_groups.proofs.Lines.{Grows, all_said, links_grow}

same_turn : (s : Settings) (h : List Event) (e : Event) → turn_behind s h e ≡ turn_at s h e
unfolding turn_behind turn_at
same_turn s h e = refl

same_kept : (s : Settings) (h : List Event) → kept_behind s h ≡ kept s h
same_kept s [] = refl
same_kept s (e ∷ h) =
    ap (λ (turn : Turn). noted e turn (kept_behind s h)) (same_turn s h e)
    ∙ ap (λ (m : Membership). noted e (turn_at s h e) m) (same_kept s h)

none_waits : (messages : List Message) → length messages ≡ 0 → messages ≡ []
none_waits [] none = refl
none_waits (m ∷ messages) none = absurd (omega (arith, none))

-- behind what was taken and delivered, from the first declarations on
behind_links : (s : Settings) (links : List LinkLine) → BothSee s (linked_after s links).a (linked_after s links).b → BothShow s links
behind_links s links both = record {
  each = go;
  holds = hold;
  all = sees_all;
  same = λ idle_a idle_b.
      ap view_of (sym (same_kept s (linked_after s links).a.history))
      ∙ both.same (none_waits (linked_after s links).a.waiting idle_a) (none_waits (linked_after s links).b.waiting idle_b)
      ∙ ap view_of (same_kept (other s) (linked_after s links).b.history);
}
  where
    go : (side : LinkSide) → ShowsMembers s links side
    go A name =
        subst (λ (m : Membership). count_of name (view_of m) ≡ held_count name m.tokens + remote_token_count name (remote_tokens s (past_of s (linked_after s links).a.history)))
        (same_kept s (linked_after s links).a.history) (both.of_a name)
    go B name =
        subst (λ (m : Membership). count_of name (view_of m) ≡ held_count name m.tokens + remote_token_count name (remote_tokens (other s) (past_of (other s) (linked_after s links).b.history)))
        (same_kept (other s) (linked_after s links).b.history) (both.of_b name)

    hold : (side : LinkSide) → HoldsMembers s links side
    hold A =
        subst (λ (m : Membership). HoldsDeclared (past_of s (linked_after s links).a.history) m.tokens) (same_kept s (linked_after s links).a.history) both.holds_a
    hold B =
        subst (λ (m : Membership). HoldsDeclared (past_of (other s) (linked_after s links).b.history) m.tokens) (same_kept (other s) (linked_after s links).b.history)
        both.holds_b

    -- two memberships for two others
    both_kept : (name : List ℕ) (m n mine theirs : Membership) → m ≡ mine → n ≡ theirs
        → count_of name (view_of m) ≡ held_count name m.tokens + held_count name n.tokens
        → count_of name (view_of mine) ≡ held_count name mine.tokens + held_count name theirs.tokens
    both_kept name m n mine theirs first second sees =
        subst (λ (k : Membership). count_of name (view_of mine) ≡ held_count name mine.tokens + held_count name k.tokens) second
        (subst (λ (k : Membership). count_of name (view_of k) ≡ held_count name k.tokens + held_count name n.tokens) first sees)

    sees_all : (side : LinkSide) → ShowsAll s links side
    sees_all A idle name =
        both_kept name (kept_behind s (linked_after s links).a.history) (kept_behind (other s) (linked_after s links).b.history) (membership_at s A links) (membership_at s B links)
        (same_kept s (linked_after s links).a.history) (same_kept (other s) (linked_after s links).b.history)
        (both.all_a (none_waits (linked_after s links).b.waiting idle) name)
    sees_all B idle name =
        both_kept name (kept_behind (other s) (linked_after s links).b.history) (kept_behind s (linked_after s links).a.history) (membership_at s B links) (membership_at s A links)
        (same_kept (other s) (linked_after s links).b.history) (same_kept s (linked_after s links).a.history)
        (both.all_b (none_waits (linked_after s links).a.waiting idle) name)

pub views_show : SidesSeeMembers → ViewsShowMembers
views_show law s rows aggregates first second =
    let grown : Grows first_links (links_behind s (events_of (group_language s) rows)) = links_grow s (events_of (group_language s) rows) (all_said s rows) in
    behind_links s (links_behind s (events_of (group_language s) rows))
    (subst (λ (links : List LinkLine). BothSee s (linked_after s links).a (linked_after s links).b) (sym grown.is)
    (law s grown.more aggregates first second grown.members grown.spelled))
