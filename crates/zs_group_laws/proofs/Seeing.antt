-- Both sides of a group see who joined.
use Rattle.std.proofs.Common.{◌≡◌, ℕ, ◌+◌, true, false, List, [], ◌∷◌, ◌++◌, refl, sym, ◌∙◌, ap, arith}
use Rattle.std.specs.Prelude.{codes}
use Rattle.std.specs.Str.{chars, all_scalars}
use Rattle.std.proofs.lemmas.Str.{scalars-chars, IsUtf8-from_ascii}
use Rattle.zs_tables.specs.Types.{RemoteToken}
use Rattle.zs_events.specs.declared.event.Event.{Event}
use Rattle.zs_events.specs.declared.event.Event.TheVariants.{Token, Undeclare}
use Rattle.zs_model.specs.declared.settings.Settings.{Settings}
use Rattle.zs_model.specs.Past.{past_of}
use Rattle.zs_model.specs.Tokens.{remote_tokens}
use Rattle.zs_delivery.specs.Linked.{Side, LinkLine, Take, Deliver, other, linked_after}
use Rattle.zs_delivery.specs.Links.{is_net, AreOwn, AreSpelledLines}
use Rattle.zs_delivery.specs.Tokens.{TellsTokens, BothTellTokens, RemoteTokensAreDeclared}
use Rattle.zs_members.proofs.Counting.{same_counts}
use Rattle.zs_group_lines.specs.Membership.{view_of}
use Rattle.zs_group_laws.specs.Groups.{kept, IsMemberEvent, AreMemberLines, first_links, held_count, remote_token_count, as_told, HoldsMembers, SeesAll, SeesMembers, SidesSeeMembers}
use Rattle.zs_group_laws.proofs.Starting.{ascii}
use Rattle.zs_group_laws.proofs.Viewing.{IsView, view_held, counts_held}
use Rattle.zs_group_laws.proofs.Same.{same_tokens}
use Rattle.zs_group_laws.proofs.Holding.{held_told}
use Rattle.zs_group_laws.proofs.Standing.{SideStands, BothStand, both_stand}

sees : (s : Settings) (side : Side) → SideStands s side → SeesMembers s side
sees s side stands name =
    counts_held name (kept s side.history).tokens (kept s side.history).heard stands.stands.agrees.is
    ∙ ap (λ (n : ℕ). held_count name (kept s side.history).tokens + n) (stands.stands.agrees.counts name)

-- what a side was told is what the other holds, where nothing of that waits
told_held : (s t : Settings) (from to : Side) → SideStands s from → SideStands t to → TellsTokens s t from to → from.waiting ≡ []
    → remote_tokens t (past_of t to.history) ≡ as_told (kept s from.history).tokens
told_held s t from to sender receiver tells idle =
    let has = tells idle receiver.stands.unshut in
    same_tokens (remote_tokens t (past_of t to.history)) (as_told (kept s from.history).tokens) has.ascend sender.stands.holds.up
    (λ n. has.told n ∙ has.declared n ∙ sym (sender.stands.holds.found n))

-- what it holds is what it declared
holds : (s : Settings) (side : Side) → SideStands s side → HoldsMembers s side
holds s side stands = record { ascend = stands.stands.holds.up; declared = stands.stands.holds.found }

-- and it sees all that both hold, where nothing of the other waits
sees_all : (s t : Settings) (side opposite : Side) → SideStands s side → SideStands t opposite → TellsTokens t s opposite side → SeesAll s t side opposite
sees_all s t side opposite one two tells idle name =
    let mine = (kept s side.history).tokens in
    sees s side one name
    ∙ ap (λ (tokens : List RemoteToken). held_count name mine + remote_token_count name tokens) (told_held t s opposite side two one tells idle)
    ∙ ap (λ (n : ℕ). held_count name mine + n) (sym (held_told name (kept t opposite.history).tokens))

turned : (m n : ℕ) → m + n ≡ n + m
turned m n = omega arith

-- then both see the same
both_same : (s t : Settings) (a b : Side) → SideStands s a → SideStands t b → TellsTokens s t a b → TellsTokens t s b a → a.waiting ≡ [] → b.waiting ≡ []
    → view_of (kept s a.history) ≡ view_of (kept t b.history)
both_same s t a b one two forth back idle_a idle_b =
    let mine = (kept s a.history).tokens in
    let theirs = (kept t b.history).tokens in
    let view_a : IsView (view_of (kept s a.history)) = view_held mine (kept s a.history).heard one.stands.agrees.is in
    let view_b : IsView (view_of (kept t b.history)) = view_held theirs (kept t b.history).heard two.stands.agrees.is in
    same_counts (view_of (kept s a.history)) (view_of (kept t b.history)) view_a.ascend view_b.ascend view_a.there view_b.there
    (λ name.
    sees_all s t a b one two back idle_b name
    ∙ turned (held_count name mine) (held_count name theirs)
    ∙ sym (sees_all t s b a two one forth idle_a name))

-- the lines are of applications, and spelled
own_event : (e : Event) → IsMemberEvent e → is_net e ≡ false
own_event (Token key) fine = refl
own_event (Undeclare kind n) fine = refl
own_event e fine = absurd fine

own_lines : (lines : List LinkLine) → AreMemberLines lines → AreOwn (lines ++ first_links)
own_lines [] fine = (refl, (refl, tt))
own_lines (Take side e ∷ lines) fine = (own_event e fine.0, own_lines lines fine.1)
own_lines (Deliver from ∷ lines) fine = (tt, own_lines lines fine.1)

spelled_lines : (lines : List LinkLine) → all_scalars (chars (codes "group/*")) ≡ true → AreSpelledLines lines → AreSpelledLines (lines ++ first_links)
spelled_lines [] scalar spelled = (scalar, (scalar, tt))
spelled_lines (line ∷ lines) scalar spelled = (spelled.0, spelled_lines lines scalar spelled.1)

pub both_see : RemoteTokensAreDeclared → SidesSeeMembers
both_see told s lines aggregates first second fine spelled =
    let w = linked_after s (lines ++ first_links) in
    let both : BothStand s w.a w.b = both_stand s lines first second fine in
    let scalar : all_scalars (chars (codes "group/*")) ≡ true = scalars-chars (codes "group/*") (IsUtf8-from_ascii (codes "group/*") ascii) in
    let tells : BothTellTokens s w.a w.b = told s (lines ++ first_links) aggregates (own_lines lines fine) (spelled_lines lines scalar spelled) in
    record {
      of_a = sees s w.a both.of_a;
      of_b = sees (other s) w.b both.of_b;
      holds_a = holds s w.a both.of_a;
      holds_b = holds (other s) w.b both.of_b;
      all_a = sees_all s (other s) w.a w.b both.of_a both.of_b tells.back;
      all_b = sees_all (other s) s w.b w.a both.of_b both.of_a tells.forth;
      same = both_same s (other s) w.a w.b both.of_a both.of_b tells.forth tells.back;
    }
