-- A view that hears of an open session's one liveliness subscriber counts what the session was told.
use Rattle.std.proofs.Common.{◌≡◌, ℕ, Bool, true, false, List, [], ◌∷◌, Option, Some, None, refl, sym, ◌∙◌, ap, subst}
use Rattle.std.specs.Prelude.{◌==◌, not, find, filter, is_some, if◌then◌else◌}
use Rattle.std.specs.List.{list_any}
use Rattle.zs_keys.specs.Key.{undeclared}
use Rattle.zs_wire.specs.declared.sample_kind.SampleKind.TheVariants.{Put, Delete}
use Rattle.zs_subscriptions.specs.Ascending.{Ascend, placed_by}
use Rattle.zs_tables.specs.Types.{LivelinessGet, RemoteToken}
use Rattle.zs_model.specs.LivelinessEffects.{Watch, token_hands, declared_hands, ended_text, ended_hands}
use Rattle.zs_model.specs.Tokens.{is_remote_token, with_remote_token}
use Rattle.zs_members.specs.Members.{Member, count_of, changed}
use Rattle.zs_members.specs.Names.{name_in}
use Rattle.zs_group_lines.specs.Tokens.{heard, raised_in}
use Rattle.zs_group_lines.specs.Membership.{hearer}
use Rattle.zs_group_laws.specs.Groups.{hearer_row, stands_for, one_if, remote_token_count}
use Rattle.zs_group_laws.proofs.Viewing.{IsView, view_raised, view_lowered, put_raises, counts_raised, counts_lowered}
use Rattle.zs_group_laws.proofs.Counts.{one_told, without_none, one_ended}
use Rattle.zs_group_laws.proofs.Heard.{heard_token}

-- a view counts these told tokens
pub record Agrees (view : List Member) (tokens : List RemoteToken) : Type 0 where
  pub is : IsView view
  pub counts : (q : List ℕ) → count_of q view ≡ remote_token_count q tokens

-- behind a token that was told
agrees_raised : (view : List Member) (tokens : List RemoteToken) (n : ℕ) (text : List ℕ) → Agrees view tokens → list_any (λ t. t.number == n) tokens ≡ false
    → Agrees (raised_in (name_in text) view) (placed_by (λ t. t.number) (record { number = n; key = undeclared text }) tokens)
agrees_raised view tokens n text agrees new = record {
  is = view_raised (name_in text) view agrees.is;
  counts = λ q.
      counts_raised q (name_in text) view agrees.is.ascend
      ∙ ap (one_if (stands_for q (name_in text))) (agrees.counts q)
      ∙ sym (one_told q (record { number = n; key = undeclared text }) tokens new);
}

pub agrees_told : (watch : Watch) (gets : List LivelinessGet) (n : ℕ) (o : Option (List ℕ)) (view : List Member) → watch.subs ≡ hearer_row ∷ [] → Agrees view watch.remote_tokens
    → Agrees (heard hearer (declared_hands watch n None o) view) (with_remote_token gets n None o watch.remote_tokens)
agrees_told watch gets n None view one agrees = go (is_remote_token n watch.remote_tokens)
  where
    go : (b : Bool) → Agrees (heard hearer (if b then [] else token_hands Put false None watch.subs) view) watch.remote_tokens
    go true = agrees
    go false = agrees
agrees_told watch gets n (Some text) view one agrees = go (is_remote_token n watch.remote_tokens) refl
  where
    go : (b : Bool) → is_remote_token n watch.remote_tokens ≡ b
        → Agrees (heard hearer (if b then [] else token_hands Put false (Some text) watch.subs) view)
        (if b then watch.remote_tokens else placed_by (λ t. t.number) (record { number = n; key = undeclared text }) watch.remote_tokens)
    go true known = agrees
    go false new =
        subst (λ (v : List Member). Agrees v (placed_by (λ t. t.number) (record { number = n; key = undeclared text }) watch.remote_tokens))
        (sym (heard_token Put false text watch.subs view one ∙ put_raises (name_in text) view))
        (agrees_raised view watch.remote_tokens n text agrees new)

-- behind one that ended
agrees_lowered : (view : List Member) (tokens : List RemoteToken) (n : ℕ) (ended : RemoteToken) → Ascend (λ t. t.number) tokens → Agrees view tokens → find (λ t. t.number == n) tokens ≡ Some ended
    → Agrees (changed (name_in ended.key.text) Delete view) (filter (λ t. not (t.number == n)) tokens)
agrees_lowered view tokens n ended up agrees found = record {
  is = view_lowered (name_in ended.key.text) view agrees.is;
  counts = λ q.
      counts_lowered q (name_in ended.key.text) view (remote_token_count q (filter (λ (t : RemoteToken). not (t.number == n)) tokens)) agrees.is.ascend
      (agrees.counts q ∙ one_ended q n ended tokens up found);
}

pub agrees_ended : (watch : Watch) (n : ℕ) (interest : Option ℕ) (view : List Member) → watch.subs ≡ hearer_row ∷ [] → Ascend (λ t. t.number) watch.remote_tokens → Agrees view watch.remote_tokens
    → Agrees (heard hearer (ended_hands watch n interest None) view) (filter (λ t. not (t.number == n)) watch.remote_tokens)
agrees_ended watch n interest view one up agrees = go (find (λ (t : RemoteToken). t.number == n) watch.remote_tokens) refl
  where
    go : (o : Option RemoteToken) → find (λ (t : RemoteToken). t.number == n) watch.remote_tokens ≡ o
        → Agrees (heard hearer (token_hands Delete (is_some interest) (ended_text o None) watch.subs) view) (filter (λ t. not (t.number == n)) watch.remote_tokens)
    go None found = record {
      is = agrees.is;
      counts = λ q. agrees.counts q ∙ sym (without_none q n watch.remote_tokens found);
    }
    go (Some ended) found =
        subst (λ (v : List Member). Agrees v (filter (λ (t : RemoteToken). not (t.number == n)) watch.remote_tokens))
        (sym (heard_token Delete (is_some interest) ended.key.text watch.subs view one))
        (agrees_lowered view watch.remote_tokens n ended up agrees found)
