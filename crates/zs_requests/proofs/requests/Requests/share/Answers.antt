use Rattle.std.proofs.Common.{◌≡◌, ℕ, ◌+◌, false, List, [], ◌∷◌, Some, refl, sym, ap, ◌∙◌, subst}
use Rattle.std.specs.Prelude.{Option}
use Rattle.zs_rows.specs.Ascending.{placed}
use Rattle.zs_rows.specs.Rows.{rows_of}
use Rattle.zs_rows.proofs.Numbered.{rows_placed}
use Rattle.zs_requests.specs.declared.query_value.QueryValue.{QueryValue}
use Rattle.zs_requests.specs.Unfinished.{Unfinished, are_used, shared}
use Rattle.zs_requests.specs.ValueRows.{AreFiled}
use Rattle.zs_requests.proofs.Requesting.{same_values, found_request}
use Rattle.zs_requests.proofs.Filed.{share_free, share_undone, filed_share}
use Rattle.zs_requests.proofs.requests.Requests.share.Goals as goal

pub insert-requires : goal.insert-requires
insert-requires c = share_free c.self.inside.handed c.args.new c.self.inside.values c.self.inside.requests c.self.invariant (ap (λ (u : Unfinished). are_used c.args.new (c.args.new + 1) u.values) c.self.view_is ∙ c.requires.unused)

pub invariant_of-self-in-Err : goal.invariant_of-self-in-Err
invariant_of-self-in-Err c =
    let unused : are_used c.args.new (c.args.new + 1) (rows_of c.self.inside.values) ≡ false = ap (λ (u : Unfinished). are_used c.args.new (c.args.new + 1) u.values) c.self.view_is ∙ c.requires.unused in
    let free = share_free c.self.inside.handed c.args.new c.self.inside.values c.self.inside.requests c.self.invariant unused in
    subst (λ (rows : List (ℕ × QueryValue)). AreFiled c.self.inside.handed rows c.forget.new.self) (sym c.in-Err.ensures.err)
    (share_undone c.self.inside.handed c.args.new (Some c.in_ok-made.made.request) c.self.inside.values c.self.inside.requests c.note.new.self c.forget.new.self c.self.invariant free c.in_ok-note.ensures.ok c.forget.ensures)

pub invariant_of-self-in_default-insert : goal.invariant_of-self-in_default-insert
invariant_of-self-in_default-insert c =
    let unused : are_used c.args.new (c.args.new + 1) (rows_of c.self.inside.values) ≡ false = ap (λ (u : Unfinished). are_used c.args.new (c.args.new + 1) u.values) c.self.view_is ∙ c.requires.unused in
    let free = share_free c.self.inside.handed c.args.new c.self.inside.values c.self.inside.requests c.self.invariant unused in
    filed_share c.self.inside.handed c.args.new c.in-Some.found.now c.in_ok-made.made c.self.inside.values c.insert.new.self c.self.inside.requests c.note.new.self c.self.invariant
    (ap (λ (v : QueryValue). v.value) c.in_ok-made.ensures) (ap (λ (v : QueryValue). v.request) c.in_ok-made.ensures)
    (found_request c.self.inside.handed c.args.value c.in-Some.found.now (rows_of c.self.inside.values) c.self.invariant.order.requests (sym c.in-Some.ensures))
    unused c.requires.number free c.in_default-insert.ensures.rows c.in_default-insert.ensures.found c.in_default-insert.ensures.ascending c.in_ok-note.ensures.ok

pub returns-clause-ok : goal.returns-clause-ok
returns-clause-ok c =
    let all = rows_of c.self.inside.values in
    rw (← c.self.view_is) (same_values refl
    (ap rows_of c.in_default-insert.ensures.rows
    ∙ (rows_placed (λ (v : QueryValue). v.value) c.args.new c.in_ok-made.made c.self.inside.values c.self.invariant.numbered
    ∙ (ap (λ (v : QueryValue). placed (λ (w : QueryValue). w.value) c.args.new (v ∷ []) all) c.in_ok-made.ensures
    ∙ ap (λ (o : Option QueryValue). shared c.args.new o all) c.in-Some.ensures))))
