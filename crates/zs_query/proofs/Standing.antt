-- The laws.
use Rattle.std.proofs.Common.{◌≡◌, Bool, true, false, List, [], ◌∷◌, ◌++◌, refl, sym, ap, ◌∙◌, arith}
use Rattle.std.specs.Prelude.{map, if◌then◌else◌}
use Rattle.zs_wire.specs.declared.request.ConsolidationMode.{ConsolidationMode}
use Rattle.zs_wire.specs.declared.request.ConsolidationMode.TheVariants as by
use Rattle.zs_sample.specs.Reply.{Replied}
use Rattle.zs_query.specs.declared.get_row.GetRow.{GetRow}
use Rattle.zs_query.specs.declared.open_get.OpenGet.{OpenGet}
pub use Rattle.zs_requests.proofs.Requesting.{placed_last}
use Rattle.zs_query.specs.Marks.{Mark, mark_of, key_of}
use Rattle.zs_query.specs.Kept.{passes_all, kept, put}
use Rattle.zs_query.specs.Gets.{takes_key, peek_by, peek_get, after_reply, noted}
use Rattle.zs_query.specs.Laws.{kept_in, passed_in, get_after, peek_in, StandsForReplies}
use Rattle.zs_query.proofs.Keeping.{kept_more, passes_kept, marks_of_put}

-- a get with its replies, by a mode
abbrev with_replies : ConsolidationMode → GetRow → List Replied → OpenGet
with_replies mode row replies = record { row = row; kept = kept_in mode replies; passed = passed_in mode replies }

peek_is : (mode : ConsolidationMode) (row : GetRow) (replies : List Replied) (reply : Replied) → peek_by mode (with_replies mode row replies) reply ≡ peek_in mode (passes_all replies reply)
peek_is by.Auto row replies reply = refl
peek_is by.None row replies reply = refl
peek_is by.Monotonic row replies reply = ap (peek_in by.Monotonic) (passes_kept reply replies)
peek_is by.Latest row replies reply = ap (peek_in by.Latest) (passes_kept reply replies)

abbrev get_with : GetRow → List Replied → List Mark → OpenGet
get_with row kept passed = record { row = row; kept = kept; passed = passed }

-- a get after a reply that comes to what its mode says
after_is : (mode : ConsolidationMode) (row : GetRow) (replies : List Replied) (reply : Replied) → row.mode ≡ mode → (pass : Bool) → passes_all replies reply ≡ pass → kept (reply ∷ replies) ≡ (if pass then put key_of reply (kept replies) else kept replies) → after_reply (peek_in mode pass) reply (with_replies mode row replies) ≡ with_replies mode row (reply ∷ replies)
after_is by.Auto row replies reply is pass p more = ap (λ (m : ConsolidationMode). get_with row [] (noted m (mark_of reply) [])) is
after_is by.None row replies reply is pass p more = ap (λ (m : ConsolidationMode). get_with row [] (noted m (mark_of reply) [])) is
after_is by.Monotonic row replies reply is true p more =
    ap (λ (m : ConsolidationMode). get_with row [] (noted m (mark_of reply) (map mark_of (kept replies)))) is ∙ ap (get_with row []) (sym (marks_of_put reply (kept replies)) ∙ ap (map mark_of) (sym more))
after_is by.Monotonic row replies reply is false p more = ap (λ (k : List Replied). get_with row [] (map mark_of k)) (sym more)
after_is by.Latest row replies reply is true p more = ap (λ (k : List Replied). get_with row k []) (sym more)
after_is by.Latest row replies reply is false p more = ap (λ (k : List Replied). get_with row k []) (sym more)

pub stands : (row : GetRow) (replies : List Replied) (reply : Replied) → takes_key row (key_of reply) ≡ true → StandsForReplies row replies reply
stands row replies reply takes = record {
  outcome = named;
  after = ap (λ p. after_reply p reply (get_after row replies)) named ∙ after_is row.mode row replies reply refl (passes_all replies reply) refl (kept_more reply replies);
}
  where
    named : peek_get (get_after row replies) reply ≡ peek_in row.mode (passes_all replies reply)
    named = rw takes (peek_is row.mode row replies reply)
