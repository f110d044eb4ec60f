use Rattle.std.proofs.Common.{◌≡◌, sym, ap, ◌∙◌}
use Rattle.std.specs.Prelude.{Result}
use Rattle.std.specs.Map.{values_of}
use Rattle.zs_keys.specs.Key.{Key}
use Rattle.zs_sample.specs.declared.sample_fields.SampleFields.{SampleFields}
use Rattle.zs_sample.specs.ErrorFields.{ErrorFields}
use Rattle.zs_query.specs.Marks.{key_of, mark_of_result}
use Rattle.zs_query.specs.Kept.{put}
use Rattle.zs_query.proofs.ByKey.{values_put, own_put}
use Rattle.zs_query.proofs.kept_replies.KeptReplies.put.Goals as goal
use Rattle.zs_query.proofs.kept_replies.KeptReplies.put.Goals.{Joined-branch-3}

-- the key is that of the reply
key_is : (c : Joined-branch-3) → c.in_ok-key.key.text ≡ key_of c.args.reply
key_is c = ap (λ (k : Key). k.text) (c.in_ok-key.ensures ∙ c.key_expr.ensures) ∙ sym (ap (λ (r : Result SampleFields ErrorFields). (mark_of_result r).key) c.in-Ok.ensures)

pub invariant_of-self-2 : goal.invariant_of-self-2
invariant_of-self-2 c = rw c.in_ok-insert.ensures.entries (own_put c.in_ok-key.key c.args.reply c.self.inside.by_key.entries (key_is c) c.self.invariant)

pub returns-clause-ok : goal.returns-clause-ok
returns-clause-ok c = ap values_of c.in_ok-insert.ensures.entries ∙ (values_put c.in_ok-key.key c.args.reply c.self.inside.by_key.entries (key_is c) c.self.invariant ∙ ap (put key_of c.args.reply) c.self.view_is)
