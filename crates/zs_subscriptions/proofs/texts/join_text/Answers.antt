use Rattle.std.proofs.Common.{rules}
use Rattle.zs_subscriptions.proofs.Indexing.{joined_in, joined_new, same_in, on_ok, on_err}
use Rattle.zs_subscriptions.proofs.texts.join_text.Goals as goal

pub returns-in-Some-clause-ok : goal.returns-in-Some-clause-ok
returns-in-Some-clause-ok c =
    let now = c.put_number.new.numbers in
    on_ok c.put_number.result (joined_in c.args.texts.now _ c.args.text.now c.args.number c.in-Some.numbers.now now c.in-Some.ensures.value ((c.get_mut.follows.holds now).3 (search rules))) c.put_number.ensures.ok

pub returns-in-Some-clause-err : goal.returns-in-Some-clause-err
returns-in-Some-clause-err c =
    let now = c.put_number.new.numbers in
    on_err c.put_number.result (same_in c.args.texts.now _ c.args.text.now c.in-Some.numbers.now now c.in-Some.ensures.value ((c.get_mut.follows.holds now).3 (search rules))) c.put_number.ensures.err

pub returns-clause-ok : goal.returns-clause-ok
returns-clause-ok c =
    let updates = rw c.get_mut.follows.holds-at-none at c.in_ok-insert.ensures.updates in
    joined_new c.args.texts.now _ c.args.text.now c.args.number c.in_ok-from_str.field-0 c.in_ok-numbers.numbers c.in_default.ensures.value c.in_ok-from_str.ensures.ok updates c.in_ok-numbers.ensures
