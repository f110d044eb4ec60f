use Rattle.std.proofs.Common.{rules, ◌≡◌, ◌++◌, List, Bor, String, Global, ap, sym, ◌∙◌, append_assoc, map}
use Rattle.std.specs.Map.Iter.{deref_pair}
use Rattle.std.proofs.lemmas.Map.Iter.{iter_end}
use Rattle.zs_events.specs.declared.event.Event.{Event}
use Rattle.zs_store.specs.declared.entry.Entry.{Entry}
use Rattle.zs_store.specs.Entry.{seen}
use Rattle.zs_store.specs.Store.{Write, write_of}
use Rattle.zs_keeping.specs.Answering.{replies_of, reply_if}
use Rattle.zs_keeping.proofs.Replies.{one_reply}
use Rattle.zs_keeping.proofs.answering.push_replies.Goals as goal

pub entries-preserved : goal.entries-preserved
entries-preserved c =
    let before = c.args.events.now.items in
    let value = c.args.value in
    let key = c.args.key.now in
    let pair : Bor (String Global) × Bor Entry = (c.in-Some.text, c.in-Some.entry) in
    let so_far = replies_of value key (map write_of (map deref_pair c.entries.yielded)) in
    let more = reply_if value key (write_of (deref_pair pair)) in
    c.in_ok-push_reply.ensures
    ∙ ap (λ text. c.entries.events.items ++ reply_if value key (record { key = text; entry = seen c.in-Some.entry.now })) c.as_str.ensures.value
    ∙ ap (λ (es : List Event). es ++ more) c.entries.invariant
    ∙ append_assoc before so_far more
    ∙ ap (λ (es : List Event). before ++ es) (sym (one_reply value key c.entries.yielded pair))

pub returns : goal.returns
returns c =
    let all : map deref_pair c.entries.yielded ≡ c.iter-text-items.result = search (rules, iter_end) in
    c.entries.invariant
    ∙ ap (λ (ws : List Write). c.args.events.now.items ++ replies_of c.args.value c.args.key.now ws) (ap (map write_of) all ∙ c.iter-text-items.ensures.entries)
