use Rattle.std.proofs.Common.{rules, ◌≡◌, ◌++◌, ℕ, List, Bor, String, Global, ap, sym, ◌∙◌, append_assoc, map}
use Rattle.std.specs.String.{string_bytes}
use Rattle.std.specs.Map.Iter.{deref_pair}
use Rattle.std.proofs.lemmas.Map.Iter.{iter_end}
use Rattle.zs_store.specs.declared.entry.Entry.{Entry}
use Rattle.zs_store.specs.Entry.{seen}
use Rattle.zs_store.specs.Store.{Write, write_of}
use Rattle.zs_replica_lines.specs.Shown.{store_text, write_text}
use Rattle.zs_replica_lines.proofs.Printed.{one_write}
use Rattle.zs_replica_lines.proofs.printing.append_store.Goals as goal

pub entries-preserved : goal.entries-preserved
entries-preserved c =
    let before = string_bytes c.args.out.now in
    let number = c.args.number in
    let side = c.args.side.now in
    let pair : Bor (String Global) × Bor Entry = (c.in-Some.key, c.in-Some.entry) in
    let so_far = store_text number side (map write_of (map deref_pair c.entries.yielded)) in
    let more = write_text number side (write_of (deref_pair pair)) in
    c.in_ok-append_write.ensures
    ∙ ap (λ text. string_bytes c.entries.out ++ write_text number side (record { key = text; entry = seen c.in-Some.entry.now })) c.as_str.ensures.value
    ∙ ap (λ (es : List ℕ). es ++ more) c.entries.invariant
    ∙ append_assoc before so_far more
    ∙ ap (λ (es : List ℕ). before ++ es) (sym (one_write number side c.entries.yielded pair))

pub returns : goal.returns
returns c =
    let all : map deref_pair c.entries.yielded ≡ c.iter-key-items.result = search (rules, iter_end) in
    c.entries.invariant
    ∙ ap (λ (ws : List Write). string_bytes c.args.out.now ++ store_text c.args.number c.args.side.now ws) (ap (map write_of) all ∙ c.iter-key-items.ensures.entries)
