use Rattle.std.proofs.Common.{◌≡◌, Bor, rules}
use Rattle.std.specs.declared.cmp.Ordering.{Ordering}
use Rattle.std.proofs.lemmas.Fn.{always_returns_same}
use Rattle.zs_tree.specs.declared.entry.Entry.{Entry}
use Rattle.zs_tree.specs.Code.{code_of}
use Rattle.zs_tree.specs.Entries.{entry_cmp}
use Rattle.zs_tree.proofs.EditLemmas.{searched}
use Rattle.zs_tree.proofs.edits.place_of.Goals as goal

pub returns : goal.returns
returns c =
    let facts = c.binary_search_by.ensures in
    let code = code_of c.args.text.now in
    searched code c.args.id c.args.entries.now c.requires _ facts.bound
    (facts.position (entry_cmp code c.args.id) (always_returns_same _ (λ (a : Bor Entry × Unit {0}) (r : Ordering). r ≡ entry_cmp code c.args.id a.0.now) _ (λ a r g called. search rules)))
