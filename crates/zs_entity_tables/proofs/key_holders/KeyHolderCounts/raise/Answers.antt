use Rattle.std.proofs.Common.{◌≡◌, ◌+◌, rules, nat_eq, ap, sym, ◌∙◌}
use Rattle.indexmap.specs.IndexMap.{insert_entry, shift_remove_entry}
use Rattle.zs_entity_tables.specs.DeclaredKeys.{holders_of, raised}
use Rattle.zs_entity_tables.specs.HolderCounts.{HolderCounts, held_rows}
use Rattle.zs_entity_tables.proofs.HolderCounts.{raised_more, raised_new}
use Rattle.zs_entity_tables.proofs.key_holders.KeyHolderCounts.raise.Goals as goal

pub returns-then-count-gt0 : goal.returns-then-count-gt0
returns-then-count-gt0 c =
    let es = c.self.inside.by_number.entries in
    let counted : c.of-count.result ≡ holders_of c.args.number (held_rows es) = c.of-count.ensures ∙ ap (λ (h : HolderCounts). holders_of c.args.number h.rows) (sym c.self.view_is) in
    let put : c.insert.new.self.entries ≡ insert_entry nat_eq es c.args.number (c.of-count.result + 1) = search rules in
    ap held_rows put
    ∙ raised_more c.args.number es c.self.invariant (c.of-count.result + 1) (search (rules, counted)) (ap (λ k. k + 1) counted)
    ∙ ap (λ (h : HolderCounts). raised c.args.number h.rows) c.self.view_is

pub returns : goal.returns
returns c =
    let es = c.self.inside.by_number.entries in
    let counted : c.of-count.result ≡ holders_of c.args.number (held_rows es) = c.of-count.ensures ∙ ap (λ (h : HolderCounts). holders_of c.args.number h.rows) (sym c.self.view_is) in
    let put : c.insert-2.new.self.entries ≡ insert_entry nat_eq (shift_remove_entry (nat_eq c.args.number) es) c.args.number 1 = search rules in
    ap held_rows put
    ∙ raised_new c.args.number es c.self.invariant (search (rules, counted))
    ∙ ap (λ (h : HolderCounts). raised c.args.number h.rows) c.self.view_is
