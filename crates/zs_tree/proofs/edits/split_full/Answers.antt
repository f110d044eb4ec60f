use Rattle.std.proofs.Common.{◌≡◌, ◌+◌, ◌<◌, ℕ, suc, true, List, [], length, get_or, set, refl, sym, ap, ◌∙◌, subst, arith, add-one}
use Rattle.std.specs.Prelude.{nat_le}
use Rattle.std.specs.List.{insert}
use Rattle.std.proofs.lemmas.Bool.Decides.{nat_tests}
use Rattle.zs_tree.specs.declared.entry.Entry.{Entry}
use Rattle.zs_tree.specs.Blocks.{flat, AreFilled}
use Rattle.zs_tree.proofs.Blocks.{still_at, same_at, flat_split, filled_split}
use Rattle.zs_tree.proofs.edits.split_full.Goals as goal

many : (n : ℕ) → nat_le 256 n ≡ true → 1 < n
many n is = grind (arith, nat_tests, is)

-- the block before the new one is the one that was there
block_is : (at : ℕ) (b new : List Entry) (bs more : List (List Entry)) → at < length bs → b ≡ get_or more at b → more ≡ insert bs (at + 1) new → b ≡ get_or bs at b
block_is at b new bs more lt is inserted = is ∙ (ap (λ (xs : List (List Entry)). get_or xs at b) (inserted ∙ ap (λ (n : ℕ). insert bs n new) (add-one at)) ∙ still_at at new b bs lt)

full_block : (at : ℕ) (a b : List Entry) (bs : List (List Entry)) → at < length bs → a ≡ get_or bs at a → b ≡ get_or bs at b → nat_le 256 (length a) ≡ true → 1 < length b
full_block at a b bs lt a_is b_is full = subst (λ (es : List Entry). 1 < length es) (a_is ∙ (same_at at a b bs lt ∙ sym b_is)) (many (length a) full)

blocks_are : (at : ℕ) (first second new : List Entry) (bs more : List (List Entry)) → more ≡ insert bs (at + 1) new → new ≡ [] → set (set more at first) (at + 1) second ≡ set (set (insert bs (suc at) []) at first) (suc at) second
blocks_are at first second new bs more inserted none =
    ap (λ (xs : List (List Entry)). set (set xs at first) (at + 1) second) (inserted ∙ ap (λ (es : List Entry). insert bs (at + 1) es) none)
    ∙ ap (λ (n : ℕ). set (set (insert bs n []) at first) n second) (add-one at)

pub split_off-requires : goal.split_off-requires
split_off-requires c =
    full_block c.args.at c.index.result.now c.index_mut.result.now c.args.blocks.now.items c.requires.bound c.index.ensures
    (block_is c.args.at c.index_mut.result.now c.new-behind.result c.args.blocks.now.items c.insert.new.self.items c.requires.bound c.index_mut.ensures.value c.in_ok-insert.ensures.items)
    (sym c.is_full.ensures ∙ c.if-not-is_full.false)

pub returns-in-Ok-clause-same : goal.returns-in-Ok-clause-same
returns-in-Ok-clause-same c =
    let b = c.index_mut.result.now in
    let bs = c.args.blocks.now.items in
    let is = block_is c.args.at b c.new-behind.result bs c.insert.new.self.items c.requires.bound c.index_mut.ensures.value c.in_ok-insert.ensures.items in
    ap flat (blocks_are c.args.at c.split_off.new.self c.in-Ok.second c.new-behind.result bs c.insert.new.self.items c.in_ok-insert.ensures.items c.new-behind.ensures)
    ∙ flat_split c.args.at c.split_off.new.self c.in-Ok.second b bs c.requires.bound (sym is ∙ c.in-Ok.ensures.parts)

pub returns-in-Ok-clause-filled : goal.returns-in-Ok-clause-filled
returns-in-Ok-clause-filled c =
    subst AreFilled (sym (blocks_are c.args.at c.split_off.new.self c.in-Ok.second c.new-behind.result c.args.blocks.now.items c.insert.new.self.items c.in_ok-insert.ensures.items c.new-behind.ensures))
    (filled_split c.args.at c.split_off.new.self c.in-Ok.second c.args.blocks.now.items c.requires.bound c.in-Ok.ensures.some.0 c.in-Ok.ensures.some.1 c.requires.filled)
