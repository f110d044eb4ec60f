use Rattle.std.proofs.Common.{◌∷◌, ◌∙◌, sym}
use Rattle.zs_tree.proofs.Beside.{apart_more, apart_itself, behind_of, stripped, by_behind}
use Rattle.zs_tree.proofs.code.beside_bytes.Goals as goal

pub returns-in-Less : goal.returns-in-Less
returns-in-Less c =
    λ rest. apart_more c.args.code.now c.args.chunk.now (0x2f ∷ rest) c.in_default.ensures.cases ∙ sym c.cmp.ensures ∙ c.in-Less.is

pub returns-in_default-cmp : goal.returns-in_default-cmp
returns-in_default-cmp c =
    let apart = c.in_default.ensures.cases in
    λ rest. apart_more c.args.code.now c.args.chunk.now (0x2f ∷ rest) apart ∙ sym c.cmp.ensures
    ∙ behind_of c.cmp.result c.in_default-cmp.not-Less (λ e. apart_itself c.args.code.now c.args.chunk.now apart (sym c.cmp.ensures ∙ e))

pub returns : goal.returns
returns c =
    let cases = c.in-Some.ensures.cases in
    by_behind c.args.chunk.now c.args.code.now c.in-Some.rest.now (λ rest. 0x2f ∷ rest) c.beside_slash.result
    (stripped c.args.code.now c.args.chunk.now c.in-Some.rest.now cases.0 cases.1) c.beside_slash.ensures
