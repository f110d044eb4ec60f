use Rattle.std.proofs.Common.{rules, lit<, refl, sym, ◌∙◌}
use Rattle.std.proofs.lemmas.Str.Pattern.{NoCharPasses-char, split_parts}
use Rattle.zs_keys.proofs.SqueezeLemmas.{squeezed_chunk-step, squeezed_chunk-whole}
use Rattle.zs_keys.proofs.canonize.squeezed_chunk.Goals as goal

pub loop-front-preserved : goal.loop-front-preserved
loop-front-preserved c =
    let (cut, none) = rw c.in-Some.is at (split_parts 0x24 c.loop-front.rest.now c.split_once.result c.split_once.ensures.cases (lit< tt)) in
    record {
      form = squeezed_chunk-step _ _ _ _ _ _ _ _ c.loop-front.invariant.form cut none c.in_ok-push_str.ensures.bytes c.in_ok-rest.ensures.0;
      utf8 = search rules;
    }

pub returns : goal.returns
returns c =
    c.in_ok-push_str-2.ensures.bytes
    ∙ sym (c.loop-front.invariant.form
    ∙ rw (squeezed_chunk-whole c.loop-front.rest.now (λ k small.
    NoCharPasses-char 0x24 c.loop-front.rest.now k c.in_default.ensures.cases (lit< tt) small)) refl)
