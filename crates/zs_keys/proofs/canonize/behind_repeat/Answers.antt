use Rattle.std.proofs.Common.{length, ap, sym, lit<, arith}
use Rattle.std.specs.Prelude.{codes}
use Rattle.std.proofs.lemmas.Str.Pattern.{strip_prefix_char, starts_text}
use Rattle.zs_keys.proofs.SqueezeLemmas.{squeezed_chunk-behind, squeezed_chunk-single, squeezed_chunk-no_star}
use Rattle.zs_keys.proofs.canonize.behind_repeat.Goals as goal

pub returns-in_default : goal.returns-in_default
returns-in_default c =
    squeezed_chunk-no_star c.args.back.now
    (rw c.in_default.is at (strip_prefix_char 0x2a c.args.back.now c.strip_prefix.result c.strip_prefix.ensures.cases (lit< tt)))

pub returns-then-not-starts_with : goal.returns-then-not-starts_with
returns-then-not-starts_with c =
    let cut = rw c.in-Some.is at (strip_prefix_char 0x2a c.args.back.now c.strip_prefix.result c.strip_prefix.ensures.cases (lit< tt)) in
    squeezed_chunk-single c.args.back.now c.in-Some.behind.now cut
    (sym (starts_text _ (codes "$*") c.in-Some.behind.now c.if-not-starts_with.ensures.cases))

pub returns : goal.returns
returns c =
    let cut = rw c.in-Some.is at (strip_prefix_char 0x2a c.args.back.now c.strip_prefix.result c.strip_prefix.ensures.cases (lit< tt)) in (
      squeezed_chunk-behind c.args.back.now c.in-Some.behind.now cut
          (sym (starts_text _ (codes "$*") c.in-Some.behind.now c.if-not-starts_with.ensures.cases)),
      omega (arith, ap length cut),
    )
