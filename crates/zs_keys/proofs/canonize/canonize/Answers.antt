use Rattle.std.proofs.Common.{map, [], ap, sym, ◌∙◌}
use Rattle.std.specs.Prelude.{string_bytes}
use Rattle.zs_keys.specs.Text.{chunks}
use Rattle.zs_keys.specs.Canonize.{canonized_chunk, ordered_chunks}
use Rattle.zs_keys.specs.Writing.{with_chunks}
use Rattle.zs_keys.proofs.OrderLemmas.{chunks-all, waiting-none}
use Rattle.zs_keys.proofs.canonize.canonize.Goals as goal

pub loop-chunk-init : goal.loop-chunk-init
loop-chunk-init c =
    rw (c.new.ensures.bytes, c.of-rest.ensures) (sym (chunks-all (ordered_chunks (map canonized_chunk (chunks c.args.text.now)))))

pub returns : goal.returns
returns c =
    c.in_ok-put_run.ensures.text []
    ∙ ap (with_chunks c.loop-chunk.form.is_first (string_bytes c.loop-chunk.form.text)) (sym (waiting-none c.loop-chunk.form.has_run))
    ∙ sym (rw c.in_default.ensures at c.loop-chunk.invariant)
