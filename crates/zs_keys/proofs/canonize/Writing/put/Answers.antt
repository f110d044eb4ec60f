use Rattle.std.proofs.Common.{◌∷◌, ap, sym, ◌∙◌}
use Rattle.std.specs.Prelude.{string_bytes, if◌then◌else◌}
use Rattle.zs_keys.specs.Canonize.{ordered_chunks, sink}
use Rattle.zs_keys.specs.Writing.{with_chunks}
use Rattle.zs_keys.proofs.OrderLemmas.{run-waits, star-first, other-first}
use Rattle.zs_keys.proofs.canonize.Writing.put.Goals as goal

pub returns-then-eq : goal.returns-then-eq
returns-then-eq c = λ cs.
    ap (with_chunks c.args.self.now.is_first (string_bytes c.args.self.now.text))
    (sym (run-waits c.args.self.now.has_run c.args.chunk.now cs (sym c.if-eq.ensures)))

pub returns-then-eq-2 : goal.returns-then-eq-2
returns-then-eq-2 c = λ cs.
    rw c.in_ok-push.ensures.run
    (c.in_ok-push.ensures.text (if c.args.self.now.has_run then sink (ordered_chunks cs) else ordered_chunks cs)
    ∙ ap (with_chunks c.args.self.now.is_first (string_bytes c.args.self.now.text))
    (sym (star-first c.args.self.now.has_run c.args.chunk.now cs (sym c.if-eq.ensures) (sym c.if-eq-2.ensures))))

pub returns : goal.returns
returns c = λ cs.
    rw (c.in_ok-push-2.ensures.run, c.in_ok-put_run.ensures.run)
    (c.in_ok-push-2.ensures.text (ordered_chunks cs)
    ∙ c.in_ok-put_run.ensures.text (c.args.chunk.now ∷ ordered_chunks cs)
    ∙ ap (with_chunks c.args.self.now.is_first (string_bytes c.args.self.now.text))
    (sym (other-first c.args.self.now.has_run c.args.chunk.now cs (sym c.if-eq.ensures) (sym c.if-eq-2.ensures))))
