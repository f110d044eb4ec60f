use Rattle.std.proofs.Common.{◌≡◌, length}
use Rattle.std.specs.Prelude.{filter, not}
use Rattle.zs_liveliness.specs.declared.liveliness_get.LivelinessGet.{LivelinessGet}
use Rattle.zs_liveliness.specs.LivelinessGets.{is_over}
use Rattle.zs_liveliness.proofs.liveliness_gets.LivelinessGets.advance.Given as goal

abbrev pub invariant-gets : goal.invariant-gets
invariant-gets l = filter (λ (g : LivelinessGet). not (is_over l.now g)) l.self-inside.gets ≡ filter (λ (g : LivelinessGet). not (is_over l.now g)) l.fn.self

abbrev pub decreases-gets : goal.decreases-gets
decreases-gets l = length l.self-inside.gets
