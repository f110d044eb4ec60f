use Rattle.std.proofs.Common.{◌≡◌, Option, refl, sym, subst}
use Rattle.std.specs.Arc.{arc_value}
use Rattle.std.specs.Option.{option_map}
use Rattle.zs_posts.specs.declared.key.Name.{Name}
use Rattle.zs_exchange.specs.Begun.{closed}
use Rattle.zs_posts.specs.Settled.{taken_out}
use Rattle.zs_posts.proofs.Opening.{opened_out}
use Rattle.zs_exchange.proofs.beginning.open.Goals as goal

pub returns-in-Ok-clause-closes : goal.returns-in-Ok-clause-closes
returns-in-Ok-clause-closes g c =
    subst (λ (n : Option Name). closed n c.open.new.self ≡ c.args.posts.now) (sym c.in-Some.is)
    (opened_out c.in-Some.name (option_map arc_value c.args.handler.now) c.args.posts.now c.open.new.self (taken_out c.in-Some.name.key c.open.new.self) c.in-Ok.ensures.ok c.in-Ok.ensures.none refl)
