use Rattle.std.proofs.Common.{◌≡◌, Option, Some, None, refl, ap, ◌∙◌}
use Rattle.std.specs.Option.{option_map, option_copied}
use denote.Ref.{Bor}
use Rattle.zs_store.specs.declared.entry.Entry.{Entry}
use Rattle.zs_store.specs.Entry.{EntrySeen, seen}
use Rattle.zs_store.specs.Store.{found}
use Rattle.zs_store.proofs.Mapped.{found_row}
use Rattle.zs_store.proofs.store.Store.get.Goals as goal

behind : (r : Option (Bor Entry)) → option_map {T = Bor Entry} {U = EntrySeen} (λ e. seen e.now) r ≡ option_map seen (option_copied r)
behind None = refl
behind (Some e) = refl

pub returns : goal.returns
returns c =
    behind c.get.result
    ∙ (ap (option_map seen) c.get.ensures.value
    ∙ (found_row c.args.key.now c.self.inside.entries.entries ∙ ap (found c.args.key.now) c.self.view_is))
