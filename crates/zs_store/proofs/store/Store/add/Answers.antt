use Rattle.std.proofs.Common.{◌≡◌, map, ap, ◌∙◌}
use Rattle.std.specs.Prelude.{None}
use Rattle.std.specs.String.{string_bytes}
use Rattle.zs_store.specs.Entry.{seen}
use Rattle.zs_store.specs.Store.{found, merged, write_of}
use Rattle.zs_store.proofs.Mapped.{put_new, when_ok, no_ok}
use Rattle.zs_store.proofs.store.Store.add.Goals as goal
use Rattle.zs_store.proofs.store.Store.add.Goals.{in-Ok, in-Err}

pub returns-clause-store : goal.returns-clause-store
returns-clause-store c =
    let rows = c.self.inside.entries.entries in
    let text = c.in_ok-text.text in
    let is : string_bytes text ≡ c.args.key.now.text = c.in_ok-text.ensures.ok ∙ c.as_str.ensures.text in
    let absent : found (string_bytes text) (map write_of rows) ≡ None = ap (λ k. found k (map write_of rows)) is ∙ (ap (found c.args.key.now.text) c.self.view_is ∙ c.requires) in
    let stored : Type 0 = map write_of c.insert.new.self.entries ≡ merged (record { key = c.args.key.now.text; entry = seen c.args.entry }) c.args.self.now in
    elim c.match-insert.branch [
      | in-Ok w ↦ when_ok c.match-insert.result
          (ap (map write_of) w.in-Ok.ensures.entries
          ∙ (put_new text c.args.entry rows absent
          ∙ (ap (λ k. merged (record { key = k; entry = seen c.args.entry }) (map write_of rows)) is
          ∙ ap (merged (record { key = c.args.key.now.text; entry = seen c.args.entry })) c.self.view_is)))
      | in-Err w ↦ no_ok stored c.match-insert.result _ w.result-is
    ]
