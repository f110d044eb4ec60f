use Rattle.std.proofs.Common.{◌≡◌, false, get_or, ap, sym, ◌∙◌}
use Rattle.std.proofs.lemmas.List.Folds.{list_all-map, list_all_at}
use Rattle.zs_event_lines.specs.Slots.{slot_says}
use Rattle.zs_event_lines.specs.Views.{slot_of}
use Rattle.zs_event_lines.specs.declared.shown.Shown.{Shown}
use Rattle.zs_event_lines.proofs.lines.all_say.Goals as goal

pub returns-then-not-says : goal.returns-then-not-says
returns-then-not-says c =
    let here : slot_says (slot_of (get_or c.args.parts.now c.loop-part.part-index c.part-item.result)) ≡ false =
    ap (λ (part : Shown). slot_says (slot_of part)) (sym c.part-item.is) ∙ (sym c.says.ensures ∙ c.if-not-says.true) in
    sym (list_all-map slot_says slot_of c.args.parts.now
    ∙ list_all_at (λ (part : Shown). slot_says (slot_of part)) c.args.parts.now c.loop-part.part-index c.part-item.result
    c.loop-part-test.true here)
