use Rattle.std.proofs.Common.{◌≡◌, Some, None, sym, refl, ap, ◌∙◌}
use Rattle.std.specs.Prelude.{List}
use Rattle.std.specs.Option.{option_map}
use Rattle.zs_query.specs.Marks.{Mark, mark_at}
use Rattle.zs_query.proofs.ByKey.{time_at_key, by_time}
use Rattle.zs_query.proofs.last_times.LastTimes.lets_pass.Goals as goal

pub returns-in-Some : goal.returns-in-Some
returns-in-Some c =
    let key = c.args.sample.now.key_expr.text in
    let found = rw c.key_expr.ensures at c.in-Some.ensures.value in
    let at : option_map (λ (m : Mark). m.timestamp) (mark_at key c.args.self.now) ≡ Some c.in-Some.last.now = ap (λ (ms : List Mark). option_map (λ (m : Mark). m.timestamp) (mark_at key ms)) (sym c.self.view_is) ∙ (time_at_key key c.self.inside.by_key.entries ∙ sym found) in
    rw (by_time, at, c.is_below.ensures, c.timestamp.ensures, c.as_ref.ensures.value) refl

pub returns-in-None : goal.returns-in-None
returns-in-None c =
    let key = c.args.sample.now.key_expr.text in
    let found = rw c.key_expr.ensures at c.in-None.ensures.value in
    let at : option_map (λ (m : Mark). m.timestamp) (mark_at key c.args.self.now) ≡ None = ap (λ (ms : List Mark). option_map (λ (m : Mark). m.timestamp) (mark_at key ms)) (sym c.self.view_is) ∙ (time_at_key key c.self.inside.by_key.entries ∙ sym found) in
    rw (by_time, at) refl
