use Rattle.std.proofs.Common.{◌≡◌, ℕ, List, ap, ◌∙◌}
use Rattle.std.specs.Prelude.{map, Option}
use Rattle.zs_keys.specs.Key.{Key}
use Rattle.zs_wire.specs.declared.origin.Timestamp.{Timestamp}
use Rattle.zs_query.specs.Marks.{Mark}
use Rattle.zs_query.specs.Kept.{put}
use Rattle.zs_query.specs.ByKey.{mark_of_entry}
use Rattle.zs_query.proofs.ByKey.{marks_put}
use Rattle.zs_query.proofs.last_times.LastTimes.put.Goals as goal

-- two marks of one key and one timestamp are put alike
put_alike : {key key' : List ℕ} {time time' : Option Timestamp} {marks marks' : List Mark} → key ≡ key' → time ≡ time' → marks ≡ marks' → put (λ (m : Mark). m.key) (record { key = key; timestamp = time }) marks ≡ put (λ (m : Mark). m.key) (record { key = key'; timestamp = time' }) marks'
put_alike p q r = λ i. put (λ (m : Mark). m.key) (record { key = p i; timestamp = q i }) (r i)

pub returns-clause-ok : goal.returns-clause-ok
returns-clause-ok c =
    ap (map mark_of_entry) c.in_ok-insert.ensures.entries
    ∙ (marks_put c.in_ok-key.key c.copied.result c.self.inside.by_key.entries
    ∙ put_alike (ap (λ (k : Key). k.text) (c.in_ok-key.ensures ∙ c.key_expr.ensures)) (c.copied.ensures ∙ c.timestamp.ensures) c.self.view_is)
