-- Who is handed a publication: those that a walk over the tables finds, told by the plain filter.
use Rattle.std.proofs.Common.{◌≡◌, List, [], ◌∷◌, Bool, true, false, refl, ap, cond}
use Rattle.std.specs.Prelude.{◌&&◌, not, map, filter, if◌then◌else◌}
use Rattle.zs_keys.specs.Matching.{intersects}
use Rattle.zs_sample.specs.declared.locality.Locality.{Locality}
use Rattle.zs_sample.specs.declared.sample_fields.SampleFields.{SampleFields}
use Rattle.zs_subscriptions.specs.declared.subscriber.SubRow.{SubRow}
use Rattle.zs_subscriptions.specs.Recipients.{has_session, receives, recipients}
use Rattle.zs_model.specs.Publications.{Publication, allows, hands, hand_to, hands_to, reached}

-- those who pass one test are handed it where those who pass another, equal one receive it
same_hands : (p : Publication) (local : Bool) (rows : List SubRow) → ((row : SubRow) → allows p row ≡ receives local p.sample.key_expr.text row)
    → hands p rows ≡ hands_to p.sample (recipients local p.sample.key_expr.text rows)
same_hands p local [] same = refl
same_hands p local (row ∷ rows) same = go (allows p row) (receives local p.sample.key_expr.text row) (same row) (same_hands p local rows same)
  where
    go : (a r : Bool) → a ≡ r → hands p rows ≡ hands_to p.sample (recipients local p.sample.key_expr.text rows)
        → map (λ row. hand_to p.sample row.id) (cond a (row ∷ filter (allows p) rows) (filter (allows p) rows))
        ≡ map (hand_to p.sample) (map (λ row. row.id) (cond r (row ∷ filter (receives local p.sample.key_expr.text) rows) (filter (receives local p.sample.key_expr.text) rows)))
    go true true e ih = ap (λ fx. hand_to p.sample row.id ∷ fx) ih
    go false false e ih = ih
    go true false e ih = cc
    go false true e ih = cc

-- a publication that this session is no destination of reaches nobody here
no_hands : (destination : Locality) (sample : SampleFields) (rows : List SubRow) → has_session destination ≡ false
    → hands (record { local = true; destination = destination; sample = sample }) rows ≡ []
no_hands destination sample [] away = refl
no_hands destination sample (row ∷ rows) away = rw away (no_hands destination sample rows away)

-- any other one reaches those that take it
local_hands : (destination : Locality) (sample : SampleFields) (rows : List SubRow) → has_session destination ≡ true
    → hands (record { local = true; destination = destination; sample = sample }) rows ≡ hands_to sample (recipients true sample.key_expr.text rows)
local_hands destination sample rows here =
    same_hands (record { local = true; destination = destination; sample = sample }) true rows
    (λ row. ap (λ (b : Bool). (b && has_session row.origin) && intersects sample.key_expr.text row.key.text) here)

incoming_hands : (destination : Locality) (sample : SampleFields) (rows : List SubRow)
    → hands (record { local = false; destination = destination; sample = sample }) rows ≡ hands_to sample (recipients false sample.key_expr.text rows)
incoming_hands destination sample rows = same_hands (record { local = false; destination = destination; sample = sample }) false rows (λ row. refl)

-- so it is handed to those that it reaches
pub reached_hands : (local : Bool) (destination : Locality) (sample : SampleFields) (rows : List SubRow)
    → hands (record { local = local; destination = destination; sample = sample }) rows ≡ hands_to sample (reached local destination sample.key_expr.text rows)
reached_hands false destination sample rows = incoming_hands destination sample rows
reached_hands true destination sample rows = go (has_session destination) refl
  where
    go : (b : Bool) → has_session destination ≡ b
        → hands (record { local = true; destination = destination; sample = sample }) rows
        ≡ hands_to sample (if true && not b then [] else recipients true sample.key_expr.text rows)
    go true here = local_hands destination sample rows here
    go false away = no_hands destination sample rows away
