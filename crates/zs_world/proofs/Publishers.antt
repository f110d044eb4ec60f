-- What a publisher is told to publish, where it is live and where it is not.
use Rattle.std.proofs.Common.{◌≡◌, ℕ, List, [], ◌∷◌, Bool, true, false, Option, Some, None, refl, ◌∙◌}
use Rattle.std.specs.Prelude.{◌==◌, ◌&&◌, ◌||◌, not, option_map, if◌then◌else◌}
use Rattle.zs_keys.specs.Text.{is_canonical}
use Rattle.zs_events.specs.declared.turn.Refusal.TheVariants.{NotFound, BadKeyExpr}
use Rattle.zs_events.specs.Kinds.{Publishes, OwnContent, Application, PublisherKey, said_by, publisher_named}
use Rattle.zs_events.specs.declared.update.Update.{Update}
use Rattle.zs_world.specs.declared.change.Decision.{Decision}
use Rattle.zs_model.specs.declared.publisher.PubRow.{PubRow}
use Rattle.zs_world.specs.declared.change.Change.TheVariants.{Nothing}
use Rattle.zs_world.specs.World.{World}
use Rattle.zs_model.specs.Publishers.{is_pub, pub_at, published_by, content_of}
use Rattle.zs_world.specs.Decisions.{decision_of, refused_if, first_cause, published_effects, published_decision}

-- one that is found is there, and one that is not found is not
found_there : (id : ℕ) (rows : List PubRow) (row : PubRow) → pub_at id rows ≡ Some row → is_pub id rows ≡ true
found_there id [] row found = cc
found_there id (r ∷ rows) row found = go (r.id == id) found (found_there id rows row)
  where
    go : (b : Bool) → (if b then Some r else pub_at id rows) ≡ Some row → (pub_at id rows ≡ Some row → is_pub id rows ≡ true)
        → (b || is_pub id rows) ≡ true
    go true found ih = refl
    go false found ih = ih found

pub missing_there : (id : ℕ) (rows : List PubRow) → pub_at id rows ≡ None → is_pub id rows ≡ false
missing_there id [] found = refl
missing_there id (r ∷ rows) found = go (r.id == id) found (missing_there id rows)
  where
    go : (b : Bool) → (if b then Some r else pub_at id rows) ≡ None → (pub_at id rows ≡ None → is_pub id rows ≡ false) → (b || is_pub id rows) ≡ false
    go true found ih = cc
    go false found ih = ih found

pub unpublished : (w : World) (id : ℕ) (c : Update) → pub_at id w.entities.pubs ≡ None → published_decision w id c ≡ decision_of (Some NotFound) None [] Nothing
unpublished w id c found = rw (found, missing_there id w.entities.pubs found) refl

-- the decision by what is found
abbrev decided : World → ℕ → Update → Option PubRow → Bool → Decision
decided w id c o there =
    decision_of
    (first_cause (record (said_by Application) { key = PublisherKey id; names = publisher_named id })
    (record { text = option_map (λ (row : PubRow). row.key.text) o; lives = there && true; claimed = true; owed = true; drawn = true; cancelled = false; disjoint = false; lacks = false; idle = false; spared = false }))
    None (published_effects w id (option_map (λ (row : PubRow). row.key.text) o) (content_of c o)) Nothing

canonical_decided : (w : World) (id : ℕ) (text : List ℕ) (p : Publishes) (b : Bool) → b ≡ true
    → decision_of (refused_if (not b) BadKeyExpr None) None (published_effects w id (Some text) p) Nothing
    ≡ decision_of None None (published_effects w id (Some text) p) Nothing
canonical_decided w id text p true is = refl
canonical_decided w id text p false is = cc

pub published : (w : World) (id : ℕ) (c : Update) (row : PubRow) → pub_at id w.entities.pubs ≡ Some row → is_canonical row.key.text ≡ true
    → published_decision w id c ≡ decision_of None None (published_effects w id (Some row.key.text) (OwnContent (published_by row c))) Nothing
published w id c row found canonical =
    let there : is_pub id w.entities.pubs ≡ true = found_there id w.entities.pubs row found in
    (λ i. decided w id c (found i) (there i)) ∙ canonical_decided w id row.key.text (OwnContent (published_by row c)) (is_canonical row.key.text) canonical
