-- The first cause, by tests one after the other, is the first in order of those that hold.
use Rattle.std.proofs.Common.{◌≡◌, List, [], ◌∷◌, Bool, true, false, Option, Some, None, refl, sym, ◌∙◌, ap}
use Rattle.std.specs.Prelude.{if◌then◌else◌}
use Rattle.zs_events.specs.declared.turn.Refusal.{Refusal}
use Rattle.zs_events.specs.declared.turn.Refusal.TheVariants.{SessionClosedError, NotFound, UnknownScope, BadKeyExpr, QueryCancelled, ReplyDisjoint, NotDeclared, IdsExhausted, Ignored}
use Rattle.zs_events.specs.Kinds.{Speaker, Application, Anytime, Network, Row}
use Rattle.zs_model.specs.Seen.{Sight, is_not_found, is_unknown, is_bad_key}
use Rattle.zs_model.specs.Causes.{wants_open, is_net, holds, in_order, first_that}
use Rattle.zs_world.specs.Decisions.{refused_if, first_cause, refused_closed}
use Rattle.zs_standing.specs.Laws.{Names}

pub is_first : (closed : Bool) (row : Row) (seen : Sight)
    → (if closed then refused_closed row.says else first_cause row seen) ≡ first_that (holds closed row seen) in_order
is_first true row seen = go row.says
  where
    go : (speaker : Speaker) → refused_closed speaker ≡ (if wants_open speaker then Some SessionClosedError else if is_net speaker then Some Ignored else None)
    go Application = refl
    go Anytime = refl
    go Network = refl
is_first false row seen = go (is_not_found row seen) (is_unknown row seen) (is_bad_key seen) seen.cancelled seen.disjoint row.gives_part seen.lacks seen.idle
  where
    go : (a b c q r d e f : Bool)
        → refused_if a NotFound (refused_if b UnknownScope (refused_if c BadKeyExpr (refused_if q QueryCancelled (refused_if r ReplyDisjoint (refused_if d NotDeclared (refused_if e IdsExhausted (refused_if f Ignored None)))))))
        ≡ (if a then Some NotFound else if b then Some UnknownScope else if c then Some BadKeyExpr else if q then Some QueryCancelled else if r then Some ReplyDisjoint else if d then Some NotDeclared else if e then Some IdsExhausted else if f then Some Ignored else None)
    go true b c q r d e f = refl
    go false true c q r d e f = refl
    go false false true q r d e f = refl
    go false false false true r d e f = refl
    go false false false false true d e f = refl
    go false false false false false true e f = refl
    go false false false false false false true f = refl
    go false false false false false false false true = refl
    go false false false false false false false false = refl

-- the first that passes a test passes it
first_names : (test : Refusal → Bool) (order : List Refusal) (refusal : Refusal) → first_that test order ≡ Some refusal → test refusal ≡ true
first_names test [] refusal found = cc
first_names test (r ∷ order) refusal found = go (test r) refl found (first_names test order refusal)
  where
    go : (b : Bool) → test r ≡ b → (if b then Some r else first_that test order) ≡ Some refusal → (first_that test order ≡ Some refusal → test refusal ≡ true) → test refusal ≡ true
    go true t found ih = let same : r ≡ refusal = cc in ap test (sym same) ∙ t
    go false t found ih = ih found

-- where none is first, none that stands in the list passes
none_next : (test : Refusal → Bool) (r : Refusal) (order : List Refusal) → first_that test (r ∷ order) ≡ None → (test r ≡ false) × (first_that test order ≡ None)
none_next test r order none = go (test r) refl none
  where
    go : (b : Bool) → test r ≡ b → (if b then Some r else first_that test order) ≡ None → (test r ≡ false) × (first_that test order ≡ None)
    go true t none = cc
    go false t none = (t, none)

none_passes : (test : Refusal → Bool) → first_that test in_order ≡ None → (refusal : Refusal) → test refusal ≡ false
none_passes test none refusal =
    let a = none_next test SessionClosedError (NotFound ∷ UnknownScope ∷ BadKeyExpr ∷ QueryCancelled ∷ ReplyDisjoint ∷ NotDeclared ∷ IdsExhausted ∷ Ignored ∷ []) none in
    let b = none_next test NotFound (UnknownScope ∷ BadKeyExpr ∷ QueryCancelled ∷ ReplyDisjoint ∷ NotDeclared ∷ IdsExhausted ∷ Ignored ∷ []) (a.1) in
    let c = none_next test UnknownScope (BadKeyExpr ∷ QueryCancelled ∷ ReplyDisjoint ∷ NotDeclared ∷ IdsExhausted ∷ Ignored ∷ []) (b.1) in
    let d = none_next test BadKeyExpr (QueryCancelled ∷ ReplyDisjoint ∷ NotDeclared ∷ IdsExhausted ∷ Ignored ∷ []) (c.1) in
    let e = none_next test QueryCancelled (ReplyDisjoint ∷ NotDeclared ∷ IdsExhausted ∷ Ignored ∷ []) (d.1) in
    let f = none_next test ReplyDisjoint (NotDeclared ∷ IdsExhausted ∷ Ignored ∷ []) (e.1) in
    let g = none_next test NotDeclared (IdsExhausted ∷ Ignored ∷ []) (f.1) in
    let h = none_next test IdsExhausted (Ignored ∷ []) (g.1) in
    let i = none_next test Ignored [] (h.1) in
    go a.0 b.0 c.0 d.0 e.0 f.0 g.0 h.0 i.0 refusal
  where
    go : test SessionClosedError ≡ false → test NotFound ≡ false → test UnknownScope ≡ false → test BadKeyExpr ≡ false → test QueryCancelled ≡ false
        → test ReplyDisjoint ≡ false → test NotDeclared ≡ false → test IdsExhausted ≡ false → test Ignored ≡ false → (r : Refusal) → test r ≡ false
    go a b c d e f g h i SessionClosedError = a
    go a b c d e f g h i NotFound = b
    go a b c d e f g h i UnknownScope = c
    go a b c d e f g h i BadKeyExpr = d
    go a b c d e f g h i QueryCancelled = e
    go a b c d e f g h i ReplyDisjoint = f
    go a b c d e f g h i NotDeclared = g
    go a b c d e f g h i IdsExhausted = h
    go a b c d e f g h i Ignored = i

-- a refusal that is the first in order names a cause, and none means that none holds
pub names_first : (test : Refusal → Bool) (o : Option Refusal) → o ≡ first_that test in_order → Names test o
names_first test (Some refusal) is = first_names test in_order refusal (sym is)
names_first test None is = none_passes test (sym is)
