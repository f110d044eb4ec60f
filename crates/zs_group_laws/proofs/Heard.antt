-- What a view hears of effects.
use Rattle.std.proofs.Common.{◌≡◌, ℕ, Bool, true, false, List, [], ◌∷◌, ◌++◌, Option, Some, None, refl, sym, ◌∙◌, ap, cond}
use Rattle.std.specs.Prelude.{map, filter, not, ◌&&◌, codes}
use Rattle.zs_keys.specs.Matching.{intersects}
use Rattle.zs_wire.specs.declared.sample_kind.SampleKind.{SampleKind}
use Rattle.zs_tables.specs.Types.{LivelinessSub}
use Rattle.zs_tables.specs.declared.listener.ListenerRow.{ListenerRow}
use Rattle.zs_tables.specs.MatchingLaws.{differ}
use Rattle.zs_events.specs.declared.turn.Effect.{Effect}
use Rattle.zs_events.specs.declared.turn.Effect.TheVariants.{Matching, End}
use Rattle.zs_events.specs.declared.turn.Kind.TheVariants.{Listener}
use Rattle.zs_model.specs.Entry.{Entry}
use Rattle.zs_model.specs.Listeners.{is_listener, listener_ends}
use Rattle.zs_model.specs.Live.{live_listeners}
use Rattle.zs_model.specs.Matching.{is_matched, turned, listener_effects}
use Rattle.zs_model.specs.LivelinessEffects.{token_hands, hand_token}
use Rattle.zs_members.specs.Members.{Member, changed}
use Rattle.zs_members.specs.Names.{name_in}
use Rattle.zs_group_lines.specs.Tokens.{heard, heard_effect}
use Rattle.zs_group_lines.specs.Membership.{hearer}
use Rattle.zs_group_laws.specs.Groups.{hearer_row}
use Rattle.zs_group_laws.proofs.Naming.{key_meets}

pub heard_append : (id : ℕ) (xs ys : List Effect) (view : List Member) → heard id (xs ++ ys) view ≡ heard id ys (heard id xs view)
heard_append id [] ys view = refl
heard_append id (x ∷ xs) ys view = heard_append id xs ys (heard_effect id x view)

-- effects of which a view hears nothing
abbrev pub IsSilent : List Effect → Type 0
IsSilent fx = (id : ℕ) (view : List Member) → heard id fx view ≡ view

pub silent_append : (xs ys : List Effect) → IsSilent xs → IsSilent ys → IsSilent (xs ++ ys)
silent_append xs ys first second id view = heard_append id xs ys view ∙ second id (heard id xs view) ∙ first id view

silent_map : {X : Type 0} (f : X → Effect) → ((x : X) (id : ℕ) (view : List Member) → heard_effect id (f x) view ≡ view) → (xs : List X) → IsSilent (map f xs)
silent_map f each [] id view = refl
silent_map f each (x ∷ xs) id view = ap (heard id (map f xs)) (each x id view) ∙ silent_map f each xs id view

-- it hears nothing of listeners
silent_turned : (before after : ListenerRow → Bool) (rows : List ListenerRow) → IsSilent (turned before after rows)
silent_turned before after rows = silent_map (λ (row : ListenerRow). Matching row.id (after row)) (λ row id view. refl) (filter (λ row. differ (before row) (after row)) rows)

pub silent_listeners : (past : List Entry) (x : Entry) → IsSilent (listener_effects past x)
silent_listeners past x =
    let ended = filter (λ (row : ListenerRow). not (is_listener row.id (live_listeners (x ∷ past)))) (live_listeners past) in
    let before : ListenerRow → Bool = λ row. is_listener row.id (live_listeners past) && is_matched past row in
    silent_append (listener_ends ended) (turned before (is_matched (x ∷ past)) (live_listeners (x ∷ past)))
    (silent_map (λ (row : ListenerRow). End Listener row.id) (λ row id view. refl) ended)
    (silent_turned before (is_matched (x ∷ past)) (live_listeners (x ∷ past)))

-- what the one subscriber hears of a token on a text: its name, if it stands for one
by_meeting : (kind : SampleKind) (text : List ℕ) (view : List Member) (o : Option (List ℕ)) → name_in text ≡ o → (b : Bool) → intersects text (codes "group/*") ≡ b
    → cond b (changed (name_in text) kind view) view ≡ changed (name_in text) kind view
by_meeting kind text view o named true meets = refl
by_meeting kind text view None named false meets = ap (λ (name : Option (List ℕ)). changed name kind view) (sym named)
by_meeting kind text view (Some name) named false meets = let never : false ≡ true = sym meets ∙ key_meets text name named in cc

handed : (kind : SampleKind) (text : List ℕ) (view : List Member) (b : Bool)
    → heard hearer (map (hand_token kind text) (map (λ (row : LivelinessSub). row.id) (cond b (hearer_row ∷ []) []))) view ≡ cond b (changed (name_in text) kind view) view
handed kind text view true = refl
handed kind text view false = refl

pub heard_token : (kind : SampleKind) (before : Bool) (text : List ℕ) (subs : List LivelinessSub) (view : List Member) → subs ≡ hearer_row ∷ []
    → heard hearer (token_hands kind before (Some text) subs) view ≡ changed (name_in text) kind view
heard_token kind before text subs view one =
    ap (λ (rows : List LivelinessSub). heard hearer (token_hands kind before (Some text) rows) view) one
    ∙ handed kind text view (intersects text (codes "group/*"))
    ∙ by_meeting kind text view (name_in text) refl (intersects text (codes "group/*")) refl
