-- Options are read as what was printed, and are passed over where they are absent.
use Rattle.std.proofs.Common.{ℕ, ◌≡◌, ◌==◌, Bool, true, false, List, [], ◌∷◌, ◌++◌, Option, Some, None, option_map, refl, sym, ap, ◌∙◌, cond, append_assoc}
use Rattle.std.specs.Prelude.{if◌then◌else◌}
use Rattle.std.specs.List.{list_all}
use Rattle.std.proofs.lemmas.Bool.{and_parts}
use Rattle.std.proofs.lemmas.List.Folds.{list_all-append}
use Rattle.std.proofs.lemmas.Option.{same_Some}
use Rattle.zs_parts.specs.Symbols.{after_prefix}
use Rattle.zs_parts.specs.Parts.{named_in, option_in, maybe_in}
use Rattle.zs_printing.specs.Pieces.{named, field_if}
use Rattle.zs_event_lines.specs.Shown.{unless}
use Rattle.zs_event_lines.specs.Sayable.{if_there}

-- a name that is made of characters, and what stands behind it
abbrev pub is_name : List ℕ → Bool
is_name name = list_all (λ b. b == b) name

after-own : (name text : List ℕ) → is_name name ≡ true → after_prefix name (name ++ text) ≡ Some text
after-own [] text h = refl
after-own (b ∷ bs) text h =
    let both = and_parts (b == b) _ h in
    rw both.0 (after-own bs text both.1)

-- whether two names differ before either ends
abbrev pub is_apart : List ℕ → List ℕ → Bool
is_apart [] other = false
is_apart (b ∷ bs) [] = false
is_apart (b ∷ bs) (c ∷ cs) = if b == c then is_apart bs cs else true

apart-after : (name other text : List ℕ) → is_apart name other ≡ true → after_prefix name (other ++ text) ≡ None
apart-after [] other text h = cc
apart-after (b ∷ bs) [] text h = cc
apart-after (b ∷ bs) (c ∷ cs) text h =
    (elim (b == c) as (λ t. cond t (is_apart bs cs) true ≡ true → cond t (after_prefix bs (cs ++ text)) None ≡ None)
    [ true ↦ λ k. apart-after bs cs text k | false ↦ λ k. refl ]) h

-- fields that begin with none of these names
abbrev pub AllDeclined : List (List ℕ) → List (List ℕ) → Type 0
AllDeclined [] rest = Unit {0}
AllDeclined (name ∷ names) rest = (named_in name rest ≡ None) × AllDeclined names rest

abbrev pub is_apart_from : List ℕ → List (List ℕ) → Bool
is_apart_from name heads = list_all (λ other. is_apart name other) heads

-- fields that a name other than their heads does not find
abbrev pub Over : List (List ℕ) → List (List ℕ) → Type 0
Over heads fields =
    (name : List ℕ) (rest : List (List ℕ)) → is_apart_from name heads ≡ true → named_in name rest ≡ None
    → named_in name (fields ++ rest) ≡ None

pub over-field : (other text : List ℕ) (more : List (List ℕ)) → Over (other ∷ []) ((other ++ text) ∷ more)
over-field other text more name rest apart h = apart-after name other text (and_parts (is_apart name other) true apart).0

pub over-unless : (other text : List ℕ) (same : Bool) → Over (other ∷ []) (unless same (other ++ text))
over-unless other text true name rest apart h = h
over-unless other text false name rest apart h = over-field other text [] name rest apart h

pub over-if : {A : Type 0} (other : List ℕ) (text : A → List ℕ) (o : Option A) → Over (other ∷ []) (field_if (λ a. other ++ text a) o)
over-if other text None name rest apart h = h
over-if other text (Some a) name rest apart h = over-field other (text a) [] name rest apart h

-- what begins in any way has no name that differs from its heads
pub over-any : (fields : List (List ℕ)) → Over ([] ∷ []) fields
over-any fields [] rest apart h = cc
over-any fields (b ∷ bs) rest apart h = cc

pub over-append : (heads more : List (List ℕ)) (fields others : List (List ℕ)) → Over heads fields → Over more others
    → Over (heads ++ more) (fields ++ others)
over-append heads more fields others one two name rest apart h =
    let both = and_parts (is_apart_from name heads) (is_apart_from name more)
    (sym (list_all-append (λ other. is_apart name other) heads more) ∙ apart) in
    ap (named_in name) (append_assoc fields others rest) ∙ one name (others ++ rest) both.0 (two name rest both.1 h)

-- an option with a value, and one that may be missing
pub option-back : {A : Type 0} (name : List ℕ) (symbol : List ℕ → Option A) (absent found : A) (same : Bool) (text : List ℕ)
    (rest : List (List ℕ)) → is_name name ≡ true → (same ≡ true → found ≡ absent) → symbol text ≡ Some found
    → named_in name rest ≡ None → option_in name symbol absent (unless same (name ++ text) ++ rest) ≡ (found, rest)
option-back name symbol absent found true text rest named same says none =
    rw none (ap (λ a. (a, rest)) (sym (same refl)))
option-back name symbol absent found false text rest named same says none =
    rw (after-own name text named) (rw says refl)

pub maybe-back : {A : Type 0} (name : List ℕ) (symbol : List ℕ → Option A) (text : A → List ℕ) (kept : A → A) (o : Option A)
    (rest : List (List ℕ)) → is_name name ≡ true → ((a : A) → o ≡ Some a → symbol (text a) ≡ Some (kept a))
    → named_in name rest ≡ None → maybe_in name symbol (field_if (λ a. name ++ text a) o ++ rest) ≡ (option_map kept o, rest)
maybe-back name symbol text kept None rest named says none = rw none refl
maybe-back name symbol text kept (Some a) rest named says none =
    rw (after-own name (text a) named) (rw (says a refl) refl)

pub map-same : {A : Type 0} (o : Option A) → option_map (λ a. a) o ≡ o
map-same None = refl
map-same (Some a) = refl

pub maybe-same : {A : Type 0} (name : List ℕ) (symbol : List ℕ → Option A) (text : A → List ℕ) (o : Option A)
    (rest : List (List ℕ)) → list_all (λ b. b == b) name ≡ true → ((a : A) → o ≡ Some a → symbol (text a) ≡ Some a)
    → named_in name rest ≡ None → maybe_in name symbol (field_if (λ a. name ++ text a) o ++ rest) ≡ (o, rest)
maybe-same name symbol text o rest named says none =
    maybe-back name symbol text (λ a. a) o rest named says none ∙ ap (λ found. (found, rest)) (map-same o)

pub there : {A : Type 0} (test : A → Bool) (o : Option A) → if_there test o ≡ true → (a : A) → o ≡ Some a → test a ≡ true
there test None h a same = cc
there test (Some b) h a same = rw (sym (same_Some b a same)) h
