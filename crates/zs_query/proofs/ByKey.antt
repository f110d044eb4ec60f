-- What the maps make of their entries.
use Rattle.std.proofs.Common.{◌≡◌, Bool, true, false, List, [], ◌∷◌, Option, Some, None, refl, sym, ap, ◌∙◌}
use Rattle.std.specs.Prelude.{ℕ, map, bytes_eq}
use Rattle.std.specs.List.{AllByRecursion}
use Rattle.std.specs.Option.{option_map}
use Rattle.std.specs.Map.{lookup, values_of}
use Rattle.std.proofs.lemmas.Slice.Eq.{bytes_eq-Decides}
use Rattle.indexmap.specs.IndexMap.{insert_entry}
use Rattle.zs_keys.specs.Key.{Key}
use Rattle.zs_wire.specs.declared.origin.Timestamp.{Timestamp}
use Rattle.zs_sample.specs.Reply.{Replied}
use Rattle.zs_query.specs.Marks.{Mark, mark_of, key_of, mark_at, passes_at}
use Rattle.zs_query.specs.Kept.{put}
use Rattle.zs_query.specs.ByKey.{HasOwnKey, mark_of_entry}

-- what a look-up by key finds is the mark of that key
pub kept_at_key : (key : List ℕ) (es : List (Key × Replied)) → AllByRecursion HasOwnKey es → mark_at key (map mark_of (values_of es)) ≡ option_map mark_of (lookup (λ (k : Key). bytes_eq key k.text) es)
kept_at_key key [] own = refl
kept_at_key key (e ∷ es) own = go (bytes_eq key e.0.text) refl (ap (bytes_eq key) (sym own.0)) (kept_at_key key es own.1)
  where
    go : (b : Bool) → bytes_eq key e.0.text ≡ b → bytes_eq key (key_of e.1) ≡ bytes_eq key e.0.text → mark_at key (map mark_of (values_of es)) ≡ option_map mark_of (lookup (λ (k : Key). bytes_eq key k.text) es) → mark_at key (map mark_of (values_of (e ∷ es))) ≡ option_map mark_of (lookup (λ (k : Key). bytes_eq key k.text) (e ∷ es))
    go true is same rest = rw (same ∙ is, is) refl
    go false is same rest = rw (same ∙ is, is) rest

pub time_at_key : (key : List ℕ) (es : List (Key × Option Timestamp)) → option_map (λ (m : Mark). m.timestamp) (mark_at key (map mark_of_entry es)) ≡ lookup (λ (k : Key). bytes_eq key k.text) es
time_at_key key [] = refl
time_at_key key (e ∷ es) = go (bytes_eq key e.0.text) refl (time_at_key key es)
  where
    go : (b : Bool) → bytes_eq key e.0.text ≡ b → option_map (λ (m : Mark). m.timestamp) (mark_at key (map mark_of_entry es)) ≡ lookup (λ (k : Key). bytes_eq key k.text) es → option_map (λ (m : Mark). m.timestamp) (mark_at key (map mark_of_entry (e ∷ es))) ≡ lookup (λ (k : Key). bytes_eq key k.text) (e ∷ es)
    go true is rest = rw is refl
    go false is rest = rw is rest

-- whether a timestamp passes that of its key
abbrev pub passes_time : Option (Option Timestamp) → Option Timestamp → Bool
passes_time None time = true
passes_time (Some last) time = passes_at (Some (record { key = []; timestamp = last })) (record { key = []; timestamp = time })

pub by_time : (o : Option Mark) (m : Mark) → passes_at o m ≡ passes_time (option_map (λ (k : Mark). k.timestamp) o) m.timestamp
by_time None m = refl
by_time (Some k) m = refl

-- an insertion puts a reply in the place of that of its key
pub values_put : (key : Key) (r : Replied) (es : List (Key × Replied)) → key.text ≡ key_of r → AllByRecursion HasOwnKey es → values_of (insert_entry (λ (k l : Key). bytes_eq k.text l.text) es key r) ≡ put key_of r (values_of es)
values_put key r [] is own = refl
values_put key r (e ∷ es) is own = go (bytes_eq key.text e.0.text) refl (ap (λ (k : List ℕ). bytes_eq k (key_of e.1)) (sym is) ∙ ap (bytes_eq key.text) (sym own.0)) (values_put key r es is own.1)
  where
    go : (b : Bool) → bytes_eq key.text e.0.text ≡ b → bytes_eq (key_of r) (key_of e.1) ≡ bytes_eq key.text e.0.text → values_of (insert_entry (λ (k l : Key). bytes_eq k.text l.text) es key r) ≡ put key_of r (values_of es) → values_of (insert_entry (λ (k l : Key). bytes_eq k.text l.text) (e ∷ es) key r) ≡ put key_of r (values_of (e ∷ es))
    go true at same rest = rw (same ∙ at, at) refl
    go false at same rest = rw (same ∙ at, at) (ap (λ (vs : List Replied). e.1 ∷ vs) rest)

-- each reply stays under its own key
pub own_put : (key : Key) (r : Replied) (es : List (Key × Replied)) → key.text ≡ key_of r → AllByRecursion HasOwnKey es → AllByRecursion HasOwnKey (insert_entry (λ (k l : Key). bytes_eq k.text l.text) es key r)
own_put key r [] is own = (is, tt)
own_put key r (e ∷ es) is own = go (bytes_eq key.text e.0.text) refl (own_put key r es is own.1)
  where
    go : (b : Bool) → bytes_eq key.text e.0.text ≡ b → AllByRecursion HasOwnKey (insert_entry (λ (k l : Key). bytes_eq k.text l.text) es key r) → AllByRecursion HasOwnKey (insert_entry (λ (k l : Key). bytes_eq k.text l.text) (e ∷ es) key r)
    go true at rest = rw at (sym ((bytes_eq-Decides key.text e.0.text).0 at) ∙ is, own.1)
    go false at rest = rw at (own.0, rest)

abbrev mark_under : List ℕ → Option Timestamp → Mark
mark_under k t = record { key = k; timestamp = t }

-- an insertion puts a mark in the place of that of its key
pub marks_put : (key : Key) (t : Option Timestamp) (es : List (Key × Option Timestamp)) → map mark_of_entry (insert_entry (λ (k l : Key). bytes_eq k.text l.text) es key t) ≡ put (λ (m : Mark). m.key) (record { key = key.text; timestamp = t }) (map mark_of_entry es)
marks_put key t [] = refl
marks_put key t (e ∷ es) = go (bytes_eq key.text e.0.text) refl (marks_put key t es)
  where
    go : (b : Bool) → bytes_eq key.text e.0.text ≡ b → map mark_of_entry (insert_entry (λ (k l : Key). bytes_eq k.text l.text) es key t) ≡ put (λ (m : Mark). m.key) (record { key = key.text; timestamp = t }) (map mark_of_entry es) → map mark_of_entry (insert_entry (λ (k l : Key). bytes_eq k.text l.text) (e ∷ es) key t) ≡ put (λ (m : Mark). m.key) (record { key = key.text; timestamp = t }) (map mark_of_entry (e ∷ es))
    go true at rest =
        let same : e.0.text ≡ key.text = sym ((bytes_eq-Decides key.text e.0.text).0 at) in
        rw at (ap (λ (k : List ℕ). mark_under k t ∷ map mark_of_entry es) same)
    go false at rest = rw at (ap (λ (ms : List Mark). mark_of_entry e ∷ ms) rest)
