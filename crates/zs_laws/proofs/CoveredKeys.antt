-- Each text includes itself, and the text that an entity shares includes its own.
use Rattle.std.proofs.Common.{◌≡◌, ℕ, Bool, true, false, List, [], ◌∷◌, Option, Some, None, refl, ◌∙◌}
use Rattle.std.specs.Prelude.{◌||◌, codes, unwrap_or, option_map, if◌then◌else◌}
use Rattle.std.specs.List.{find}
use Rattle.std.proofs.lemmas.Slice.Eq.{bytes_eq-Decides}
use Rattle.zs_keys.specs.Key.{Key}
use Rattle.zs_keys.specs.Text.{chunks, is_double_star}
use Rattle.zs_keys.specs.Matching.{meets, is_free, chunk_includes, includes}
use Rattle.zs_keys.specs.Rules.{meets-ends, meets-wild-end, meets-wild, meets-pair}
use Rattle.zs_model.specs.Groups.{aggregate_of, share_text}

abbrev covers_chunks : List (List ℕ) → List (List ℕ) → Bool
covers_chunks = meets is_double_star (λ _. false) is_free chunk_includes

or_true : (b : Bool) → (b || true) ≡ true
or_true true = refl
or_true false = refl

free_star : (c : List ℕ) → is_double_star c ≡ true → is_free c ≡ true
free_star c w = let same : c ≡ codes "**" = (bytes_eq-Decides c (codes "**")).0 w in rw same refl

chunk_itself : (c : List ℕ) → is_double_star c ≡ false → chunk_includes c c ≡ true
chunk_itself c w = rw (w, (bytes_eq-Decides c c).1 refl) refl

-- a `**` that stands for nothing
nothing_more : (c : List ℕ) (cs : List (List ℕ)) → is_double_star c ≡ true → covers_chunks cs cs ≡ true → covers_chunks (c ∷ cs) cs ≡ true
nothing_more c [] w ih = meets-wild-end is_double_star (λ _. false) is_free chunk_includes c [] w ∙ ih
nothing_more c (d ∷ cs) w ih = meets-wild is_double_star (λ _. false) is_free chunk_includes c d (d ∷ cs) cs w ∙ rw ih refl

chunks_themselves : (cs : List (List ℕ)) → covers_chunks cs cs ≡ true
chunks_themselves [] = meets-ends is_double_star (λ _. false) is_free chunk_includes
chunks_themselves (c ∷ cs) = go (is_double_star c) refl (chunks_themselves cs)
  where
    go : (b : Bool) → is_double_star c ≡ b → covers_chunks cs cs ≡ true → covers_chunks (c ∷ cs) (c ∷ cs) ≡ true
    go true w ih =
        meets-wild is_double_star (λ _. false) is_free chunk_includes c c cs cs w
        ∙ rw (free_star c w, nothing_more c cs w ih) (or_true (covers_chunks cs (c ∷ cs)))
    go false w ih = meets-pair is_double_star (λ _. false) is_free chunk_includes c c cs cs w refl ∙ rw (chunk_itself c w, ih) refl

pub includes_itself : (text : List ℕ) → includes text text ≡ true
includes_itself text = chunks_themselves (chunks text)

found_passes : (p : Key → Bool) (keys : List Key) (key : Key) → find p keys ≡ Some key → p key ≡ true
found_passes p [] key found = cc
found_passes p (k ∷ keys) key found = go (p k) refl found (found_passes p keys key)
  where
    go : (b : Bool) → p k ≡ b → (if b then Some k else find p keys) ≡ Some key → (find p keys ≡ Some key → p key ≡ true) → p key ≡ true
    go true passes found ih = let same : k ≡ key = cc in rw (← same) passes
    go false passes found ih = ih found

pub shared_includes : (aggregates : List Key) (text : List ℕ) → includes (share_text aggregates text) text ≡ true
shared_includes aggregates text = go (aggregate_of aggregates text) refl
  where
    go : (o : Option Key) → aggregate_of aggregates text ≡ o → includes (unwrap_or (option_map (λ a. a.text) o) text) text ≡ true
    go None found = includes_itself text
    go (Some a) found = found_passes (λ k. includes k.text text) aggregates a found
