-- The steps of writing a canonical form chunk by chunk.
use Rattle.std.proofs.Common.{◌≡◌, ℕ, Bool, true, false, List, [], ◌∷◌, ◌++◌, append_assoc, refl, ◌∙◌}
use Rattle.std.specs.Prelude.{codes, if◌then◌else◌}
use Rattle.std.specs.List.{join_with_byte}
use Rattle.zs_keys.specs.Text.{is_star, is_double_star}
use Rattle.zs_keys.specs.Canonize.{sink, ordered_chunks}
use Rattle.zs_keys.specs.Writing.{with_chunks}
use Rattle.zs_keys.proofs.Bools.{split}

pub sink-twice : (cs : List (List ℕ)) → sink (sink cs) ≡ sink cs
unfolding sink
sink-twice [] = refl
sink-twice (c ∷ cs) = split (is_star c)
    (λ h. rw h (rw (h, sink-twice cs) refl))
    (λ h. rw h (split (is_double_star c)
    (λ k. rw k (rw (h, k) refl))
    (λ k. rw k refl)))

pub sink-star : (c : List ℕ) (cs : List (List ℕ)) → is_star c ≡ true → sink (c ∷ cs) ≡ c ∷ sink cs
unfolding sink
sink-star c cs h = rw h refl

pub sink-other : (c : List ℕ) (cs : List (List ℕ)) → is_star c ≡ false → is_double_star c ≡ false
    → sink (c ∷ cs) ≡ codes "**" ∷ (c ∷ cs)
unfolding sink
sink-other c cs h k = rw (h, k) refl

pub sink-run : (c : List ℕ) (cs : List (List ℕ)) → is_star c ≡ false → is_double_star c ≡ true → sink (c ∷ cs) ≡ c ∷ cs
unfolding sink
sink-run c cs h k = rw (h, k) refl

pub ordered-run : (c : List ℕ) (cs : List (List ℕ)) → is_double_star c ≡ true → ordered_chunks (c ∷ cs) ≡ sink (ordered_chunks cs)
unfolding ordered_chunks
ordered-run c cs h = rw h refl

pub ordered-plain : (c : List ℕ) (cs : List (List ℕ)) → is_double_star c ≡ false → ordered_chunks (c ∷ cs) ≡ c ∷ ordered_chunks cs
unfolding ordered_chunks
ordered-plain c cs h = rw h refl

pub ordered-none : ordered_chunks [] ≡ []
unfolding ordered_chunks
ordered-none = refl

pub sink-none : sink [] ≡ codes "**" ∷ []
unfolding sink
sink-none = refl

-- chunks behind one that is written are joined to it
chunks-behind : (text : List ℕ) (c : List ℕ) (cs : List (List ℕ))
    → with_chunks false text (c ∷ cs) ≡ text ++ (0x2f ∷ join_with_byte 0x2f (c ∷ cs))
chunks-behind text c [] = refl
chunks-behind text c (d ∷ cs) =
    chunks-behind (text ++ (0x2f ∷ c)) d cs ∙ append_assoc text (0x2f ∷ c) (0x2f ∷ join_with_byte 0x2f (d ∷ cs))

-- all chunks, when none is written
pub chunks-all : (cs : List (List ℕ)) → with_chunks true [] cs ≡ join_with_byte 0x2f cs
chunks-all [] = refl
chunks-all (c ∷ []) = refl
chunks-all (c ∷ d ∷ cs) = chunks-behind c d cs

-- what a chunk makes of the rest, where a `**` waits or not
abbrev waiting : Bool → List (List ℕ) → List (List ℕ)
waiting b cs = if b then sink cs else cs

pub run-waits : (b : Bool) (c : List ℕ) (cs : List (List ℕ)) → is_double_star c ≡ true
    → waiting b (ordered_chunks (c ∷ cs)) ≡ sink (ordered_chunks cs)
run-waits b c cs h = rw (ordered-run c cs h) (split b (λ t. rw t (sink-twice (ordered_chunks cs))) (λ t. rw t refl))

pub star-first : (b : Bool) (c : List ℕ) (cs : List (List ℕ)) → is_double_star c ≡ false → is_star c ≡ true
    → waiting b (ordered_chunks (c ∷ cs)) ≡ c ∷ waiting b (ordered_chunks cs)
star-first b c cs h k =
    rw (ordered-plain c cs h) (split b (λ t. rw t (sink-star c (ordered_chunks cs) k)) (λ t. rw t refl))

pub other-first : (b : Bool) (c : List ℕ) (cs : List (List ℕ)) → is_double_star c ≡ false → is_star c ≡ false
    → waiting b (ordered_chunks (c ∷ cs)) ≡ (if b then codes "**" ∷ (c ∷ ordered_chunks cs) else c ∷ ordered_chunks cs)
other-first b c cs h k =
    rw (ordered-plain c cs h) (split b (λ t. rw t (sink-other c (ordered_chunks cs) k h)) (λ t. rw t refl))

pub waiting-none : (b : Bool) → waiting b (ordered_chunks []) ≡ (if b then codes "**" ∷ [] else [])
waiting-none b = rw ordered-none (split b (λ t. rw t sink-none) (λ t. rw t refl))
