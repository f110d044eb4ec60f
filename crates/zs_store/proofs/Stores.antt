-- What a store has at a key after a write, and stores that have the same at each key.
use Rattle.std.proofs.Common.{◌≡◌, ℕ, Bool, true, false, cond, List, [], ◌∷◌, map, Option, Some, None, refl, sym, ap, ◌∙◌, subst}
use Rattle.std.specs.Prelude.{bytes_eq}
use Rattle.std.specs.Cmp.{IsTotalOrder}
use Rattle.std.specs.Cmp.Lexicographic.{slice_cmp, nat_list_cmp_total}
use Rattle.std.specs.Ordering.{nat_cmp, is_eq, match_ordering, ordering_reverse}
use Rattle.std.specs.declared.cmp.Ordering.{Ordering}
use Rattle.std.specs.declared.cmp.Ordering.TheVariants.{Less, Equal, Greater}
use Rattle.std.specs.List.{AllByRecursion}
use Rattle.std.specs.List.Sorted.{IsStrictlySortedBy}
use Rattle.std.proofs.lemmas.Cmp.{tied_itself}
use Rattle.std.proofs.lemmas.Map.Keys.{sorted_head, sorted_tail}
use Rattle.std.proofs.lemmas.Map.Lookups.{exact_bytes}
use Rattle.std.proofs.lemmas.Map.Text.{is_eq-slice_cmp}
use Rattle.zs_store.specs.Entry.{EntrySeen, greater}
use Rattle.zs_store.specs.Store.{Write, KeysAscend, found, merged}
use Rattle.zs_store.proofs.Newer.{either}

-- the order of keys
abbrev pub order : List ℕ → List ℕ → Ordering
order = slice_cmp nat_cmp

total : IsTotalOrder order
total = nat_list_cmp_total

none_some : {e : EntrySeen} → None ≡ Some e → ⊥
none_some h = cc

pub out : {a b : EntrySeen} → Some a ≡ Some b → a ≡ b
out h = cc

-- a key is a key's bytes, or not
pub apart_from : (a b : List ℕ) (o : Ordering) → order a b ≡ o → bytes_eq a b ≡ is_eq o
apart_from a b o h = sym (is_eq-slice_cmp a b) ∙ ap is_eq h

pub same_itself : (a : List ℕ) → bytes_eq a a ≡ true
same_itself a = apart_from a a Equal (tied_itself total a)

pub same_key : (a b : List ℕ) → bytes_eq a b ≡ true → a ≡ b
same_key a b h = go (order a b) refl
  where
    go : (o : Ordering) → order a b ≡ o → a ≡ b
    go Less k = absurd (let e = sym (apart_from a b Less k) ∙ h in cc)
    go Equal k = exact_bytes a b k
    go Greater k = absurd (let e = sym (apart_from a b Greater k) ∙ h in cc)

-- all keys of a list are above a key
abbrev pub Above : List ℕ → List Write → Type 0
Above key ws = AllByRecursion (λ k. order key k ≡ Less) (map (λ w. w.key) ws)

pub above_first : (w : Write) (ws : List Write) → KeysAscend (w ∷ ws) → Above w.key ws
above_first w ws h = sorted_head order w.key (map (λ v. v.key) ws) h

pub ascend_rest : (w : Write) (ws : List Write) → KeysAscend (w ∷ ws) → KeysAscend ws
ascend_rest w ws h = sorted_tail order w.key (map (λ v. v.key) ws) h

pub ascend_with : (w : Write) (ws : List Write) → Above w.key ws → KeysAscend ws → KeysAscend (w ∷ ws)
unfolding IsStrictlySortedBy
ascend_with w ws above rest = (above, rest)

pub ascend_nothing : KeysAscend []
unfolding IsStrictlySortedBy
ascend_nothing = tt

pub above_more : (a b : List ℕ) (ws : List Write) → order a b ≡ Less → Above b ws → Above a ws
above_more a b [] less above = tt
above_more a b (w ∷ ws) less above = (total.trans a b w.key less above.0, above_more a b ws less above.1)

pub none_above : (key : List ℕ) (ws : List Write) → Above key ws → found key ws ≡ None
none_above key [] above = refl
none_above key (w ∷ ws) above =
    ap (λ (b : Bool). cond b (Some w.entry) (found key ws)) (apart_from key w.key Less above.0)
    ∙ none_above key ws above.1

-- merging keeps the order
above_merged : (key : List ℕ) (new : Write) (ws : List Write) → order key new.key ≡ Less → Above key ws → Above key (merged new ws)
above_merged key new [] less above = (less, tt)
above_merged key new (w ∷ ws) less above = go (order new.key w.key) (above_merged key new ws less above.1)
  where
    go : (o : Ordering) → Above key (merged new ws)
        → Above key (match_ordering o (new ∷ w ∷ ws) (record { key = w.key; entry = greater w.entry new.entry } ∷ ws) (w ∷ merged new ws))
    go Less rest = (less, above)
    go Equal rest = above
    go Greater rest = (above.0, rest)

pub ascend_merged : (new : Write) (ws : List Write) → KeysAscend ws → KeysAscend (merged new ws)
ascend_merged new [] ascend = ascend_with new [] tt ascend
ascend_merged new (w ∷ ws) ascend = go (order new.key w.key) refl (ascend_merged new ws (ascend_rest w ws ascend))
  where
    go : (o : Ordering) → order new.key w.key ≡ o → KeysAscend (merged new ws)
        → KeysAscend (match_ordering o (new ∷ w ∷ ws) (record { key = w.key; entry = greater w.entry new.entry } ∷ ws) (w ∷ merged new ws))
    go Less h rest = ascend_with new (w ∷ ws) (h, above_more new.key w.key ws h (above_first w ws ascend)) ascend
    go Equal h rest =
        ascend_with (record { key = w.key; entry = greater w.entry new.entry }) ws (above_first w ws ascend) (ascend_rest w ws ascend)
    go Greater h rest =
        ascend_with w (merged new ws)
        (above_merged w.key new ws (total.antisymm w.key new.key ∙ ap ordering_reverse h) (above_first w ws ascend))
        rest

-- what stands at a key after a write
abbrev pub after_write : List ℕ → Write → Option EntrySeen → Option EntrySeen
after_write key new was = cond (bytes_eq key new.key) (either was (Some new.entry)) was

pub found_merged : (key : List ℕ) (new : Write) (ws : List Write) → KeysAscend ws → found key (merged new ws) ≡ after_write key new (found key ws)
found_merged key new [] ascend = refl
found_merged key new (w ∷ ws) ascend = go (order new.key w.key) refl (found_merged key new ws (ascend_rest w ws ascend))
  where
    both : (b c : Bool) → bytes_eq key new.key ≡ b → bytes_eq key w.key ≡ c → new.key ≡ w.key
        → cond c (Some (greater w.entry new.entry)) (found key ws) ≡ cond b (either (cond c (Some w.entry) (found key ws)) (Some new.entry)) (cond c (Some w.entry) (found key ws))
    both true true h k same = refl
    both true false h k same = absurd (let e = sym h ∙ (ap (bytes_eq key) same ∙ k) in cc)
    both false true h k same = absurd (let e = sym h ∙ (ap (bytes_eq key) same ∙ k) in cc)
    both false false h k same = refl

    past : (b c : Bool) → bytes_eq key new.key ≡ b → bytes_eq key w.key ≡ c → order new.key w.key ≡ Greater
        → found key (merged new ws) ≡ cond b (either (found key ws) (Some new.entry)) (found key ws)
        → cond c (Some w.entry) (found key (merged new ws)) ≡ cond b (either (cond c (Some w.entry) (found key ws)) (Some new.entry)) (cond c (Some w.entry) (found key ws))
    past true true h k greater_key rest =
        let same = sym (same_key key new.key h) ∙ same_key key w.key k in
        absurd (let e = sym greater_key ∙ (ap (order new.key) (sym same) ∙ tied_itself total new.key) in cc)
    past true false h k greater_key rest = rest
    past false true h k greater_key rest = refl
    past false false h k greater_key rest = rest

    before : (b : Bool) → bytes_eq key new.key ≡ b → Above new.key (w ∷ ws)
        → cond b (Some new.entry) (found key (w ∷ ws)) ≡ cond b (either (found key (w ∷ ws)) (Some new.entry)) (found key (w ∷ ws))
    before true h above =
        let nothing = subst (λ k. found k (w ∷ ws) ≡ None) (sym (same_key key new.key h)) (none_above new.key (w ∷ ws) above) in
        sym (ap (λ o. either o (Some new.entry)) nothing)
    before false h above = refl

    go : (o : Ordering) → order new.key w.key ≡ o → found key (merged new ws) ≡ after_write key new (found key ws)
        → found key (match_ordering o (new ∷ w ∷ ws) (record { key = w.key; entry = greater w.entry new.entry } ∷ ws) (w ∷ merged new ws))
        ≡ after_write key new (found key (w ∷ ws))
    go Less h rest = before (bytes_eq key new.key) refl (h, above_more new.key w.key ws h (above_first w ws ascend))
    go Equal h rest = both (bytes_eq key new.key) (bytes_eq key w.key) refl refl (exact_bytes new.key w.key h)
    go Greater h rest = past (bytes_eq key new.key) (bytes_eq key w.key) refl refl h rest

-- ascending lists that have the same at each key are the same
pub same_stores : (xs ys : List Write) → KeysAscend xs → KeysAscend ys → ((key : List ℕ) → found key xs ≡ found key ys) → xs ≡ ys
same_stores [] [] x y h = refl
same_stores [] (w ∷ ws) x y h =
    absurd (none_some (h w.key ∙ ap (λ (b : Bool). cond b (Some w.entry) (found w.key ws)) (same_itself w.key)))
same_stores (v ∷ vs) [] x y h =
    absurd (none_some (sym (h v.key) ∙ ap (λ (b : Bool). cond b (Some v.entry) (found v.key vs)) (same_itself v.key)))
same_stores (v ∷ vs) (w ∷ ws) x y h = go (order v.key w.key) refl (same_stores vs ws (ascend_rest v vs x) (ascend_rest w ws y))
  where
    here : (u : Write) (us : List Write) → found u.key (u ∷ us) ≡ Some u.entry
    here u us = ap (λ (b : Bool). cond b (Some u.entry) (found u.key us)) (same_itself u.key)

    rest_found : (key : List ℕ) (u : Write) (us : List Write) → KeysAscend (u ∷ us) → (b : Bool) → bytes_eq key u.key ≡ b
        → found key us ≡ cond b None (found key (u ∷ us))
    rest_found key u us a true k = subst (λ q. found q us ≡ None) (sym (same_key key u.key k)) (none_above u.key us (above_first u us a))
    rest_found key u us a false k = sym (ap (λ (b : Bool). cond b (Some u.entry) (found key us)) k)

    go : (o : Ordering) → order v.key w.key ≡ o → (((key : List ℕ) → found key vs ≡ found key ws) → vs ≡ ws) → v ∷ vs ≡ w ∷ ws
    go Less k later =
        absurd (none_some (sym (none_above v.key (w ∷ ws) (k, above_more v.key w.key ws k (above_first w ws y))) ∙ (sym (h v.key) ∙ here v vs)))
    go Greater k later =
        let less = total.antisymm w.key v.key ∙ ap ordering_reverse k in
        absurd (none_some (sym (none_above w.key (v ∷ vs) (less, above_more w.key v.key vs less (above_first v vs x))) ∙ (h w.key ∙ here w ws)))
    go Equal k later =
        let keys : v.key ≡ w.key = exact_bytes v.key w.key k in
        let entries : v.entry ≡ w.entry =
        out (sym (here v vs) ∙ (h v.key ∙ (ap (λ q. found q (w ∷ ws)) keys ∙ here w ws))) in
        let same : v ≡ w = ap (λ q. record { key = q; entry = v.entry }) keys ∙ ap (λ e. record { key = w.key; entry = e }) entries in
        let rests : (key : List ℕ) → found key vs ≡ found key ws =
        λ key. rest_found key v vs x (bytes_eq key v.key) refl
        ∙ (ap (λ o. cond (bytes_eq key v.key) None o) (h key)
        ∙ (ap (λ q. cond (bytes_eq key q) None (found key (w ∷ ws))) keys
        ∙ sym (rest_found key w ws y (bytes_eq key w.key) refl))) in
        ap (λ u. u ∷ vs) same ∙ ap (λ us. w ∷ us) (later rests)
