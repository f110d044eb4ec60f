-- The greater of two entries, and of what may stand at a key.
use Rattle.std.proofs.Common.{◌≡◌, ℕ, Bool, true, false, cond, List, ◌∷◌, Option, Some, None, refl, sym, ap, ◌∙◌, subst}
use Rattle.std.specs.Cmp.{IsTotalOrder}
use Rattle.std.specs.Cmp.Lexicographic.{nat_list_cmp_total}
use Rattle.std.specs.Ordering.{is_lt, is_gt, ordering_reverse}
use Rattle.std.specs.declared.cmp.Ordering.{Ordering}
use Rattle.std.specs.declared.cmp.Ordering.TheVariants.{Less, Equal, Greater}
use Rattle.std.proofs.lemmas.Cmp.{tied_itself, upto, on_total}
use Rattle.std.proofs.lemmas.Map.Lookups.{exact_bytes}
use Rattle.zs_wire.specs.declared.sample_kind.SampleKind.{SampleKind}
use Rattle.zs_wire.specs.declared.sample_kind.SampleKind.TheVariants.{Put, Delete}
use Rattle.zs_store.specs.Entry.{EntrySeen, kind_rank, rank, entry_order, is_below, greater, greatest}

pub total : IsTotalOrder entry_order
total = on_total rank nat_list_cmp_total

kind_exact : (a b : SampleKind) → kind_rank a ≡ kind_rank b → a ≡ b
kind_exact Put Put same = refl
kind_exact Put Delete same = absurd (cc)
kind_exact Delete Put same = absurd (cc)
kind_exact Delete Delete same = refl

abbrev made : SampleKind → List ℕ → ℕ → ℕ → EntrySeen
made kind bytes time id = record { kind = kind; bytes = bytes; timestamp = record { time = time; id = id } }

first_same : {x y : ℕ} {xs ys : List ℕ} → x ∷ xs ≡ y ∷ ys → x ≡ y
first_same e = cc

rest_same : {x y : ℕ} {xs ys : List ℕ} → x ∷ xs ≡ y ∷ ys → xs ≡ ys
rest_same e = cc

-- entries of one rank are one
same_rank : (a b : EntrySeen) → rank a ≡ rank b → a ≡ b
same_rank a b e =
    let time : a.timestamp.time ≡ b.timestamp.time = first_same e in
    let past_time = rest_same e in
    let id : a.timestamp.id ≡ b.timestamp.id = first_same past_time in
    let past_id = rest_same past_time in
    let kind : a.kind ≡ b.kind = kind_exact a.kind b.kind (first_same past_id) in
    let bytes : a.bytes ≡ b.bytes = rest_same past_id in
    ap (λ k. made k a.bytes a.timestamp.time a.timestamp.id) kind
    ∙ ap (λ bs. made b.kind bs a.timestamp.time a.timestamp.id) bytes
    ∙ ap (λ t. made b.kind b.bytes t a.timestamp.id) time
    ∙ ap (λ i. made b.kind b.bytes b.timestamp.time i) id

pub exact : (a b : EntrySeen) → entry_order a b ≡ Equal → a ≡ b
exact a b h = same_rank a b (exact_bytes (rank a) (rank b) h)

pub not_below_itself : (a : EntrySeen) → is_below a a ≡ false
not_below_itself a = ap is_lt (tied_itself total a)

lt_reverse : (o : Ordering) → is_lt (ordering_reverse o) ≡ is_gt o
lt_reverse Less = refl
lt_reverse Equal = refl
lt_reverse Greater = refl

below_is_above : (a b : EntrySeen) → is_below a b ≡ is_gt (entry_order b a)
below_is_above a b = ap is_lt (total.antisymm a b) ∙ lt_reverse (entry_order b a)

-- what is not below stays so
pub not_below : (a b c : EntrySeen) → is_below a b ≡ false → is_below b c ≡ false → is_below a c ≡ false
not_below a b c ab bc =
    below_is_above a c ∙ upto total c b a (sym (below_is_above b c) ∙ bc) (sym (below_is_above a b) ∙ ab)

is_less : (o : Ordering) → is_lt o ≡ true → o ≡ Less
is_less Less h = refl
is_less Equal h = absurd (cc)
is_less Greater h = absurd (cc)

pub below_all : (a b c : EntrySeen) → is_below a b ≡ true → is_below b c ≡ true → is_below a c ≡ true
below_all a b c ab bc = ap is_lt (total.trans a b c (is_less (entry_order a b) ab) (is_less (entry_order b c) bc))

pub below_not_above : (a b : EntrySeen) → is_below a b ≡ true → is_below b a ≡ false
below_not_above a b h = ap is_lt (total.antisymm b a ∙ ap ordering_reverse (is_less (entry_order a b) h))

pub greater_itself : (a : EntrySeen) → greater a a ≡ a
greater_itself a = ap (λ (b : Bool). cond b a a) (not_below_itself a)

pub greater_turned : (a b : EntrySeen) → greater a b ≡ greater b a
greater_turned a b = go (entry_order a b) refl
  where
    go : (o : Ordering) → entry_order a b ≡ o → greater a b ≡ greater b a
    go Less h =
        ap (λ o. cond (is_lt o) b a) h
        ∙ sym (ap (λ o. cond (is_lt o) a b) (total.antisymm b a ∙ ap ordering_reverse h))
    go Equal h = subst (λ c. greater a c ≡ greater c a) (exact a b h) refl
    go Greater h =
        ap (λ o. cond (is_lt o) b a) h
        ∙ sym (ap (λ o. cond (is_lt o) a b) (total.antisymm b a ∙ ap ordering_reverse h))

pub when_below : (a b : EntrySeen) → is_below a b ≡ true → greater a b ≡ b
when_below a b h = ap (λ (below : Bool). cond below b a) h

pub when_not_below : (a b : EntrySeen) → is_below a b ≡ false → greater a b ≡ a
when_not_below a b h = ap (λ (below : Bool). cond below b a) h

pub greater_grouped : (a b c : EntrySeen) → greater (greater a b) c ≡ greater a (greater b c)
greater_grouped a b c = go (is_below a b) (is_below b c) refl refl
  where
    go : (ab bc : Bool) → is_below a b ≡ ab → is_below b c ≡ bc → greater (greater a b) c ≡ greater a (greater b c)
    go true true h k =
        ap (λ e. greater e c) (when_below a b h) ∙ when_below b c k
        ∙ sym (ap (λ e. greater a e) (when_below b c k) ∙ when_below a c (below_all a b c h k))
    go true false h k =
        ap (λ e. greater e c) (when_below a b h) ∙ when_not_below b c k
        ∙ sym (ap (λ e. greater a e) (when_not_below b c k) ∙ when_below a b h)
    go false true h k =
        ap (λ e. greater e c) (when_not_below a b h)
        ∙ sym (ap (λ e. greater a e) (when_below b c k))
    go false false h k =
        ap (λ e. greater e c) (when_not_below a b h) ∙ when_not_below a c (not_below a b c h k)
        ∙ sym (ap (λ e. greater a e) (when_not_below b c k) ∙ when_not_below a b h)

-- the greater of what may stand at a key
abbrev pub either : Option EntrySeen → Option EntrySeen → Option EntrySeen
either None o = o
either (Some a) o = greatest a o

pub either_nothing : (o : Option EntrySeen) → either o None ≡ o
either_nothing None = refl
either_nothing (Some a) = refl

pub either_itself : (o : Option EntrySeen) → either o o ≡ o
either_itself None = refl
either_itself (Some a) = ap Some (greater_itself a)

pub either_turned : (o p : Option EntrySeen) → either o p ≡ either p o
either_turned None None = refl
either_turned None (Some b) = refl
either_turned (Some a) None = refl
either_turned (Some a) (Some b) = ap Some (greater_turned a b)

pub either_grouped : (o p q : Option EntrySeen) → either (either o p) q ≡ either o (either p q)
either_grouped None p q = refl
either_grouped (Some a) None q = refl
either_grouped (Some a) (Some b) None = refl
either_grouped (Some a) (Some b) (Some c) = ap Some (greater_grouped a b c)
