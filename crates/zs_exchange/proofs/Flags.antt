-- The marks of posts, as gates are opened, lent, ended and given out.
use Rattle.std.proofs.Common.{◌≡◌, ℕ, ◌-◌, ◌≤◌, Bool, true, false, cond, List, [], ◌∷◌, ◌++◌, Option, Some, None, refl, sym, ap, ◌∙◌, arith}
use Rattle.std.specs.Prelude.{◌&&◌, ◌||◌, ◌==◌}
use Rattle.std.specs.List.{AllByRecursion}
use Rattle.std.specs.Ordering.{is_eq, ordering_reverse, match_ordering}
use Rattle.std.specs.declared.cmp.Ordering.{Ordering}
use Rattle.std.specs.declared.cmp.Ordering.TheVariants.{Less, Equal, Greater}
use Rattle.zs_posts.specs.declared.key.Key.{Key}
use Rattle.zs_posts.specs.declared.key.Name.{Name}
use Rattle.zs_posts.specs.contracts.key.KeyOrd.TheImpl.Laws.{total-law}
use Rattle.zs_posts.specs.Keys.{is_key, key_order}
use Rattle.zs_posts.specs.Passes.{LentSeen}
use Rattle.zs_posts.specs.Posts.{PostSeen, Rows, post_at, changed, raised, lowered_by, flagged, is_spent, spent_at}
use Rattle.zs_posts.specs.Lending.{with_post, without, lend, lend_all, returned}
use Rattle.zs_posts.specs.Settled.{PostsSeen, posts_seen, if_spent, settled, ended, given_back, all_given_back, without_first, ready_without, taken_out}
use Rattle.zs_posts.proofs.Changes.{absent, later, all_changed, all_found, all_put, all_without}
use Rattle.zs_posts.proofs.InTurn.{all_append}
use Rattle.zs_exchange.specs.Begun.{ended_all}
use Rattle.zs_exchange.specs.Flags.{IsFlagged, AreApart, AreFlagged}

-- a key that was named once more
abbrev pub with_end : Key → (Key → ℕ → Bool) → Key → ℕ → Bool
with_end key named k place = named k place || is_key key k

abbrev pub with_ends : List Key → (Key → ℕ → Bool) → Key → ℕ → Bool
with_ends [] named = named
with_ends (key ∷ keys) named = with_ends keys (with_end key named)

or_true : (b : Bool) → b || true ≡ true
or_true true = refl
or_true false = refl

or_false : (b : Bool) → b || false ≡ b
or_false true = refl
or_false false = refl

left_true : (a b : Bool) → a && b ≡ true → a ≡ true
left_true true b is = refl
left_true false b is = is

equal_of : (o : Ordering) → is_eq o ≡ true → o ≡ Equal
equal_of Less is = let wrong : false ≡ true = is in cc
equal_of Equal is = refl
equal_of Greater is = let wrong : false ≡ true = is in cc

same_key : (key k x : Key) → is_key key k ≡ true → is_key key x ≡ is_key k x
same_key key k x is = ap is_eq (total-law.congr key k x (equal_of (key_order key k) is))

after : (key k : Key) → key_order key k ≡ Greater → is_key k key ≡ false
after key k is = ap is_eq (total-law.antisymm k key ∙ ap ordering_reverse is)

module _ {H : Type 0} where
  -- rows whose keys are apart
  changed_keys : (P : Key → Type 0) (change : PostSeen H → PostSeen H) (key : Key) (rows : Rows H) → AllByRecursion (λ x. P x.0) rows → AllByRecursion (λ x. P x.0) (changed change key rows)
  changed_keys P change key [] all = all
  changed_keys P change key (e ∷ rows) all = go (is_key key e.0) (changed_keys P change key rows all.1)
    where
      go : (b : Bool) → AllByRecursion (λ x. P x.0) (changed change key rows) → AllByRecursion (λ x. P x.0) (cond b ((e.0, change e.1) ∷ rows) (e ∷ changed change key rows))
      go true rest = all
      go false rest = (all.0, rest)

  put_keys : (P : Key → Type 0) (key : Key) (p : PostSeen H) (rows : Rows H) → P key → AllByRecursion (λ x. P x.0) rows → AllByRecursion (λ x. P x.0) (with_post key p rows)
  put_keys P key p [] new all = (new, tt)
  put_keys P key p (e ∷ rows) new all = go (key_order key e.0) (put_keys P key p rows new all.1)
    where
      go : (o : Ordering) → AllByRecursion (λ x. P x.0) (with_post key p rows) → AllByRecursion (λ x. P x.0) (match_ordering o ((key, p) ∷ e ∷ rows) ((e.0, p) ∷ rows) (e ∷ with_post key p rows))
      go Less rest = (new, all)
      go Equal rest = all
      go Greater rest = (all.0, rest)

  none_same : (key : Key) (rows : Rows H) → None ≡ post_at key rows → AllByRecursion (λ x. is_key key x.0 ≡ false) rows
  none_same key [] none = tt
  none_same key (e ∷ rows) none = go (is_key key e.0) refl (none_same key rows)
    where
      go : (b : Bool) → is_key key e.0 ≡ b → (None ≡ post_at key rows → AllByRecursion (λ x. is_key key x.0 ≡ false) rows) → AllByRecursion (λ x. is_key key x.0 ≡ false) (e ∷ rows)
      go true here rest = absurd (absent (is_key key) e rows here none)
      go false here rest = (here, rest (later (is_key key) e rows None here none))

  apart_changed : (change : PostSeen H → PostSeen H) (key : Key) (rows : Rows H) → AreApart rows → AreApart (changed change key rows)
  apart_changed change key [] apart = apart
  apart_changed change key (e ∷ rows) apart = go (is_key key e.0) (changed_keys (λ k. is_key e.0 k ≡ false) change key rows apart.0) (apart_changed change key rows apart.1)
    where
      go : (b : Bool) → AllByRecursion (λ x. is_key e.0 x.0 ≡ false) (changed change key rows) → AreApart (changed change key rows) → AreApart (cond b ((e.0, change e.1) ∷ rows) (e ∷ changed change key rows))
      go true less rest = apart
      go false less rest = (less, rest)

  apart_without : (key : Key) (rows : Rows H) → AreApart rows → AreApart (without key rows)
  apart_without key [] apart = apart
  apart_without key (e ∷ rows) apart = go (is_key key e.0) (all_without (is_key key) (λ (x : Key × PostSeen H). is_key e.0 x.0 ≡ false) rows apart.0) (apart_without key rows apart.1)
    where
      go : (b : Bool) → AllByRecursion (λ x. is_key e.0 x.0 ≡ false) (without key rows) → AreApart (without key rows) → AreApart (cond b rows (e ∷ without key rows))
      go true less rest = apart.1
      go false less rest = (less, rest)

  apart_put : (key : Key) (p : PostSeen H) (rows : Rows H) → None ≡ post_at key rows → AreApart rows → AreApart (with_post key p rows)
  apart_put key p [] none apart = (tt, tt)
  apart_put key p (e ∷ rows) none apart = go (key_order key e.0) refl (apart_put key p rows)
    where
      go : (o : Ordering) → key_order key e.0 ≡ o → (None ≡ post_at key rows → AreApart rows → AreApart (with_post key p rows)) → AreApart (match_ordering o ((key, p) ∷ e ∷ rows) ((e.0, p) ∷ rows) (e ∷ with_post key p rows))
      go Less is rest = (none_same key (e ∷ rows) none, apart)
      go Equal is rest = apart
      go Greater is rest =
          (put_keys (λ k. is_key e.0 k ≡ false) key p rows (after key e.0 is) apart.0, rest (later (is_key key) e rows None (ap is_eq is) none) apart.1)

  own_changed : (change : PostSeen H → PostSeen H) (key : Key) (rows : Rows H) → ((p : PostSeen H) → (change p).name ≡ p.name) → AllByRecursion (λ e. e.1.name.key ≡ e.0) rows → AllByRecursion (λ e. e.1.name.key ≡ e.0) (changed change key rows)
  own_changed change key [] keeps all = all
  own_changed change key (e ∷ rows) keeps all = go (is_key key e.0) (own_changed change key rows keeps all.1)
    where
      go : (b : Bool) → AllByRecursion (λ e. e.1.name.key ≡ e.0) (changed change key rows) → AllByRecursion (λ e. e.1.name.key ≡ e.0) (cond b ((e.0, change e.1) ∷ rows) (e ∷ changed change key rows))
      go true rest = (ap (λ (n : Name). n.key) (keeps e.1) ∙ all.0, all.1)
      go false rest = (all.0, rest)

  own_put : (key : Key) (p : PostSeen H) (rows : Rows H) → None ≡ post_at key rows → p.name.key ≡ key → AllByRecursion (λ e. e.1.name.key ≡ e.0) rows → AllByRecursion (λ e. e.1.name.key ≡ e.0) (with_post key p rows)
  own_put key p [] none new all = (new, tt)
  own_put key p (e ∷ rows) none new all = go (key_order key e.0) refl (own_put key p rows)
    where
      go : (o : Ordering) → key_order key e.0 ≡ o → (None ≡ post_at key rows → p.name.key ≡ key → AllByRecursion (λ e. e.1.name.key ≡ e.0) rows → AllByRecursion (λ e. e.1.name.key ≡ e.0) (with_post key p rows))
          → AllByRecursion (λ e. e.1.name.key ≡ e.0) (match_ordering o ((key, p) ∷ e ∷ rows) ((e.0, p) ∷ rows) (e ∷ with_post key p rows))
      go Less is rest = (new, all)
      go Equal is rest = absurd (absent (is_key key) e rows (ap is_eq is) none)
      go Greater is rest = (all.0, rest (later (is_key key) e rows None (ap is_eq is) none) new all.1)

module _ {H : Type 0} (named : Key → ℕ → Bool) (last : ℕ) where
  -- one that isn't named, and one that is
  missed : (key : Key) (e : Key × PostSeen H) → is_key key e.0 ≡ false → e.1.name.key ≡ e.0 → IsFlagged named last e.1 → IsFlagged (with_end key named) last e.1
  missed key e here own flag = record {
    within = flag.within;
    marked = flag.marked ∙ sym (ap (λ (b : Bool). named e.1.name.key e.1.name.place || b) (ap (is_key key) own ∙ here) ∙ or_false (named e.1.name.key e.1.name.place));
  }

  hit : (key : Key) (e : Key × PostSeen H) → is_key key e.0 ≡ true → e.1.name.key ≡ e.0 → IsFlagged named last e.1 → IsFlagged (with_end key named) last (flagged e.1)
  hit key e here own flag = record {
    within = flag.within;
    marked = sym (ap (λ (b : Bool). named e.1.name.key e.1.name.place || b) (ap (is_key key) own ∙ here) ∙ or_true (named e.1.name.key e.1.name.place));
  }

  waited : (key : Key) (p : PostSeen H) → p.ended ≡ true → IsFlagged named last p → IsFlagged (with_end key named) last p
  waited key p is flag = record {
    within = flag.within;
    marked = is ∙ sym (ap (λ (b : Bool). b || is_key key p.name.key) (sym flag.marked ∙ is));
  }

  all_missed : (key : Key) (rows : Rows H) → AllByRecursion (λ x. is_key key x.0 ≡ false) rows → AllByRecursion (λ e. e.1.name.key ≡ e.0) rows → AllByRecursion (λ e. IsFlagged named last e.1) rows → AllByRecursion (λ e. IsFlagged (with_end key named) last e.1) rows
  all_missed key [] less own all = all
  all_missed key (e ∷ rows) less own all = (missed key e less.0 own.0 all.0, all_missed key rows less.1 own.1 all.1)

  all_waited : (key : Key) (ready : List (PostSeen H)) → AllByRecursion (λ p. p.ended ≡ true) ready → AllByRecursion (IsFlagged named last) ready → AllByRecursion (IsFlagged (with_end key named) last) ready
  all_waited key [] is all = all
  all_waited key (p ∷ ready) is all = (waited key p is.0 all.0, all_waited key ready is.1 all.1)

  others : (key k : Key) (rows : Rows H) → is_key key k ≡ true → AllByRecursion (λ x. is_key k x.0 ≡ false) rows → AllByRecursion (λ x. is_key key x.0 ≡ false) rows
  others key k [] is all = all
  others key k (x ∷ rows) is all = (same_key key k x.0 is ∙ all.0, others key k rows is all.1)

  ended_rows : (key : Key) (rows : Rows H) → AreApart rows → AllByRecursion (λ e. e.1.name.key ≡ e.0) rows → AllByRecursion (λ e. IsFlagged named last e.1) rows → AllByRecursion (λ e. IsFlagged (with_end key named) last e.1) (changed flagged key rows)
  ended_rows key [] apart own all = all
  ended_rows key (e ∷ rows) apart own all = go (is_key key e.0) refl (ended_rows key rows apart.1 own.1 all.1)
    where
      go : (b : Bool) → is_key key e.0 ≡ b → AllByRecursion (λ e. IsFlagged (with_end key named) last e.1) (changed flagged key rows)
          → AllByRecursion (λ e. IsFlagged (with_end key named) last e.1) (cond b ((e.0, flagged e.1) ∷ rows) (e ∷ changed flagged key rows))
      go true here rest = (hit key e here own.0 all.0, all_missed key rows (others key e.0 rows here apart.0) own.1 all.1)
      go false here rest = (missed key e here own.0 all.0, rest)

  -- those that come to wait
  spent_flags : (o : Option (PostSeen H)) → ((p : PostSeen H) → Some p ≡ o → IsFlagged named last p) → AllByRecursion (IsFlagged named last) (if_spent o)
  spent_flags None is = tt
  spent_flags (Some p) is = go (is_spent p) (is p refl)
    where
      go : (b : Bool) → IsFlagged named last p → AllByRecursion (IsFlagged named last) (cond b (p ∷ []) [])
      go true flag = (flag, tt)
      go false flag = tt

  settled_flags : (key : Key) (rows : Rows H) (s : PostsSeen H) → AreApart rows → AllByRecursion (λ e. e.1.name.key ≡ e.0) rows → AllByRecursion (λ e. IsFlagged named last e.1) rows
      → AllByRecursion (IsFlagged named last) s.ready → AllByRecursion (λ p. p.ended ≡ true) s.ready → AreFlagged named last (settled key rows s)
  settled_flags key rows s apart own flags waiting were = go (spent_at key rows)
    where
      ended_if : (o : Option (PostSeen H)) → AllByRecursion (λ p. p.ended ≡ true) (if_spent o)
      ended_if None = tt
      ended_if (Some p) = go (is_spent p) refl
        where
          go : (b : Bool) → is_spent p ≡ b → AllByRecursion (λ p. p.ended ≡ true) (cond b (p ∷ []) [])
          go true is = (left_true p.ended (p.out == 0) is, tt)
          go false is = tt

      found : AllByRecursion (IsFlagged named last) (if_spent (post_at key rows))
      found = spent_flags (post_at key rows) (λ p is. all_found (is_key key) (IsFlagged named last) rows p flags is)

      go : (b : Bool) → AreFlagged named last (posts_seen s.room (cond b (without key rows) rows) (s.ready ++ if_spent (post_at key rows)))
      go true = record {
        apart = apart_without key rows apart;
        own = all_without (is_key key) (λ (e : Key × PostSeen H). e.1.name.key ≡ e.0) rows own;
        flags = all_without (is_key key) (λ (e : Key × PostSeen H). IsFlagged named last e.1) rows flags;
        waiting = all_append (IsFlagged named last) s.ready (if_spent (post_at key rows)) waiting found;
        were_ended = all_append (λ (p : PostSeen H). p.ended ≡ true) s.ready (if_spent (post_at key rows)) were (ended_if (post_at key rows));
      }
      go false = record {
        apart = apart;
        own = own;
        flags = flags;
        waiting = all_append (IsFlagged named last) s.ready (if_spent (post_at key rows)) waiting found;
        were_ended = all_append (λ (p : PostSeen H). p.ended ≡ true) s.ready (if_spent (post_at key rows)) were (ended_if (post_at key rows));
      }

module _ {H : Type 0} where
  -- what each step keeps
  ended_flags : (named : Key → ℕ → Bool) (last : ℕ) (key : Key) (s : PostsSeen H) → AreFlagged named last s → AreFlagged (with_end key named) last (ended key s)
  ended_flags named last key s f =
      settled_flags (with_end key named) last key (changed flagged key s.rows) s (apart_changed flagged key s.rows f.apart) (own_changed flagged key s.rows (λ p. refl) f.own) (ended_rows named last key s.rows f.apart f.own f.flags)
      (all_waited named last key s.ready f.were_ended f.waiting) f.were_ended

  pub all_ended_flags : (named : Key → ℕ → Bool) (last : ℕ) (keys : List Key) (s : PostsSeen H) → AreFlagged named last s → AreFlagged (with_ends keys named) last (ended_all keys s)
  all_ended_flags named last [] s f = f
  all_ended_flags named last (key ∷ keys) s f = all_ended_flags (with_end key named) last keys (ended key s) (ended_flags named last key s f)

  lend_flags : (named : Key → ℕ → Bool) (last : ℕ) (key : Key) (s : PostsSeen H) → AreFlagged named last s → AreFlagged named last (record s { rows = lend key s.rows })
  lend_flags named last key s f = record {
    apart = apart_changed raised key s.rows f.apart;
    own = own_changed raised key s.rows (λ p. refl) f.own;
    flags = all_changed (IsFlagged named last) raised key s.rows (λ p flag. record { within = flag.within; marked = flag.marked }) f.flags;
    waiting = f.waiting;
    were_ended = f.were_ended;
  }

  pub lent_flags : (named : Key → ℕ → Bool) (last : ℕ) (keys : List Key) (s : PostsSeen H) → AreFlagged named last s → AreFlagged named last (record s { rows = lend_all keys s.rows })
  lent_flags named last [] s f = f
  lent_flags named last (key ∷ keys) s f = lent_flags named last keys (record s { rows = lend key s.rows }) (lend_flags named last key s f)

  pub opened_flags : (named : Key → ℕ → Bool) (last : ℕ) (name : Name) (p : PostSeen H) (s : PostsSeen H) → p.name ≡ name → None ≡ post_at name.key s.rows → IsFlagged named last p → AreFlagged named last s
      → AreFlagged named last (record s { rows = with_post name.key p s.rows })
  opened_flags named last name p s is none flag f = record {
    apart = apart_put name.key p s.rows none f.apart;
    own = own_put name.key p s.rows none (ap (λ (n : Name). n.key) is) f.own;
    flags = all_put (IsFlagged named last) name.key p s.rows flag f.flags;
    waiting = f.waiting;
    were_ended = f.were_ended;
  }

  name_kept : (lent : LentSeen) (p : PostSeen H) → (lowered_by lent p).name ≡ p.name
  name_kept lent p = go (p.number == lent.number)
    where
      go : (b : Bool) → (cond b (record p { out = p.out - 1 }) p).name ≡ p.name
      go true = refl
      go false = refl

  flag_kept : (named : Key → ℕ → Bool) (last : ℕ) (lent : LentSeen) (p : PostSeen H) → IsFlagged named last p → IsFlagged named last (lowered_by lent p)
  flag_kept named last lent p flag = go (p.number == lent.number)
    where
      go : (b : Bool) → IsFlagged named last (cond b (record p { out = p.out - 1 }) p)
      go true = record { within = flag.within; marked = flag.marked }
      go false = flag

  given_flags : (named : Key → ℕ → Bool) (last : ℕ) (lent : LentSeen) (s : PostsSeen H) → AreFlagged named last s → AreFlagged named last (given_back lent s)
  given_flags named last lent s f =
      settled_flags named last lent.key (returned lent s.rows) s (apart_changed (lowered_by lent) lent.key s.rows f.apart) (own_changed (lowered_by lent) lent.key s.rows (name_kept lent) f.own)
      (all_changed (IsFlagged named last) (lowered_by lent) lent.key s.rows (flag_kept named last lent) f.flags) f.waiting f.were_ended

  pub all_given_flags : (named : Key → ℕ → Bool) (last : ℕ) (lents : List LentSeen) (s : PostsSeen H) → AreFlagged named last s → AreFlagged named last (all_given_back lents s)
  all_given_flags named last [] s f = f
  all_given_flags named last (lent ∷ lents) s f = all_given_flags named last lents (given_back lent s) (given_flags named last lent s f)

  pub next_flags : (named : Key → ℕ → Bool) (last : ℕ) (p : PostSeen H) (s : PostsSeen H) → AreFlagged named last (record s { ready = p ∷ s.ready }) → AreFlagged named last s
  next_flags named last p s f = record { apart = f.apart; own = f.own; flags = f.flags; waiting = f.waiting.1; were_ended = f.were_ended.1 }

  first_out : (P : PostSeen H → Type 0) (key : Key) (ready : List (PostSeen H)) → AllByRecursion P ready → AllByRecursion P (without_first key ready)
  first_out P key [] all = all
  first_out P key (p ∷ ready) all = go (is_key key p.name.key) (first_out P key ready all.1)
    where
      go : (b : Bool) → AllByRecursion P (without_first key ready) → AllByRecursion P (cond b ready (p ∷ without_first key ready))
      go true rest = all.1
      go false rest = (all.0, rest)

  ready_out : (P : PostSeen H → Type 0) (o : Option (PostSeen H)) (key : Key) (ready : List (PostSeen H)) → AllByRecursion P ready → AllByRecursion P (ready_without o key ready)
  ready_out P None key ready all = first_out P key ready all
  ready_out P (Some p) key ready all = all

  pub out_flags : (named : Key → ℕ → Bool) (last : ℕ) (key : Key) (s : PostsSeen H) → AreFlagged named last s → AreFlagged named last (taken_out key s)
  out_flags named last key s f = record {
    apart = apart_without key s.rows f.apart;
    own = all_without (is_key key) (λ (e : Key × PostSeen H). e.1.name.key ≡ e.0) s.rows f.own;
    flags = all_without (is_key key) (λ (e : Key × PostSeen H). IsFlagged named last e.1) s.rows f.flags;
    waiting = ready_out (IsFlagged named last) (post_at key s.rows) key s.ready f.waiting;
    were_ended = ready_out (λ (p : PostSeen H). p.ended ≡ true) (post_at key s.rows) key s.ready f.were_ended;
  }

  -- the same by another word
  flag_so : (named other : Key → ℕ → Bool) (last more : ℕ) → last ≤ more → ((k : Key) (place : ℕ) → place ≤ last → named k place ≡ other k place) → (p : PostSeen H) → IsFlagged named last p → IsFlagged other more p
  flag_so named other last more less same p flag = record {
    within = let place : p.name.place ≤ last = flag.within in omega (arith, place, less);
    marked = flag.marked ∙ same p.name.key p.name.place flag.within;
  }

  rows_so : (P Q : PostSeen H → Type 0) → ((p : PostSeen H) → P p → Q p) → (rows : Rows H) → AllByRecursion (λ e. P e.1) rows → AllByRecursion (λ e. Q e.1) rows
  rows_so P Q so [] all = all
  rows_so P Q so (e ∷ rows) all = (so e.1 all.0, rows_so P Q so rows all.1)

  ready_so : (P Q : PostSeen H → Type 0) → ((p : PostSeen H) → P p → Q p) → (ready : List (PostSeen H)) → AllByRecursion P ready → AllByRecursion Q ready
  ready_so P Q so [] all = all
  ready_so P Q so (p ∷ ready) all = (so p all.0, ready_so P Q so ready all.1)

  pub flags_so : (named other : Key → ℕ → Bool) (last more : ℕ) → last ≤ more → ((k : Key) (place : ℕ) → place ≤ last → named k place ≡ other k place) → (s : PostsSeen H) → AreFlagged named last s → AreFlagged other more s
  flags_so named other last more less same s f = record {
    apart = f.apart;
    own = f.own;
    flags = rows_so (IsFlagged named last) (IsFlagged other more) (flag_so named other last more less same) s.rows f.flags;
    waiting = ready_so (IsFlagged named last) (IsFlagged other more) (flag_so named other last more less same) s.ready f.waiting;
    were_ended = f.were_ended;
  }
