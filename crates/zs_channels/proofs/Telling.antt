-- The table of channels follows what is heard of them.
use Rattle.std.proofs.Common.{◌≡◌, ℕ, Bool, true, false, [], ◌∷◌, Option, Some, None, refl, sym, ap, ◌∙◌, arith}
use Rattle.std.specs.Prelude.{◌==◌, ◌&&◌, nat_eq, option_map, if◌then◌else◌}
use Rattle.std.proofs.lemmas.Bool.Decides.{nat_tests}
use Rattle.indexmap.specs.IndexMap.{insert_entry}
use Rattle.zs_events.specs.declared.chan.Chan.{Chan}
use Rattle.zs_events.specs.declared.turn.Kind.{Kind}
use Rattle.zs_events.specs.declared.turn.Kind.TheVariants.{Subscriber, Get, LivelinessGet}
use Rattle.zs_channels.specs.Channel.{Channel, is_channel, opened}
use Rattle.zs_channels.specs.Told.{Happening, Handed, Read, Ended, Opens, Hears, Declared, is_same, state, hearing, declared_or, channel_of}
use Rattle.zs_channels.specs.Table.{Rows, Table, no_channels, shelf_of, channel_in, with_channel, rows_on, with_rows, channel_at, after, table_after}
use Rattle.zs_channels.specs.Laws.{ChannelsAreTold}

-- a test that fails does not hold
impossible : false ≡ true → ⊥
impossible e = cc

-- kinds that are the same are one
kinds_same : (kind k : Kind) → is_same kind k ≡ true → kind ≡ k
kinds_same Subscriber Subscriber is = refl
kinds_same Get Get is = refl
kinds_same LivelinessGet LivelinessGet is = refl
kinds_same kind k is = absurd (impossible is)

-- the one that there is, or else the other
abbrev first_of : {X : Type 0} → Option X → Option X → Option X
first_of (Some x) other = Some x
first_of None other = other

module _ {T : Type 0} where
  -- what is put under a number is found there, and nothing else has changed
  found : (q id : ℕ) (c : Channel T) (rows : Rows T) → channel_in q (insert_entry nat_eq rows id c) ≡ (if q == id then Some c else channel_in q rows)
  found q id c [] = refl
  found q id c (e ∷ rows) = go (nat_eq id e.0) refl (nat_eq q e.0) refl (found q id c rows)
    where
      go : (b : Bool) → nat_eq id e.0 ≡ b → (d : Bool) → nat_eq q e.0 ≡ d → channel_in q (insert_entry nat_eq rows id c) ≡ (if q == id then Some c else channel_in q rows)
          → channel_in q (insert_entry nat_eq (e ∷ rows) id c) ≡ (if q == id then Some c else channel_in q (e ∷ rows))
      go true here true same rest = let both : nat_eq q id ≡ true = grind (arith, nat_tests, here, same) in rw (here, both, same) refl
      go true here false same rest = let apart : nat_eq q id ≡ false = grind (arith, nat_tests, here, same) in rw (here, apart, same) refl
      go false here true same rest = let apart : nat_eq q id ≡ false = grind (arith, nat_tests, here, same) in rw (here, apart, same) refl
      go false here false same rest = rw (here, same) rest

  in_rows : (q id : ℕ) (o : Option (Channel T)) (rows : Rows T) → channel_in q (with_channel id o rows) ≡ (if q == id then first_of o (channel_in q rows) else channel_in q rows)
  in_rows q id (Some c) rows = found q id c rows
  in_rows q id None rows = go (q == id)
    where
      go : (b : Bool) → channel_in q rows ≡ (if b then channel_in q rows else channel_in q rows)
      go true = refl
      go false = refl

  -- the rows of a kind, where those of another or the same one are written
  rows_same : (kind k : Kind) (rows : Rows T) (t : Table T) → rows_on (shelf_of kind) (with_rows (shelf_of k) rows t) ≡ (if is_same kind k then rows else rows_on (shelf_of kind) t)
  rows_same Subscriber Subscriber rows t = refl
  rows_same Get Get rows t = refl
  rows_same LivelinessGet LivelinessGet rows t = refl
  rows_same kind k rows t = refl

  -- the channel of a kind and number, where one is put under another or the same
  placed : (kind k : Kind) (id n : ℕ) (o : Option (Channel T)) (t : Table T)
      → channel_at kind id (with_rows (shelf_of k) (with_channel n o (rows_on (shelf_of k) t)) t) ≡ (if is_same kind k && (id == n) then first_of o (channel_at kind id t) else channel_at kind id t)
  placed kind k id n o t = go (is_same kind k) refl
    where
      rows : Rows T
      rows = with_channel n o (rows_on (shelf_of k) t)

      go : (b : Bool) → is_same kind k ≡ b → channel_at kind id (with_rows (shelf_of k) rows t) ≡ (if is_same kind k && (id == n) then first_of o (channel_at kind id t) else channel_at kind id t)
      go true is =
          ap (channel_in id) (rows_same kind k rows t ∙ ap (λ b. if b then rows else rows_on (shelf_of kind) t) is)
          ∙ (in_rows id n o (rows_on (shelf_of k) t)
          ∙ (ap (λ j. if id == n then first_of o (channel_at j id t) else channel_at j id t) (sym (kinds_same kind k is))
          ∙ sym (ap (λ b. if b && (id == n) then first_of o (channel_at kind id t) else channel_at kind id t) is)))
      go false is =
          ap (channel_in id) (rows_same kind k rows t ∙ ap (λ b. if b then rows else rows_on (shelf_of kind) t) is)
          ∙ sym (ap (λ b. if b && (id == n) then first_of o (channel_at kind id t) else channel_at kind id t) is)

  -- no rows where nothing was heard
  no_rows : (kind : Kind) → rows_on (shelf_of kind) (no_channels {T = T}) ≡ []
  no_rows Subscriber = refl
  no_rows Get = refl
  no_rows LivelinessGet = refl
  no_rows kind = refl

  -- what happens to a channel makes the same of it, however it is told
  hears : (what : Happening T) (d : Declared T) → after what (state d) ≡ state (hearing what d)
  hears (Handed item) d = refl
  hears Read d = refl
  hears Ended d = refl

  opens : (to : Chan) (x : Option (Channel T)) (d : Option (Declared T)) → x ≡ option_map state d → first_of (opened to) x ≡ option_map state (declared_or d to)
  opens to x d is = go (is_channel to)
    where
      go : (b : Bool) → first_of (if b then Some (record { to = to; items = []; ended = false }) else None) x ≡ option_map state (if b then Some (record { to = to; since = [] }) else d)
      go true = refl
      go false = is

  changes : (what : Happening T) (x : Option (Channel T)) (d : Option (Declared T)) → x ≡ option_map state d → first_of (option_map (after what) x) x ≡ option_map state (option_map (hearing what) d)
  changes what x None is = ap (λ (o : Option (Channel T)). first_of (option_map (after what) o) o) is
  changes what x (Some d) is = ap (λ (o : Option (Channel T)). first_of (option_map (after what) o) o) is ∙ ap Some (hears what d)

pub told : {T : Type 0} → ChannelsAreTold T
told {T = T} [] kind id = ap (channel_in id) (no_rows {T = T} kind)
told {T = T} (Opens k n to ∷ heard) kind id = placed kind k id n (opened to) (table_after heard) ∙ go (is_same kind k && (id == n)) (told heard kind id)
  where
    go : (b : Bool) → channel_at kind id (table_after heard) ≡ option_map state (channel_of kind id heard)
        → (if b then first_of (opened to) (channel_at kind id (table_after heard)) else channel_at kind id (table_after heard)) ≡ option_map state (if b then declared_or (channel_of kind id heard) to else channel_of kind id heard)
    go true is = opens to (channel_at kind id (table_after heard)) (channel_of kind id heard) is
    go false is = is
told {T = T} (Hears k n what ∷ heard) kind id = placed kind k id n (option_map (after what) (channel_at k n (table_after heard))) (table_after heard) ∙ go (is_same kind k) refl (id == n) refl (told heard kind id)
  where
    go : (b : Bool) → is_same kind k ≡ b → (d : Bool) → (id == n) ≡ d → channel_at kind id (table_after heard) ≡ option_map state (channel_of kind id heard)
        → (if is_same kind k && (id == n) then first_of (option_map (after what) (channel_at k n (table_after heard))) (channel_at kind id (table_after heard)) else channel_at kind id (table_after heard))
        ≡ option_map state (if is_same kind k && (id == n) then option_map (hearing what) (channel_of kind id heard) else channel_of kind id heard)
    go true same true here is =
        let number : id ≡ n = grind (arith, nat_tests, here) in
        let one : channel_at k n (table_after heard) ≡ channel_at kind id (table_after heard) = ap (λ j. channel_at j n (table_after heard)) (sym (kinds_same kind k same)) ∙ ap (λ m. channel_at kind m (table_after heard)) (sym number) in
        rw (same, here, one) (changes what (channel_at kind id (table_after heard)) (channel_of kind id heard) is)
    go true same false here is = rw (same, here) is
    go false same d here is = rw same is
