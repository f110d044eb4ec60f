-- Channels by number, as the maps hold them.
use Rattle.std.proofs.Common.{◌≡◌, ℕ, Bool, true, false, List, [], ◌∷◌, Option, Some, None, Result, Ok, Err, refl, sym, ap, ◌∙◌}
use Rattle.std.specs.Prelude.{nat_eq, is_some, option_map, OnOk, OnErr, if◌then◌else◌}
use Rattle.std.specs.Map.{lookup, set_value}
use Rattle.indexmap.specs.IndexMap.{insert_entry}
use Rattle.zs_events.specs.declared.chan.Chan.{Chan}
use Rattle.zs_events.specs.declared.chan.Chan.TheVariants.{Print}
use Rattle.zs_channels.specs.Channel.{Channel, opened}
use Rattle.zs_events.specs.declared.turn.Kind.{Kind}
use Rattle.zs_channels.specs.declared.shelf.Shelf.{Shelf}
use Rattle.zs_channels.specs.declared.shelf.Shelf.TheVariants as at
use Rattle.zs_channels.specs.Table.{Rows, Table, shelf_of, channel_in, with_channel, with_changed, rows_on, with_rows, channel_at, with_opened, with_change}

module _ {V : Type 0} where
  none_some : {v : V} → None ≡ Some v → ⊥
  none_some e = cc

  out : {v w : V} → Some v ≡ Some w → v ≡ w
  out e = cc

  -- a value that is written over another under its key is put there
  set_is_insert : (id : ℕ) (v w : V) (rows : List (ℕ × V)) → lookup (nat_eq id) rows ≡ Some v → set_value (nat_eq id) rows w ≡ insert_entry nat_eq rows id w
  set_is_insert id v w [] is = absurd (none_some is)
  set_is_insert id v w (e ∷ rows) is = go (nat_eq id e.0) refl (set_is_insert id v w rows)
    where
      go : (b : Bool) → nat_eq id e.0 ≡ b → (lookup (nat_eq id) rows ≡ Some v → set_value (nat_eq id) rows w ≡ insert_entry nat_eq rows id w) → set_value (nat_eq id) (e ∷ rows) w ≡ insert_entry nat_eq (e ∷ rows) id w
      go true here rest = rw here refl
      go false here rest = let found : lookup (nat_eq id) rows ≡ Some v = sym (ap (λ (b : Bool). if b then Some e.1 else lookup (nat_eq id) rows) here) ∙ is in rw here (ap (λ more. e ∷ more) (rest found))

  -- one that is written over itself changes nothing
  insert_same : (id : ℕ) (v : V) (rows : List (ℕ × V)) → lookup (nat_eq id) rows ≡ Some v → insert_entry nat_eq rows id v ≡ rows
  insert_same id v [] is = absurd (none_some is)
  insert_same id v (e ∷ rows) is = go (nat_eq id e.0) refl (insert_same id v rows)
    where
      go : (b : Bool) → nat_eq id e.0 ≡ b → (lookup (nat_eq id) rows ≡ Some v → insert_entry nat_eq rows id v ≡ rows) → insert_entry nat_eq (e ∷ rows) id v ≡ e ∷ rows
      go true here rest = let same : e.1 ≡ v = out (sym (ap (λ (b : Bool). if b then Some e.1 else lookup (nat_eq id) rows) here) ∙ is) in rw here (ap (λ (x : V). (e.0, x) ∷ rows) (sym same))
      go false here rest = let found : lookup (nat_eq id) rows ≡ Some v = sym (ap (λ (b : Bool). if b then Some e.1 else lookup (nat_eq id) rows) here) ∙ is in rw here (ap (λ more. e ∷ more) (rest found))

module _ {T : Type 0} where
  -- a channel that is written over another one, which it is but for a change
  pub written : (id : ℕ) (change : Channel T → Channel T) (c new : Channel T) (rows : Rows T) → Some c ≡ channel_in id rows → new ≡ change c → set_value (nat_eq id) rows new ≡ with_changed id change rows
  written id change c new rows found is =
      set_is_insert id c new rows (sym found) ∙ (ap (λ (x : Channel T). insert_entry nat_eq rows id x) is ∙ ap (λ (o : Option (Channel T)). with_channel id (option_map change o) rows) found)

  -- or which it is
  pub unwritten : (id : ℕ) (c new : Channel T) (rows : Rows T) → Some c ≡ channel_in id rows → new ≡ c → set_value (nat_eq id) rows new ≡ rows
  unwritten id c new rows found is =
      ap (λ (x : Channel T). set_value (nat_eq id) rows x) is ∙ (set_is_insert id c c rows (sym found) ∙ insert_same id c rows (sym found))

module _ {T : Type 0} where
  -- rows that are written where they were read
  rows_back : (shelf : Option Shelf) (t : Table T) → with_rows shelf (rows_on shelf t) t ≡ t
  rows_back None t = refl
  rows_back (Some at.Subscribers) t = refl
  rows_back (Some at.Gets) t = refl
  rows_back (Some at.LivelinessGets) t = refl

  -- no channel is opened for what is printed alone, nor for a kind that can have none
  pub printed_alone : (kind : Kind) (id : ℕ) (t : Table T) → with_opened kind id Print t ≡ t
  printed_alone kind id t = rows_back (shelf_of kind) t

  pub of_others : (kind : Kind) (id : ℕ) (to : Chan) (t : Table T) → shelf_of kind ≡ None → with_opened kind id to t ≡ t
  of_others kind id to t none = ap (λ (shelf : Option Shelf). with_rows shelf (with_channel id (opened to) (rows_on shelf t)) t) none

  -- what happens to a channel that isn't there changes nothing
  pub unheard : (kind : Kind) (id : ℕ) (change : Channel T → Channel T) (t : Table T) → is_some (channel_at kind id t) ≡ false → with_change kind id change t ≡ t
  unheard kind id change t none = go (channel_at kind id t) refl none
    where
      rows : Rows T
      rows = rows_on (shelf_of kind) t

      go : (o : Option (Channel T)) → channel_in id rows ≡ o → is_some o ≡ false → with_rows (shelf_of kind) (with_changed id change rows) t ≡ t
      go None is none = ap (λ (p : Option (Channel T)). with_rows (shelf_of kind) (with_channel id (option_map change p) rows) t) is ∙ rows_back (shelf_of kind) t
      go (Some c) is none = absurd (true_false none)
        where
          true_false : true ≡ false → ⊥
          true_false e = cc

-- what follows from what holds at an Ok, and at an Err
pub at_ok : {A E P Q : Type 0} (r : Result A E) → (P → Q) → OnOk r P → OnOk r Q
at_ok (Ok a) f p = f p
at_ok (Err e) f p = p

pub at_err : {A E P Q : Type 0} (r : Result A E) → (P → Q) → OnErr r P → OnErr r Q
at_err (Ok a) f p = p
at_err (Err e) f p = f p
