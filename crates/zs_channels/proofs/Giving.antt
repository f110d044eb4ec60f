-- What a fifo gives, and what a ring keeps.
use Rattle.std.proofs.Common.{◌≡◌, ℕ, zero, suc, ◌-◌, Bool, true, false, List, [], ◌∷◌, ◌++◌, length, take, drop, refl, sym, ap, ◌∙◌, append_assoc, arith}
use Rattle.std.specs.Prelude.{◌==◌, ◌&&◌, Option, Some, None, option_map, if◌then◌else◌}
use Rattle.std.specs.List.{list_all}
use Rattle.std.proofs.lemmas.List.{take-append-drop, length-drop}
use Rattle.zs_events.specs.declared.chan.Chan.{Chan}
use Rattle.zs_events.specs.declared.chan.Chan.TheVariants.{Print, Fifo, Ring}
use Rattle.zs_channels.specs.Channel.{is_channel, kept_in, left_in}
use Rattle.zs_channels.specs.Told.{Handed, Read, Ended, Opens, Hears, Declared, is_same, has_ended, held, hearing, declared_or, channel_of, handed, read_of, items_in, all_handed}
use Rattle.zs_channels.specs.Laws.{FifoGivesAll, HoldsLast, RingKeepsNewest, HoldsHanded}

pub gives_all : {T : Type 0} → FifoGivesAll T
gives_all size [] = refl
gives_all {T = T} size (Handed item ∷ since) = go (has_ended since) refl (gives_all size since)
  where
    go : (b : Bool) → has_ended since ≡ b → read_of (Fifo size) since ++ held (Fifo size) since ≡ handed since → read_of (Fifo size) (Handed item ∷ since) ++ held (Fifo size) (Handed item ∷ since) ≡ handed (Handed item ∷ since)
    go true over is = rw over is
    go false over is = rw over (sym (append_assoc (read_of (Fifo size) since) (held (Fifo size) since) (item ∷ [])) ∙ ap (λ (xs : List T). xs ++ item ∷ []) is)
gives_all {T = T} size (Read ∷ since) =
    append_assoc (read_of (Fifo size) since) (take 1 (held (Fifo size) since)) (drop 1 (held (Fifo size) since))
    ∙ (ap (λ (xs : List T). read_of (Fifo size) since ++ xs) (take-append-drop 1 (held (Fifo size) since)) ∙ gives_all size since)
gives_all size (Ended ∷ since) = gives_all size since

-- a test that holds does not fail
impossible : true ≡ false → ⊥
impossible e = cc

-- items that end what was handed over, without the first ones
behind : {T : Type 0} (k : ℕ) (before items all : List T) → before ++ items ≡ all → (before ++ take k items) ++ drop k items ≡ all
behind {T = T} k before items all is = append_assoc before (take k items) (drop k items) ∙ (ap (λ (xs : List T). before ++ xs) (take-append-drop k items) ∙ is)

pub keeps_newest : {T : Type 0} → RingKeepsNewest T
keeps_newest size [] going = (omega arith, ([], refl))
keeps_newest {T = T} size (Handed item ∷ since) going = go (keeps_newest size since going)
  where
    all : List T
    all = held (Ring size) since ++ item ∷ []

    go : HoldsLast T size since → HoldsLast T size (Handed item ∷ since)
    go (fits, (before, is)) =
        rw going (
          omega (arith, length-drop (length all - size) all),
          (before ++ take (length all - size) all, behind (length all - size) before all (handed since ++ item ∷ []) (sym (append_assoc before (held (Ring size) since) (item ∷ [])) ∙ ap (λ (xs : List T). xs ++ item ∷ []) is)),
        )
keeps_newest {T = T} size (Read ∷ since) going = go (keeps_newest size since going)
  where
    go : HoldsLast T size since → HoldsLast T size (Read ∷ since)
    go (fits, (before, is)) =
        (omega (arith, length-drop 1 (held (Ring size) since), fits), (before ++ take 1 (held (Ring size) since), behind 1 before (held (Ring size) since) (handed since) is))
keeps_newest size (Ended ∷ since) going = absurd (impossible going)

-- both of two tests hold, or each
both : (a b : Bool) → (a && b) ≡ true → (a ≡ true) × (b ≡ true)
both true b is = (refl, is)
both false b is = absurd (true_false (sym is))
  where
    true_false : true ≡ false → ⊥
    true_false e = cc

module _ {T : Type 0} (test : T → Bool) where
  -- a list that passes does so without its first items
  all_drop : (n : ℕ) (xs : List T) → list_all test xs ≡ true → list_all test (drop n xs) ≡ true
  all_drop zero xs all = all
  all_drop (suc n) [] all = refl
  all_drop (suc n) (x ∷ xs) all = all_drop n xs (both (test x) (list_all test xs) all).1

  all_push : (xs : List T) (x : T) → list_all test xs ≡ true → test x ≡ true → list_all test (xs ++ x ∷ []) ≡ true
  all_push [] x all one = rw one refl
  all_push (y ∷ xs) x all one = let two = both (test y) (list_all test xs) all in rw two.0 (all_push xs x two.1 one)

  all_kept : (to : Chan) (xs : List T) → list_all test xs ≡ true → list_all test (kept_in to xs) ≡ true
  all_kept Print xs all = all
  all_kept (Fifo size) xs all = all
  all_kept (Ring size) xs all = all_drop (length xs - size) xs all

  all_left : (to : Chan) (xs : List T) → list_all test xs ≡ true → list_all test (left_in to xs) ≡ true
  all_left Print xs all = all
  all_left (Fifo size) xs all = all
  all_left (Ring size) xs all = refl

  -- an item more that passes
  more : (item : T) (d : Option (Declared T)) → test item ≡ true → list_all test (items_in d) ≡ true → list_all test (items_in (option_map (hearing (Handed item)) d)) ≡ true
  more item None one all = refl
  more item (Some d) one all = go (has_ended d.since)
    where
      go : (b : Bool) → list_all test (if b then held d.to d.since else kept_in d.to (held d.to d.since ++ item ∷ [])) ≡ true
      go true = all
      go false = all_kept d.to (held d.to d.since ++ item ∷ []) (all_push (held d.to d.since) item all one)

  less : (d : Option (Declared T)) → list_all test (items_in d) ≡ true → list_all test (items_in (option_map (hearing Read) d)) ≡ true
  less None all = refl
  less (Some d) all = all_drop 1 (held d.to d.since) all

  over : (d : Option (Declared T)) → list_all test (items_in d) ≡ true → list_all test (items_in (option_map (hearing Ended) d)) ≡ true
  over None all = refl
  over (Some d) all = all_left d.to (held d.to d.since) all

  -- one of two
  either : (b : Bool) (c d : Option (Declared T)) → list_all test (items_in c) ≡ true → list_all test (items_in d) ≡ true → list_all test (items_in (if b then c else d)) ≡ true
  either true c d one other = one
  either false c d one other = other

pub holds : {T : Type 0} → HoldsHanded T
holds test [] kind id all = refl
holds {T = T} test (Opens k n to ∷ heard) kind id all =
    let before = holds test heard kind id all in
    let fresh : Option (Declared T) = Some (record { to = to; since = [] }) in
    either test (is_same kind k && (id == n)) (declared_or (channel_of kind id heard) to) (channel_of kind id heard) (either test (is_channel to) fresh (channel_of kind id heard) refl before) before
holds test (Hears k n (Handed item) ∷ heard) kind id all =
    let two = both (test item) (list_all test (all_handed heard)) all in
    let before = holds test heard kind id two.1 in
    either test (is_same kind k && (id == n)) (option_map (hearing (Handed item)) (channel_of kind id heard)) (channel_of kind id heard) (more test item (channel_of kind id heard) two.0 before) before
holds test (Hears k n Read ∷ heard) kind id all =
    let before = holds test heard kind id all in
    either test (is_same kind k && (id == n)) (option_map (hearing Read) (channel_of kind id heard)) (channel_of kind id heard) (less test (channel_of kind id heard) before) before
holds test (Hears k n Ended ∷ heard) kind id all =
    let before = holds test heard kind id all in
    either test (is_same kind k && (id == n)) (option_map (hearing Ended) (channel_of kind id heard)) (channel_of kind id heard) (over test (channel_of kind id heard) before) before
