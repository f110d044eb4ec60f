-- What a get is handed by an event, and whether that ends it, by what it hears.
use Rattle.std.proofs.Common.{◌≡◌, ℕ, List, [], ◌∷◌, ◌++◌, Bool, true, false, Option, Some, None, refl, sym, ◌∙◌, ap, cond, map}
use Rattle.std.specs.Prelude.{◌==◌, ◌&&◌, ◌||◌, not, filter, is_some, if◌then◌else◌}
use Rattle.std.specs.List.{AllByRecursion, list_any}
use Rattle.std.specs.Option.{IfSome}
use Rattle.std.proofs.lemmas.Bool.{eqb-true}
use Rattle.zs_sample.specs.Reply.{Replied}
use Rattle.zs_wire.specs.declared.request.ConsolidationMode.{ConsolidationMode}
use Rattle.zs_wire.specs.declared.request.ConsolidationMode.TheVariants as by
use Rattle.zs_query.specs.declared.open_get.OpenGet.{OpenGet}
use Rattle.zs_query.specs.declared.side.Side.{Side}
use Rattle.zs_query.specs.Asked.{News, Quiet, ReplyTo, FinalOf, Asked, waiting, is_open, is_for, state, replies_in}
use Rattle.zs_query.specs.Gets.{get_at}
use Rattle.zs_query.specs.Kept.{passes_all}
use Rattle.zs_events.specs.declared.event.Event.{Event}
use Rattle.zs_events.specs.declared.turn.Kind.TheVariants.{Get as get_kind}
use Rattle.zs_events.specs.declared.turn.Refusal.{Refusal}
use Rattle.zs_events.specs.Kinds.{row_of}
use Rattle.zs_model.specs.declared.settings.Settings.{Settings}
use Rattle.zs_model.specs.Causes.{refusal_of}
use Rattle.zs_model.specs.Entry.{is_closed}
use Rattle.zs_model.specs.Gets.{asked, open_now}
use Rattle.zs_model.specs.Live.{to_gets_of}
use Rattle.zs_model.specs.Past.{past_of}
use Rattle.zs_model.specs.Values.{values_now}
use Rattle.zs_model.specs.Effects.{effects}
use Rattle.zs_standing.specs.Stands.{lives}
use Rattle.zs_laws.specs.Ended.{begun, EndsOfGets}
use Rattle.zs_laws.specs.Handed.{handed_to, handed_now, kept_by, is_last, handed_by, errors_by, heard_at, accepted_alone, GetsAreHanded, OthersAreHandedNothing}
use Rattle.zs_replica_gets.specs.Gets.{ends}

-- the get of a number among those that were asked and are open
record IsPicked (P : Asked → Type 0) (n : ℕ) (g : OpenGet) : Type 0 where
  get : Asked
  number : get.row.number ≡ n
  its : state get ≡ g
  holds : P get

pick : (P : Asked → Type 0) (n : ℕ) (g : OpenGet) (xs : List Asked) → AllByRecursion P xs → get_at n (map state xs) ≡ Some g → IsPicked P n g
pick P n g [] all found = cc
pick P n g (x ∷ xs) all found = go (x.row.number == n) refl found (pick P n g xs all.1)
  where
    go : (b : Bool) → (x.row.number == n) ≡ b → (if b then Some (state x) else get_at n (map state xs)) ≡ Some g → (get_at n (map state xs) ≡ Some g → IsPicked P n g) → IsPicked P n g
    go true is found ih = record { get = x; number = eqb-true x.row.number n is; its = cc; holds = all.0 }
    go false is found ih = ih found

-- news that hands nothing to an open get which is handed the newest at its end
abbrev pub IsSilent : ℕ → OpenGet → News → Type 0
IsSilent n g Quiet = Unit {0}
IsSilent n g (ReplyTo number reply) = Unit {0}
IsSilent n g (FinalOf number side) = (n == number && is_last side g.row) ≡ false
IsSilent n g news = ⊥

alone_none : (o : Option Refusal) (c : Bool) → accepted_alone o c [] ≡ []
alone_none None true = refl
alone_none None false = refl
alone_none (Some refusal) c = refl

no_reply : (mode : ConsolidationMode) (pass : Bool) (r : Replied) → mode ≡ by.Latest → handed_now mode pass r ≡ []
no_reply mode pass r is = ap (λ (m : ConsolidationMode). handed_now m pass r) is

silent_news : (a : Asked) (g : OpenGet) (n : ℕ) (news : News) → a.row.number ≡ n → state a ≡ g → g.row.mode ≡ by.Latest → IsSilent n g news → handed_by a news ≡ []
silent_news a g n Quiet number its mode silent = refl
silent_news a g n (ReplyTo m r) number its mode silent = go (is_for a.row m r)
  where
    go : (b : Bool) → (if b then handed_now a.row.mode (passes_all (replies_in a.row a.since) r) r else []) ≡ []
    go true = no_reply a.row.mode (passes_all (replies_in a.row a.since) r) r (ap (λ (g : OpenGet). g.row.mode) its ∙ mode)
    go false = refl
silent_news a g n (FinalOf m side) number its mode silent =
    ap (λ (k : ℕ). if k == m && is_last side (waiting a) then kept_by a else []) number
    ∙ ap (λ (h : OpenGet). if n == m && is_last side h.row then kept_by a else []) its
    ∙ ap (λ (b : Bool). if b then kept_by a else []) silent
silent_news a g n news number its mode silent = absurd silent

module _ (open_law : GetsAreHanded) (others_law : OthersAreHandedNothing) (ends_law : EndsOfGets) (s : Settings) (h : List Event) (e : Event) (n : ℕ) where
  -- what an open get is handed
  abbrev handed_of : Asked → List Replied
  handed_of a =
      accepted_alone (refusal_of s (past_of s h) e) (is_closed (past_of s h))
      (handed_by a (heard_at s (past_of s h) e) ++ errors_by s.zid (open_now s (past_of s h)) (values_now (past_of s h)) a.row.number (to_gets_of (past_of s h) e) (row_of e).to_values)

  open_is : (g : OpenGet) → get_at n (open_now s (past_of s h)) ≡ Some g → IsPicked (λ a. handed_to a.row.number (effects s h e).effects ≡ handed_of a) n g
  open_is g found = pick (λ a. handed_to a.row.number (effects s h e).effects ≡ handed_of a) n g (filter is_open (asked s (past_of s h))) (open_law s h e) found

  -- nothing of silent news
  pub handed_nothing : (at : Option OpenGet) → get_at n (open_now s (past_of s h)) ≡ at → IfSome at (λ g. g.row.mode ≡ by.Latest)
      → IfSome at (λ g. IsSilent n g (heard_at s (past_of s h) e))
      → ((m : ℕ) → errors_by s.zid (open_now s (past_of s h)) (values_now (past_of s h)) m (to_gets_of (past_of s h) e) (row_of e).to_values ≡ [])
      → handed_to n (effects s h e).effects ≡ []
  handed_nothing None found mode silent none = others_law s h e n (ap (λ (o : Option OpenGet). is_some o) found)
  handed_nothing (Some g) found mode silent none =
      let its = open_is g found in
      ap (λ (m : ℕ). handed_to m (effects s h e).effects) (sym its.number)
      ∙ its.holds
      ∙ (λ i. accepted_alone (refusal_of s (past_of s h) e) (is_closed (past_of s h))
      (silent_news its.get g n (heard_at s (past_of s h) e) its.number its.its mode silent i ++ none its.get.row.number i))
      ∙ alone_none (refusal_of s (past_of s h) e) (is_closed (past_of s h))

  -- what it keeps at its last final
  pub handed_kept : (g : OpenGet) (side : Side) → get_at n (open_now s (past_of s h)) ≡ Some g → is_closed (past_of s h) ≡ false → refusal_of s (past_of s h) e ≡ None
      → heard_at s (past_of s h) e ≡ FinalOf n side → is_last side g.row ≡ true → (n == n) ≡ true
      → ((m : ℕ) → errors_by s.zid (open_now s (past_of s h)) (values_now (past_of s h)) m (to_gets_of (past_of s h) e) (row_of e).to_values ≡ [])
      → handed_to n (effects s h e).effects ≡ g.kept
  handed_kept g side found unshut fine heard final same none =
      let its = open_is g found in
      ap (λ (m : ℕ). handed_to m (effects s h e).effects) (sym its.number)
      ∙ its.holds
      ∙ (λ i. accepted_alone (fine i) (unshut i) (handed_by its.get (heard i) ++ none its.get.row.number i))
      ∙ nothing_more (handed_by its.get (FinalOf n side))
      ∙ ap (λ (k : ℕ). if k == n && is_last side (waiting its.get) then kept_by its.get else []) its.number
      ∙ ap (λ (h : OpenGet). if n == n && is_last side h.row then h.kept else []) its.its
      ∙ ap (λ (b : Bool). if b && is_last side g.row then g.kept else []) same
      ∙ ap (λ (b : Bool). if b then g.kept else []) final
    where
      nothing_more : (rs : List Replied) → rs ++ [] ≡ rs
      nothing_more [] = refl
      nothing_more (r ∷ rs) = ap (λ (rest : List Replied). r ∷ rest) (nothing_more rs)

  -- whether its end is told
  any_left : (xs : List ℕ) → list_any (λ m. m == n) (filter (λ number. not (lives s get_kind number (past_of s (e ∷ h)))) xs)
      ≡ (list_any (λ m. m == n) xs && not (is_some (get_at n (open_now s (past_of s (e ∷ h))))))
  any_left [] = refl
  any_left (x ∷ xs) = go (x == n) refl (any_left xs)
    where
      gone : ℕ → Bool
      gone m = not (is_some (get_at m (open_now s (past_of s (e ∷ h)))))

      rest : List ℕ
      rest = filter (λ number. not (lives s get_kind number (past_of s (e ∷ h)))) xs

      with_one : (c d : Bool) → (c ≡ d) → (r : List ℕ) (a : Bool) → list_any (λ m. m == n) r ≡ (a && d) → (x == n) ≡ true → list_any (λ m. m == n) (cond c (x ∷ r) r) ≡ ((true || a) && d)
      with_one true true same r a ih is = ap (λ (b : Bool). b || list_any (λ m. m == n) r) is
      with_one false false same r true ih is = ih
      with_one false false same r false ih is = ih
      with_one true false same r a ih is = cc
      with_one false true same r a ih is = cc

      without : (c : Bool) (r : List ℕ) → (x == n) ≡ false → list_any (λ m. m == n) (cond c (x ∷ r) r) ≡ list_any (λ m. m == n) r
      without true r is = ap (λ (b : Bool). b || list_any (λ m. m == n) r) is
      without false r is = refl

      go : (b : Bool) → (x == n) ≡ b → list_any (λ m. m == n) (filter (λ number. not (lives s get_kind number (past_of s (e ∷ h)))) xs) ≡ (list_any (λ m. m == n) xs && gone n)
          → list_any (λ m. m == n) (filter (λ number. not (lives s get_kind number (past_of s (e ∷ h)))) (x ∷ xs)) ≡ ((b || list_any (λ m. m == n) xs) && gone n)
      go true is ih =
          with_one (gone x) (gone n) (ap gone (eqb-true x n is)) (filter (λ number. not (lives s get_kind number (past_of s (e ∷ h)))) xs) (list_any (λ m. m == n) xs) ih is
      go false is ih = without (gone x) (filter (λ number. not (lives s get_kind number (past_of s (e ∷ h)))) xs) is ∙ ih

  any_open : (gets : List OpenGet) → list_any (λ m. m == n) (map (λ g. g.row.number) gets) ≡ is_some (get_at n gets)
  any_open [] = refl
  any_open (g ∷ gets) = go (g.row.number == n) (any_open gets)
    where
      go : (b : Bool) → list_any (λ m. m == n) (map (λ g. g.row.number) gets) ≡ is_some (get_at n gets)
          → (b || list_any (λ m. m == n) (map (λ g. g.row.number) gets)) ≡ is_some (if b then Some g else get_at n gets)
      go true ih = refl
      go false ih = ih

  any_append : (xs ys : List ℕ) → list_any (λ m. m == n) (xs ++ ys) ≡ (list_any (λ m. m == n) xs || list_any (λ m. m == n) ys)
  any_append [] ys = refl
  any_append (x ∷ xs) ys = go (x == n) (any_append xs ys)
    where
      go : (b : Bool) → list_any (λ m. m == n) (xs ++ ys) ≡ (list_any (λ m. m == n) xs || list_any (λ m. m == n) ys)
          → (b || list_any (λ m. m == n) (xs ++ ys)) ≡ ((b || list_any (λ m. m == n) xs) || list_any (λ m. m == n) ys)
      go true ih = refl
      go false ih = ih

  pub ends_is : (at after : Option OpenGet) (fresh : List ℕ) → get_at n (open_now s (past_of s h)) ≡ at → get_at n (open_now s (past_of s (e ∷ h))) ≡ after
      → begun (row_of e).draws (effects s h e).answer ≡ fresh
      → ends n (effects s h e).effects ≡ ((is_some at || list_any (λ m. m == n) fresh) && not (is_some after))
  ends_is at after fresh before behind new =
      ap (list_any (λ m. m == n)) (ends_law s h e)
      ∙ any_left (map (λ g. g.row.number) (open_now s (past_of s h)) ++ begun (row_of e).draws (effects s h e).answer)
      ∙ ap (λ (b : Bool). b && not (is_some (get_at n (open_now s (past_of s (e ∷ h))))))
      (any_append (map (λ g. g.row.number) (open_now s (past_of s h))) (begun (row_of e).draws (effects s h e).answer)
      ∙ (λ i. any_open (open_now s (past_of s h)) i || list_any (λ m. m == n) (new i)))
      ∙ (λ i. (is_some (before i) || list_any (λ m. m == n) fresh) && not (is_some (behind i)))
