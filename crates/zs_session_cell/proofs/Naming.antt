-- The marks of posts behind an event that was taken.
use Rattle.std.proofs.Common.{◌≡◌, ℕ, ◌+◌, ◌≤◌, Bool, true, false, List, [], ◌∷◌, ◌++◌, length, drop, Option, Some, None, refl, sym, ap, ◌∙◌, subst, arith}
use Rattle.std.specs.Prelude.{◌||◌, is_some, option_map}
use Rattle.std.specs.List.{list_any}
use Rattle.std.proofs.lemmas.List.{drop-append-le}
use Rattle.std.proofs.lemmas.List.Folds.{list_any-append}
use Rattle.std.proofs.Math.Bool.{or_assoc}
use Rattle.std.proofs.Math.Seq.{drop-length}
use Rattle.zs_events.specs.declared.event.Event.{Event}
use Rattle.zs_events.specs.declared.turn.Answer.{Answer}
use Rattle.zs_events.specs.declared.turn.Turn.{Turn}
use Rattle.zs_events.specs.Kinds.{Row, row_of}
use Rattle.zs_posts.specs.declared.key.Key.{Key}
use Rattle.zs_posts.specs.declared.key.Name.{Name}
use Rattle.zs_posts.specs.Keys.{is_key}
use Rattle.zs_posts.specs.Lending.{fresh}
use Rattle.zs_posts.specs.Calls.{CallSeen, turn_keys}
use Rattle.zs_posts.specs.Settled.{PostsSeen}
use Rattle.zs_turns.specs.declared.item.Item.{Item}
use Rattle.zs_turns.specs.Calls.{wanted_of}
use Rattle.zs_turns.specs.Gates.{name_of, opened_key, opened_at, ends_at}
use Rattle.zs_exchange.specs.Begun.{Opens, IsFree, Begun, ended_all}
use Rattle.zs_exchange.specs.Exchange.{ExchangeSeen, Carries}
use Rattle.zs_exchange.specs.Flags.{AreFlagged}
use Rattle.zs_exchange.proofs.Flags.{with_ends, with_end, all_ended_flags, lent_flags, opened_flags, flags_so}
use Rattle.zs_session_cell.specs.declared.entry.Entry.{Entry}
use Rattle.zs_session_cell.specs.Journals.{names_end, named_since, FlagsOf}

-- the place that a name notes is the one that it was given
row_place : (row : Row) (place : ℕ) (o : Option Key) (name : Name) → option_map (name_of row place) o ≡ Some name → name.place ≡ place
row_place row place None name is = let wrong : None ≡ Some name = is in cc
row_place row place (Some key) name is = let same : Some (name_of row place key) ≡ Some name = is in cc

place_is : (came : Bool) (e : Event) (place : ℕ) (answer : Answer) (name : Name) → opened_at came e place answer ≡ Some name → name.place ≡ place
unfolding opened_at
place_is came e place answer name is = row_place (row_of e) place (opened_key came (row_of e) answer) name is

-- keys that were named once more
ends_added : (keys : List Key) (named : Key → ℕ → Bool) (k : Key) (place : ℕ) → with_ends keys named k place ≡ (named k place || list_any (λ q. is_key q k) keys)
ends_added [] named k place = or_false (named k place)
  where
    or_false : (b : Bool) → b ≡ (b || false)
    or_false true = refl
    or_false false = refl
ends_added (key ∷ keys) named k place = ends_added keys (with_end key named) k place ∙ or_assoc (named k place) (is_key key k) (list_any (λ q. is_key q k) keys)

abbrev pub entry_of : Event → Turn → Entry
entry_of e turn = record { event = e; turn = turn }

-- a journal with one entry more
one_more : (journal : List Entry) (entry : Entry) (k : Key) (place : ℕ) → place ≤ length journal
    → (named_since journal k place || list_any (λ q. is_key q k) (ends_at entry.event entry.turn)) ≡ named_since (journal ++ entry ∷ []) k place
one_more journal entry k place less =
    sym (ap (names_end k) (drop-append-le place journal (entry ∷ []) less) ∙ list_any-append (λ (x : Entry). list_any (λ q. is_key q k) (ends_at x.event x.turn)) (drop place journal) (entry ∷ []) ∙ ap (λ (b : Bool). names_end k (drop place journal) || b) (last (list_any (λ q. is_key q k) (ends_at entry.event entry.turn))))
  where
    last : (b : Bool) → (b || false) ≡ b
    last true = refl
    last false = refl

module _ {H : Type 0} where
  -- what was opened isn't named yet
  opens_flags : (journal : List Entry) (came : Bool) (e : Event) (answer : Answer) (name : Option Name) → name ≡ opened_at came e (length journal) answer → (handler : Option H) (old opened : PostsSeen H) → IsFree name old → Opens name handler old opened → FlagsOf journal old → FlagsOf journal opened
  opens_flags journal came e answer None is handler old opened free opens f = subst (λ (s : PostsSeen H). FlagsOf journal s) (sym opens) f
  opens_flags journal came e answer (Some name) is handler old opened free opens f =
      let place : name.place ≡ length journal = place_is came e (length journal) answer name (sym is) in
      let none : named_since journal name.key name.place ≡ false = ap (λ n. named_since journal name.key n) place ∙ ap (names_end name.key) (drop-length journal) in
      subst (λ (s : PostsSeen H). FlagsOf journal s) (sym opens.2)
      (opened_flags (named_since journal) (length journal) name (fresh name handler opens.0 old.room opens.1) old refl (sym free) (record { within = omega (arith, place); marked = sym none }) f)

  pub taken_flags : (journal : List Entry) (e : Event) (turn : Turn) (handler : Option H) (old : ExchangeSeen H) (calls : List (CallSeen H Item)) (new : ExchangeSeen H) → FlagsOf journal old.posts → Carries e turn handler (length journal) old calls new
      → FlagsOf (journal ++ entry_of e turn ∷ []) new.posts
  taken_flags journal e turn handler old calls new f c =
      let opened : FlagsOf journal c.begun.opened = opens_flags journal (is_some handler) e turn.answer (opened_at (is_some handler) e (length journal) turn.answer) refl handler old.posts c.begun.opened c.begun.free c.begun.opens f in
      let between : FlagsOf journal c.between = subst (λ (s : PostsSeen H). FlagsOf journal s) (sym c.begun.turn.posts_are) (lent_flags (named_since journal) (length journal) (turn_keys (wanted_of old.tag turn.effects) c.begun.opened.rows) c.begun.opened opened) in
      let keys : List Key = ends_at e turn in
      subst (λ (x : ExchangeSeen H). FlagsOf (journal ++ entry_of e turn ∷ []) x.posts) (sym c.rest)
      (flags_so (with_ends keys (named_since journal)) (named_since (journal ++ entry_of e turn ∷ [])) (length journal) (length (journal ++ entry_of e turn ∷ [])) (longer journal)
      (λ k place less. ends_added keys (named_since journal) k place ∙ one_more journal (entry_of e turn) k place less) (ended_all keys c.between) (all_ended_flags (named_since journal) (length journal) keys c.between between))
    where
      longer : (xs : List Entry) → length xs ≤ length (xs ++ entry_of e turn ∷ [])
      longer [] = omega arith
      longer (x ∷ xs) = let rest : length xs ≤ length (xs ++ entry_of e turn ∷ []) = longer xs in omega (arith, rest)
