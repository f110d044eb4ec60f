-- The stores of two linked sessions hold what both sides wrote.
use Rattle.std.proofs.Common.{◌≡◌, inl, inr, ℕ, List, [], ◌∷◌, ◌++◌, Bool, true, false, Option, Some, None, refl, sym, ◌∙◌, ap, subst, cond}
use Rattle.std.specs.Prelude.{not, ◌&&◌, filter, drop, if◌then◌else◌}
use Rattle.std.specs.List.{AllByRecursion, flat_map}
use Rattle.std.specs.Str.{all_scalars, chars, IsUtf8}
use Rattle.std.proofs.lemmas.Str.{scalars-chars}
use Rattle.zs_wire.specs.declared.message.Message.{Message}
use Rattle.zs_sample.specs.declared.locality.Locality.TheVariants.{Any}
use Rattle.zs_sample.specs.declared.sample_fields.SampleFields.{SampleFields}
use Rattle.zs_subscriptions.specs.Recipients.{has_network}
use Rattle.zs_subscriptions.specs.declared.subscriber.SubRow.{SubRow}
use Rattle.zs_events.specs.declared.event.Event.{Event}
use Rattle.zs_events.specs.declared.event.Event.TheVariants.{Publish, Get, Reply, Finish, Net}
use Rattle.zs_events.specs.declared.turn.Refusal.{Refusal}
use Rattle.zs_events.specs.Kinds.{NoContent}
use Rattle.zs_model.specs.declared.publisher.PubRow.{PubRow}
use Rattle.zs_model.specs.declared.settings.Settings.{Settings}
use Rattle.zs_model.specs.Entry.{Entry, is_closed}
use Rattle.zs_model.specs.HeldKeys.{named_text}
use Rattle.zs_model.specs.Live.{live_subs, live_pubs}
use Rattle.zs_model.specs.Causes.{refusal_of}
use Rattle.zs_model.specs.Past.{past_of}
use Rattle.zs_model.specs.Publications.{Publication}
use Rattle.zs_model.specs.Effects.{publication_on, publication_of}
use Rattle.zs_model.specs.Received.{AreSpelled}
use Rattle.zs_delivery.specs.declared.side.LinkSide.TheVariants.{A, B}
use Rattle.zs_delivery.specs.Linked.{Side, LinkLine, Take, Deliver, other, is_event, with_event, with_oldest, linked_after}
use Rattle.zs_delivery.specs.Links.{is_net, AreOwn, AreSpelledLines}
use Rattle.zs_arrivals.specs.Arrivals.{pushes, Arrive, BothArrive, ArrivalsAreInOrder}
use Rattle.zs_arrivals.specs.Publications.{unless_refused, made_by, publications, goes_out, came_in, samples_of, published, arrived}
use Rattle.zs_arrivals.specs.Samples.{samples_to, handed_by, SamplesFollowPublications}
use Rattle.zs_store.specs.Store.{Write, store_of}
use Rattle.zs_store.specs.Laws.{HoldsBest, StoresHoldBest, StoresJoin}
use Rattle.zs_replicas.specs.Written.{written_by, written}
use Rattle.zs_replicas.specs.Replicas.{keeper, keeper_row, keeping, answering, first_events, first_links, Starts, effects_at, stored, IsReplicaEvent, AreReplicaLines, took, BothStore}
use Rattle.zs_replicas.proofs.Joining.{store_more, store_turned, store_sorted, drop_singles}
use Rattle.zs_replicas.proofs.Staying.{Stays, subs_stay, open_stays}
use Rattle.zs_replicas.proofs.Taken.{kept_of, with_samples, by_samples, one_taken, Makes, makes_message, makes_event, message_stays, event_stays}

-- each sample writes once
abbrev pub AreSingle : List ℕ → List SampleFields → Type 0
AreSingle keys samples = AllByRecursion (λ x. (w : Write) × (kept_of keys x ≡ w ∷ [])) samples

abbrev pub AreSorted : List Publication → Type 0
AreSorted made = AllByRecursion (λ p. goes_out p ≡ not (came_in p)) made

-- what stands of a side: it is open, its one subscriber is the keeper, its store took the writes of its publications, and what it published is
-- what it wrote
pub record Kept (keys : List ℕ) (s : Settings) (h : List Event) : Type 0 where
  pub unshut : is_closed (past_of s h) ≡ false
  pub subs : live_subs (past_of s h) ≡ keeper_row keys ∷ []
  pub store : stored s h ≡ store_of (flat_map (kept_of keys) (samples_of (publications s h)))
  pub sorted : AreSorted (publications s h)
  pub writes : flat_map (kept_of keys) (published s h) ≡ written h
  pub single : AreSingle keys (published s h)

pub record BothKept (keys : List ℕ) (s : Settings) (a b : Side) : Type 0 where
  pub of_a : Kept keys s a.history
  pub of_b : Kept keys (other s) b.history

-- behind what an event publishes
store_step : (keys : List ℕ) (e : Event) (made more : List Publication) → Makes keys e made
    → with_samples (flat_map (λ p. handed_by keeper (keeper_row keys ∷ []) p) made) (store_of (flat_map (kept_of keys) (samples_of more)))
    ≡ store_of (flat_map (kept_of keys) (samples_of (made ++ more)))
store_step keys e [] more makes = refl
store_step keys e (p ∷ []) more (inl came) =
    one_taken keys p (store_of (flat_map (kept_of keys) (samples_of more))) (λ local. absurd (let both : false ≡ true = sym came.0 ∙ local in cc))
    ∙ sym (store_more (kept_of keys p.sample) (flat_map (kept_of keys) (samples_of more)))
store_step keys e (p ∷ []) more (inr own) =
    one_taken keys p (store_of (flat_map (kept_of keys) (samples_of more))) (λ local. own.anywhere)
    ∙ sym (store_more (kept_of keys p.sample) (flat_map (kept_of keys) (samples_of more)))
store_step keys e (p ∷ q ∷ made) more makes = absurd makes

came_sort : (p : Publication) → p.local ≡ false → goes_out p ≡ not (came_in p)
came_sort p came = ap (λ (b : Bool). b && has_network p.destination) came ∙ ap (λ (b : Bool). not (not b)) (sym came)

out : (p : Publication) → p.local ≡ true → p.destination ≡ Any → goes_out p ≡ true
out p local anywhere = ap (λ (b : Bool). b && has_network p.destination) local ∙ ap has_network anywhere

sorted_step : (keys : List ℕ) (e : Event) (made more : List Publication) → Makes keys e made → AreSorted more → AreSorted (made ++ more)
sorted_step keys e [] more makes sorted = sorted
sorted_step keys e (p ∷ []) more (inl came) sorted = (came_sort p came.0, sorted)
sorted_step keys e (p ∷ []) more (inr own) sorted = (out p own.local own.anywhere ∙ ap (λ (b : Bool). not (not b)) (sym own.local), sorted)
sorted_step keys e (p ∷ q ∷ made) more makes sorted = absurd makes

writes_step : (keys : List ℕ) (e : Event) (made more : List Publication) (before : List Write) → Makes keys e made → flat_map (kept_of keys) (samples_of (filter goes_out more)) ≡ before
    → flat_map (kept_of keys) (samples_of (filter goes_out (made ++ more))) ≡ written_by e ++ before
writes_step keys e [] more before makes writes = writes ∙ ap (λ (front : List Write). front ++ before) (sym makes)
writes_step keys e (p ∷ []) more before (inl came) writes =
    ap (λ (b : Bool). flat_map (kept_of keys) (samples_of (cond (b && has_network p.destination) (p ∷ filter goes_out more) (filter goes_out more)))) came.0
    ∙ writes ∙ ap (λ (front : List Write). front ++ before) (sym came.1)
writes_step keys e (p ∷ []) more before (inr own) writes =
    ap (λ (b : Bool). flat_map (kept_of keys) (samples_of (cond b (p ∷ filter goes_out more) (filter goes_out more)))) (out p own.local own.anywhere)
    ∙ ap (λ (front : List Write). front ++ flat_map (kept_of keys) (samples_of (filter goes_out more))) (own.kept ∙ sym own.is)
    ∙ ap (λ (rest : List Write). written_by e ++ rest) writes
writes_step keys e (p ∷ q ∷ made) more before makes writes = absurd makes

single_step : (keys : List ℕ) (e : Event) (made more : List Publication) → Makes keys e made → AreSingle keys (samples_of (filter goes_out more)) → AreSingle keys (samples_of (filter goes_out (made ++ more)))
single_step keys e [] more makes single = single
single_step keys e (p ∷ []) more (inl came) single =
    subst (λ (b : Bool). AreSingle keys (samples_of (cond (b && has_network p.destination) (p ∷ filter goes_out more) (filter goes_out more)))) (sym came.0) single
single_step keys e (p ∷ []) more (inr own) single =
    subst (λ (b : Bool). AreSingle keys (samples_of (cond b (p ∷ filter goes_out more) (filter goes_out more)))) (sym (out p own.local own.anywhere)) ((own.write, own.kept), single)
single_step keys e (p ∷ q ∷ made) more makes single = absurd makes

-- nothing is published on any text
no_text : (text : Option (List ℕ)) → publication_on text NoContent ≡ None
no_text None = refl
no_text (Some text) = refl

-- an event that publishes nothing
pub record PublishesNothing (e : Event) : Type 0 where
  pub none : (pubs : List PubRow) (text : Option (List ℕ)) → publication_of pubs text e ≡ None
  pub writes : written_by e ≡ []

none_made : (s : Settings) (past : List Entry) (e : Event) → PublishesNothing e → made_by s past e ≡ []
none_made s past e nothing =
    ap (λ (p : Option Publication). unless_refused (is_closed past) (refusal_of s past e) p) (nothing.none (live_pubs past) (named_text past e))
    ∙ go (is_closed past) (refusal_of s past e)
  where
    go : (c : Bool) (o : Option Refusal) → unless_refused c o None ≡ []
    go true o = refl
    go false (Some refusal) = refl
    go false None = refl

module _ (keys : List ℕ) (follow : SamplesFollowPublications) where
  handed : (s : Settings) (h : List Event) (e : Event) → samples_to keeper (effects_at s h e) ≡ flat_map (λ p. handed_by keeper (live_subs (past_of s h)) p) (made_by s (past_of s h) e)
  unfolding effects_at
  handed s h e = follow s h e keeper

  -- what a store takes of an event
  takes : (s : Settings) (h : List Event) (e : Event) (rows : List SubRow) (store : List Write) → live_subs (past_of s h) ≡ rows → stored s h ≡ store
      → stored s (e ∷ h) ≡ with_samples (flat_map (λ p. handed_by keeper rows p) (made_by s (past_of s h) e)) store
  takes s h e rows store subs is =
      by_samples keeper (effects_at s h e) (stored s h)
      ∙ ap (λ (samples : List SampleFields). with_samples samples (stored s h)) (handed s h e)
      ∙ ap (λ (live : List SubRow). with_samples (flat_map (λ p. handed_by keeper live p) (made_by s (past_of s h) e)) (stored s h)) subs
      ∙ ap (λ (old : List Write). with_samples (flat_map (λ p. handed_by keeper rows p) (made_by s (past_of s h) e)) old) is

  kept_step : (s : Settings) (h : List Event) (e : Event) → Kept keys s h → Stays e → Makes keys e (made_by s (past_of s h) e) → Kept keys s (e ∷ h)
  kept_step s h e kept stays makes = record {
    unshut = open_stays s (past_of s h) e stays kept.unshut;
    subs = subs_stay s (past_of s h) e stays ∙ kept.subs;
    store =
        takes s h e (keeper_row keys ∷ []) (store_of (flat_map (kept_of keys) (samples_of (publications s h)))) kept.subs kept.store
        ∙ store_step keys e (made_by s (past_of s h) e) (publications s h) makes;
    sorted = sorted_step keys e (made_by s (past_of s h) e) (publications s h) makes kept.sorted;
    writes = writes_step keys e (made_by s (past_of s h) e) (publications s h) (written h) makes kept.writes;
    single = single_step keys e (made_by s (past_of s h) e) (publications s h) makes kept.single;
  }

  -- an event that publishes nothing
  nothing_taken : (s : Settings) (h : List Event) (e : Event) → made_by s (past_of s h) e ≡ [] → stored s (e ∷ h) ≡ stored s h
  nothing_taken s h e none =
      takes s h e (live_subs (past_of s h)) (stored s h) refl refl
      ∙ ap (λ (made : List Publication). with_samples (flat_map (λ p. handed_by keeper (live_subs (past_of s h)) p) made) (stored s h)) none

  -- behind two events that publish nothing
  kept_start : (s : Settings) (one two : Event) → PublishesNothing one → PublishesNothing two → Starts s keys (two ∷ one ∷ []) → Kept keys s (two ∷ one ∷ [])
  kept_start s one two first second starts =
      let none_one : made_by s (past_of s []) one ≡ [] = none_made s (past_of s []) one first in
      let none_two : made_by s (past_of s (one ∷ [])) two ≡ [] = none_made s (past_of s (one ∷ [])) two second in
      let none : publications s (two ∷ one ∷ []) ≡ [] =
      ap (λ (made : List Publication). made ++ publications s (one ∷ [])) none_two ∙ ap (λ (made : List Publication). made ++ []) none_one in
      record {
        unshut = starts.unshut;
        subs = starts.subs;
        store =
            nothing_taken s (one ∷ []) two none_two ∙ nothing_taken s [] one none_one
            ∙ ap (λ (made : List Publication). store_of (flat_map (kept_of keys) (samples_of made))) (sym none);
        sorted = subst AreSorted (sym none) tt;
        writes =
            ap (λ (made : List Publication). flat_map (kept_of keys) (samples_of (filter goes_out made))) none
            ∙ ap (λ (ws : List Write). ws ++ []) (sym first.writes) ∙ ap (λ (ws : List Write). ws ++ (written_by one ++ [])) (sym second.writes);
        single = subst (λ (made : List Publication). AreSingle keys (samples_of (filter goes_out made))) (sym none) tt;
      }

  kept_first : (s : Settings) → Starts s keys (first_events keys) → Kept keys s (first_events keys)
  kept_first s starts = kept_start s (keeping keys) (answering keys) (record { none = λ pubs text. no_text text; writes = refl }) (record { none = λ pubs text. no_text text; writes = refl }) starts

  kept_given : (s : Settings) (ms : List Message) (side : Side) → Kept keys s side.history → Kept keys s (with_oldest s ms side).history
  kept_given s [] side kept = kept
  kept_given s (m ∷ later) side kept = go (is_event m)
    where
      go : (b : Bool) → Kept keys s (if b then with_event s (Net m) side else side).history
      go true = kept_step s side.history (Net m) kept (message_stays m) (makes_message keys s (past_of s side.history) m)
      go false = kept

  kept_own : (s : Settings) (e : Event) (side : Side) → IsReplicaEvent keys e → Kept keys s side.history → Kept keys s (e ∷ side.history)
  kept_own s e side fine kept = kept_step s side.history e kept (event_stays keys e fine) (makes_event keys s (past_of s side.history) e kept.unshut fine)

  kept_after : (s : Settings) (lines : List LinkLine) → Starts s keys (first_events keys) → Starts (other s) keys (first_events keys) → AreReplicaLines keys lines
      → BothKept keys s (linked_after s (lines ++ first_links keys)).a (linked_after s (lines ++ first_links keys)).b
  kept_after s [] first second fine = record { of_a = kept_first s first; of_b = kept_first (other s) second }
  kept_after s (Take A e ∷ lines) first second fine =
      let w = linked_after s (lines ++ first_links keys) in
      let before : BothKept keys s w.a w.b = kept_after s lines first second fine.1 in
      record { of_a = kept_own s e w.a fine.0 before.of_a; of_b = before.of_b }
  kept_after s (Take B e ∷ lines) first second fine =
      let w = linked_after s (lines ++ first_links keys) in
      let before : BothKept keys s w.a w.b = kept_after s lines first second fine.1 in
      record { of_a = before.of_a; of_b = kept_own (other s) e w.b fine.0 before.of_b }
  kept_after s (Deliver A ∷ lines) first second fine =
      let w = linked_after s (lines ++ first_links keys) in
      let before : BothKept keys s w.a w.b = kept_after s lines first second fine.1 in
      record { of_a = before.of_a; of_b = kept_given (other s) w.a.waiting w.b before.of_b }
  kept_after s (Deliver B ∷ lines) first second fine =
      let w = linked_after s (lines ++ first_links keys) in
      let before : BothKept keys s w.a w.b = kept_after s lines first second fine.1 in
      record { of_a = kept_given s w.b.waiting w.a before.of_a; of_b = before.of_b }

-- such lines are of applications, and spelled
own_event : (keys : List ℕ) (e : Event) → IsReplicaEvent keys e → is_net e ≡ false
own_event keys (Publish destination key update quality) fine = refl
own_event keys (Get key settings inquiry to) fine = refl
own_event keys (Reply value key update quality) fine = refl
own_event keys (Finish value) fine = refl
own_event keys e fine = absurd fine

own_lines : (keys : List ℕ) (lines : List LinkLine) → AreReplicaLines keys lines → AreOwn (lines ++ first_links keys)
own_lines keys [] fine = (refl, (refl, (refl, (refl, tt))))
own_lines keys (Take side e ∷ lines) fine = (own_event keys e fine.0, own_lines keys lines fine.1)
own_lines keys (Deliver from ∷ lines) fine = (tt, own_lines keys lines fine.1)

spelled_lines : (keys : List ℕ) (lines : List LinkLine) → all_scalars (chars keys) ≡ true → AreSpelledLines lines → AreSpelledLines (lines ++ first_links keys)
spelled_lines keys [] scalar spelled = (scalar, (scalar, (scalar, (scalar, tt))))
spelled_lines keys (line ∷ lines) scalar spelled = (spelled.0, spelled_lines keys lines scalar spelled.1)

module _ (keys : List ℕ) (best : StoresHoldBest) (joins : StoresJoin) where
  filled : (s t : Settings) (side opposite : Side) → Kept keys s side.history → Kept keys t opposite.history → Arrive t s opposite side
      → stored s side.history ≡ store_of (took side opposite)
  filled s t side opposite kept theirs arrive =
      let count = pushes opposite.waiting in
      kept.store
      ∙ store_sorted best joins (kept_of keys) (publications s side.history) kept.sorted
      ∙ ap (λ (front : List Write). store_of (front ++ flat_map (kept_of keys) (arrived s side.history))) kept.writes
      ∙ ap (λ (samples : List SampleFields). store_of (written side.history ++ flat_map (kept_of keys) samples)) (arrive kept.unshut)
      ∙ ap (λ (rest : List Write). store_of (written side.history ++ rest))
      (drop_singles (kept_of keys) count (published t opposite.history) theirs.single ∙ ap (λ (ws : List Write). drop count ws) theirs.writes)

  all_taken : (side opposite : Side) → pushes opposite.waiting ≡ 0 → took side opposite ≡ written side.history ++ written opposite.history
  all_taken side opposite none = ap (λ (n : ℕ). written side.history ++ drop n (written opposite.history)) none

  pub both_store : ArrivalsAreInOrder → SamplesFollowPublications → (s : Settings) (lines : List LinkLine) → IsUtf8 keys → AreSpelled s → Starts s keys (first_events keys) → Starts (other s) keys (first_events keys)
      → AreReplicaLines keys lines → AreSpelledLines lines → BothStore s (linked_after s (lines ++ first_links keys)).a (linked_after s (lines ++ first_links keys)).b
  both_store arrivals follow s lines utf8 aggregates first second fine spelled =
      let w = linked_after s (lines ++ first_links keys) in
      let arrive : BothArrive s w.a w.b = arrivals s (lines ++ first_links keys) aggregates (own_lines keys lines fine) (spelled_lines keys lines (scalars-chars keys utf8) spelled) in
      let kept : BothKept keys s w.a w.b = kept_after keys follow s lines first second fine in
      let one : stored s w.a.history ≡ store_of (took w.a w.b) = filled s (other s) w.a w.b kept.of_a kept.of_b arrive.back in
      let two : stored (other s) w.b.history ≡ store_of (took w.b w.a) = filled (other s) s w.b w.a kept.of_b kept.of_a arrive.forth in
      record {
        of_a = subst (HoldsBest (took w.a w.b)) (sym one) (best (took w.a w.b));
        of_b = subst (HoldsBest (took w.b w.a)) (sym two) (best (took w.b w.a));
        same = λ idle_a idle_b.
            one ∙ ap store_of (all_taken w.a w.b idle_b)
            ∙ store_turned best joins (written w.a.history) (written w.b.history)
            ∙ sym (two ∙ ap store_of (all_taken w.b w.a idle_a));
      }
