-- The samples that a receiver reads of the pushes among messages: those that the sender published, and those that arrive.
use Rattle.std.proofs.Common.{◌≡◌, inl, inr, ℕ, List, [], ◌∷◌, ◌++◌, Bool, true, false, Option, Some, None, refl, sym, ◌∙◌, ap, subst, cond, map}
use Rattle.std.specs.Prelude.{not, option_map, filter, drop, if◌then◌else◌}
use Rattle.std.specs.List.{AllByRecursion}
use Rattle.std.proofs.lemmas.List.{drop-drop}
use Rattle.zs_sample.specs.declared.sample_fields.SampleFields.{SampleFields}
use Rattle.zs_wire.specs.declared.message.Message.{Message}
use Rattle.zs_wire.specs.declared.message.Message.TheVariants.{Push as push_message}
use Rattle.zs_wire.specs.declared.push.Push.{Push}
use Rattle.zs_wire.specs.declared.wire_expr.WireExpr.{WireExpr}
use Rattle.zs_events.specs.declared.event.Event.{Event}
use Rattle.zs_events.specs.declared.event.Event.TheVariants.{Publish, PublishBy, Net}
use Rattle.zs_events.specs.declared.turn.Effect.TheVariants.{Send}
use Rattle.zs_events.specs.declared.turn.Refusal.{Refusal}
use Rattle.zs_events.specs.declared.update.Update.{Update}
use Rattle.zs_events.specs.Turn.{answered}
use Rattle.zs_events.specs.Kinds.{NamedKey, Publishes, NoContent, OwnContent, ByPublisher, incoming_content, row_of}
use Rattle.zs_model.specs.declared.publisher.PubRow.{PubRow}
use Rattle.zs_model.specs.declared.settings.Settings.{Settings}
use Rattle.zs_model.specs.Entry.{Entry, is_closed}
use Rattle.zs_model.specs.HeldKeys.{wire_text, named_text}
use Rattle.zs_model.specs.Live.{live_pubs}
use Rattle.zs_model.specs.Causes.{refusal_of}
use Rattle.zs_model.specs.Past.{entry_of, past_of}
use Rattle.zs_model.specs.Publications.{Publication, sample_on}
use Rattle.zs_model.specs.Publishers.{pub_at, content_of, resolved}
use Rattle.zs_model.specs.Sends.{OwnKeys, wire_form, declaration_of, is_sent, push_with, publication_sends}
use Rattle.zs_model.specs.Effects.{publication_on, publication_of, known_of, own_keys_of, effects_behind, effects}
use Rattle.zs_model.specs.Received.{messages_of, sent, sent_behind, read_as, spoken_text, AreReadAs, AreSpelled, AreUtf8}
use Rattle.zs_standing.specs.Laws.{WireFormsAreRead}
use Rattle.zs_laws.specs.Origins.{HasOrigin, MessagesHaveOrigins}
use Rattle.zs_laws.proofs.SentMessages.{told_by_event}
use Rattle.zs_delivery.specs.Linked.{is_event}
use Rattle.zs_delivery.specs.Links.{given}
use Rattle.zs_delivery.proofs.Accepting.{push_accepted}
use Rattle.zs_delivery.proofs.Known.{AreSound, same_reading, wire_known, known_after, open_before}
use Rattle.zs_delivery.proofs.Made.{utf8_before, utf8_or_silent}
use Rattle.zs_delivery.proofs.TokenMessages.{messages_are}
use Rattle.zs_arrivals.specs.Publications.{unless_refused, made_by, publications, goes_out, came_in, samples_of, published, arrived}
use Rattle.zs_arrivals.specs.Arrivals.{pushes}

-- the sample of a push for whoever was given these messages before it
abbrev pub read_of : List Message → Push → Option SampleFields
read_of before push = option_map (λ text. sample_on text (incoming_content push)) (read_as before push.wire)

-- those of all pushes among messages, the newest first
abbrev pub reads : List Message → List (Option SampleFields)
reads [] = []
reads (push_message push ∷ before) = read_of before push ∷ reads before
reads (message ∷ before) = reads before

abbrev pub found : List SampleFields → List (Option SampleFields)
found samples = map (λ sample. Some sample) samples

-- nothing is published on any text
nothing : (text : Option (List ℕ)) → publication_on text NoContent ≡ None
nothing None = refl
nothing (Some text) = refl

-- an event that publishes nothing sends no push
no_push : (s : Settings) (past : List Entry) (e : Event) (ms before : List Message) → publication_of (live_pubs past) (named_text past e) e ≡ None
    → AllByRecursion (HasOrigin s past e) ms → reads (sent_behind ms before) ≡ reads before
no_push s past e [] before nothing origins = refl
no_push s past e (push_message push ∷ ms) before nothing origins =
    let made : publication_of (live_pubs past) (named_text past e) e ≡ Some origins.0.0.publication = origins.0.0.made.published in
    let never : ⊥ = (let none : None ≡ Some origins.0.0.publication = sym nothing ∙ made in cc) in
    absurd never
no_push s past e (m ∷ ms) before nothing origins = no_push s past e ms (m ∷ before) nothing origins.1 ∙ one m origins.0
  where
    one : (m : Message) → HasOrigin s past e m → reads (m ∷ before) ≡ reads before
    one (push_message push) origin =
        let made : publication_of (live_pubs past) (named_text past e) e ≡ Some origin.0.publication = origin.0.made.published in
        let never : ⊥ = (let none : None ≡ Some origin.0.publication = sym nothing ∙ made in cc) in
        absurd never
    one m origin = refl

-- the push of a publication, for a receiver of what was sent before it
pushed : (s : Settings) (k : OwnKeys) (key : NamedKey) (text : Option (List ℕ)) (r : Publishes) (before : List Message) (made : List Publication)
    → AreReadAs s text before (messages_of (publication_sends k key text r) ++ []) → reads before ≡ found (samples_of (filter goes_out made))
    → reads (sent_behind (messages_of (publication_sends k key text r) ++ []) before)
    ≡ found (samples_of (filter goes_out (unless_refused false None (publication_on text r) ++ made)))
pushed s k key None NoContent before made read is = is
pushed s k key (Some text) NoContent before made read is = is
pushed s k key None (OwnContent c) before made read is = is
pushed s k key None (ByPublisher id c) before made read is = is
pushed s k key (Some text) (ByPublisher id c) before made read is = is
pushed s k key (Some text) (OwnContent c) before made read is = go (is_sent c) read
  where
    wire : WireExpr
    wire = wire_form k text (declaration_of k text key)

    publication : Publication
    publication = record { local = c.local; destination = c.destination; sample = sample_on text c }

    go : (b : Bool) → AreReadAs s (Some text) before (messages_of (if b then Send (push_with wire c) ∷ [] else []) ++ [])
        → reads (sent_behind (messages_of (if b then Send (push_with wire c) ∷ [] else []) ++ []) before)
        ≡ found (samples_of (cond b (publication ∷ filter goes_out made) (filter goes_out made)))
    go true read =
        ap (λ (o : Option (List ℕ)). option_map (λ (t : List ℕ). sample_on t c) o ∷ reads before) read.0
        ∙ ap (λ (rest : List (Option SampleFields)). Some (sample_on text c) ∷ rest) is
    go false read = is

-- what an accepted event sends of publications
accepted_reads : (s : Settings) (past : List Entry) (e : Event) (before : List Message) (made : List Publication)
    → AreReadAs s (spoken_text past e) before (told_by_event (known_of s past) (entry_of s past e).number (named_text past e) e)
    → AllByRecursion (HasOrigin s past e) (told_by_event (known_of s past) (entry_of s past e).number (named_text past e) e)
    → reads before ≡ found (samples_of (filter goes_out made))
    → reads (sent_behind (told_by_event (known_of s past) (entry_of s past e).number (named_text past e) e) before)
    ≡ found (samples_of (filter goes_out (unless_refused false None (publication_of (live_pubs past) (named_text past e) e) ++ made)))
accepted_reads s past (Publish destination key update quality) before made read origins is =
    pushed s (own_keys_of s past) (row_of (Publish destination key update quality)).key (named_text past (Publish destination key update quality))
    (row_of (Publish destination key update quality)).publishes before made read is
accepted_reads s past (PublishBy id update) before made read origins is =
    pushed s (own_keys_of s past) (row_of (PublishBy id update)).key (named_text past (PublishBy id update))
    (resolved (live_pubs past) (row_of (PublishBy id update)).publishes) before made read is
accepted_reads s past (Net m) before made read origins is = by m read origins
  where
    by : (m : Message) → AreReadAs s (spoken_text past (Net m)) before (told_by_event (known_of s past) (entry_of s past (Net m)).number (named_text past (Net m)) (Net m))
        → AllByRecursion (HasOrigin s past (Net m)) (told_by_event (known_of s past) (entry_of s past (Net m)).number (named_text past (Net m)) (Net m))
        → reads (sent_behind (told_by_event (known_of s past) (entry_of s past (Net m)).number (named_text past (Net m)) (Net m)) before)
        ≡ found (samples_of (filter goes_out (unless_refused false None (publication_of (live_pubs past) (named_text past (Net m)) (Net m)) ++ made)))
    by (push_message push) read origins =
        pushed s (own_keys_of s past) (row_of (Net (push_message push))).key (named_text past (Net (push_message push)))
        (row_of (Net (push_message push))).publishes before made read is
    by m read origins =
        no_push s past (Net m) (told_by_event (known_of s past) (entry_of s past (Net m)).number (named_text past (Net m)) (Net m)) before (nothing (named_text past (Net m))) origins ∙ is ∙ ap (λ (o : Option Publication). found (samples_of (filter goes_out (unless_refused false None o ++ made)))) (sym (nothing (named_text past (Net m))))
accepted_reads s past e before made read origins is =
    no_push s past e (told_by_event (known_of s past) (entry_of s past e).number (named_text past e) e) before (nothing (named_text past e)) origins ∙ is ∙ ap (λ (o : Option Publication). found (samples_of (filter goes_out (unless_refused false None o ++ made)))) (sym (nothing (named_text past e)))

-- behind an event, accepted or not
step_reads : (s : Settings) (past : List Entry) (e : Event) (before : List Message) (made : List Publication)
    → AreReadAs s (spoken_text past e) before (messages_of (if is_closed past then answered (refusal_of s past e) None [] else answered (refusal_of s past e) (entry_of s past e).number (effects_behind s past e)).effects)
    → AllByRecursion (HasOrigin s past e) (messages_of (if is_closed past then answered (refusal_of s past e) None [] else answered (refusal_of s past e) (entry_of s past e).number (effects_behind s past e)).effects)
    → reads before ≡ found (samples_of (filter goes_out made))
    → reads (sent_behind (messages_of (if is_closed past then answered (refusal_of s past e) None [] else answered (refusal_of s past e) (entry_of s past e).number (effects_behind s past e)).effects) before)
    ≡ found (samples_of (filter goes_out (made_by s past e ++ made)))
step_reads s past e before made = go (is_closed past) (refusal_of s past e)
  where
    go : (c : Bool) (o : Option Refusal)
        → AreReadAs s (spoken_text past e) before (messages_of (if c then answered o None [] else answered o (entry_of s past e).number (effects_behind s past e)).effects)
        → AllByRecursion (HasOrigin s past e) (messages_of (if c then answered o None [] else answered o (entry_of s past e).number (effects_behind s past e)).effects)
        → reads before ≡ found (samples_of (filter goes_out made))
        → reads (sent_behind (messages_of (if c then answered o None [] else answered o (entry_of s past e).number (effects_behind s past e)).effects) before)
        ≡ found (samples_of (filter goes_out (unless_refused c o (publication_of (live_pubs past) (named_text past e) e) ++ made)))
    go true (Some refusal) read origins is = is
    go true None read origins is = is
    go false (Some refusal) read origins is = is
    go false None read origins is =
        subst (λ (ms : List Message). AreReadAs s (spoken_text past e) before ms → AllByRecursion (HasOrigin s past e) ms
        → reads (sent_behind ms before) ≡ found (samples_of (filter goes_out (unless_refused false None (publication_of (live_pubs past) (named_text past e) e) ++ made))))
        (sym (messages_are s past e)) (λ reads_so origins_so. accepted_reads s past e before made reads_so origins_so is) read origins

-- so a receiver of all that a session sent reads what that published
pub published_reads : (s : Settings) (h : List Event) → WireFormsAreRead → MessagesHaveOrigins → AreSpelled s → AreUtf8 (past_of s h) → reads (sent s h) ≡ found (published s h)
published_reads s [] forms origins spelled utf8 = refl
published_reads s (e ∷ h) forms origins spelled utf8 =
    let past = past_of s h in
    let before : AreUtf8 past = utf8_before s past e (refusal_of s past e) (is_closed past) utf8 in
    let ms = messages_of (effects s h e).effects in
    let read : AreReadAs s (spoken_text past e) (sent s h) ms =
    elim (utf8_or_silent s past e (refusal_of s past e) (is_closed past) (entry_of s past e).number (effects_behind s past e) utf8) as (λ x. AreReadAs s (spoken_text past e) (sent s h) ms)
    [ inl own ↦ forms s h e spelled before own | inr none ↦ subst (AreReadAs s (spoken_text past e) (sent s h)) (sym none) tt ] in
    step_reads s past e (sent s h) (publications s h) read (origins s h e) (published_reads s h forms origins spelled before)

-- what is published here, not what came in
abbrev IsLocal : Publishes → Type 0
IsLocal NoContent = Unit {0}
IsLocal (OwnContent c) = c.local ≡ true
IsLocal (ByPublisher id c) = Unit {0}

-- an event of the application brings nothing in
own_one : (c : Bool) (o : Option Refusal) (text : Option (List ℕ)) (r : Publishes) (made : List Publication) → IsLocal r
    → filter came_in (unless_refused c o (publication_on text r) ++ made) ≡ filter came_in made
own_one true o text r made local = refl
own_one false (Some refusal) text r made local = refl
own_one false None None NoContent made local = refl
own_one false None (Some text) NoContent made local = refl
own_one false None None (OwnContent c) made local = refl
own_one false None None (ByPublisher id c) made local = refl
own_one false None (Some text) (ByPublisher id c) made local = refl
own_one false None (Some text) (OwnContent c) made local =
    ap (λ (b : Bool). cond (not b) (record { local = c.local; destination = c.destination; sample = sample_on text c } ∷ filter came_in made) (filter came_in made)) local

own_publisher : (update : Update) (o : Option PubRow) → IsLocal (content_of update o)
own_publisher update None = tt
own_publisher update (Some row) = refl

-- what a push brings in
push_in : (text : List ℕ) (push : Push) (made : List Publication) (c : Bool) (o : Option Refusal) (named : Option (List ℕ)) → c ≡ false → o ≡ None → named ≡ Some text
    → found (samples_of (filter came_in (unless_refused c o (publication_on named (OwnContent (incoming_content push))) ++ made)))
    ≡ Some (sample_on text (incoming_content push)) ∷ found (samples_of (filter came_in made))
push_in text push made true o named unshut accepted is = cc
push_in text push made false (Some refusal) named unshut accepted is = cc
push_in text push made false None None unshut accepted is = cc
push_in text push made false None (Some t) unshut accepted is =
    let same : t ≡ text = cc in
    ap (λ (x : List ℕ). Some (sample_on x (incoming_content push)) ∷ found (samples_of (filter came_in made))) same

-- so what arrived at an open session is what it reads of what came in
pub arrived_reads : (s : Settings) (h : List Event) → is_closed (past_of s h) ≡ false → AreSound (given h) → found (arrived s h) ≡ reads (given h)
arrived_reads s [] unshut sound = refl
arrived_reads s (Net m ∷ h) unshut sound = by m sound (open_before s (past_of s h) (Net m) unshut) (λ before below. arrived_reads s h before below)
  where
    past : List Entry
    past = past_of s h

    by : (m : Message) → AreSound (m ∷ given h) → is_closed past ≡ false → (is_closed past ≡ false → AreSound (given h) → found (arrived s h) ≡ reads (given h)) → found (samples_of (filter came_in (made_by s past (Net m) ++ publications s h))) ≡ reads (m ∷ given h)
    by (push_message push) sound before rest =
        let text = sound.0.text in
        let named : wire_text past push.wire ≡ Some text = wire_known past (given h) push.wire text (known_after s h before sound.1) sound.0.reads in
        push_in text push (publications s h) (is_closed past) (refusal_of s past (Net (push_message push))) (wire_text past push.wire) before
        (push_accepted s past push text before named sound.0.canonical) named
        ∙ ap (λ (more : List (Option SampleFields)). Some (sample_on text (incoming_content push)) ∷ more) (rest before sound.1)
        ∙ ap (λ (o : Option (List ℕ)). option_map (λ (t : List ℕ). sample_on t (incoming_content push)) o ∷ reads (given h)) (sym sound.0.reads)
    by m sound before rest =
        ap (λ (made : List Publication). found (samples_of made)) (own_one (is_closed past) (refusal_of s past (Net m)) (named_text past (Net m)) NoContent (publications s h) tt)
        ∙ rest before sound.1
arrived_reads s (PublishBy id update ∷ h) unshut sound =
    let past = past_of s h in
    let e = PublishBy id update in
    ap (λ (made : List Publication). found (samples_of made))
    (own_one (is_closed past) (refusal_of s past e) (named_text past e) (resolved (live_pubs past) (row_of e).publishes) (publications s h) (own_publisher update (pub_at id (live_pubs past))))
    ∙ arrived_reads s h (open_before s past e unshut) sound
arrived_reads s (Publish destination key update quality ∷ h) unshut sound =
    let past = past_of s h in
    let e = Publish destination key update quality in
    ap (λ (made : List Publication). found (samples_of made)) (own_one (is_closed past) (refusal_of s past e) (named_text past e) (row_of e).publishes (publications s h) refl)
    ∙ arrived_reads s h (open_before s past e unshut) sound
arrived_reads s (e ∷ h) unshut sound =
    let past = past_of s h in
    ap (λ (made : List Publication). found (samples_of made)) (own_one (is_closed past) (refusal_of s past e) (named_text past e) NoContent (publications s h) tt)
    ∙ arrived_reads s h (open_before s past e unshut) sound

-- interests are no pushes
pub same_reads : (ms : List Message) → reads (filter is_event ms) ≡ reads ms
same_reads [] = refl
same_reads (push_message push ∷ ms) =
    ap (λ (o : Option (List ℕ)). option_map (λ (t : List ℕ). sample_on t (incoming_content push)) o ∷ reads (filter is_event ms)) (same_reading ms push.wire)
    ∙ ap (λ (rest : List (Option SampleFields)). read_of ms push ∷ rest) (same_reads ms)
same_reads (m ∷ ms) = same_reads ms

-- behind what waits stands what was delivered
pub reads_behind : (ms before : List Message) → drop (pushes ms) (reads (sent_behind ms before)) ≡ reads before
reads_behind [] before = refl
reads_behind (push_message push ∷ ms) before =
    sym (drop-drop 1 (pushes ms) (reads (sent_behind ms (push_message push ∷ before))))
    ∙ ap (λ (rest : List (Option SampleFields)). drop 1 rest) (reads_behind ms (push_message push ∷ before))
reads_behind (m ∷ ms) before = reads_behind ms (m ∷ before)

-- lists of samples are those that are found
abbrev found_back : List (Option SampleFields) → List SampleFields
found_back [] = []
found_back (None ∷ rest) = found_back rest
found_back (Some sample ∷ rest) = sample ∷ found_back rest

back : (samples : List SampleFields) → found_back (found samples) ≡ samples
back [] = refl
back (sample ∷ samples) = ap (λ (rest : List SampleFields). sample ∷ rest) (back samples)

pub same_found : (xs ys : List SampleFields) → found xs ≡ found ys → xs ≡ ys
same_found xs ys is = sym (back xs) ∙ ap found_back is ∙ back ys
