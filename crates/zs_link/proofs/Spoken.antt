-- The lines of linked sessions are events of applications whose texts are spelled with characters.
use Rattle.std.proofs.Common.{◌≡◌, ℕ, List, [], ◌∷◌, Bool, true, false, Option, Some, None, codes, refl, sym, ◌∙◌, ap, subst}
use Rattle.std.specs.Prelude.{◌&&◌, ◌==◌, not, option_map, if◌then◌else◌}
use Rattle.std.specs.List.{AllByRecursion, list_all}
use Rattle.std.specs.Str.{bytes_eq, is_utf8}
use Rattle.zs_events.specs.declared.event.Event.{Event}
use Rattle.zs_events.specs.declared.script_event.ScriptEvent.{ScriptEvent}
use Rattle.zs_events.specs.declared.script_event.ScriptEvent.TheVariants.{Core, Recv}
use Rattle.zs_events.specs.declared.key_arg.KeyArg.{KeyArg}
use Rattle.zs_events.specs.declared.key_arg.KeyArg.TheVariants.{Text, Number, Declared}
use Rattle.zs_events.specs.Kinds.{NamedKey, NoKey, OwnKey, PublisherKey, QuerierKey, WireKey, row_of}
use Rattle.zs_core.specs.Types.{Settings}
use Rattle.zs_core.specs.Received.{AreSpelled}
use Rattle.zs_grammar.specs.Grammar.{event_of}
use Rattle.zs_script.specs.Plain.{has_no_line_feed, is_field_text, is_plain_text, is_plain_named, is_plain_event}
use Rattle.zs_script.specs.Laws.{EventsArePlain}
use Rattle.zs_parts.specs.Symbols.{after_prefix}
use Rattle.zs_driving.specs.Languages.{events_of}
use Rattle.zs_laws.specs.Spelled.{IsSpelledArgument, IsSpelledName, IsSpelled}
use Rattle.zs_delivery.specs.declared.side.LinkSide.{LinkSide}
use Rattle.zs_delivery.specs.declared.side.LinkSide.TheVariants.{A, B}
use Rattle.zs_delivery.specs.Linked.{LinkLine, Take, Deliver, linked_after}
use Rattle.zs_delivery.specs.Links.{is_net, IsOwn, AreOwn, IsSpelledLine, AreSpelledLines}
use Rattle.zs_delivery.specs.Delivery.{BothHand, DeliveredAreHanded}
use Rattle.zs_link.specs.Mode.{is_printed, is_linkable, if_linkable, linkable_of, line_at, named_by, line_named, said_in, link_line, link_language}
use Rattle.zs_link.specs.Laws.{AreRows}

-- both parts of a test that holds hold
pub first_holds : (a b : Bool) → (a && b) ≡ true → a ≡ true
first_holds true b both = refl
first_holds false b both = cc

-- a line of the application's own event, with spelled texts
pub record IsSpoken (said : LinkLine) : Type 0 where
  pub own : IsOwn said
  pub spelled : IsSpelledLine said

-- a plain key is spelled
pub spelled_argument : (key : KeyArg) → is_plain_named (OwnKey key) ≡ true → IsSpelledArgument key
spelled_argument (Text text) plain = first_holds _ (is_plain_text text) plain
spelled_argument (Number number suffix) plain = first_holds _ (is_plain_text suffix) plain
spelled_argument (Declared text number prefix_len) plain = first_holds _ (is_plain_text text) plain

pub spelled_name : (key : NamedKey) → is_plain_named key ≡ true → IsSpelledName key
spelled_name NoKey plain = tt
spelled_name (OwnKey key) plain = spelled_argument key plain
spelled_name (PublisherKey id) plain = tt
spelled_name (QuerierKey id) plain = tt
spelled_name (WireKey wire) plain = first_holds _ (is_plain_text wire.suffix) plain

pub spelled_event : (e : Event) → is_plain_event e ≡ true → IsSpelled e
spelled_event e plain = spelled_name (row_of e).key (first_holds (is_plain_named (row_of e).key) (list_all is_field_text (row_of e).texts) plain)

pub not_net : (a b : Bool) → (not a && b) ≡ true → a ≡ false
not_net false b both = refl
not_net true b both = cc

-- what stands behind a prefix has no line feed where the whole has none
pub rest_plain : (front row rest : List ℕ) → after_prefix front row ≡ Some rest → has_no_line_feed row ≡ true → has_no_line_feed rest ≡ true
rest_plain [] row rest is plain = let same : row ≡ rest = cc in subst (λ (r : List ℕ). has_no_line_feed r ≡ true) same plain
rest_plain (p ∷ ps) [] rest is plain = cc
rest_plain (p ∷ ps) (b ∷ row) rest is plain =
    go (p == b) (λ at. rest_plain ps row rest at (behind (not (b == 10)) (has_no_line_feed row) plain)) is
  where
    behind : (x y : Bool) → (x && y) ≡ true → y ≡ true
    behind true y both = both
    behind false y both = cc

    go : (t : Bool) → (after_prefix ps row ≡ Some rest → has_no_line_feed rest ≡ true) → (if t then after_prefix ps row else None) ≡ Some rest → has_no_line_feed rest ≡ true
    go true further at = further at
    go false further at = cc

module _ (plain : EventsArePlain) where
  pub spoken_at : (side : LinkSide) (rest : List ℕ) (said : LinkLine) → has_no_line_feed rest ≡ true → line_at side rest ≡ Some said → IsSpoken said
  spoken_at side rest said fed is = by (event_of rest) refl is
    where
      taken : (e : Event) → event_of rest ≡ Some (Core e) → (b : Bool) → is_linkable e ≡ b → option_map (λ x. Take side x) (if b then Some e else None) ≡ Some said → IsSpoken said
      taken e at true linkable is =
          let same : Take side e ≡ said = cc in
          subst IsSpoken same (record {
            own = not_net (is_net e) (is_printed (row_of e).channel) linkable;
            spelled = spelled_event e (plain rest (Core e) fed at);
          })
      taken e at false linkable is = cc

      by : (o : Option ScriptEvent) → event_of rest ≡ o → option_map (λ x. Take side x) (linkable_of o) ≡ Some said → IsSpoken said
      by None at is = cc
      by (Some (Recv kind number)) at is = cc
      by (Some (Core e)) at is = taken e at (is_linkable e) refl is

  pub spoken_row : (row : List ℕ) (said : LinkLine) → has_no_line_feed row ≡ true → link_line row ≡ Some said → IsSpoken said
  spoken_row row said fed is = text (is_utf8 row) is
    where
      delivers : (from : LinkSide) → Some (Deliver from) ≡ Some said → IsSpoken said
      delivers from at =
          let same : Deliver from ≡ said = cc in
          subst IsSpoken same (record { own = tt; spelled = tt })

      named : (a b : Option (List ℕ)) → after_prefix (codes "a\t") row ≡ a → after_prefix (codes "b\t") row ≡ b → named_by a b ≡ Some said → IsSpoken said
      named (Some rest) b at other is = spoken_at A rest said (rest_plain (codes "a\t") row rest at fed) is
      named None (Some rest) at other is = spoken_at B rest said (rest_plain (codes "b\t") row rest other fed) is
      named None None at other is = cc

      second : (t : Bool) → (if t then Some (Deliver B) else line_named row) ≡ Some said → IsSpoken said
      second true at = delivers B at
      second false at = named (after_prefix (codes "a\t") row) (after_prefix (codes "b\t") row) refl refl at

      first : (t : Bool) → (if t then Some (Deliver A) else if bytes_eq row (codes "ba") then Some (Deliver B) else line_named row) ≡ Some said → IsSpoken said
      first true at = delivers A at
      first false at = second (bytes_eq row (codes "ba")) at

      text : (t : Bool) → (if t then said_in row else None) ≡ Some said → IsSpoken said
      text true at = first (bytes_eq row (codes "ab")) at
      text false at = cc

  pub record AreSpoken (h : List LinkLine) : Type 0 where
    pub own : AreOwn h
    pub spelled : AreSpelledLines h

  pub spoken_rows : (s : Settings) (rows : List (List ℕ)) → AreRows rows → AreSpoken (events_of (link_language s) rows)
  spoken_rows s [] all = record { own = tt; spelled = tt }
  spoken_rows s (row ∷ rows) all = go (spoken_rows s rows all.1) (link_line row) refl
    where
      go : AreSpoken (events_of (link_language s) rows) → (o : Option LinkLine) → link_line row ≡ o → AreSpoken (events_of (link_language s) (row ∷ rows))
      go rest None is = rw is rest
      go rest (Some said) is =
          let spoken : IsSpoken said = spoken_row row said all.0 is in
          rw is (record { own = (spoken.own, rest.own); spelled = (spoken.spelled, rest.spelled) })

  pub lines_handed : DeliveredAreHanded → (s : Settings) (rows : List (List ℕ)) → AreSpelled s → AreRows rows
      → BothHand s (linked_after s (events_of (link_language s) rows)).a (linked_after s (events_of (link_language s) rows)).b
  lines_handed handed s rows aggregates all =
      let spoken : AreSpoken (events_of (link_language s) rows) = spoken_rows s rows all in
      handed s (events_of (link_language s) rows) aggregates spoken.own spoken.spelled
