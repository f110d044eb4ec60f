-- What the program's lines say: writes at replicated keys and questions, on keys that are spelled with characters.
use Rattle.std.proofs.Common.{◌≡◌, ◌<◌, ℕ, ◌+◌, Bool, true, false, List, [], ◌∷◌, ◌++◌, length, Option, Some, None, refl, sym, ◌∙◌, ap, subst, cond, arith, lit<}
use Rattle.std.specs.Prelude.{◌==◌, not, codes, encode_utf8_all, option_map, if◌then◌else◌}
use Rattle.std.specs.List.{AllByRecursion}
use Rattle.std.specs.Option.{IfSome}
use Rattle.std.specs.Str.{bytes_eq, chars, is_utf8, IsUtf8}
use Rattle.std.proofs.lemmas.Bool.Decides.{nat_tests}
use Rattle.std.proofs.lemmas.Str.{scalars-chars, encodes-chars, IsUtf8-from_is_utf8, IsUtf8-drop, IsCharBoundary-after_ascii}
use Rattle.zs_keys.specs.Matching.{is_free, chunk_meets, includes, intersects}
use Rattle.zs_keys.specs.Text.{chunks, is_double_star, is_canonical}
use Rattle.zs_keys.proofs.CutLemmas.{double_star-free}
use Rattle.zs_keys.proofs.IncludeMeets.{includes-meets}
use Rattle.zs_keys.proofs.Symmetry.{meets_comm, chunk_meets_comm}
use Rattle.zs_lines.specs.Lines.{fields}
use Rattle.zs_wire.specs.declared.origin.Timestamp.{Timestamp}
use Rattle.zs_sample.specs.declared.locality.Locality.TheVariants.{Any}
use Rattle.zs_events.specs.declared.event.Event.{Event}
use Rattle.zs_events.specs.declared.update.PushBody.{PushBody}
use Rattle.zs_events.specs.declared.update.PushBody.TheVariants.{Put, Delete}
use Rattle.zs_parts.specs.Symbols.{after_prefix, payload_of}
use Rattle.zs_parts.specs.Options.{timestamp_of}
use Rattle.zs_script.proofs.PlainSymbols.{fields-utf8}
use Rattle.zs_core.specs.Types.{Settings}
use Rattle.zs_driving.specs.Languages.{events_of}
use Rattle.zs_laws.specs.Spelled.{IsSpelled}
use Rattle.zs_delivery.specs.declared.side.LinkSide.{LinkSide}
use Rattle.zs_delivery.specs.declared.side.LinkSide.TheVariants.{A, B}
use Rattle.zs_delivery.specs.Linked.{LinkLine, Take}
use Rattle.zs_replicas.specs.Replicas.{IsWrite, IsReplicaEvent}
use Rattle.zs_replica_gets.specs.Steps.{Step, Writes, Asks, actor, event_of, line_of as step_line, IsReplicaStep}
use Rattle.zs_replica_lines.specs.declared.line.ReplicaLine.{ReplicaLine}
use Rattle.zs_replica_lines.specs.declared.line.ReplicaLine.TheVariants.{Take as take_line, Refuse, Dump}
use Rattle.zs_replica_lines.specs.declared.line.ReplicaRefusal.{ReplicaRefusal}
use Rattle.zs_replica_lines.specs.declared.line.ReplicaRefusal.TheVariants.{BadKeyExpr, WildKey, Outside}
use Rattle.zs_replica_lines.specs.Lines.{all_keys, has_star, write_refusal, question_refusal, unless_refused, plain_quality, publication, question, write_line, put_of, delete_of, get_of, line_of}
use Rattle.zs_replica.specs.Gets.{steps_by}
use Rattle.zs_replica.specs.Language.{Said, To, Move, named_by, line_named, said_in, said_of, replica_language}

-- an event that is a step of its side
pub record IsStep (side : LinkSide) (e : Event) : Type 0 where
  pub step : Step
  pub alone : steps_by side e ≡ step ∷ []
  pub acts : actor step ≡ side
  pub takes : (s : Settings) (links : List LinkLine) → event_of s step links ≡ Some e
  pub line : step_line step ≡ Take side e
  pub replica : IsReplicaStep all_keys step

-- what a line has its side take
abbrev pub IsAsked : ReplicaLine → Type 0
IsAsked (take_line e) = IsReplicaEvent all_keys e × IsSpelled e × ((side : LinkSide) → IsStep side e)
IsAsked (Refuse refusal) = Unit {0}
IsAsked Dump = Unit {0}

abbrev pub IsSaid : Said → Type 0
IsSaid (To side request) = IsAsked request
IsSaid (Move from) = Unit {0}

-- a text whose write isn't refused
pub record IsWritable (text : List ℕ) : Type 0 where
  pub canonical : is_canonical text ≡ true
  pub included : includes all_keys text ≡ true

writable : (text : List ℕ) → write_refusal text ≡ None → IsWritable text
writable text fine = go (is_canonical text) (has_star text) (includes all_keys text) refl refl fine
  where
    go : (c star inside : Bool) → is_canonical text ≡ c → includes all_keys text ≡ inside
        → (if not c then Some BadKeyExpr else if star then Some WildKey else if not inside then Some Outside else None) ≡ None → IsWritable text
    go false star inside one two fine = cc
    go true true inside one two fine = cc
    go true false false one two fine = cc
    go true false true one two fine = record { canonical = one; included = two }

meets_all : (text : List ℕ) → includes all_keys text ≡ true → intersects text all_keys ≡ true
meets_all text inside =
    meets_comm is_double_star is_free chunk_meets chunk_meets_comm double_star-free (chunks text) (chunks all_keys)
    ∙ includes-meets all_keys text inside

its_write : (text : List ℕ) (body : PushBody) (time : Timestamp) → IsUtf8 text → IsWritable text
    → IsWrite all_keys Any (chars text) (record { body = body; timestamp = Some time; source = None; attachment = None })
its_write text body time utf8 fine =
    let spelled : encode_utf8_all (chars text) ≡ text = encodes-chars text utf8 in
    record {
      time = time;
      anywhere = refl;
      canonical = ap is_canonical spelled ∙ fine.canonical;
      replicated = ap (λ (key : List ℕ). intersects key all_keys) spelled ∙ meets_all text fine.included;
      timed = refl;
    }

asked_write : (text : List ℕ) (body : PushBody) (time : Timestamp) → IsUtf8 text → IsWritable text → IsAsked (take_line (publication text body time))
asked_write text body time utf8 fine = (
  its_write text body time utf8 fine,
  scalars-chars text utf8,
  λ side. record {
    step = Writes side (chars text) (record { body = body; timestamp = Some time; source = None; attachment = None }) plain_quality;
    alone = refl;
    acts = refl;
    takes = λ s links. refl;
    line = refl;
    replica = (its_write text body time utf8 fine, scalars-chars text utf8);
  },
)

asked_line : (text : List ℕ) (body : PushBody) (time : Timestamp) → IsUtf8 text → IsAsked (write_line text body time)
asked_line text body time utf8 = go (write_refusal text) refl
  where
    go : (o : Option ReplicaRefusal) → write_refusal text ≡ o → IsAsked (unless_refused o (publication text body time))
    go None is = asked_write text body time utf8 (writable text is)
    go (Some refusal) is = tt

asked_get : (text : List ℕ) → IsUtf8 text → IsAsked (get_of text)
asked_get text utf8 = go (question_refusal text)
  where
    go : (o : Option ReplicaRefusal) → IsAsked (unless_refused o (question text))
    go None = (
      tt,
      scalars-chars text utf8,
      λ side. record {
        step = Asks side (chars text);
        alone = refl;
        acts = refl;
        takes = λ s links. refl;
        line = refl;
        replica = scalars-chars text utf8;
      },
    )
    go (Some refusal) = tt

asked_delete : (text : List ℕ) (time : Option Timestamp) → IsUtf8 text → IfSome (delete_of text time) IsAsked
asked_delete text None utf8 = tt
asked_delete text (Some time) utf8 = asked_line text Delete time utf8

asked_put : (text : List ℕ) (payload : Option (List (List ℕ))) (time : Option Timestamp) → IsUtf8 text → IfSome (put_of text payload time) IsAsked
asked_put text None time utf8 = tt
asked_put text (Some payload) None utf8 = tt
asked_put text (Some payload) (Some time) utf8 = asked_line text (Put payload None) time utf8

asked_one : (b : Bool) → IfSome (if b then Some Dump else None) IsAsked
asked_one true = tt
asked_one false = tt

asked_two : (b : Bool) (text : List ℕ) → IsUtf8 text → IfSome (if b then Some (get_of text) else None) IsAsked
asked_two true text utf8 = asked_get text utf8
asked_two false text utf8 = tt

asked_three : (b : Bool) (text time : List ℕ) → IsUtf8 text → IfSome (if b then delete_of text (timestamp_of time) else None) IsAsked
asked_three true text time utf8 = asked_delete text (timestamp_of time) utf8
asked_three false text time utf8 = tt

asked_four : (b : Bool) (text bytes time : List ℕ) → IsUtf8 text → IfSome (if b then put_of text (payload_of bytes) (timestamp_of time) else None) IsAsked
asked_four true text bytes time utf8 = asked_put text (payload_of bytes) (timestamp_of time) utf8
asked_four false text bytes time utf8 = tt

asked_fields : (words : List (List ℕ)) → AllByRecursion IsUtf8 words → IfSome (line_of words) IsAsked
asked_fields [] utf8 = tt
asked_fields (word ∷ []) utf8 = asked_one (bytes_eq word (codes "dump"))
asked_fields (word ∷ text ∷ []) utf8 = asked_two (bytes_eq word (codes "get")) text utf8.1.0
asked_fields (word ∷ text ∷ time ∷ []) utf8 = asked_three (bytes_eq word (codes "del")) text time utf8.1.0
asked_fields (word ∷ text ∷ bytes ∷ time ∷ []) utf8 = asked_four (bytes_eq word (codes "put")) text bytes time utf8.1.0
asked_fields (word ∷ text ∷ bytes ∷ time ∷ more ∷ words) utf8 = tt

to_side : (side : LinkSide) (o : Option ReplicaLine) → IfSome o IsAsked → IfSome (option_map (λ request. To side request) o) IsSaid
to_side side None asked = tt
to_side side (Some request) asked = asked

-- what stands behind a letter and a tab is a text where the whole is
rest_is : (front text rest : List ℕ) → after_prefix front text ≡ Some rest → text ≡ front ++ rest
rest_is [] text rest is = let same : text ≡ rest = cc in same
rest_is (p ∷ ps) [] rest is = cc
rest_is (p ∷ ps) (b ∷ bs) rest is = go (p == b) refl is (λ found. rest_is ps bs rest found)
  where
    go : (t : Bool) → (p == b) ≡ t → cond t (after_prefix ps bs) None ≡ Some rest → (after_prefix ps bs ≡ Some rest → bs ≡ ps ++ rest) → b ∷ bs ≡ (p ∷ ps) ++ rest
    go true same found later =
        let first : p ≡ b = grind (arith, nat_tests, same) in
        ap (λ (n : ℕ). n ∷ bs) (sym first) ∙ ap (λ (more : List ℕ). p ∷ more) (later found)
    go false same found later = cc

rest_utf8 : (letter : ℕ) (rest : List ℕ) → IsUtf8 (letter ∷ 9 ∷ rest) → IsUtf8 rest
rest_utf8 letter rest utf8 =
    IsUtf8-drop (letter ∷ 9 ∷ rest) 2 utf8 (IsCharBoundary-after_ascii (letter ∷ 9 ∷ rest) 1 utf8 (omega arith) (lit< tt))

said_behind : (side : LinkSide) (letter : ℕ) (text rest : List ℕ) → IsUtf8 text → after_prefix (letter ∷ 9 ∷ []) text ≡ Some rest
    → IfSome (option_map (λ request. To side request) (line_of (fields rest))) IsSaid
said_behind side letter text rest utf8 is =
    let behind : IsUtf8 rest = rest_utf8 letter rest (subst IsUtf8 (rest_is (letter ∷ 9 ∷ []) text rest is) utf8) in
    to_side side (line_of (fields rest)) (asked_fields (fields rest) (fields-utf8 (length rest) rest (omega arith) behind))

said_named : (text : List ℕ) (a b : Option (List ℕ)) → IsUtf8 text → after_prefix (codes "a\t") text ≡ a → after_prefix (codes "b\t") text ≡ b → IfSome (named_by a b) IsSaid
said_named text (Some rest) b utf8 one two = said_behind A 97 text rest utf8 one
said_named text None (Some rest) utf8 one two = said_behind B 98 text rest utf8 two
said_named text None None utf8 one two = tt

said_text : (text : List ℕ) (ab ba : Bool) → IsUtf8 text → IfSome (if ab then Some (Move A) else if ba then Some (Move B) else line_named text) IsSaid
said_text text true ba utf8 = tt
said_text text false true utf8 = tt
said_text text false false utf8 = said_named text (after_prefix (codes "a\t") text) (after_prefix (codes "b\t") text) utf8 refl refl

said_row : (row : List ℕ) (b : Bool) → is_utf8 row ≡ b → IfSome (if b then said_in row else None) IsSaid
said_row row true is = said_text row (bytes_eq row (codes "ab")) (bytes_eq row (codes "ba")) (IsUtf8-from_is_utf8 row is)
said_row row false is = tt

-- so is what all rows say
pub all_said : (s : Settings) (rows : List (List ℕ)) → AllByRecursion IsSaid (events_of (replica_language s) rows)
all_said s [] = tt
all_said s (row ∷ rows) = go (said_of row) refl (said_row row (is_utf8 row) refl) (all_said s rows)
  where
    go : (o : Option Said) → said_of row ≡ o → IfSome o IsSaid → AllByRecursion IsSaid (events_of (replica_language s) rows) → AllByRecursion IsSaid (events_of (replica_language s) (row ∷ rows))
    go None is said rest =
        let same : events_of (replica_language s) (row ∷ rows) ≡ events_of (replica_language s) rows = rw is refl in
        subst (AllByRecursion IsSaid) (sym same) rest
    go (Some what) is said rest =
        let more : events_of (replica_language s) (row ∷ rows) ≡ what ∷ events_of (replica_language s) rows = rw is refl in
        subst (AllByRecursion IsSaid) (sym more) (said, rest)
