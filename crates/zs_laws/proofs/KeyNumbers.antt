-- A text that is declared again keeps its number, and any other number is new.
use Rattle.std.proofs.Common.{◌≡◌, ℕ, List, true, false, Option, Some, None, refl, sym, ◌∙◌, ap, arith}
use Rattle.std.specs.Prelude.{is_some, unwrap_or}
use Rattle.zs_subscriptions.specs.Numbers.{key_at}
use Rattle.zs_events.specs.declared.key_arg.KeyArg.{KeyArg}
use Rattle.zs_model.specs.declared.settings.Settings.{Settings}
use Rattle.zs_world.specs.World.{World}
use Rattle.zs_events.specs.Kinds.{KeyNumber}
use Rattle.zs_model.specs.Entry.{Entry, is_closed}
use Rattle.zs_model.specs.HeldKeys.{times_declared, is_held, held_text, held_number, stands_for, key_text}
use Rattle.zs_model.specs.Counters.{next_key, drawn_number}
use Rattle.zs_standing.proofs.DeclaredKeys.{held_is}
use Rattle.zs_standing.proofs.Numbers.{number_at-known}
use Rattle.zs_model.proofs.DistinctNumbers.{bytes_eq-same}
use Rattle.zs_standing.proofs.Keys.{number_is, found_at}
use Rattle.zs_standing.proofs.Stands.{AreStanding}

-- a held text that is declared again is answered the number that it has
pub kept_number : (s : Settings) (w : World) (past : List Entry) (n : ℕ) (text : List ℕ) (key : KeyArg) → AreStanding s w past
    → held_text n past ≡ Some text → key_text past key ≡ Some text → drawn_number s past KeyNumber (key_text past key) ≡ Some n
kept_number s w past n text key st held names =
    let stands : stands_for text (held_text n past) ≡ true = ap (stands_for text) held ∙ bytes_eq-same text in
    let found : held_number text past ≡ Some n = sym (number_is w past text st.known) ∙ found_at w past text n st.known stands in
    ap (drawn_number s past KeyNumber) names ∙ ap (λ (o : Option ℕ). Some (unwrap_or o (next_key s past))) found

-- a number that a declaration is answered is held, or new
pub answers_new : (s : Settings) (w : World) (past : List Entry) (n : ℕ) (key : KeyArg) → AreStanding s w past → is_closed past ≡ false
    → drawn_number s past KeyNumber (key_text past key) ≡ Some n → is_held n past ≡ false → times_declared n past ≡ 0
answers_new s w past n key st unshut answer free = by_text (key_text past key) answer
  where
    by_number : (text : List ℕ) (o : Option ℕ) → held_number text past ≡ o → Some (unwrap_or o (next_key s past)) ≡ Some n → times_declared n past ≡ 0
    by_number text (Some m) found answer =
        let same : m ≡ n = cc in
        let known : is_some (key_at n w.keys.local_resources) ≡ true =
        ap (λ (i : ℕ). is_some (key_at i w.keys.local_resources)) (sym same) ∙ number_at-known text w.keys.local_resources m (number_is w past text st.known ∙ found) in
        let no : true ≡ false = sym known ∙ st.known.tied n ∙ held_is w past n st.known ∙ free in cc
    by_number text None found answer = let same : next_key s past ≡ n = cc in st.known.unused n (omega (arith, same, st.key))

    by_text : (text : Option (List ℕ)) → drawn_number s past KeyNumber text ≡ Some n → times_declared n past ≡ 0
    by_text None answer = cc
    by_text (Some text) answer = by_number text (held_number text past) refl answer
