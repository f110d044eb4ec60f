-- What contracts see of entries that were put in or taken out.
use Rattle.std.proofs.Common.{◌≡◌, ◌≢◌, ℕ, Bool, true, false, List, [], ◌∷◌, Result, Ok, Err, OnOk, OnErr, refl, sym, ap, ◌∙◌, subst, arith}
use Rattle.std.specs.Prelude.{not, filter, map}
use Rattle.std.specs.List.{AllByRecursion, list_any}
use Rattle.zs_tree.specs.declared.entry.Entry.{Entry}
use Rattle.zs_tree.specs.Blocks.{IsPutIn, IsTakenOut}
use Rattle.zs_tree.specs.Code.{code_of}
use Rattle.zs_tree.specs.Entries.{AreInOrder, AreApart, row_of, by_number}
use Rattle.zs_tree.specs.Rows.{Row, placed, is_row}
use Rattle.zs_tree.proofs.EditLemmas.{HasNot, order_insert, apart_insert, seen_insert, order_remove, apart_remove, found_at, seen_remove, removes_none}
use Rattle.zs_tree.proofs.Numbers.{any_number}

-- the entries after a call that puts one in
pub put_order : {T E : Type 0} (result : Result T E) (entry : Entry) (old new : List Entry) → OnOk result (IsPutIn entry old new) → OnErr result (new ≡ old) → AreInOrder old → AreInOrder new
put_order (Ok t) entry old new put same up = subst AreInOrder (sym put.is) (order_insert entry old put.at up put.place.0 put.place.1 put.place.2)
put_order (Err e) entry old new put same up = subst AreInOrder (sym same) up

pub put_apart : {T E : Type 0} (result : Result T E) (entry : Entry) (old new : List Entry) → OnOk result (IsPutIn entry old new) → OnErr result (new ≡ old) → HasNot entry.id old → AreApart old → AreApart new
put_apart (Ok t) entry old new put same none apart = subst AreApart (sym put.is) (apart_insert entry old put.at none apart)
put_apart (Err e) entry old new put same none apart = subst AreApart (sym same) apart

pub put_seen : {T E : Type 0} (result : Result T E) (entry : Entry) (row : Row) (old new : List Entry) → row_of entry ≡ row → OnOk result (IsPutIn entry old new) → HasNot entry.id old → OnOk result (by_number (map row_of new) ≡ placed row (by_number (map row_of old)))
put_seen (Ok t) entry row old new is put none =
    ap (λ (es : List Entry). by_number (map row_of es)) put.is
    ∙ (seen_insert entry old put.at none put.place.0 ∙ ap (λ (r : Row). placed r (by_number (map row_of old))) is)
put_seen (Err e) entry row old new is put none = tt

pub put_same : {T E : Type 0} (result : Result T E) (old new : List Entry) → OnErr result (new ≡ old) → OnErr result (by_number (map row_of new) ≡ by_number (map row_of old))
put_same (Ok t) old new same = tt
put_same (Err e) old new same = ap (λ (es : List Entry). by_number (map row_of es)) same

-- and after a call that takes one out
pub taken_order : (code : List ℕ) (id : ℕ) (old new : List Entry) (there : Bool) → IsTakenOut code id old new there → AreInOrder old → AreInOrder new
taken_order code id old new true out up = subst AreInOrder (sym out.2) (order_remove old out.0 up)
taken_order code id old new false out up = subst AreInOrder (sym out.2) up

pub taken_apart : (code : List ℕ) (id : ℕ) (old new : List Entry) (there : Bool) → IsTakenOut code id old new there → AreApart old → AreApart new
taken_apart code id old new true out apart = subst AreApart (sym out.2) (apart_remove old out.0 apart)
taken_apart code id old new false out apart = subst AreApart (sym out.2) apart

pub taken_answer : (text : List ℕ) (id : ℕ) (old new : List Entry) (there : Bool) → IsTakenOut (code_of text) id old new there → there ≡ list_any (is_row id text) (by_number (map row_of old))
taken_answer text id [] new true out = absurd (omega (arith, out.1.0))
taken_answer text id (e ∷ es) new true out = sym (any_number (is_row id text) (map row_of (e ∷ es)) ∙ found_at text id (e ∷ es) out.0 e out.1.0 (out.1.1 e))
taken_answer text id old new false out = sym (removes_none text id old out.0 out.1).0

pub taken_seen : (text : List ℕ) (id : ℕ) (old new : List Entry) (there : Bool) → IsTakenOut (code_of text) id old new there → AreApart old → by_number (map row_of new) ≡ filter (λ row. not (is_row id text row)) (by_number (map row_of old))
taken_seen text id [] new true out apart = absurd (omega (arith, out.1.0))
taken_seen text id (e ∷ es) new true out apart =
    ap (λ (fs : List Entry). by_number (map row_of fs)) out.2
    ∙ seen_remove text id (e ∷ es) out.0 e apart out.1.0 (out.1.1 e)
taken_seen text id old new false out apart =
    ap (λ (es : List Entry). by_number (map row_of es)) out.2
    ∙ sym (removes_none text id old out.0 out.1).1

-- an entry's number, which no entry has
pub none_of : (entry : Entry) (id : ℕ) (text : List ℕ) (old : List Entry) → row_of entry ≡ record { id = id; text = text } → HasNot id old → HasNot entry.id old
none_of entry id text old is none = subst (λ (n : ℕ). HasNot n old) (sym (ap (λ (row : Row). row.id) is)) none
