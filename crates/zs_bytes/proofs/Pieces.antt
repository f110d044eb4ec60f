-- A reader that takes one piece, and a buffer that it is written to.
use Rattle.std.proofs.Common.{◌≡◌, ℕ, ◌+◌, ◌-◌, ◌<◌, ◌≤◌, List, [], ◌++◌, min, length, take, drop, sym, ap, ◌∙◌, arith, length-append, length-drop}
use Rattle.std.specs.List.{concat}
use Rattle.std.proofs.lemmas.List.{append-nil, take-append-drop, drop-drop, drop-append-le, take-append-le, length-take-le, drop_all}
use Rattle.std.proofs.Math.Seq.{take-add, take-append-add, drop-append-add}
use borrow.Rule.Slice.PartMut.{put_mid}
use Rattle.zs_bytes.specs.Reading.{IsAt, Reading, unread}

-- the reader goes on past n bytes of the piece that it is at
pub IsAt-take : (slices rest0 rest : List (List ℕ)) (piece0 piece left : List ℕ) (place n count : ℕ) → IsAt slices piece0 rest0 place count → piece ++ concat rest ≡ piece0 ++ concat rest0 → left ≡ drop n piece → n ≤ length piece → IsAt slices left rest (place + n) count
IsAt-take slices rest0 rest piece0 piece left place n count is same cut within =
    let front : drop place (concat slices) ≡ piece ++ concat rest = is.left ∙ sym same in
    record {
      left = sym (drop-drop n place (concat slices)) ∙ ap (λ (t : List ℕ). drop n t) front ∙ drop-append-le n piece (concat rest) within ∙ ap (λ (t : List ℕ). t ++ concat rest) (sym cut);
      len = is.len;
      within = let at = is.within in omega (arith, length-drop place (concat slices), ap (λ (t : List ℕ). length t) front, length-append piece (concat rest));
    }

-- after a write of m bytes behind the first a of a buffer, its first a + m are those of the source
pub take-written : (buffer part source : List ℕ) (a m : ℕ) → a ≤ length buffer → m ≤ length part → take a buffer ≡ take a source → take m part ≡ take m (drop a source) → take (a + m) (put_mid a (length buffer - a) buffer part) ≡ take (a + m) source
take-written buffer part source a m within fits before more =
    let len : length (take a buffer) ≡ a = length-take-le a buffer within in
    let behind : List ℕ = drop (length buffer - a) (drop a buffer) in
    ap (λ (n : ℕ). take (n + m) (put_mid a (length buffer - a) buffer part)) (sym len)
    ∙ take-append-add (take a buffer) (part ++ behind) m
    ∙ ap (λ (t : List ℕ). take a buffer ++ t) (take-append-le m part behind fits ∙ more)
    ∙ ap (λ (t : List ℕ). t ++ take m (drop a source)) before
    ∙ sym (take-add a m source)

-- and behind them it is as it was
pub drop-written : (buffer part old : List ℕ) (a m : ℕ) → a ≤ length buffer → m ≤ length part → drop a buffer ≡ drop a old → drop m part ≡ drop m (drop a buffer) → drop (a + m) (put_mid a (length buffer - a) buffer part) ≡ drop (a + m) old
drop-written buffer part old a m within fits before more =
    let len : length (take a buffer) ≡ a = length-take-le a buffer within in
    let none : drop (length buffer - a) (drop a buffer) ≡ [] = drop_all (length buffer - a) (drop a buffer) (omega (arith, length-drop a buffer)) in
    ap (λ (n : ℕ). drop (n + m) (put_mid a (length buffer - a) buffer part)) (sym len)
    ∙ drop-append-add (take a buffer) (part ++ drop (length buffer - a) (drop a buffer)) m
    ∙ ap (λ (t : List ℕ). drop m (part ++ t)) none
    ∙ ap (λ (t : List ℕ). drop m t) (append-nil part)
    ∙ more
    ∙ ap (λ (t : List ℕ). drop m t) before
    ∙ drop-drop m a old

-- two moves of a reader are one
pub moved-moved : (s t u : Reading) (a b n : ℕ) → t ≡ record s { position = s.position + a } → u ≡ record t { position = t.position + b } → a + b ≡ n → u ≡ record s { position = s.position + n }
moved-moved s t u a b n first second sum =
    second
    ∙ ap (λ (r : Reading). let m : Reading = record r { position = r.position + b } in m) first
    ∙ ap (λ (place : ℕ). let m : Reading = record s { position = place } in m) (omega (arith, sum))

-- what is left after a move
pub unread-moved : (s t : Reading) (a : ℕ) → t ≡ record s { position = s.position + a } → unread t ≡ drop a (unread s)
unread-moved s t a after = ap (λ (r : Reading). unread r) after ∙ sym (drop-drop a s.position s.bytes)

-- a read that moved n bytes took them off
pub read-consumes : (s t : Reading) (into : List ℕ) (n : ℕ) → n ≡ min (length into) (length (unread s)) → take n into ≡ take n (unread s) → t ≡ record s { position = s.position + n } → (unread s ≡ take n into ++ unread t) × (n ≡ 0 → 0 < length into → unread t ≡ [])
read-consumes s t into n count bytes after =
    let left = unread-moved s t n after in (
      sym (take-append-drop n (unread s)) ∙ ap (λ (front : List ℕ). front ++ drop n (unread s)) (sym bytes) ∙ ap (λ (rest : List ℕ). take n into ++ rest) (sym left),
      λ none room. left ∙ drop_all n (unread s) (omega arith),
    )
